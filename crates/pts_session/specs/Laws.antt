-- The laws of sessions.
use Rattle.std.specs.Prelude.{◌≡◌, ℕ, List, Some}
use Rattle.pts_ctx.specs.System.{Specification}
use Rattle.pts_core.specs.declared.port.Answer.{Answer}
use Rattle.pts_core.specs.Replies.{LabelledFront}
use Rattle.pts_play.specs.Machines.{done, asks}
use Rattle.pts_session.specs.declared.request.Request.{Request}
use Rattle.pts_session.specs.State.{State, Waiting, Came, awaited_after, IsRequestOf}
use Rattle.pts_session.specs.Lines.{ComesTo}
use Rattle.pts_session.specs.Answers.{front_in, Resume}
use Rattle.pts_session.specs.Ports.{event_of}

-- A line keeps the base: only an answer moves it.
abbrev pub LinesKeepTheBase : Type 0
LinesKeepTheBase = (S : Specification) (s t : State) (text : List ℕ) (replies : List (List ℕ)) → ComesTo S s text (done replies t) → t.base ≡ s.base

-- A line that asks keeps the state, and asks for a look or offers the draft of that state.
abbrev pub LinesAskForTheirState : Type 0
LinesAskForTheirState = (S : Specification) (s : State) (text : List ℕ) (q : Request) (w : Waiting) → ComesTo S s text (asks q w) → (w ≡ record { state = s; awaited = awaited_after q }) × IsRequestOf S s q

-- After an answer the base is the one before it, or the front that came with it.
pub data HasBase (s : State) (a : Answer) (F : LabelledFront) : Type 0 where
  old_base : F ≡ s.base → HasBase s a F
  new_base : front_in a ≡ Some F → HasBase s a F

abbrev pub AnswersMoveTheBase : Type 0
AnswersMoveTheBase = (w : Waiting) (a : Answer) (replies : List (List ℕ)) (t : State) → Resume w a replies t → HasBase w.state a t.base

-- Two requests are the same event, of any session and at any front.
abbrev pub AsksTheSame : Request → Request → Type 0
AsksTheSame q r = (n : ℕ) (F : LabelledFront) → event_of n q F ≡ event_of n r F

-- Two outcomes are one: the same replies and the same state; or requests that ask the same, with the same left to be done.
pub data IsOneOutcome : Came → Came → Type 0 where
  both_done : {replies : List (List ℕ)} {t : State} → IsOneOutcome (done replies t) (done replies t)
  both_ask : {q r : Request} {w : Waiting} → AsksTheSame q r → IsOneOutcome (asks q w) (asks r w)

-- A line has one outcome at most.
abbrev pub LinesHaveOneOutcome : Type 0
LinesHaveOneOutcome = (S : Specification) (s : State) (text : List ℕ) (o p : Came) → ComesTo S s text o → ComesTo S s text p → IsOneOutcome o p

-- An answer leads to one list of replies at most, and to one state.
abbrev pub AnswersHaveOneOutcome : Type 0
AnswersHaveOneOutcome = (w : Waiting) (a : Answer) (k l : List (List ℕ)) (t u : State) → Resume w a k t → Resume w a l u → (k ≡ l) × (t ≡ u)
