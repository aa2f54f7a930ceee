-- Sessions as players of a round, and the cores with which they may play.
use Rattle.std.specs.Prelude.{◌≡◌, ℕ, List, Option, Some, None}
use Rattle.pts_ctx.specs.System.{Specification}
use Rattle.pts_ctx.specs.Front.{bare_front}
use Rattle.pts_ctx.specs.Seen.{IsPrefix}
use Rattle.pts_rules.specs.Derives.{Legal}
use Rattle.pts_core.specs.declared.port.Answer.{Answer}
use Rattle.pts_core.specs.Replies.{LabelledFront}
use Rattle.pts_core.specs.Ports.{handed_on}
use Rattle.pts_play.specs.Machines.{Outcome, done, asks}
use Rattle.pts_session.specs.declared.request.Awaited.{Awaited}
use Rattle.pts_session.specs.declared.request.Request.{Request}
use Rattle.pts_session.specs.State.{Came, awaited_after, IsRequestOf}
use Rattle.pts_session.specs.Lines.{ComesTo}
use Rattle.pts_session.specs.Answers.{front_in, reply_in, MayBeReply, Resume}
use Rattle.pts_session.specs.Seen.{SeenSession}

-- The first front is one with which the second begins, with its entries and with its labels.
pub record GoesOn (F G : LabelledFront) : Type 0 where
  pub entries : IsPrefix F.entries G.entries
  pub labels : IsPrefix F.labels G.labels

-- A core of the system S answers what was asked at the front F, and has the front G then: this goes on from F and is legal, and
-- comes with the answers that bring a front.
pub record AnswersAt (S : Specification) (F : LabelledFront) (asked : Awaited) (a : Answer) (G : LabelledFront) : Type 0 where
  pub reply : MayBeReply asked (reply_in a)
  pub handed : front_in a ≡ handed_on (reply_in a) G
  pub goes_on : GoesOn F G
  pub legal : Legal S (bare_front G.entries)

-- Some core with the base of the session gave the answer to what it waits for.
pub record MayHear (s : SeenSession) (a : Answer) : Type 0 where
  pub asked : Awaited
  pub waits : s.awaited ≡ Some asked
  pub front : LabelledFront
  pub answered : AnswersAt s.system s.state.base asked a front

-- What a line came to by the states alone.
abbrev pub states_in : Outcome SeenSession SeenSession Request → Came
states_in (done replies t) = done replies t.state
states_in (asks q t) = asks q (record { state = t.state; awaited = awaited_after q })

abbrev pub session_in : Outcome SeenSession SeenSession Request → SeenSession
session_in (done replies t) = t
session_in (asks q t) = t

abbrev pub awaited_in : Outcome SeenSession SeenSession Request → Option Awaited
awaited_in (done replies t) = None
awaited_in (asks q t) = Some (awaited_after q)

-- In the system S a session runs a line by itself, and comes to o.
pub record RunsLine (S : Specification) (s : SeenSession) (text : List ℕ) (o : Outcome SeenSession SeenSession Request) : Type 0 where
  pub line : ComesTo S s.state text (states_in o)
  pub system : (session_in o).system ≡ s.system
  pub awaits : (session_in o).awaited ≡ awaited_in o

-- A session that waits is given an answer, and comes to t with these replies.
pub record Hears (s : SeenSession) (a : Answer) (replies : List (List ℕ)) (t : SeenSession) : Type 0 where
  pub asked : Awaited
  pub waits : s.awaited ≡ Some asked
  pub resumes : Resume (record { state = s.state; awaited = asked }) a replies t.state
  pub system : t.system ≡ s.system
  pub free : t.awaited ≡ None

-- The session is in the system S, and waits for nothing, or for the answer to this request.
pub record IsFree (S : Specification) (s : SeenSession) : Type 0 where
  pub system : s.system ≡ S
  pub free : s.awaited ≡ None

pub record Awaits (S : Specification) (s : SeenSession) (q : Request) : Type 0 where
  pub system : s.system ≡ S
  pub awaits : s.awaited ≡ Some (awaited_after q)
  pub request : IsRequestOf S s.state q

-- The session may play with a core of the system T that has the front F: the system is the same, and the front goes on from its
-- base.
pub record FitsTo (S : Specification) (s : SeenSession) (T : Specification) (F : LabelledFront) : Type 0 where
  pub system : s.system ≡ S
  pub core : T ≡ S
  pub base : GoesOn s.state.base F
