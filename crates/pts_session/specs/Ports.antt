-- Sessions that ask through a port.
use Rattle.std.specs.Prelude.{◌≡◌, ℕ, List, [], ◌∷◌}
use Rattle.pts_ctx.specs.System.{Specification}
use Rattle.pts_core.specs.declared.port.Answer.{Answer}
use Rattle.pts_core.specs.declared.port.PortFault.{PortFault}
use Rattle.pts_core.specs.declared.port.PortFault.TheVariants.{Memory}
use Rattle.pts_core.specs.Replies.{LabelledFront}
use Rattle.pts_core.specs.Histories.{Past, look, replay}
use Rattle.pts_core.specs.Cores.{SeenCore, IsOver, submitted}
use Rattle.pts_core.specs.Ports.{AfterOthers, IsAnswer, IsNoAnswer}
use Rattle.pts_play.specs.Machines.{Call, asks, ready, Runs}
use Rattle.pts_session.specs.declared.request.Request.{Request}
use Rattle.pts_session.specs.declared.request.Request.TheVariants as request
use Rattle.pts_session.specs.State.{State, Waiting, awaited_after}
use Rattle.pts_session.specs.Lines.{ComesTo}
use Rattle.pts_session.specs.Answers.{Resume}
use Rattle.pts_session.specs.Players.{AnswersAt}

-- The event of a request of the session n.
abbrev pub event_of : ℕ → Request → LabelledFront → Past
event_of n request.Look = look n
event_of n (request.Submit x) = submitted n x

-- The request may be made of a core of the system S with the front F.
abbrev pub MayAsk : Specification → LabelledFront → Request → Type 0
MayAsk S F request.Look = Unit {0}
MayAsk S F (request.Submit x) = (x.system ≡ S) × IsOver x F

-- A step of a core is the one event that was asked for, with its answer. So it is one of a core as its sessions see it.
pub record CoreSteps (C : SeenCore) (n : ℕ) (q : Request) (a : Answer) (D : SeenCore) : Type 0 where
  pub answered : IsAnswer (event_of n q) C.history D.history a
  pub system : D.system ≡ C.system
  pub answers : AnswersAt C.system (replay C.history) (awaited_after q) a (replay D.history)

module _ (n : ℕ) (may_come : List Past → Type 0) where
  -- Events of other sessions may come after the history h, and then the one that the session n asks for, which is answered so; now
  -- the history is k.
  abbrev pub IsAnswered : List Past → Request → Answer → List Past → Type 0
  IsAnswered h q a k = AfterOthers n may_come h (λ g. IsAnswer (event_of n q) g k a)

  -- Events of other sessions may come, and then there is no answer.
  abbrev pub IsNotAnswered : List Past → PortFault → List Past → Type 0
  IsNotAnswered h e k = AfterOthers n may_come h (λ g. IsNoAnswer e g k)

  -- A line makes no call, or one.
  pub data MakesCalls (h : List Past) : List (Call Request Answer) → List Past → Type 0 where
    no_call : MakesCalls h [] h
    one_call : {k : List Past} (c : Call Request Answer) → IsAnswered h c.request c.answer k → MakesCalls h (c ∷ []) k

  -- The session n ran the line to its end, in the system S and through a port that had the history h and has k now.
  pub record RanLine (S : Specification) (h : List Past) (s : State) (text : List ℕ) (k : List Past) (replies : List (List ℕ)) (t : State) : Type 0 where
    pub calls : List (Call Request Answer)
    pub runs : Runs (ComesTo S) Resume s (text ∷ []) calls replies (ready t [])
    pub makes : MakesCalls h calls k

  -- It did not. Memory ran out before it asked, and the history is as it was; or it asked and there is no answer, since the history
  -- is full or memory ran out; or it was answered, and memory ran out for the replies.
  pub data DidNotRun (S : Specification) (h : List Past) (s : State) (text : List ℕ) (k : List Past) : PortFault → Type 0 where
    asked_nothing : k ≡ h → DidNotRun S h s text k Memory
    was_not_answered : {e : PortFault} (q : Request) (w : Waiting) → ComesTo S s text (asks q w) → IsNotAnswered h e k → DidNotRun S h s text k e
    lost_its_replies : (q : Request) (w : Waiting) (a : Answer) → ComesTo S s text (asks q w) → IsAnswered h q a k → DidNotRun S h s text k Memory

-- A port of the session n, which led to a core of the system S with the history h, was asked for q and gave this answer. It is now a
-- port of the session m, to a core of the system T with the history k.
pub record PortSteps (n : ℕ) (may_come : List Past → Type 0) (S : Specification) (h : List Past) (q : Request) (a : Answer) (m : ℕ) (T : Specification) (k : List Past) : Type 0 where
  pub answered : IsAnswered n may_come h q a k
  pub answers : AnswersAt S (replay h) (awaited_after q) a (replay k)
  pub session : m ≡ n
  pub system : T ≡ S
