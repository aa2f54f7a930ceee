-- The state of a session, and what it asks for.
use Rattle.std.specs.Prelude.{◌≡◌, ℕ, List, [], ◌++◌, None}
use Rattle.pts_names.specs.Name.{Name}
use Rattle.pts_ctx.specs.System.{Specification}
use Rattle.pts_ctx.specs.Front.{Global}
use Rattle.pts_check.specs.Entered.{declared_entries}
use Rattle.pts_core.specs.declared.finding.Finding.TheVariants.{Sound}
use Rattle.pts_core.specs.Replies.{LabelledFront}
use Rattle.pts_core.specs.Histories.{no_entries}
use Rattle.pts_core.specs.Cores.{SeenExamined, labelled}
use Rattle.pts_play.specs.Machines.{Outcome}
use Rattle.pts_session.specs.declared.request.Awaited.{Awaited}
use Rattle.pts_session.specs.declared.request.Awaited.TheVariants as awaited
use Rattle.pts_session.specs.declared.request.Request.{Request}
use Rattle.pts_session.specs.declared.request.Request.TheVariants as request

-- A session: its base, a front with its labels; the entries of its draft, in order; and the budget of its lines.
pub record State : Type 0 where
  pub base : LabelledFront
  pub draft : List (Global Name)
  pub budget : ℕ

abbrev pub new_session : State
new_session = record { base = no_entries; draft = []; budget = 1000000 }

-- What its lines may use: the entries of the base, and after them those of the draft.
abbrev pub scope : State → List (Global Name)
scope s = s.base.entries ++ s.draft

-- The state after a line that can be undone. Undoing is not built: nothing is kept.
abbrev pub changed : (before after : State) → State
changed before after = after

-- The state after an answer, which can't be undone. Undoing is not built: nothing is dropped.
abbrev pub settled : State → State
settled s = s

-- A session that waits for the answer to a look or to a submission.
pub record Waiting : Type 0 where
  pub state : State
  pub awaited : Awaited

-- What a line comes to: replies and the next state, or a request and a session that waits.
abbrev pub Came : Type 0
Came = Outcome State Waiting Request

-- The answer for which a session waits after a request.
abbrev pub awaited_after : Request → Awaited
awaited_after request.Look = awaited.Look
awaited_after (request.Submit x) = awaited.Submission

-- The offer of the draft: over the base and without a label, with what was found of it in the system: that it is sound.
pub record OffersDraft (S : Specification) (s : State) (x : SeenExamined) : Type 0 where
  pub system : x.system ≡ S
  pub front : labelled x.offer.front ≡ s.base
  pub entries : declared_entries x.offer.declarations ≡ s.draft
  pub label : x.offer.label ≡ None
  pub finding : x.finding ≡ Sound

-- The request is one of a session in this state: a look, or the offer of its draft.
abbrev pub IsRequestOf : Specification → State → Request → Type 0
IsRequestOf S s request.Look = Unit {0}
IsRequestOf S s (request.Submit x) = OffersDraft S s x
