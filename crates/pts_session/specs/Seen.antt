-- The program's values as the definitions see them.
use Rattle.std.specs.Prelude.{ℕ, Option, Some, None}
use Rattle.pts_ctx.specs.System.{Specification}
use Rattle.pts_check.specs.Entered.{declared_entries}
use Rattle.pts_draft.specs.Drafts.{SeenDraft}
use Rattle.pts_play.specs.Machines.{done, asks}
use Rattle.pts_play.specs.declared.machines.Local.{Local}
use Rattle.pts_play.specs.declared.machines.Local.TheVariants.{Done, Ask}
use Rattle.pts_session.specs.declared.request.Awaited.{Awaited}
use Rattle.pts_session.specs.declared.request.Request.{Request}
use Rattle.pts_session.specs.State.{State, Came, awaited_after}

-- A session: the system of its world, its state, and what it waits for, if anything.
pub record SeenSession : Type 0 where
  pub system : Specification
  pub state : State
  pub awaited : Option Awaited

-- The state of a session with this draft and this budget.
abbrev pub state_of : SeenDraft → (budget : ℕ) → State
state_of d b = record { base = record { entries = d.entries; labels = d.labels }; draft = declared_entries d.declarations; budget = b }

-- What a line came to, with the state after it; and what is then waited for.
abbrev pub came_to : Local Request → State → Came
came_to (Done replies) s = done replies.items s
came_to (Ask q) s = asks q (record { state = s; awaited = awaited_after q })

abbrev pub awaited_by : Local Request → Option Awaited
awaited_by (Done replies) = None
awaited_by (Ask q) = Some (awaited_after q)
