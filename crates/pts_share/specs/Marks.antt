-- The history of a core, as the lock around it has it.
use Rattle.std.specs.Prelude.{ℕ, List, [], ◌∷◌, map}
use Rattle.pts_ctx.specs.System.{Specification}
use Rattle.pts_core.specs.Histories.{Past}
use Rattle.pts_share.specs.declared.mark.Mark.{Mark}
use Rattle.pts_share.specs.declared.mark.Mark.TheVariants.{System, Event}

-- The entries, each with the number of its owner.
abbrev pub Marks : Type 0
Marks = List (ℕ × Mark)

-- An event is owned by its session.
abbrev pub event_mark : Past → ℕ × Mark
event_mark e = (e.session, Event e)

-- First the system, which has no session and 0 in its place, and then the events. So whoever has seen a history of a lock has
-- seen the system of its core.
abbrev pub marks : Specification → List Past → Marks
marks S h = (0, System S) ∷ map event_mark h

abbrev pub with_event : Mark → List Past → List Past
with_event (System S) h = h
with_event (Event e) h = e ∷ h

-- The events among the entries.
abbrev pub events_of : Marks → List Past
events_of [] = []
events_of (m ∷ ms) = with_event m.1 (events_of ms)
