-- Events that are asked of a core.
use Rattle.std.specs.Prelude.{◌<◌, ◌≤◌, ℕ, List, [], length, Option, None}
use Rattle.pts_names.specs.Name.{Name}
use Rattle.pts_ctx.specs.Front.{Global}
use Rattle.pts_check.specs.Entered.{declared_entries}
use Rattle.pts_core.specs.declared.finding.Finding.{Finding}
use Rattle.pts_core.specs.declared.finding.Finding.TheVariants.{Sound}
use Rattle.pts_core.specs.declared.reply.Reply.{Reply}
use Rattle.pts_core.specs.declared.event.Event.{Event}
use Rattle.pts_core.specs.declared.event.Event.TheVariants.{Look, Submit}
use Rattle.pts_core.specs.Replies.{LabelledFront}
use Rattle.pts_core.specs.Histories.{Past, look}
use Rattle.pts_core.specs.Cores.{SeenCore, MaySubmit, submitted}

-- The event as it is when it comes to this front.
abbrev pub past_of : Event → LabelledFront → Past
past_of (Look s) F = look s F
past_of (Submit s x) F = submitted s x F

-- The event may come: a submission is one that may be made, and there is room.
abbrev pub MayHappen : Event → SeenCore → Type 0
MayHappen (Look s) c = (length c.history < 4000000) × (0 < c.spare_events)
MayHappen (Submit s x) c = (length c.history < 4000000) × (0 < c.spare_events) × MaySubmit x c × (length x.offer.declarations ≤ c.spare_entries) × (0 < c.spare_labels)

-- What an event offers, and what was found of that; a look offers nothing.
abbrev pub offered_entries : Event → List (Global Name)
offered_entries (Look s) = []
offered_entries (Submit s x) = declared_entries x.offer.declarations

abbrev pub offered_label : Event → Option Name
offered_label (Look s) = None
offered_label (Submit s x) = x.offer.label

abbrev pub finding_in : Event → Finding
finding_in (Look s) = Sound
finding_in (Submit s x) = x.finding

-- What is kept of an event, as an event of the past.
abbrev pub kept_event : ℕ → ℕ → Event → Reply → Past
kept_event s n event reply = record { session = s; front = n; entries = offered_entries event; label = offered_label event; finding = finding_in event; reply = reply }
