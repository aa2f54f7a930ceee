-- Cores and examined offers, as contracts see them, and what may be asked of a core.
use Rattle.std.specs.Prelude.{◌≡◌, ◌≤◌, ℕ, List, length}
use Rattle.pts_names.specs.Name.{Name}
use Rattle.pts_ctx.specs.System.{Specification}
use Rattle.pts_ctx.specs.Front.{Global, bare_front}
use Rattle.pts_ctx.specs.Seen.{SeenContext, IsPrefix}
use Rattle.pts_rules.specs.Derives.{Legal}
use Rattle.pts_check.specs.Entered.{declared_entries}
use Rattle.pts_core.specs.declared.finding.Finding.{Finding}
use Rattle.pts_core.specs.declared.offer.Offer.{Offer}
use Rattle.pts_core.specs.InnerNames.{NoneInner}
use Rattle.pts_core.specs.Replies.{LabelledFront}
use Rattle.pts_core.specs.Histories.{Past, submission, replay, IsHistory}

-- An offer, and what was found of it in a system.
pub record SeenExamined : Type 0 where
  pub system : Specification
  pub offer : Offer
  pub finding : Finding

-- A core: its system, its front with labels, its history, and for how many more entries, labels and events it has room.
pub record SeenCore : Type 0 where
  pub system : Specification
  pub entries : List (Global Name)
  pub labels : List (Name × ℕ)
  pub history : List Past
  pub spare_entries : ℕ
  pub spare_labels : ℕ
  pub spare_events : ℕ

abbrev pub front_of : SeenCore → LabelledFront
front_of c = record { entries = c.entries; labels = c.labels }

-- A context without its room.
abbrev pub labelled : SeenContext → LabelledFront
labelled c = record { entries = c.entries; labels = c.labels }

-- What is sure of the front and the history of a core: each event has its reply, and they leave the front, which is legal in
-- the system, has no inner name, and is not too long.
pub record IsLegalCore (S : Specification) (F : LabelledFront) (h : List Past) : Type 0 where
  pub history : IsHistory h
  pub replayed : replay h ≡ F
  pub legal : Legal S (bare_front F.entries)
  pub names : NoneInner F.entries
  pub few : length F.entries ≤ 200000
  pub events : length h ≤ 4000000

-- The front of the offer is one of which this front is a continuation.
abbrev pub IsOver : SeenExamined → LabelledFront → Type 0
IsOver x F = IsPrefix x.offer.front.entries F.entries × IsPrefix x.offer.front.labels F.labels

-- What was examined may be submitted: the system is the core's, and the offer is over a front of the core.
abbrev pub MaySubmit : SeenExamined → SeenCore → Type 0
MaySubmit x c = (x.system ≡ c.system) × IsOver x (front_of c)

-- The submission of what was examined, by a session.
abbrev pub submitted : ℕ → SeenExamined → LabelledFront → Past
submitted s x F = submission s (length x.offer.front.entries) (declared_entries x.offer.declarations) x.offer.label x.finding F
