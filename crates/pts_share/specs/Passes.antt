-- Passes to a shared core, and the history that the session of each has seen.
use Rattle.std.specs.Prelude.{◌≡◌, ℕ, suc, List, [], ◌∷◌, ◌++◌, length, Some, None}
use Rattle.std.specs.List.{AllByRecursion}
use Rattle.atomic_table.specs.Seated.{TableId}
use Rattle.pts_names.specs.Lists.{In}
use Rattle.pts_lock.specs.declared.seat.LockSeat.{LockSeat}
use Rattle.pts_lock.specs.Seats.{seat_at_rest, history_seen}
use Rattle.pts_ctx.specs.System.{Specification}
use Rattle.pts_core.specs.Histories.{Past, replay}
use Rattle.pts_core.specs.Cores.{IsLegalCore}
use Rattle.pts_core.specs.Ports.{OfOthers}
use Rattle.pts_share.specs.declared.mark.Mark.{Mark}
use Rattle.pts_share.specs.declared.guarded.Guarded.{Guarded}
use Rattle.pts_share.specs.Marks.{marks, events_of}

abbrev pub Pass : Type 0
Pass = LockSeat Guarded Mark

-- The events that the session has seen.
abbrev pub history_of : Pass → List Past
history_of p = events_of (history_seen p.in_table.me)

-- The pass is one of this lock, around a core of this system; no call of it is under way; and what its session has seen is a
-- history of a core.
pub record IsPassOf (table : TableId) (S : Specification) (p : Pass) : Type 0 where
  pub of_lock : p.in_table.table_id ≡ table
  pub at_rest : p.in_table.me ≡ seat_at_rest p.owner (marks S (history_of p))
  pub count : p.count ≡ suc (length (history_of p))
  pub legal : IsLegalCore S (replay (history_of p)) (history_of p)

-- It is a pass of some lock.
abbrev pub IsPass : Pass → Type 0
IsPass p = (table : TableId) × (S : Specification) × IsPassOf table S p

-- The pass is one of this lock, and has the turn, in which it took a core of this system with this history.
pub record HasTurn (table : TableId) (S : Specification) (h : List Past) (p : Pass) : Type 0 where
  pub of_lock : p.in_table.table_id ≡ table
  pub slot : p.in_table.me.1 ≡ (0, None) ∷ []
  pub turn : p.in_table.me.0.turn ≡ Some (marks S h)
  pub pair : p.in_table.me.0.pairs ≡ (p.owner, history_seen p.in_table.me) ∷ []
  pub count : p.count ≡ length (marks S h)

-- The history begins with what the session s has seen of it, and no event after that is of this session.
abbrev pub GoesOn : ℕ → (seen now : List Past) → Type 0
GoesOn s seen now = (rest : List Past) × (seen ++ rest ≡ now) × OfOthers s rest

-- The history begins with the opening one, and each event after that is of one of these sessions.
abbrev pub AddedTo : List ℕ → (opening now : List Past) → Type 0
AddedTo sessions opening now = (rest : List Past) × (opening ++ rest ≡ now) × AllByRecursion (λ e. In e.session sessions) rest

-- The history is one that was taken with the turn, and events of the pass's session after it.
abbrev pub GrowsByOwn : (List Past → Pass → Type 0) → Pass → List Past → Type 0
GrowsByOwn has_turn p now = (old : List Past) × (mine : List Past) × has_turn old p × (old ++ mine ≡ now) × AllByRecursion (λ e. e.session ≡ p.owner) mine

-- Any events of other sessions may come before that of a call.
abbrev pub AnyEvents : List Past → Type 0
AnyEvents others = Unit {0}
