use Rattle.std.proofs.Common.{◌≡◌, ◌⊎◌, ℕ, [], ◌∷◌, List, length, map, None}
use Rattle.std.specs.List.{AllByRecursion}
use Rattle.pts_names.specs.Lists.{In}
use Rattle.pts_lock.specs.Histories.{SawItsOwn}
use Rattle.pts_lock.specs.Views.{Owns, EachSawItsOwn, view}
use Rattle.pts_lock.specs.Seats.{seat_at_rest, history_seen}
use Rattle.pts_lock.proofs.turnstile.Turnstile.close.Given as goal

-- one seat has taken in those that were popped
abbrev pub invariant-loop-seat : goal.invariant-loop-seat
invariant-loop-seat g l =
    (l.self ≡ l.fn.self) × (l.all.table_id ≡ l.self.table.shared.table_id) × (l.all.me ≡ (view l.all.me.0.pairs None None, []))
    × AllByRecursion (λ s. s.in_table.table_id ≡ l.self.table.shared.table_id) l.seats.items
    × AllByRecursion (λ s. s.in_table.me ≡ seat_at_rest s.owner (history_seen s.in_table.me)) l.seats.items
    × ((o : ℕ) → In o (map (λ s. s.owner) l.fn.seats.items) → Owns o l.all.me.0.pairs ⊎ In o (map (λ s. s.owner) l.seats.items))
    × ((now : List (ℕ × g.row.T-Entry.Denot)) → EachSawItsOwn l.all.me.0.pairs now → AllByRecursion (λ s. SawItsOwn s.owner (history_seen s.in_table.me) now) l.seats.items
    → AllByRecursion (λ s. SawItsOwn s.owner (history_seen s.in_table.me) now) l.fn.seats.items)

abbrev pub decreases-loop-seat : goal.decreases-loop-seat
decreases-loop-seat g l = length l.seats.items
