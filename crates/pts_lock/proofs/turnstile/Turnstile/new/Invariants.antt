use Rattle.std.proofs.Common.{◌≡◌, ◌+◌, ◌≤◌, ◌++◌, [], length, map, drop, vec_capacity, vec_len, None}
use Rattle.std.specs.List.{AllByRecursion}
use Rattle.pts_lock.specs.Views.{opening_pairs, view}
use Rattle.pts_lock.specs.Seats.{seat_at_rest}
use Rattle.pts_lock.proofs.turnstile.Turnstile.new.Given as goal

-- one seat has the owners that are left, and each other seat has one
abbrev pub invariant-loop-k : goal.invariant-loop-k
invariant-loop-k g l =
    (l.rest.table_id ≡ l.lock.table.shared.table_id)
    × (l.rest.me ≡ (view (opening_pairs (g.T.Staged.history l.fn.value) (drop l.k l.owners)) None None, []))
    × (vec_len l.seats ≡ l.k) × (length l.owners ≤ vec_capacity l.seats)
    × (map (λ s. s.owner) l.seats.items ++ drop l.k l.owners ≡ l.owners)
    × AllByRecursion (λ s. s.in_table.table_id ≡ l.lock.table.shared.table_id) l.seats.items
    × AllByRecursion (λ s. s.in_table.me ≡ seat_at_rest s.owner (g.T.Staged.history l.fn.value)) l.seats.items
    × AllByRecursion (λ s. s.count ≡ length (g.T.Staged.history l.fn.value)) l.seats.items
