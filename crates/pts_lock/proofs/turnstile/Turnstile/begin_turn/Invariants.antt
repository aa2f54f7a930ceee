use Rattle.std.proofs.Common.{◌≡◌, ℕ, ◌%◌, ◌^◌, [], Some, None}
use Rattle.pts_lock.proofs.turnstile.Turnstile.begin_turn.Given as goal

-- the seat waits with the ticket that it drew
abbrev pub invariant-loop : goal.invariant-loop
invariant-loop g l =
    (l.seat.table_id ≡ l.fn.seat.table_id) × (l.seat.me.1 ≡ []) × (l.seat.me.0.turn ≡ None)
    × (l.seat.me.0.pairs ≡ l.fn.seat.me.0.pairs)
    × ((t : ℕ) × (l.seat.me.0.ticket ≡ Some t) × (l.ticket ≡ t % 2 ^ 64))
