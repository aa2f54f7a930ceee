use Rattle.std.proofs.Common.{ℕ, ◌≡◌, ◌≤◌, ◌-◌, false, length}
use Rattle.std.specs.List.{AllByRecursion}
use Rattle.pts_play_tests.proofs.replays.sessions.Given as goal

abbrev pub invariant-places : goal.invariant-places
invariant-places l = record {
  few : length l.sessions.items ≤ 64;
  free : AllByRecursion (λ s. s.waits ≡ false) l.sessions.items;
}

abbrev pub decreases-places : goal.decreases-places
decreases-places l = 64 - length l.sessions.items
