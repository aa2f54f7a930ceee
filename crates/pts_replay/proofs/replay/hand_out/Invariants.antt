use Rattle.std.proofs.Common.{◌≡◌, ◌++◌, ℕ, List, All, length}
use Rattle.std.specs.Vec.Iter.{into_iter_items, into_iter_len}
use Rattle.pts_play.specs.Inputs.{IsSession}
use Rattle.pts_play.specs.Turns.{AllClear, HaveLines, players}
use Rattle.pts_replay.proofs.replay.hand_out.Given as goal

abbrev pub invariant-loop-number : goal.invariant-loop-number
invariant-loop-number g l = record {
  handed : (done : List (ℕ × List ℕ)) × (done ++ into_iter_items l.rest ≡ l.fn.lines.items) × HaveLines 1 done l.seats;
  known : All (λ m. IsSession m.0) (into_iter_items l.rest);
  clear : AllClear l.seats;
  players : players l.seats ≡ players l.fn.seats;
  long : into_iter_len l.rest ≡ length (into_iter_items l.rest);
}

abbrev pub decreases-loop-number : goal.decreases-loop-number
decreases-loop-number g l = into_iter_len l.rest
