use Rattle.std.proofs.Common.{◌≡◌, ◌-◌, ◌≤◌, length, take, reverse}
use Rattle.pts_parser.specs.Resolution.{place_of}
use Rattle.pts_parser.proofs.Places.{behind}
use Rattle.pts_queries.proofs.hypotheses.last_place.Given as goal

abbrev pub invariant-loop-left : goal.invariant-loop-left
invariant-loop-left l = record {
  inside : l.left ≤ length l.names;
  same : behind (length l.names - l.left) (place_of l.name (reverse (take l.left l.names))) ≡ place_of l.name (reverse l.names);
}

abbrev pub decreases-loop-left : goal.decreases-loop-left
decreases-loop-left l = l.left
