use Rattle.std.proofs.Common.{◌≡◌, ◌≤◌, ◌-◌, ◌+◌, length, drop}
use Rattle.pts_goals.specs.Steps.{links_arity}
use Rattle.pts_goals.proofs.stack.links_goal_count.Given as goal

abbrev pub invariant-count : goal.invariant-count
invariant-count l = (links_arity l.links ≡ l.count + links_arity (drop l.at l.links)) × (l.at ≤ length l.links) × (l.count ≤ l.at)

abbrev pub decreases-count : goal.decreases-count
decreases-count l = length l.links - l.at
