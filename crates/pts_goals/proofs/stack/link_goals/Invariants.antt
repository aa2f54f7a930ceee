use Rattle.std.proofs.Common.{◌≡◌, ◌≤◌, ◌+◌, length, drop}
use Rattle.pts_goals.specs.Steps.{link_goals}
use Rattle.pts_goals.proofs.stack.link_goals.Given as goal

abbrev pub invariant-open : goal.invariant-open
invariant-open l =
    (l.goals.items ≡ link_goals l.goal (drop l.at l.links))
    × (l.place ≡ l.goal.place + length (drop l.at l.links))
    × (l.at ≤ length l.links)

abbrev pub decreases-open : goal.decreases-open
decreases-open l = l.at
