use Rattle.std.proofs.Common.{◌≡◌, ◌≤◌, take}
use Rattle.std.specs.Prelude.{vec_capacity}
use Rattle.pts_goals.proofs.copies.copy_goals.Given as goal

abbrev pub invariant-loop-goal : goal.invariant-loop-goal
invariant-loop-goal l = (l.copy.items ≡ take l.goal-index l.goals) × (l.fn.room ≤ vec_capacity l.copy)
