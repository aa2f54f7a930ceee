use Rattle.std.proofs.Common.{ℕ, ◌≤◌, length}
use Rattle.pts_grow.specs.Keeps.{Keeps, StaysValid}
use Rattle.pts_goals.specs.OpenGoals.{ClosedAfter, subjects_of}
use Rattle.pts_goals.proofs.finishing.fill_out.Given as goal

abbrev pub invariant-close : goal.invariant-close
invariant-close l = Keeps l.fn.proof l.proof × StaysValid l.fn.proof l.proof × (l.at ≤ length l.steps) × ClosedAfter l.fn.proof l.fn.root l.steps l.at l.proof l.stack.items (subjects_of l.fn.proof l.fn.closed.items)

abbrev pub decreases-close : goal.decreases-close
decreases-close l = l.at
