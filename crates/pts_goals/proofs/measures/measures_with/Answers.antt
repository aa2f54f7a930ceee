use Rattle.std.proofs.Common.{◌≡◌, ℕ, arith}
use Rattle.pts_goals.specs.OpenGoals.{skeleton}
use Rattle.pts_goals.proofs.Size.{no_size}
use Rattle.pts_goals.proofs.measures.measures_with.Goals as goal

pub overflow_sub-result : goal.overflow_sub-result
overflow_sub-result c =
    let n = no_size (skeleton c.args.scratch.now c.args.step.now) in
    omega (arith, n, c.measures_of-own.ensures.size)

pub returns-clause-size : goal.returns-clause-size
returns-clause-size c =
    let n = no_size (skeleton c.args.scratch.now c.args.step.now) in
    omega (arith, n, c.measures_of-own.ensures.size, c.measures_after-before.ensures.size)
