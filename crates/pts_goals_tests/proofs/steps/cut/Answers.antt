use Rattle.std.proofs.Common.{refl, subst}
use Rattle.pts_goals.specs.OpenProofs.{FitsFirst}
use Rattle.pts_goals.specs.declared.step.Step.TheVariants as step
use Rattle.pts_goals.proofs.Fitting.{first_goal, fits_cut}
use Rattle.pts_goals_tests.proofs.steps.cut.Goals as goal

pub returns : goal.returns
returns c = let p = c.in_ok-product.product in
    let first = first_goal c.args.proof.now.goals c.goal-goal.result.now c.goal-goal.ensures.goal in
    let fits = fits_cut c.scratch-scratch.result.now c.args.proof.now.goals c.goal-goal.result.now first c.args.name p.domain p.whole p.inner p.body c.in_ok-product.ensures (c.if-not-is_lifted.ensures refl) in
    subst (λ r. FitsFirst r c.args.proof.now.goals (step.Cut c.args.name p.domain p.whole p.inner p.body)) c.scratch-scratch.ensures fits
