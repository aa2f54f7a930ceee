use Rattle.std.proofs.Common.{◌≡◌, ◌<◌, ◌-◌, ap, length, arith}
use Rattle.pts_goals.proofs.Views.{goal_at}
use Rattle.pts_goals.proofs.proof.Proof.goal.Goals as goal

pub returns-clause-is_goal : goal.returns-clause-is_goal
returns-clause-is_goal c =
    let p = c.self.inside in
    let e : length p.goals.items ≡ length c.args.self.now.goals = ap (λ o. length o.goals) c.self.view_is in
    let h : c.len.result - 1 - c.args.number < length p.goals.items = omega (arith, e, c.requires.number, c.len.ensures, p.goals.ok.0) in
    goal_at p c.args.self.now c.self.view_is (c.len.result - 1 - c.args.number) c.index.result.now c.self.invariant.0 h c.index.ensures
