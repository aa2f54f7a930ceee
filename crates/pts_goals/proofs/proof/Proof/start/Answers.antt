use Rattle.std.proofs.Common.{◌≡◌, ◌+◌, ◌≤◌, arith}
use Rattle.pts_goals.proofs.Beginning.{judges_sort, is_start, is_new, is_started}
use Rattle.pts_goals.proofs.proof.Proof.start.Goals as goal

pub invariant_of-result : goal.invariant_of-result
invariant_of-result c =
    let j = c.judged_at-ctx in
    let w = is_start c.args.proof c.args.sorted j.result.0 j.result.1 j.ensures.ctx.0 j.ensures.ctx.1 j.ensures.judged j.ensures.node c.requires.sort c.requires.context c.requires.empty in
    let r = c.in_ok-goals.ensures.room in
    (is_new c.args.proof j.result.0 j.result.1 c.first_goal-root.result c.new-steps.result.items c.in_ok-goals.goals.items c.first_goal-root.ensures c.new-steps.ensures.items c.in_ok-goals.ensures.items w, omega (arith, r, c.new-steps.ensures.len))

pub returns : goal.returns
returns c =
    let j = c.judged_at-ctx in
    let s = judges_sort c.args.proof c.args.sorted j.result.0 j.result.1 j.ensures.ctx.0 j.ensures.ctx.1 j.ensures.judged j.ensures.node c.requires.sort in
    record { started = is_started c.args.name c.args.proof c.args.sorted j.result.0 j.result.1 c.first_goal-root.result c.new-steps.result.items c.in_ok-goals.goals.items c.first_goal-root.ensures c.new-steps.ensures.items c.in_ok-goals.ensures.items j.ensures.node s }
