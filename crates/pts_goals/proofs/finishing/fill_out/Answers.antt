use Rattle.std.proofs.Common.{◌≡◌, ℕ, suc, ap, sym, ◌∙◌, subst, arith, refl, length, ◌-◌, ◌≤◌}
use mathlib.Core.Path.{ap₂}
use Rattle.pts_grow.proofs.Grow.{keeps_trans, valid_trans}
use Rattle.pts_goals.specs.Steps.{arity}
use Rattle.pts_goals.proofs.Turn.{turn_enough, turn_goal, turn_fits, turn_parts, turn_within, turn_on, last_closes}
use Rattle.pts_goals.proofs.finishing.fill_out.Goals as goal

pub overflow_sub-from : goal.overflow_sub-from
overflow_sub-from c =
    let i = c.close.invariant in
    let e = turn_enough c.args.proof.now c.args.root.now c.requires.root c.args.steps.now c.close.at c.close.proof c.close.stack.items c.args.closed.items c.index-steps-at.result i.0 c.close-test.true i.2 c.index-steps-at.is i.3 in
    omega (arith, e, c.subgoal_count.ensures, c.len.ensures, c.close.stack.ok.0)

pub close_step-requires-clause-goal : goal.close_step-requires-clause-goal
close_step-requires-clause-goal c =
    let i = c.close.invariant in
    turn_goal c.args.proof.now c.args.root.now c.requires.root c.args.steps.now c.close.at c.close.proof c.close.stack.items c.args.closed.items c.index-steps-at.result i.0 c.close-test.true i.2 c.index-steps-at.is i.3

pub close_step-requires-clause-fits : goal.close_step-requires-clause-fits
close_step-requires-clause-fits c =
    let i = c.close.invariant in
    turn_fits c.args.proof.now c.args.root.now c.requires.root c.args.steps.now c.close.at c.close.proof c.close.stack.items c.args.closed.items c.index-steps-at.result i.0 c.close-test.true i.2 c.index-steps-at.is i.3

pub close_step-requires-clause-parts : goal.close_step-requires-clause-parts
close_step-requires-clause-parts c =
    let i = c.close.invariant in
    let e : c.len.result - c.subgoal_count.result ≡ length c.close.stack.items - arity c.index-steps-at.result.step = ap₂ (λ a b. a - b) (c.len.ensures ∙ c.close.stack.ok.0) c.subgoal_count.ensures in
    turn_parts c.args.proof.now c.args.root.now c.requires.root c.args.steps.now c.close.at c.close.proof c.close.stack.items c.args.closed.items c.index-steps-at.result i.0 c.close-test.true i.2 c.index-steps-at.is i.3 (c.len.result - c.subgoal_count.result) e c.deref.result.now c.deref.ensures.value

pub close_step-requires-clause-within : goal.close_step-requires-clause-within
close_step-requires-clause-within c =
    let i = c.close.invariant in
    let e : c.len.result - c.subgoal_count.result ≡ length c.close.stack.items - arity c.index-steps-at.result.step = ap₂ (λ a b. a - b) (c.len.ensures ∙ c.close.stack.ok.0) c.subgoal_count.ensures in
    turn_within c.args.proof.now c.args.root.now c.requires.root c.args.steps.now c.close.at c.close.proof c.close.stack.items c.args.closed.items c.index-steps-at.result i.0 c.close-test.true i.2 c.index-steps-at.is i.3 (c.len.result - c.subgoal_count.result) e c.deref.result.now c.deref.ensures.value

pub close-preserved : goal.close-preserved
close-preserved c =
    let i = c.close.invariant in
    let o = c.in_ok-judged.ensures in
    let e : c.len.result - c.subgoal_count.result ≡ length c.close.stack.items - arity c.index-steps-at.result.step = ap₂ (λ a b. a - b) (c.len.ensures ∙ c.close.stack.ok.0) c.subgoal_count.ensures in
    let d = turn_on c.args.proof.now c.args.root.now c.requires.root c.args.steps.now c.close.at c.close.proof c.close.stack.items c.args.closed.items c.index-steps-at.result i.0 c.close-test.true i.2 c.index-steps-at.is i.3 (c.len.result - c.subgoal_count.result) e c.deref.result.now c.deref.ensures.value c.close_step.new.proof c.in_ok-judged.judged c.truncate.new.self.items c.push.new.self.items o.keeps o.closes o.term c.truncate.ensures.items c.in_ok-push.ensures.items in
    let l : c.close.at - 1 ≤ length c.args.steps.now = let b = i.2 in omega (arith, b) in
    (keeps_trans c.args.proof.now c.close.proof c.close_step.new.proof i.0 o.keeps, valid_trans c.args.proof.now c.close.proof c.close_step.new.proof i.1 o.valid, l, d)

pub returns-clause-closes : goal.returns-clause-closes
returns-clause-closes c =
    let i = c.close.invariant in
    (last_closes c.args.proof.now c.args.root.now c.args.steps.now c.close.at c.close.proof c.close.stack.items c.pop.new.self.items c.args.closed.items c.in-Some.judged i.3 (omega (arith, c.close-test.false)) c.in-Some.ensures.items).0
