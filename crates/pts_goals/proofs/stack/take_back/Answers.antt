use Rattle.std.proofs.Common.{◌≡◌, ◌-◌, ◌++◌, ◌∷◌, [], arith, ap, ◌∙◌, length}
use Rattle.std.specs.Prelude.{take}
use mathlib.Core.Path.{ap₂}
use Rattle.pts_goals.specs.Steps.{arity}
use Rattle.pts_goals.proofs.Views.{enough_goals, all_gone}
use Rattle.pts_goals.proofs.stack.take_back.Goals as goal

pub overflow_sub-from : goal.overflow_sub-from
overflow_sub-from c =
    let e = enough_goals c.args.steps.now.items c.pop.new.self.items c.in-Some.filled c.args.goals.now.items c.in-Some.ensures.items c.requires.goals in
    omega (arith, e, c.subgoal_count.ensures, c.len.ensures, c.args.goals.now.ok.0)

pub returns-in_default-clause-none : goal.returns-in_default-clause-none
returns-in_default-clause-none c = λ e. all_gone c.args.steps.now.items c.pop.new.self.items c.args.goals.now.items c.args.steps.now.len c.pop.new.self.len c.in_default.ensures.cases.0 c.args.steps.now.ok.0 c.in_default.ensures.cases.1 c.pop.new.self.ok.0

pub returns-clause-undone : goal.returns-clause-undone
returns-clause-undone c = λ h.
    let gs = c.args.goals.now.items in
    let f = c.in-Some.filled in
    let n : c.len.result - c.subgoal_count.result ≡ length gs - arity f.step = ap₂ (λ a b. a - b) (c.len.ensures ∙ c.args.goals.now.ok.0) c.subgoal_count.ensures in
    record {
      filled = f;
      steps = c.in-Some.ensures.items;
      goals = c.push_reserved.ensures.items ∙ ap (λ hs. hs ++ f.goal ∷ []) (c.truncate.ensures.items ∙ ap (λ k. take k gs) n);
    }
