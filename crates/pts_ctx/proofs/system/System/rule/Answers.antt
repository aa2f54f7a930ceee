use Rattle.std.proofs.Common.{◌+◌, ◌*◌, ◌∙◌, sym, ap, subst, cond, length, lt-ltb, le-ltb, None}
use Rattle.std.specs.List.{AllByRecursion}
use Rattle.pts_ctx.specs.System.{Specification, rule_of, RuleBelow}
use Rattle.pts_ctx.specs.Tables.{table_at}
use Rattle.pts_ctx.proofs.Tabled.{rule-declared}
use Rattle.pts_ctx.proofs.system.System.rule.Goals as goal

pub returns-then-second-lt64 : goal.returns-then-second-lt64
unfolding rule_of
returns-then-second-lt64 c =
    let table = c.self.inside.rule_table.items in
    let s = c.args.first.0 in
    let r = c.args.second.0 in
    let S = c.args.self.now in
    let found =
    c.found_at.ensures
    ∙ ((λ j. table_at (c.deref.ensures.value j) (64 * c.from.ensures j + c.from-then-second-lt64.ensures j))
    ∙ (sym (ap (λ b. cond b (table_at table (64 * s + r)) None) (lt-ltb r 64 c.if-second-lt64.true))
    ∙ (c.self.invariant.3 s r ∙ ap (λ X. rule_of X s r) c.self.view_is))) in
    let below = subst (λ (X : Specification). AllByRecursion (RuleBelow (length X.sorts)) X.rules) c.self.view_is c.self.invariant.1.1 in
    record { rule = found; declared = rule-declared (length S.sorts) S.rules s r c.found_at.result below found }

pub returns-else-second-lt64-clause-rule : goal.returns-else-second-lt64-clause-rule
unfolding rule_of
returns-else-second-lt64-clause-rule c =
    let table = c.self.inside.rule_table.items in
    let s = c.args.first.0 in
    let r = c.args.second.0 in
    sym (ap (λ b. cond b (table_at table (64 * s + r)) None) (le-ltb r 64 c.if-second-lt64.false))
    ∙ (c.self.invariant.3 s r ∙ ap (λ X. rule_of X s r) c.self.view_is)
