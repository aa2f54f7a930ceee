use Rattle.std.proofs.Common.{arith, subst, length, map, List}
use Rattle.pts_terms.specs.declared.term.Sort.{Sort}
use Rattle.pts_ctx.specs.Tables.{axiom_places, rule_places, rule_line, TableOf}
use Rattle.pts_ctx.proofs.Tabled.{square-of}
use Rattle.pts_ctx.proofs.system.System.tabled.Goals as goal

pub invariant_of-result : goal.invariant_of-result
invariant_of-result c =
    let n = length c.args.sorts.items in
    let table = c.in_ok-rule_firsts.rule_firsts.rights.items in (
      c.requires.few,
      (c.requires.axioms, c.requires.rules),
      subst (λ (as' : List (Sort × Sort)). TableOf c.in_ok-axiom_firsts.axiom_firsts.rights.items (map axiom_places as')) c.deref.ensures.value c.in_ok-axiom_firsts.ensures.knows.values,
      square-of n table (map rule_places c.args.rules.items) c.requires.few c.requires.rules
          (subst (λ (rs : List (Sort × Sort × Sort)). TableOf table (map rule_line (map rule_places rs))) c.deref-2.ensures.value c.in_ok-rule_firsts.ensures.knows.values),
      grind (arith, c.in_ok-axiom_firsts.ensures.size),
      grind (arith, c.in_ok-rule_firsts.ensures.size),
    )
