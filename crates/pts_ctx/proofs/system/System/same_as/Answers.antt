use Rattle.std.proofs.Common.{◌∙◌, sym, subst, ap}
use Rattle.pts_ctx.specs.System.{Specification}
use Rattle.pts_ctx.proofs.Equal.{Tabled, same_from_tables, axioms_from_same, rules_from_same}
use Rattle.pts_ctx.proofs.system.System.same_as.Goals as goal

pub returns-then-not-same_tables : goal.returns-then-not-same_tables
returns-then-not-same_tables c =
    let R = c.self.inside.axiom_table.items in
    let Q = c.self.inside.rule_table.items in
    let V = c.other.inside.axiom_table.items in
    let W = c.other.inside.rule_table.items in
    let i = c.self.invariant in
    let k = c.other.invariant in
    let one : Tabled c.args.self.now R Q = subst (λ (S : Specification). Tabled S R Q) c.self.view_is (record { axioms = i.2; rules = i.3; size = i.4; area = i.5 }) in
    let other : Tabled c.args.other.now V W = subst (λ (S : Specification). Tabled S V W) c.other.view_is (record { axioms = k.2; rules = k.3; size = k.4; area = k.5 }) in (
      λ h. absurd (cc h),
      λ f.
          let axioms = axioms_from_same c.args.self.now c.args.other.now R Q V W one other f in
          absurd (cc (c.same_tables.ensures.1 (c.deref-3.ensures.value ∙ (axioms ∙ sym c.deref-4.ensures.value)), c.if-not-same_tables.true)),
    )

pub returns : goal.returns
returns c =
    let R = c.self.inside.axiom_table.items in
    let Q = c.self.inside.rule_table.items in
    let V = c.other.inside.axiom_table.items in
    let W = c.other.inside.rule_table.items in
    let i = c.self.invariant in
    let k = c.other.invariant in
    let one : Tabled c.args.self.now R Q = subst (λ (S : Specification). Tabled S R Q) c.self.view_is (record { axioms = i.2; rules = i.3; size = i.4; area = i.5 }) in
    let other : Tabled c.args.other.now V W = subst (λ (S : Specification). Tabled S V W) c.other.view_is (record { axioms = k.2; rules = k.3; size = k.4; area = k.5 }) in
    let sorts =
    sym (ap (λ S. S.sorts) c.self.view_is)
    ∙ (sym c.deref.ensures.value ∙ (c.same_spellings.ensures.0 c.if-not-same_spellings.false ∙ (c.deref-2.ensures.value ∙ ap (λ S. S.sorts) c.other.view_is))) in
    let axioms = sym c.deref-3.ensures.value ∙ (c.same_tables.ensures.0 c.if-not-same_tables.false ∙ c.deref-4.ensures.value) in (
      λ h. same_from_tables c.args.self.now c.args.other.now R Q V W one other sorts axioms (sym c.deref-5.ensures.value ∙ (c.same_tables-2.ensures.0 h ∙ c.deref-6.ensures.value)),
      λ f. c.same_tables-2.ensures.1 (c.deref-5.ensures.value ∙ (rules_from_same c.args.self.now c.args.other.now R Q V W one other f ∙ sym c.deref-6.ensures.value)),
    )
