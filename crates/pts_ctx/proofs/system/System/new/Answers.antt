use Rattle.std.proofs.Common.{◌≡◌, ◌∙◌, map}
use Rattle.pts_ctx.specs.System.{written, specification_of, axiom_at, rule_at}
use Rattle.pts_ctx.specs.Tables.{axiom_places, rule_places}
use Rattle.pts_ctx.proofs.Faults.{ok-map}
use Rattle.pts_ctx.proofs.system.System.new.Goals as goal

pub returns-clause-system : goal.returns-clause-system
returns-clause-system c =
    let w = written c.args.sorts.items c.args.axioms.items c.args.rules.items in
    let axioms = c.in_ok-sorted.ensures.axioms ∙ (λ j. map (axiom_at (c.deref.ensures.value j)) (c.deref-2.ensures.value j)) in
    let rules = c.in_ok-sorted.ensures.rules ∙ (λ j. map (rule_at (c.deref.ensures.value j)) (c.deref-3.ensures.value j)) in
    let same : record { sorts = c.args.sorts.items; axioms = map axiom_places c.in_ok-sorted.sorted.axioms.items; rules = map rule_places c.in_ok-sorted.sorted.rules.items } ≡ specification_of w =
    λ j. record { sorts = c.args.sorts.items; axioms = axioms j; rules = rules j } in
    ok-map c.tabled.result (λ s. s ≡ record { sorts = c.args.sorts.items; axioms = map axiom_places c.in_ok-sorted.sorted.axioms.items; rules = map rule_places c.in_ok-sorted.sorted.rules.items }) (λ s. s ≡ specification_of w) c.tabled.ensures.system (λ s e. e ∙ same)
