use Rattle.std.proofs.Common.{◌∙◌, ap, subst, length}
use Rattle.std.specs.List.{AllByRecursion}
use Rattle.pts_ctx.specs.System.{Specification, axiom_of, AxiomBelow}
use Rattle.pts_ctx.specs.Tables.{table_at}
use Rattle.pts_ctx.proofs.Tabled.{axiom-declared}
use Rattle.pts_ctx.proofs.system.System.axiom.Goals as goal

pub returns : goal.returns
unfolding axiom_of
returns c =
    let s = c.args.sort.0 in
    let S = c.args.self.now in
    let found = c.found_at.ensures ∙ ((λ j. table_at (c.deref.ensures.value j) (c.from.ensures j)) ∙ (c.self.invariant.2 s ∙ ap (λ X. axiom_of X s) c.self.view_is)) in
    let below = subst (λ (X : Specification). AllByRecursion (AxiomBelow (length X.sorts)) X.axioms) c.self.view_is c.self.invariant.1.0 in
    record { «axiom» = found; declared = axiom-declared (length S.sorts) S.axioms s c.found_at.result below found }
