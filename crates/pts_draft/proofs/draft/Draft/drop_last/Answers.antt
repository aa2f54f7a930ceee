use Rattle.std.proofs.Common.{◌-◌, ◌≤◌, length, take, sym, ap, ◌∙◌, subst}
use Rattle.pts_core.specs.Cores.{labelled}
use Rattle.pts_draft.proofs.Keeping.{kept_inside, kept_marked, kept_fewer}
use Rattle.pts_draft.proofs.draft.Draft.drop_last.Goals as goal

pub cut-requires-clause-inside : goal.cut-requires-clause-inside
cut-requires-clause-inside c =
    let v = c.self.inside in
    let few = subst (λ w. c.args.count ≤ length w.declarations) (sym c.self.view_is) c.requires in
    kept_inside v.system.value (labelled v.front) (labelled v.scope) v.declarations.items c.self.invariant c.args.count few

pub cut-requires-clause-labels : goal.cut-requires-clause-labels
cut-requires-clause-labels c =
    let v = c.self.inside in
    let few = subst (λ w. c.args.count ≤ length w.declarations) (sym c.self.view_is) c.requires in
    kept_marked v.system.value (labelled v.front) (labelled v.scope) v.declarations.items c.self.invariant c.args.count few c.is_orderly.ensures.labels

pub invariant_of-self : goal.invariant_of-self
invariant_of-self c =
    let v = c.self.inside in
    let few = subst (λ w. c.args.count ≤ length w.declarations) (sym c.self.view_is) c.requires in
    kept_fewer v.system.value (labelled v.front) (labelled v.scope) v.declarations.items c.self.invariant c.args.count
    c.truncate.new.self.items (labelled c.cut.new.self) few
    (c.truncate.ensures.items ∙ ap (λ n. take (n - c.args.count) v.declarations.items) (c.len.ensures ∙ v.declarations.ok.0))
    c.cut.ensures.entries c.cut.ensures.labels
