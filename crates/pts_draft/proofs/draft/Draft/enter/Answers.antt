use Rattle.std.proofs.Common.{sym, subst}
use Rattle.pts_ctx.specs.Front.{Fresh}
use Rattle.pts_check.specs.Entered.{MayEnter}
use Rattle.pts_core.specs.Cores.{labelled}
use Rattle.pts_draft.specs.Drafts.{scope}
use Rattle.pts_draft.proofs.Keeping.{kept_same, kept_more}
use Rattle.pts_draft.proofs.draft.Draft.enter.Goals as goal

pub extend-requires-clause-fresh : goal.extend-requires-clause-fresh
extend-requires-clause-fresh c =
    let d = c.args.declaration in
    let m = subst (λ w. MayEnter w.system (scope w) d) (sym c.self.view_is) c.requires in
    subst (Fresh d.name) (sym c.self.invariant.scope_entries) m.fresh

pub extend-requires-clause-within : goal.extend-requires-clause-within
extend-requires-clause-within c = c.requires.within

pub invariant_of-self : goal.invariant_of-self
invariant_of-self c =
    let v = c.self.inside in
    kept_same v.system.value (labelled v.front) (labelled v.scope) v.declarations.items c.self.invariant
    c.extend.new.declarations.items (labelled c.extend.new.scope) c.in_err-extend.ensures.same c.in_err-extend.ensures.same_entries c.extend.ensures.labels

pub invariant_of-self-2 : goal.invariant_of-self-2
invariant_of-self-2 c =
    let v = c.self.inside in
    let d = c.args.declaration in
    let m = subst (λ w. MayEnter w.system (scope w) d) (sym c.self.view_is) c.requires in
    kept_more v.system.value (labelled v.front) (labelled v.scope) v.declarations.items c.self.invariant
    d c.extend.new.declarations.items (labelled c.extend.new.scope) m c.in_ok-extend.ensures.declarations c.in_ok-extend.ensures.entries c.extend.ensures.labels
