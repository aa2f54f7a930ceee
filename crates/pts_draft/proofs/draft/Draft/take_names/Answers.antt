use Rattle.std.proofs.Common.{◌≡◌, ◌++◌, true, sym, ap, ◌∙◌, subst}
use Rattle.pts_ctx.specs.Front.{Fresh}
use Rattle.pts_ctx.specs.Seen.{NamesDiffer, globals_within}
use Rattle.pts_check.specs.Entered.{declared_entries}
use Rattle.pts_core.specs.Cores.{labelled}
use Rattle.pts_image.specs.Renaming.{new_name}
use Rattle.pts_draft.specs.Drafts.{scope}
use Rattle.pts_draft.specs.Renaming.{AreRenamed, declares}
use Rattle.pts_draft.proofs.Keeping.{kept_within}
use Rattle.pts_draft.proofs.NewNames.{kept_differ, kept_renamed, new_entries}
use Rattle.pts_draft.proofs.draft.Draft.take_names.Goals as goal

pub extend_renamed-requires-clause-differ : goal.extend_renamed-requires-clause-differ
extend_renamed-requires-clause-differ c =
    let v = c.self.inside in
    let x = c.args.names.now.old.now in
    let y = c.args.names.now.new.now in
    let there = subst (λ w. declares w.declarations x ≡ true) (sym c.self.view_is) c.requires.there in
    let free = subst (Fresh y) (sym c.self.invariant.scope_entries) (subst (λ w. Fresh y (scope w)) (sym c.self.view_is) c.requires.free) in
    subst NamesDiffer (sym (ap (λ E. E ++ new_entries (new_name x y) c.deref.result.now) c.in_ok-scope.ensures.entries ∙ ap (λ ds. v.front.entries ++ new_entries (new_name x y) ds) c.deref.ensures.value))
    (kept_differ x y v.system.value (labelled v.front) (labelled v.scope) v.declarations.items c.self.invariant there free c.is_orderly.ensures.names)

pub extend_renamed-requires-clause-within : goal.extend_renamed-requires-clause-within
extend_renamed-requires-clause-within c =
    let v = c.self.inside in
    subst (λ ds. globals_within (declared_entries ds) ≡ true) (sym c.deref.ensures.value)
    (kept_within v.system.value (labelled v.front) (labelled v.scope) v.declarations.items c.self.invariant c.is_orderly.ensures.within)

pub invariant_of-self : goal.invariant_of-self
invariant_of-self c =
    let v = c.self.inside in
    let x = c.args.names.now.old.now in
    let y = c.args.names.now.new.now in
    let there = subst (λ w. declares w.declarations x ≡ true) (sym c.self.view_is) c.requires.there in
    let free = subst (Fresh y) (sym c.self.invariant.scope_entries) (subst (λ w. Fresh y (scope w)) (sym c.self.view_is) c.requires.free) in
    let e = c.in_ok-declarations.ensures in
    kept_renamed x y v.system.value (labelled v.front) (labelled v.scope) v.declarations.items c.self.invariant there free c.is_orderly.ensures.names
    c.in_ok-declarations.declarations.items (labelled c.extend_renamed.new.scope)
    (subst (λ ds. AreRenamed (new_name x y) ds c.in_ok-declarations.declarations.items) c.deref.ensures.value e.renamed)
    (e.entries ∙ (ap (λ E. E ++ new_entries (new_name x y) c.deref.result.now) c.in_ok-scope.ensures.entries ∙ ap (λ ds. v.front.entries ++ new_entries (new_name x y) ds) c.deref.ensures.value))
    (c.extend_renamed.ensures.labels ∙ c.in_ok-scope.ensures.labels)
