use Rattle.std.proofs.Common.{◌≡◌, ◌≤◌, ◌++◌, length, drop, None, refl, sym, ap, ◌∙◌, subst}
use Rattle.std.specs.Option.{option_map}
use Rattle.pts_ctx.specs.Seen.{IsPrefix, NamesDiffer}
use Rattle.pts_ctx.specs.Front.{bare_front}
use Rattle.pts_rules.specs.Derives.{Legal}
use Rattle.pts_check.specs.Entered.{declared_entries}
use Rattle.pts_core.specs.Cores.{labelled}
use Rattle.pts_draft.specs.Drafts.{first_taken}
use Rattle.pts_draft.proofs.Keeping.{kept_same, kept_rest, kept_front_inside, moved_differ, kept_moved}
use Rattle.pts_draft.proofs.draft.Draft.move_to.Goals as goal

pub scope_over-requires-clause-inside : goal.scope_over-requires-clause-inside
scope_over-requires-clause-inside c =
    let v = c.self.inside in
    subst (λ n. n ≤ length v.scope.entries) (sym c.len.ensures)
    (kept_front_inside v.system.value (labelled v.front) (labelled v.scope) v.declarations.items c.self.invariant)

pub scope_over-requires-clause-differ : goal.scope_over-requires-clause-differ
scope_over-requires-clause-differ c =
    let v = c.self.inside in
    let E = labelled c.args.front in
    let longer = subst (λ w. IsPrefix w.entries E.entries) (sym c.self.view_is) c.requires.longer in
    let free = subst (λ ds. first_taken E.entries ds ≡ None) c.deref.ensures.value (sym c.first_taken.ensures ∙ ap (option_map (λ t. (t.0.now, t.1))) c.in_default.is) in
    let rest = ap (λ n. drop n v.scope.entries) c.len.ensures ∙ kept_rest v.system.value (labelled v.front) (labelled v.scope) v.declarations.items c.self.invariant in
    subst NamesDiffer (sym (ap (λ es. E.entries ++ es) rest))
    (moved_differ v.system.value (labelled v.front) (labelled v.scope) v.declarations.items c.self.invariant E longer free c.is_orderly.ensures.names)

pub invariant_of-self : goal.invariant_of-self
invariant_of-self c =
    let v = c.self.inside in
    let o = c.scope_over.ensures.scope in
    kept_same v.system.value (labelled v.front) (labelled v.scope) v.declarations.items c.self.invariant v.declarations.items (labelled c.scope_over.new.scope) refl (ap (λ w. w.entries) o) (ap (λ w. w.labels) o)

pub invariant_of-self-2 : goal.invariant_of-self-2
invariant_of-self-2 c =
    let v = c.self.inside in
    let E = labelled c.args.front in
    let longer = subst (λ w. IsPrefix w.entries E.entries) (sym c.self.view_is) c.requires.longer in
    let legal = subst (λ w. Legal w.system (bare_front E.entries)) (sym c.self.view_is) c.requires.legal in
    let free = subst (λ ds. first_taken E.entries ds ≡ None) c.deref.ensures.value (sym c.first_taken.ensures ∙ ap (option_map (λ t. (t.0.now, t.1))) c.in_default.is) in
    let rest = ap (λ n. drop n v.scope.entries) c.len.ensures ∙ kept_rest v.system.value (labelled v.front) (labelled v.scope) v.declarations.items c.self.invariant in
    kept_moved v.system.value (labelled v.front) (labelled v.scope) v.declarations.items c.self.invariant E longer free
    (labelled c.in_ok-scope.scope) legal (c.in_ok-scope.ensures.entries ∙ ap (λ es. E.entries ++ es) rest) c.in_ok-scope.ensures.labels
