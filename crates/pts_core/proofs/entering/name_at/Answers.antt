use Rattle.std.proofs.Common.{refl, length, sym, ap, subst, ◌∙◌, ◌≡◌, ◌<◌, slice_get, Some, arith}
use Rattle.std.specs.Option.{option_map}
use Rattle.std.proofs.lemmas.Option.{slice_get_read}
use Rattle.pts_check.specs.Entered.{declared_entries}
use Rattle.pts_core.proofs.Numbers.{name_kept, name_shown, names_long}
use Rattle.pts_core.proofs.entering.name_at.Goals as goal

pub returns-clause-kept : goal.returns-clause-kept
returns-clause-kept c =
    let x = c.examined.inside in
    let n = c.args.declaration in
    let o = ap (λ v. v.offer) c.examined.view_is in
    let long = names_long x.names.items _ x.offer.value.declarations c.examined.invariant.names_kept c.examined.invariant.same_entries in
    let inside = subst (λ f. n < length f.declarations) (sym o) c.requires in
    let at = slice_get_read x.names.items (length x.names.items) n c.swap_remove.result refl (omega (arith, long, inside)) c.swap_remove.ensures.value in
    subst (λ es. option_map (λ e. e.name) (slice_get es n) ≡ Some c.swap_remove.result.kept) (c.examined.invariant.same_entries ∙ ap (λ f. declared_entries f.declarations) o)
    (name_kept x.names.items _ n c.swap_remove.result c.examined.invariant.names_kept at)

pub returns-clause-shown : goal.returns-clause-shown
returns-clause-shown c =
    let x = c.examined.inside in
    let n = c.args.declaration in
    let long = names_long x.names.items _ x.offer.value.declarations c.examined.invariant.names_kept c.examined.invariant.same_entries in
    let inside = subst (λ f. n < length f.declarations) (sym (ap (λ v. v.offer) c.examined.view_is)) c.requires in
    let at = slice_get_read x.names.items (length x.names.items) n c.swap_remove.result refl (omega (arith, long, inside)) c.swap_remove.ensures.value in
    name_shown x.names.items _ n c.swap_remove.result c.examined.invariant.names_kept c.examined.invariant.names_shown at
