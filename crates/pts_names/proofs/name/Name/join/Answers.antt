use Rattle.std.proofs.Common.{◌≡◌, ◌≤◌, ◌∙◌, ap, subst, None, length, ◌∷◌, arith}
use Rattle.std.specs.Prelude.{IsUtf8}
use Rattle.std.proofs.lemmas.Str.{IsUtf8-string_bytes}
use Rattle.std.proofs.lemmas.List.{length-append}
use Rattle.pts_names.specs.Name.{name_fault, joined}
use Rattle.pts_names.proofs.Sound.{joined_is_name}
use Rattle.pts_names.proofs.name.Name.join.Goals as goal

pub invariant_of-result : goal.invariant_of-result
invariant_of-result c =
    let label = c.label.view_is in
    let last = c.last.view_is in
    let fits : length (joined c.args.label.now c.args.last.now) ≤ 128 = omega (arith, ap length label, ap length last, length-append c.args.label.now (46 ∷ c.args.last.now)) in
    ap name_fault (c.in_ok-from_string.ensures.ok ∙ c.in_ok-text.ensures.ok)
    ∙ joined_is_name c.args.label.now c.args.last.now
    (subst IsUtf8 label (IsUtf8-string_bytes c.label.inside.text.text.value))
    (subst IsUtf8 last (IsUtf8-string_bytes c.last.inside.text.text.value))
    (subst (λ text. name_fault text ≡ None) label c.label.invariant)
    (subst (λ text. name_fault text ≡ None) last c.last.invariant)
    fits
