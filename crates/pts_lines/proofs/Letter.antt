-- `x` is a plain name, and a label; `_` is neither.
use Rattle.std.proofs.Common.{◌≡◌, refl, ap, Bool, true, false, cond, not, ◌||◌, ◌&&◌, is_none, Some, None, arith}
use Rattle.std.specs.Prelude.{codes}
use Rattle.std.specs.Str as str
use Rattle.unicode_ident.specs.Ident.{is_xid_start}
use Rattle.unicode_ident.proofs.IdentLemmas.{is_xid_start-ascii}
use Rattle.pts_names.specs.Name.{Name, is_identifier, underscore, is_plain}
use Rattle.pts_names.specs.declared.fault.NameFault.TheVariants.{BadStart}
use Rattle.pts_grammar.proofs.Underscore.{underscore_is_identifier}
use Rattle.pts_lines.specs.Items.{is_label}

abbrev pub letter : Name
letter = codes "x"

letter_is_identifier : is_identifier letter ≡ true
unfolding is_identifier str.chars
letter_is_identifier = by (is_xid_start 120) (is_xid_start-ascii 120 (omega arith))
  where
    by : (b : Bool) → b ≡ true → is_none (cond (not (b || false)) (Some (BadStart 0)) None) ≡ true
    by true e = refl
    by false e = absurd (cc e)

pub letter_is_plain : is_plain letter ≡ true
letter_is_plain = ap (λ b. b && true) letter_is_identifier

pub letter_is_label : is_label letter ≡ true
letter_is_label = ap (λ b. b && true) letter_is_plain

pub underscore_is_none : is_plain underscore ≡ false
underscore_is_none = ap (λ b. b && false) underscore_is_identifier

pub underscore_is_no_label : is_label underscore ≡ false
underscore_is_no_label = ap (λ b. b && true) underscore_is_none
