-- One step over the characters of a text.
use Rattle.std.proofs.Common.{◌≡◌, refl, sym, ◌∙◌, ap, ℕ, ◌+◌, List, [], ◌∷◌, ◌++◌, Bool, true, false, eqb-true, cond, not, ◌||◌, ◌==◌, subst, Some, None, length, arith}
use Rattle.std.specs.Prelude.{chars, IsUtf8}
use Rattle.std.specs.Char.{len_utf8}
use lib.Utf8.{encode}
use Rattle.std.proofs.lemmas.Str.{chars-nil, chars_past_char}
use Rattle.unicode_ident.specs.Ident.{is_xid_start, is_xid_continue}
use Rattle.unicode_ident.proofs.Computing.{unicode_ident}
use Rattle.unicode_ident.proofs.IdentLemmas.{is_xid_start-is_xid_continue}
use Rattle.pts_names.specs.Name.{starts_identifier, continues_identifier, is_keyword, identifier_fault, rest_fault}
use Rattle.pts_names.specs.declared.fault.NameFault.TheVariants.{BadStart, BadPart}

pub stops_here : (place c : ℕ) (rest new : List ℕ) → IsUtf8 rest → rest ≡ encode c ++ new → continues_identifier c ≡ false → rest_fault place (chars rest) ≡ Some (BadPart place)
stops_here place c rest new utf8 step stops =
    ap (rest_fault place) (chars_past_char rest new c utf8 step) ∙ ap (λ b. cond b (rest_fault (place + len_utf8 c) (chars new)) (Some (BadPart place))) stops

pub goes_on : (place c : ℕ) (rest new : List ℕ) → IsUtf8 rest → rest ≡ encode c ++ new → continues_identifier c ≡ true → rest_fault place (chars rest) ≡ rest_fault (place + len_utf8 c) (chars new)
goes_on place c rest new utf8 step continues =
    ap (rest_fault place) (chars_past_char rest new c utf8 step) ∙ ap (λ b. cond b (rest_fault (place + len_utf8 c) (chars new)) (Some (BadPart place))) continues

pub all_gone : (place : ℕ) (rest : List ℕ) → length rest ≡ 0 → rest_fault place (chars rest) ≡ None
all_gone place [] none = ap (rest_fault place) chars-nil
all_gone place (b ∷ rest) none = absurd (omega arith)

underscore_continues : is_xid_continue 95 ≡ true
unfolding unicode_ident
underscore_continues = refl

-- what begins an identifier goes on with one
pub starts_continues : (c : ℕ) → starts_identifier c ≡ true → continues_identifier c ≡ true
starts_continues c starts = by (is_xid_start c) refl starts
  where
    by : (b : Bool) → is_xid_start c ≡ b → (b || (c == 95)) ≡ true → is_xid_continue c ≡ true
    by true e s = is_xid_start-is_xid_continue c e
    by false e s = subst (λ d. is_xid_continue d ≡ true) (sym (eqb-true c 95 s)) underscore_continues

-- a good beginning leaves the later characters to be looked at
pub begins_well : (place c : ℕ) (cs : List ℕ) → is_keyword (c ∷ cs) ≡ false → starts_identifier c ≡ true → identifier_fault place (c ∷ cs) ≡ rest_fault place (c ∷ cs)
begins_well place c cs ordinary starts =
    ap (λ b. cond (b || not (starts_identifier c)) (Some (BadStart place)) (rest_fault (place + len_utf8 c) cs)) ordinary
    ∙ ap (λ b. cond (not b) (Some (BadStart place)) (rest_fault (place + len_utf8 c) cs)) starts
    ∙ sym (ap (λ b. cond b (rest_fault (place + len_utf8 c) cs) (Some (BadPart place))) (starts_continues c starts))
