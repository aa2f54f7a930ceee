-- A name with a numeral behind it.
use Rattle.std.proofs.Common.{ℕ, ◌+◌, ◌^◌, ◌<◌, ◌≤◌, ◌≡◌, refl, sym, ◌∙◌, ap, List, [], ◌∷◌, ◌++◌, Bool, true, false, cond, not, ◌||◌, Some, None, is_none, length, arith}
use Rattle.std.specs.Prelude.{IsUtf8, chars, codes, decimal}
use Rattle.std.specs.Char.{len_utf8, digit_value}
use Rattle.std.specs.Str.Parse.{AllDigits, digits_value}
use Rattle.std.proofs.lemmas.Fmt.{decimal_is_IsNumeral_wide, IsAscii-decimal_wide, length-decimal-le_wide}
use Rattle.std.proofs.lemmas.Str.Parse.{digit_from_value}
use Rattle.std.proofs.lemmas.Str.{chars-append, chars-IsAscii, IsUtf8-append, IsUtf8-from_ascii}
use Rattle.unicode_ident.proofs.IdentLemmas.{is_xid_continue-ascii}
use Rattle.pts_names.specs.Name.{Name, same_name, is_identifier, is_keyword, identifier_fault, rest_fault, starts_identifier, continues_identifier, underscore}
use Rattle.pts_names.specs.declared.fault.NameFault.TheVariants.{BadStart, BadPart}
use Rattle.pts_names.proofs.Same.{same_name-true}
use Rattle.pts_names.proofs.OnePart.{identifier_has_no_fault}
use Rattle.pts_names.proofs.Sound.{sound_else, sound_then}

pub decimal_apart : (m n : ℕ) → m < 10 ^ 64 → n < 10 ^ 64 → decimal m ≡ decimal n → m ≡ n
decimal_apart m n k l e = sym (decimal_is_IsNumeral_wide m k).1 ∙ ap (digits_value 10) e ∙ (decimal_is_IsNumeral_wide n l).1

same_behind : (x u v : List ℕ) → x ++ u ≡ x ++ v → u ≡ v
same_behind [] u v e = e
same_behind (c ∷ x) u v e = same_behind x u v (let m : x ++ u ≡ x ++ v = cc e in m)

-- Another number makes another name.
pub numbers_apart : (x : Name) (m n : ℕ) → m < 10 ^ 64 → n < 10 ^ 64 → n < m → same_name (x ++ decimal m) (x ++ decimal n) ≡ false
numbers_apart x m n k l less = by (same_name (x ++ decimal m) (x ++ decimal n)) refl
  where
    by : (b : Bool) → same_name (x ++ decimal m) (x ++ decimal n) ≡ b → b ≡ false
    by true e = let same = decimal_apart m n k l (same_behind x _ _ (same_name-true _ _ e)) in absurd (omega arith)
    by false e = refl

-- What ends with digits is no word without digits.
pub NoDigits : List ℕ → Type 0
NoDigits [] = Unit {0}
NoDigits (c ∷ w) = (57 < c) × NoDigits w

digits_apart : (w d v : List ℕ) → AllDigits 10 d → 0 < length d → NoDigits v → w ++ d ≡ v → ⊥
unfolding NoDigits
digits_apart w d [] digits some none e = empty w d some e
  where
    empty : (w d : List ℕ) → 0 < length d → w ++ d ≡ [] → ⊥
    empty [] [] some e = omega arith
    empty [] (c ∷ d) some e = cc e
    empty (c ∷ w) d some e = cc e
digits_apart [] [] (b ∷ v) digits some none e = omega arith
digits_apart [] (c ∷ d) (b ∷ v) digits some none e = let m : c ≡ b = cc e in let r = digit_from_value c digits.0 in omega (arith, r, none.0)
digits_apart (c ∷ w) d (b ∷ v) digits some none e = digits_apart w d v digits some none.1 (let m : w ++ d ≡ v = cc e in m)

not_same : (w d v : List ℕ) → AllDigits 10 d → 0 < length d → NoDigits v → same_name (w ++ d) v ≡ false
not_same w d v digits some none = by (same_name (w ++ d) v) refl
  where
    by : (b : Bool) → same_name (w ++ d) v ≡ b → b ≡ false
    by true e = absurd (digits_apart w d v digits some none (same_name-true _ _ e))
    by false e = refl

pub not_underscore : (x : Name) (n : ℕ) → n < 10 ^ 64 → same_name (x ++ decimal n) underscore ≡ false
unfolding NoDigits
not_underscore x n l = let d = (decimal_is_IsNumeral_wide n l).0 in not_same x (decimal n) underscore d.1 d.0 (omega arith, tt)

no_keyword : (w d : List ℕ) → AllDigits 10 d → 0 < length d → is_keyword (w ++ d) ≡ false
unfolding NoDigits
no_keyword w d digits some =
    ap (λ b. b || same_name (w ++ d) (codes "in")) (not_same w d (codes "let") digits some (omega arith, (omega arith, (omega arith, tt))))
    ∙ not_same w d (codes "in") digits some (omega arith, (omega arith, tt))

-- Digits go on with an identifier.
digit_goes_on : (c : ℕ) → digit_value c < 10 → continues_identifier c ≡ true
digit_goes_on c v = let r = digit_from_value c v in is_xid_continue-ascii c (omega (arith, r)) ∙ grind (arith, r)

digits_go_on : (place : ℕ) (d : List ℕ) → AllDigits 10 d → rest_fault place d ≡ None
digits_go_on place [] digits = refl
digits_go_on place (c ∷ d) digits =
    ap (λ b. cond b (rest_fault (place + len_utf8 c) d) (Some (BadPart place))) (digit_goes_on c digits.0) ∙ digits_go_on (place + len_utf8 c) d digits.1

rest_goes_on : (place : ℕ) (w d : List ℕ) → AllDigits 10 d → rest_fault place w ≡ None → rest_fault place (w ++ d) ≡ None
rest_goes_on place [] d digits e = digits_go_on place d digits
rest_goes_on place (c ∷ w) d digits e =
    let s = sound_else (continues_identifier c) _ _ e in
    ap (λ b. cond b (rest_fault (place + len_utf8 c) (w ++ d)) (Some (BadPart place))) s.0 ∙ rest_goes_on (place + len_utf8 c) w d digits s.1

identifier_goes_on : (w d : List ℕ) → AllDigits 10 d → 0 < length d → identifier_fault 0 w ≡ None → identifier_fault 0 (w ++ d) ≡ None
identifier_goes_on [] d digits some e = absurd (cc e)
identifier_goes_on (c ∷ w) d digits some e =
    let s = sound_then (is_keyword (c ∷ w) || not (starts_identifier c)) _ _ e in
    ap (λ b. cond (b || not (starts_identifier c)) (Some (BadStart 0)) (rest_fault (0 + len_utf8 c) (w ++ d))) (no_keyword (c ∷ w) d digits some)
    ∙ ap (λ b. cond b (Some (BadStart 0)) (rest_fault (0 + len_utf8 c) (w ++ d))) (starts (is_keyword (c ∷ w)) (not (starts_identifier c)) s.0)
    ∙ rest_goes_on (0 + len_utf8 c) w d digits s.1
  where
    starts : (a b : Bool) → (a || b) ≡ false → b ≡ false
    starts true b e = absurd (cc e)
    starts false b e = e

-- An identifier with a number is an identifier.
pub numbered_identifier : (x : Name) (n : ℕ) → n < 10 ^ 64 → IsUtf8 x → is_identifier x ≡ true → is_identifier (x ++ decimal n) ≡ true
unfolding is_identifier
numbered_identifier x n l utf8 e =
    let d = (decimal_is_IsNumeral_wide n l).0 in
    let ascii = IsAscii-decimal_wide n l in
    let spelt : chars (x ++ decimal n) ≡ chars x ++ decimal n = chars-append x (decimal n) utf8 ∙ ap (λ c. chars x ++ c) (chars-IsAscii (decimal n) ascii) in
    ap (λ w. is_none (identifier_fault 0 w)) spelt ∙ ap is_none (identifier_goes_on (chars x) (decimal n) d.1 d.0 (identifier_has_no_fault x e))

pub numbered_utf8 : (x : Name) (n : ℕ) → n < 10 ^ 64 → IsUtf8 x → IsUtf8 (x ++ decimal n)
numbered_utf8 x n l utf8 = IsUtf8-append x (decimal n) utf8 (IsUtf8-from_ascii (decimal n) (IsAscii-decimal_wide n l))

pub numeral_short : (n : ℕ) → n < 10 ^ 64 → length (decimal n) ≤ 64
numeral_short n l = length-decimal-le_wide 64 n (omega arith) l l
