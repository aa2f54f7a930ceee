-- Numbers of sessions as words.
use Rattle.std.proofs.Common.{ℕ, ◌<◌, ◌≤◌, ◌≡◌, ◌≢◌, ◌^◌, ◌&&◌, ◌==◌, not, Bool, true, false, refl, sym, ap, subst, ◌∙◌, List, [], ◌∷◌, length, get_or, arith, rules, Some, None, nat_le, if◌then◌else◌, eq-eqb}
use Rattle.std.specs.List.{list_all}
use Rattle.std.specs.Fmt.{decimal}
use Rattle.std.proofs.lemmas.Fmt.{digits_decimal, digits_value-decimal, decimal-digits_value, decimal_nonempty, first_decimal}
use Rattle.std.proofs.lemmas.Str.Parse.{IsNumeralModel, numerals_by_fold}
use Rattle.pts_bytes.specs.Digits.{is_digit, is_digits, value, value_after, is_padded, is_number_up_to, number_up_to}
use Rattle.pts_play.specs.Inputs.{IsSession}

own : IsNumeralModel (λ ds. list_all is_digit ds ≡ true) (value_after 0)
own = numerals_by_fold _ (search rules) value_after (search rules)

both : (a b : Bool) → (a && b) ≡ true → (a ≡ true) × (b ≡ true)
both true true e = (refl, refl)
both true false e = absurd (cc e)
both false b e = absurd (cc e)

is_not : (b : Bool) → not b ≡ true → b ≡ false
is_not true e = absurd (cc e)
is_not false e = refl

some_digit : (w : List ℕ) → not (length w == 0) ≡ true → 0 < length w
some_digit [] e = absurd (cc e)
some_digit (c ∷ cs) e = omega arith

-- Digits that begin with no zero before a further digit.
unpadded : (w : List ℕ) → is_padded w ≡ false → get_or w 0 0 ≡ 48 → length w ≡ 1
unpadded [] np e = absurd (omega (arith, e))
unpadded (c ∷ []) np e = refl
unpadded (c ∷ d ∷ cs) np e = absurd (cc (sym np ∙ eq-eqb c 48 e))

not_padded : (w : List ℕ) → 48 < get_or w 0 0 → is_padded w ≡ false
not_padded [] h = refl
not_padded (c ∷ []) h = refl
not_padded (c ∷ d ∷ cs) h = grind (arith, h)

small_number : (n : ℕ) → nat_le n 64 ≡ true → n ≤ 64
small_number n e = grind (arith, e)

is_small : (n : ℕ) → n ≤ 64 → nat_le n 64 ≡ true
is_small n e = grind (arith, e)

number_read : (w : List ℕ) (b : Bool) (n : ℕ) → is_number_up_to 64 w ≡ b → (if b then Some (value w) else None) ≡ Some n → (is_number_up_to 64 w ≡ true) × (value w ≡ n)
number_read w true n is e = let same : value w ≡ n = cc e in (is, same)
number_read w false n is e = absurd (cc e)

-- Digits that are read as the number of a session are that number.
pub is_session : (w : List ℕ) (n : ℕ) → is_digits w ≡ true → number_up_to 64 w ≡ Some n → n ≢ 0 → IsSession n × (w ≡ decimal n)
is_session w n digits read some =
    let d = both (not (length w == 0)) (list_all is_digit w) digits in
    let r = number_read w (is_number_up_to 64 w) n refl read in
    let parts = both (not (is_padded w)) (nat_le (value w) 64) r.0 in
    let small = small_number (value w) parts.1 in
    let same = r.1 in
    let text : decimal (value_after 0 w) ≡ w = decimal-digits_value own w d.1 (some_digit w d.0) (unpadded w (is_not (is_padded w) parts.0)) (omega (arith, small)) in
    ((omega (arith, some), omega (arith, small, same)), sym text ∙ ap decimal same)

-- The number of a session is read from its digits.
pub is_read : (w : List ℕ) (n : ℕ) → IsSession n → w ≡ decimal n → (is_digits w ≡ true) × (number_up_to 64 w ≡ Some n)
is_read w n s e = subst (λ x. (is_digits x ≡ true) × (number_up_to 64 x ≡ Some n)) (sym e) (all_digits, read)
  where
    low : 1 ≤ n
    low = s.0

    high : n ≤ 64
    high = s.1

    few : n < 2 ^ 64
    few = omega (arith, high)

    digits : list_all is_digit (decimal n) ≡ true
    digits = digits_decimal own n few

    long : not (length (decimal n) == 0) ≡ true
    long = let some = decimal_nonempty n few in grind (arith, some)

    all_digits : is_digits (decimal n) ≡ true
    all_digits = ap (λ b. b && list_all is_digit (decimal n)) long ∙ digits

    worth : value (decimal n) ≡ n
    worth = digits_value-decimal own n few

    bare : is_padded (decimal n) ≡ false
    bare = not_padded (decimal n) (first_decimal n (omega (arith, low)) few)

    within : is_number_up_to 64 (decimal n) ≡ true
    within = ap (λ b. not b && nat_le (value (decimal n)) 64) bare ∙ (ap (λ v. nat_le v 64) worth ∙ is_small n high)

    read : number_up_to 64 (decimal n) ≡ Some n
    read = ap (λ b. if b then Some (value (decimal n)) else None) within ∙ ap Some worth
