-- Numbers are read digit by digit.
use Rattle.std.proofs.Common.{◌≡◌, ℕ, suc, ◌<◌, ◌≤◌, ◌+◌, ◌-◌, ◌*◌, ◌&&◌, not, false, if◌then◌else◌, List, [], ◌∷◌, length, sym, ◌∙◌, ap, arith, get_or, drop, drop-cons, nat_le}
use Rattle.std.specs.Prelude.{Some, None}
use Rattle.pts_bytes.specs.Digits.{is_padded, value, value_after, number_up_to}

value_grows : (n : ℕ) (digits : List ℕ) → n ≤ value_after n digits
value_grows n [] = omega arith
value_grows n (c ∷ cs) = omega (arith, value_grows (n * 10 + (c - 48)) cs)

not_small : (limit : ℕ) (digits : List ℕ) (n : ℕ) → limit < n → (not (is_padded digits) && nat_le n limit) ≡ false
not_small limit digits n great = grind arith

-- Where the digits so far write a number that is too great, so do all.
pub too_great : (limit : ℕ) (digits : List ℕ) (i n : ℕ) → i < length digits → value_after n (drop i digits) ≡ value digits → limit < n * 10 + (get_or digits i 0 - 48) → None ≡ number_up_to limit digits
too_great limit digits i n below same great =
    let front : drop i digits ≡ get_or digits i 0 ∷ drop (suc i) digits = drop-cons digits i 0 below in
    let whole : value_after (n * 10 + (get_or digits i 0 - 48)) (drop (suc i) digits) ≡ value digits = sym (ap (value_after n) front) ∙ same in
    let grows : n * 10 + (get_or digits i 0 - 48) ≤ value_after (n * 10 + (get_or digits i 0 - 48)) (drop (suc i) digits) = value_grows (n * 10 + (get_or digits i 0 - 48)) (drop (suc i) digits) in
    let all : limit < value digits = omega (arith, whole, grows) in
    ap (λ b. if b then Some (value digits) else None) (sym (not_small limit digits (value digits) all))
