-- Numbers in decimal digits.
use Rattle.std.specs.Prelude.{ℕ, ◌+◌, ◌-◌, ◌*◌, ◌==◌, ◌&&◌, not, Bool, false, if◌then◌else◌, List, [], ◌∷◌, length, nat_le, Option, Some, None}
use Rattle.std.specs.List.{list_all}

abbrev pub is_digit : ℕ → Bool
is_digit c = nat_le 48 c && nat_le c 57

-- Whether a word is decimal digits, at least one.
abbrev pub is_digits : List ℕ → Bool
is_digits word = not (length word == 0) && list_all is_digit word

-- The number that digits write after those of n.
abbrev pub value_after : ℕ → List ℕ → ℕ
value_after n [] = n
value_after n (c ∷ cs) = value_after (n * 10 + (c - 48)) cs

abbrev pub value : List ℕ → ℕ
value digits = value_after 0 digits

-- Whether digits begin with a zero before a further digit.
abbrev pub is_padded : List ℕ → Bool
is_padded [] = false
is_padded (c ∷ []) = false
is_padded (c ∷ d ∷ cs) = c == 48

-- Whether digits write a number without a leading zero that is at most the limit, and the number.
abbrev pub is_number_up_to : ℕ → List ℕ → Bool
is_number_up_to limit digits = not (is_padded digits) && nat_le (value digits) limit

abbrev pub number_up_to : ℕ → List ℕ → Option ℕ
number_up_to limit digits = if is_number_up_to limit digits then Some (value digits) else None
