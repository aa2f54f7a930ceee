-- Numbers are read digit by digit, and field by field.
use Rattle.std.proofs.Common.{◌≡◌, ℕ, ◌<◌, ◌≤◌, ◌+◌, ◌-◌, ◌*◌, ◌==◌, ◌&&◌, ◌||◌, not, Bool, true, false, if◌then◌else◌, List, [], ◌∷◌, ◌++◌, length, map, ◌∙◌, ap, arith, append_assoc, append-nil, length-append, ◌^◌}
use Rattle.std.specs.Prelude.{Result, Ok, Err}
use Rattle.std.specs.List.{list_all}
use Rattle.pts_certificate.specs.declared.fault.LineFault.{LineFault}
use Rattle.pts_certificate.specs.declared.fault.LineFault.TheVariants.{BadLine, BadNumber}
use Rattle.pts_bytes.specs.Digits.{is_digits, value}
use Rattle.pts_certificate.specs.Text.{is_number, numbers}

-- What is known of the tests and of the number that a word writes plays no part.
module _ (digits fits : List ℕ → Bool) (worth : List ℕ → ℕ) where
  -- The numbers of the fields behind those that were found, where `fit` says whether all of those are numbers.
  abbrev pub behind : List ℕ → Bool → ℕ → List (List ℕ) → Result (List ℕ) LineFault
  behind found fit count [] = if not (length found == count) then Err BadLine else if not fit then Err BadNumber else Ok found
  behind found fit count (word ∷ rest) =
      if (length found == count) || not (digits word) then Err BadLine
      else behind (found ++ (if fits word then worth word else 0) ∷ []) (fit && fits word) count rest

  -- The same in one step.
  abbrev at_once : List ℕ → Bool → ℕ → List (List ℕ) → Result (List ℕ) LineFault
  at_once found fit count rest =
      if not ((length found + length rest == count) && list_all digits rest) then Err BadLine
      else if fit && list_all fits rest then Ok (found ++ map worth rest)
      else Err BadNumber

  one_more : (found : List ℕ) (fit : Bool) (count : ℕ) (word : List ℕ) (rest : List (List ℕ)) → digits word ≡ true →
      at_once (found ++ (if fits word then worth word else 0) ∷ []) (fit && fits word) count rest ≡ at_once found fit count (word ∷ rest)
  one_more found fit count word rest good =
      let sum : length (found ++ (if fits word then worth word else 0) ∷ []) + length rest ≡ length found + length (word ∷ rest) = omega (arith, length-append found ((if fits word then worth word else 0) ∷ [])) in
      let order : (found ++ worth word ∷ []) ++ map worth rest ≡ found ++ worth word ∷ map worth rest = append_assoc found (worth word ∷ []) (map worth rest) in
      grind (arith, sum, order, good)

  full : (found : List ℕ) (fit : Bool) (count : ℕ) (word : List ℕ) (rest : List (List ℕ)) → length found ≡ count → at_once found fit count (word ∷ rest) ≡ Err BadLine
  full found fit count word rest same = let more : (length found + length (word ∷ rest) == count) ≡ false = grind (arith, same) in grind (arith, more)

  bad : (found : List ℕ) (fit : Bool) (count : ℕ) (word : List ℕ) (rest : List (List ℕ)) → digits word ≡ false → at_once found fit count (word ∷ rest) ≡ Err BadLine
  bad found fit count word rest wrong = grind (arith, wrong)

  one_by_one : (found : List ℕ) (fit : Bool) (count : ℕ) (rest : List (List ℕ)) → behind found fit count rest ≡ at_once found fit count rest
  one_by_one found fit count [] = let none : length found + 0 ≡ length found = omega arith in grind (arith, none, append-nil found)
  one_by_one found fit count (word ∷ rest) =
      grind (arith, full found fit count word rest, bad found fit count word rest, one_more found fit count word rest, one_by_one (found ++ (if fits word then worth word else 0) ∷ []) (fit && fits word) count rest)

pub all_behind : (count : ℕ) (fields : List (List ℕ)) → behind is_digits is_number value [] true count fields ≡ numbers count fields
unfolding numbers
all_behind count fields = let none : 0 + length fields ≡ length fields = omega arith in one_by_one is_digits is_number value [] true count fields ∙ ap (λ n. if not ((n == count) && list_all is_digits fields) then Err BadLine else if list_all is_number fields then Ok (map value fields) else Err BadNumber) none
