-- Numbers are the least, and the names of locals are told apart.
use Rattle.std.proofs.Common.{ℕ, zero, suc, ◌+◌, ◌^◌, ◌<◌, ◌≤◌, ◌≡◌, refl, sym, ◌∙◌, ap, List, [], ◌∷◌, ◌++◌, Bool, true, false, cond, ◌||◌, nat_lt, length, arith}
use Rattle.std.specs.Prelude.{decimal}
use Rattle.std.specs.List.{AllByRecursion}
use Rattle.std.proofs.lemmas.Bool.{ltb-true, ltb-false}
use Rattle.std.proofs.lemmas.List.{length-append}
use Rattle.pts_names.specs.Name.{Name, same_name, is_identifier}
use Rattle.pts_names.proofs.Same.{same_name-self}
use Rattle.pts_printed.specs.Choice.{is_among, numbered, allowed, choice}
use Rattle.pts_printed.specs.Locals.{named_locals}
use Rattle.pts_printed.specs.Laws.{IsName, AreApart, NumbersAreLeast, LocalsAreToldApart}
use Rattle.pts_printed.proofs.Found.{among_front, among_back, or_true}
use Rattle.pts_printed.proofs.Chosen.{allowed_free, among_apart, choice_free, choice_is_name}
use Rattle.pts_printed.proofs.Over.{among_split, same_length}

-- The number that is taken, where n is the first that is tried: all before it are forbidden.
record Taken (n more : ℕ) (x : Name) (F : List Name) : Type 0 where
  number : ℕ
  from_first : n ≤ number
  is_taken : numbered n more x F ≡ x ++ decimal number
  before : (j : ℕ) → n ≤ j → j < number → is_among (x ++ decimal j) F ≡ true

taken : (more n : ℕ) (x : Name) (F : List Name) → Taken n more x F
taken zero n x F = record { number = n; from_first = omega arith; is_taken = refl; before = λ j a b. absurd (omega arith) }
taken (suc more) n x F = by (is_among (x ++ decimal n) F) refl (taken more (suc n) x F)
  where
    at_or_behind : (t : Taken (suc n) more x F) → is_among (x ++ decimal n) F ≡ true → (j : ℕ) → n ≤ j → j < t.number → is_among (x ++ decimal j) F ≡ true
    at_or_behind t e j a b = split (nat_lt n j) refl
      where
        split : (c : Bool) → nat_lt n j ≡ c → is_among (x ++ decimal j) F ≡ true
        split true l = let more = ltb-true n j l in t.before j (omega arith) b
        split false l = let less = ltb-false n j l in ap (λ k. is_among (x ++ decimal k) F) (let same : j ≡ n = omega arith in same) ∙ e

    by : (c : Bool) → is_among (x ++ decimal n) F ≡ c → Taken (suc n) more x F → Taken n (suc more) x F
    by true e t =
        let first = t.from_first in
        record { number = t.number; from_first = omega arith; is_taken = ap (λ b. cond b (numbered (suc n) more x F) (x ++ decimal n)) e ∙ t.is_taken; before = at_or_behind t e }
    by false e t = record { number = n; from_first = omega arith; is_taken = ap (λ b. cond b (numbered (suc n) more x F) (x ++ decimal n)) e; before = λ j a b. absurd (omega arith) }

pub numbers_least : NumbersAreLeast
numbers_least x F few e =
    let t = taken (length F) 1 x F in
    let is : allowed x F ≡ x ++ decimal t.number = ap (λ b. cond b (numbered 1 (length F) x F) x) e ∙ t.is_taken in
    (t.number, t.from_first, is, ap (λ y. is_among y F) (sym is) ∙ allowed_free x F (omega arith), t.before)

-- A name that was chosen before, or is a constant, is not chosen again.
module _ (cs : List Name) where
  not_again : (z : Name) (done : List Name) (xs : List (Name × Bool)) → length done + length xs + length cs < 10 ^ 63 → is_among z done ≡ true → is_among z (named_locals cs done xs) ≡ false
  not_again z done [] b among = refl
  not_again z done (x ∷ xs) b among =
      let y = choice x.0 x.1 (done ++ cs) in
      let l = length-append done cs in
      let m = length-append done (y ∷ []) in
      let free = (among_split y done cs (choice_free x.0 x.1 (done ++ cs) (omega arith))).0 in
      ap (λ a. a || is_among z (named_locals cs (done ++ y ∷ []) xs)) (among_apart z y done among free)
      ∙ not_again z (done ++ y ∷ []) xs (omega arith) (among_front z done (y ∷ []) among)

  names_apart : (done : List Name) (xs : List (Name × Bool)) → length done + length xs + length cs < 10 ^ 63 → AreApart (named_locals cs done xs)
  names_apart done [] b = tt
  names_apart done (x ∷ xs) b =
      let y = choice x.0 x.1 (done ++ cs) in
      let m = length-append done (y ∷ []) in
      (not_again y (done ++ y ∷ []) xs (omega arith) (among_back y done (y ∷ []) (or_true (same_name y y) false (same_name-self y))), names_apart (done ++ y ∷ []) xs (omega arith))

  names_good : (done : List Name) (xs : List (Name × Bool)) → AllByRecursion (λ x. IsName x.0) xs → length done + length xs + length cs < 10 ^ 63 → AllByRecursion (λ y. IsName y × (is_identifier y ≡ true) × (is_among y cs ≡ false)) (named_locals cs done xs)
  names_good done [] all b = tt
  names_good done (x ∷ xs) all b =
      let y = choice x.0 x.1 (done ++ cs) in
      let l = length-append done cs in
      let m = length-append done (y ∷ []) in
      let name = choice_is_name x.0 x.1 (done ++ cs) (omega arith) all.0.0 in
      let free = (among_split y done cs (choice_free x.0 x.1 (done ++ cs) (omega arith))).1 in
      ((name.0, name.1, free), names_good (done ++ y ∷ []) xs all.1 (omega arith))

pub locals_apart : LocalsAreToldApart
locals_apart cs xs all b = (same_length cs [] xs, names_good cs [] xs all (omega arith), names_apart cs [] xs (omega arith))
