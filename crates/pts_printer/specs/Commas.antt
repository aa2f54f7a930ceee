-- The hypotheses of a goal, as they are written one after the other.
use Rattle.std.specs.Prelude.{ℕ, zero, suc, List, [], ◌∷◌, ◌++◌, codes}

-- What stands before the hypothesis at a place.
abbrev pub separator : ℕ → List ℕ
separator zero = []
separator (suc n) = codes ", "

-- The hypotheses from a place on.
abbrev pub commas : ℕ → List (List ℕ) → List ℕ
commas n [] = []
commas n (h ∷ hs) = separator n ++ (h ++ commas (suc n) hs)

-- What stands before the statement, where there are hypotheses or none.
abbrev pub turnstile : {A : Type 0} → List A → List ℕ
turnstile [] = codes "|- "
turnstile (x ∷ xs) = codes " |- "
