-- What parts of the printer do.
use Rattle.std.specs.Prelude.{ℕ, List, [], ◌∷◌, ◌++◌, Bool, false, map}
use Rattle.std.specs.Borrow.{Bor}
use Rattle.pts_names.specs.Name.{Name}

-- The first flag of a list, and what is left without it.
abbrev pub first_or_false : List Bool → Bool
first_or_false [] = false
first_or_false (b ∷ bs) = b

abbrev pub without_first : {A : Type 0} → List A → List A
without_first [] = []
without_first (x ∷ L) = L

-- Names that may not be chosen: those of variables, and constants.
pub record Forbidden : Type 0 where
  pub variables : List Name
  pub constants : List Name

abbrev pub forbidden : Forbidden → List Name
forbidden F = F.variables ++ F.constants

-- What references to texts lead to.
abbrev pub texts : List (Bor (List ℕ)) → List (List ℕ)
texts rs = map (λ r. r.now) rs
