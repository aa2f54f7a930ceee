-- Histories that several owners add to. Each entry has the number of its owner.
use Rattle.std.specs.Prelude.{◌≡◌, ◌≢◌, ℕ, List, ◌++◌}
use Rattle.std.specs.List.{AllByRecursion}
use Rattle.pts_names.specs.Lists.{In}

module _ {E : Type 0} where
  -- The history begins with what the owner has seen of it, and no entry after that is the owner's.
  abbrev pub SawItsOwn : ℕ → (seen now : List (ℕ × E)) → Type 0
  SawItsOwn owner seen now = (rest : List (ℕ × E)) × (seen ++ rest ≡ now) × AllByRecursion (λ e. e.0 ≢ owner) rest

  -- The history begins with the opening one, and each entry after that is one of these owners'.
  abbrev pub AddedBy : List ℕ → (opening now : List (ℕ × E)) → Type 0
  AddedBy owners opening now = (rest : List (ℕ × E)) × (opening ++ rest ≡ now) × AllByRecursion (λ e. In e.0 owners) rest
