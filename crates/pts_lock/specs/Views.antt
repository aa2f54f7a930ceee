-- What a seat knows: its owners with the histories that they have seen, its ticket, and its turn.
use Rattle.std.specs.Prelude.{◌≡◌, ◌⊎◌, ℕ, List, [], ◌∷◌, ◌++◌, length, Option, Some, None}
use Rattle.std.specs.List.{AllByRecursion}
use Rattle.pts_lock.specs.declared.seat.View.{View}
use Rattle.pts_lock.specs.Histories.{SawItsOwn}

module _ {E : Type 0} where
  abbrev pub view : List (ℕ × List (ℕ × E)) → Option ℕ → Option (List (ℕ × E)) → View E
  view pairs ticket turn = record { pairs = pairs; ticket = ticket; turn = turn }

  abbrev pub view_with : View E → Option ℕ → Option (List (ℕ × E)) → View E
  view_with v ticket turn = view v.pairs ticket turn

  -- One of the pairs has this owner.
  abbrev pub Owns : ℕ → List (ℕ × List (ℕ × E)) → Type 0
  Owns n [] = ⊥
  Owns n (p ∷ ps) = (p.0 ≡ n) ⊎ Owns n ps

  -- No owner has two pairs.
  abbrev pub OwnersDiffer : List (ℕ × List (ℕ × E)) → Type 0
  OwnersDiffer [] = Unit {0}
  OwnersDiffer (p ∷ ps) = (¬ Owns p.0 ps) × OwnersDiffer ps

  -- The history begins with what each owner has seen of it, and no entry after that is this owner's.
  abbrev pub EachSawItsOwn : List (ℕ × List (ℕ × E)) → List (ℕ × E) → Type 0
  EachSawItsOwn [] now = Unit {0}
  EachSawItsOwn (p ∷ ps) now = SawItsOwn p.0 p.1 now × EachSawItsOwn ps now

  abbrev pub BeginsWith : (seen now : List (ℕ × E)) → Type 0
  BeginsWith seen now = (rest : List (ℕ × E)) × (seen ++ rest ≡ now)

  -- The history begins with what each owner has seen.
  abbrev pub BeginsWithEach : List (ℕ × List (ℕ × E)) → List (ℕ × E) → Type 0
  BeginsWithEach [] now = Unit {0}
  BeginsWithEach (p ∷ ps) now = BeginsWith p.1 now × BeginsWithEach ps now

  -- At the beginning each of the owners has seen this history.
  abbrev pub opening_pairs : List (ℕ × E) → List ℕ → List (ℕ × List (ℕ × E))
  opening_pairs now [] = []
  opening_pairs now (n ∷ ns) = (n, now) ∷ opening_pairs now ns

  -- The same owners, each having seen this history.
  abbrev pub with_seen : List (ℕ × E) → List (ℕ × List (ℕ × E)) → List (ℕ × List (ℕ × E))
  with_seen now [] = []
  with_seen now (p ∷ ps) = (p.0, now) ∷ with_seen now ps

  -- The first pair, and the others.
  abbrev pub first_pair : List (ℕ × List (ℕ × E)) → List (ℕ × List (ℕ × E))
  first_pair [] = []
  first_pair (p ∷ ps) = p ∷ []

  abbrev pub other_pairs : List (ℕ × List (ℕ × E)) → List (ℕ × List (ℕ × E))
  other_pairs [] = []
  other_pairs (p ∷ ps) = ps

  -- The history is the one that was taken, with entries of the seat's owners after it.
  abbrev pub GrewTo : Option (List (ℕ × E)) → List (ℕ × List (ℕ × E)) → List (ℕ × E) → Type 0
  GrewTo None pairs now = ⊥
  GrewTo (Some old) pairs now = (mine : List (ℕ × E)) × (old ++ mine ≡ now) × AllByRecursion (λ e. Owns e.0 pairs) mine

  -- A history was taken, and has this length.
  abbrev pub HasLength : Option (List (ℕ × E)) → ℕ → Type 0
  HasLength None n = ⊥
  HasLength (Some old) n = n ≡ length old
