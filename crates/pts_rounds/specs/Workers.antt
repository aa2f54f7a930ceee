-- What a round leaves of its workers.
use Rattle.std.specs.Prelude.{ℕ, ◌<◌, ◌≡◌, List, [], ◌∷◌, length, slice_index_or}

-- There are as many as before, and each is what its own run leaves of it.
abbrev pub EachRan : {W : Type 0} → (W → W → Type 0) → List W → List W → Type 0
EachRan ran [] [] = Unit {0}
EachRan ran [] (w ∷ after) = ⊥
EachRan ran (v ∷ before) [] = ⊥
EachRan ran (v ∷ before) (w ∷ after) = ran v w × EachRan ran before after

-- The same, said place by place.
abbrev pub RanByPlace : {W : Type 0} → (W → W → Type 0) → List W → List W → Type 0
RanByPlace {W} ran before after = (length after ≡ length before) × ((k : ℕ) (d : W) → k < length before → ran (slice_index_or before k d) (slice_index_or after k d))
