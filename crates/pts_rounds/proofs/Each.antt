-- What holds at each place of two lists holds of each pair.
use Rattle.std.proofs.Common.{suc, List, [], ◌∷◌, arith}
use Rattle.std.specs.List.{All, AllByRecursion}
use Rattle.std.proofs.lemmas.List.Elements.{All-nil, All-cons}
use Rattle.pts_rounds.specs.Workers.{EachRan, RanByPlace}

pub all_by_place : {X : Type 0} (P : X → Type 0) (xs : List X) → AllByRecursion P xs → All P xs
all_by_place P [] all = All-nil P
all_by_place P (x ∷ xs) all = All-cons P x xs all.0 (all_by_place P xs all.1)

pub each_ran : {W : Type 0} (ran : W → W → Type 0) (before after : List W) → RanByPlace ran before after → EachRan ran before after
each_ran ran [] [] at = tt
each_ran ran [] (w ∷ after) at = let long = at.0 in absurd (omega (arith, long))
each_ran ran (v ∷ before) [] at = let long = at.0 in absurd (omega (arith, long))
each_ran ran (v ∷ before) (w ∷ after) at =
    let long = at.0 in
    (at.1 0 v (omega arith), each_ran ran before after (omega (arith, long), λ k d small. at.1 (suc k) d (omega (arith, small))))
