-- Lists that grow, of which each element is as it should be.
use Rattle.std.proofs.Common.{◌≡◌, List, [], ◌∷◌, ◌++◌, ◌+◌, length, ap, arith, length-append}
use Rattle.std.specs.List.{AllByRecursion}

pub all_push : {X : Type 0} (P : X → Type 0) (xs : List X) (x : X) → AllByRecursion P xs → P x → AllByRecursion P (xs ++ x ∷ [])
all_push P [] x all own = (own, tt)
all_push P (y ∷ xs) x all own = (all.0, all_push P xs x all.1 own)

pub all_true : {X : Type 0} (xs : List X) → AllByRecursion (λ _. Unit {0}) xs
all_true [] = tt
all_true (x ∷ xs) = (tt, all_true xs)

pub one_longer : {X : Type 0} (xs ys : List X) (x : X) → ys ≡ xs ++ x ∷ [] → length ys ≡ length xs + 1
one_longer xs ys x e = omega (arith, ap length e, length-append xs (x ∷ []))
