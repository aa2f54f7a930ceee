-- Where a name is found in a front.
use Rattle.std.proofs.Common.{List, [], ◌∷◌, ◌++◌, ◌⊎◌, ◌≡◌, arith, Some}
use Rattle.pts_names.specs.Name.{Name}
use Rattle.pts_ctx.specs.Front.{Global, find, Fresh}
use Rattle.pts_names.proofs.Same.{same_name-true, same_name-self}

pub some_same : {A : Type 0} {a b : A} → Some a ≡ Some b → a ≡ b
some_same p = cc p

-- An entry stays where it is in a longer front.
pub find_before : {B : Type 0} (x : Name) (G M : List (Global B)) (e : Global B) → find x G ≡ Some e → find x (G ++ M) ≡ Some e
unfolding find
find_before x [] M e h = grind arith
find_before x (d ∷ G) M e h = grind (arith, find_before x G M e)

-- An entry with a fresh name is found at the end.
pub find_last : {B : Type 0} (x : Name) (G : List (Global B)) (e : Global B) → Fresh x G → x ≡ e.name → find x (G ++ e ∷ []) ≡ Some e
unfolding find
find_last x [] e f p = grind (arith, same_name-self x)
find_last x (d ∷ G) e f p = grind (arith, find_last x G e)

-- What is found is found before the last entry, or is the last entry.
pub find_split : {B : Type 0} (x : Name) (G : List (Global B)) (e f : Global B) → find x (G ++ e ∷ []) ≡ Some f → (find x G ≡ Some f) ⊎ ((x ≡ e.name) × (f ≡ e))
unfolding find
find_split x [] e f h = grind (arith, same_name-true x e.name)
find_split x (d ∷ G) e f h = grind (arith, find_split x G e f)
