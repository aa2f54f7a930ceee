-- The test of two names decides whether they are one, and it is std's test of two texts.
use Rattle.std.proofs.Common.{◌≡◌, refl, sym, ◌∙◌, ap, [], ◌∷◌, true, nat_eq, arith}
use Rattle.std.specs.Prelude.{◌&&◌, ◌==◌}
use Rattle.std.specs.Cmp.Lexicographic.{pointwise, same_text}
use Rattle.pts_names.specs.Name.{Name, same_name}

pub same_name-pointwise : (x y : Name) → same_name x y ≡ pointwise nat_eq x y
same_name-pointwise [] [] = refl
same_name-pointwise [] (c ∷ y) = refl
same_name-pointwise (b ∷ x) [] = refl
same_name-pointwise (b ∷ x) (c ∷ y) = ap (λ rest. (b == c) && rest) (same_name-pointwise x y)

pub same_name-true : (x y : Name) → same_name x y ≡ true → x ≡ y
same_name-true x y same = same_text x y (sym same ∙ same_name-pointwise x y)

pub same_name-self : (x : Name) → same_name x x ≡ true
same_name-self [] = refl
same_name-self (b ∷ x) = grind (arith, same_name-self x)

pub same_name-from_equal : (x y : Name) → x ≡ y → same_name x y ≡ true
same_name-from_equal x y e = ap (same_name x) (sym e) ∙ same_name-self x
