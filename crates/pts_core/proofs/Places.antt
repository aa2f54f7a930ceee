-- Where a name is in two fronts, one after the other.
use Rattle.std.proofs.Common.{◌≡◌, ◌<◌, ℕ, suc, ◌+◌, List, [], ◌∷◌, ◌++◌, length, position, Bool, true, false, if◌then◌else◌, Option, Some, None, refl, sym, ap, ◌∙◌, arith}
use Rattle.std.specs.Option.{option_map, option_or}
use Rattle.pts_names.specs.Name.{Name, same_name}
use Rattle.pts_ctx.specs.Front.{Global}
use Rattle.pts_ctx.specs.Seen.{place_of, IsPrefix}
use Rattle.pts_ctx.proofs.Positions.{position-step}

module _ {A : Type 0} (p : A → Bool) where
  shifted : (b : Bool) (o q : Option ℕ) (n : ℕ) → (if b then Some 0 else option_map suc (option_or o (option_map (λ j. n + j) q))) ≡ option_or (if b then Some 0 else option_map suc o) (option_map (λ j. suc n + j) q)
  shifted true o q n = refl
  shifted false (Some i) q n = refl
  shifted false None None n = refl
  shifted false None (Some j) n = ap Some (omega arith)

  from_zero : (q : Option ℕ) → q ≡ option_or None (option_map (λ j. 0 + j) q)
  from_zero None = refl
  from_zero (Some j) = ap Some (omega arith)

  position_both : (xs ys : List A) → position p (xs ++ ys) ≡ option_or (position p xs) (option_map (λ j. length xs + j) (position p ys))
  position_both [] ys = from_zero (position p ys)
  position_both (x ∷ xs) ys =
      position-step p x (xs ++ ys)
      ∙ (ap (λ r. if p x then Some 0 else option_map suc r) (position_both xs ys)
      ∙ (shifted (p x) (position p xs) (position p ys) (length xs)
      ∙ ap (λ r. option_or r (option_map (λ j. suc (length xs) + j) (position p ys))) (sym (position-step p x xs))))

pub place_both : (x : Name) (G D : List (Global Name)) → place_of x (G ++ D) ≡ option_or (place_of x G) (option_map (λ j. length G + j) (place_of x D))
place_both x G D = position_both (λ e. same_name x e.name) G D

or_none : {A : Type 0} (o q : Option A) → option_or o q ≡ None → (o ≡ None) × (q ≡ None)
or_none None q h = (refl, h)
or_none (Some a) q h = absurd (cc h)

map_none : {A B : Type 0} (f : A → B) (o : Option A) → option_map f o ≡ None → o ≡ None
map_none f None h = refl
map_none f (Some a) h = absurd (cc h)

map_some : {A B : Type 0} (f : A → B) (o : Option A) (b : B) → option_map f o ≡ Some b → (a : A) × (o ≡ Some a) × (f a ≡ b)
map_some f None b h = absurd (cc h)
map_some f (Some a) b h = (a, refl, cc h)

-- It is in neither, in the first, or in the second alone.
pub in_neither : (x : Name) (G D : List (Global Name)) → place_of x G ≡ None → place_of x D ≡ None → place_of x (G ++ D) ≡ None
in_neither x G D g d = place_both x G D ∙ (ap (λ o. option_or o (option_map (λ j. length G + j) (place_of x D))) g ∙ ap (λ o. option_map (λ j. length G + j) o) d)

pub in_first : (x : Name) (G D : List (Global Name)) (p : ℕ) → place_of x G ≡ Some p → place_of x (G ++ D) ≡ Some p
in_first x G D p g = place_both x G D ∙ ap (λ o. option_or o (option_map (λ j. length G + j) (place_of x D))) g

pub in_second : (x : Name) (G D : List (Global Name)) (j : ℕ) → place_of x G ≡ None → place_of x D ≡ Some j → place_of x (G ++ D) ≡ Some (length G + j)
in_second x G D j g d = place_both x G D ∙ (ap (λ o. option_or o (option_map (λ i. length G + i) (place_of x D))) g ∙ ap (λ o. option_map (λ i. length G + i) o) d)

pub not_in_parts : (x : Name) (G D : List (Global Name)) → place_of x (G ++ D) ≡ None → (place_of x G ≡ None) × (place_of x D ≡ None)
not_in_parts x G D h = let b = or_none (place_of x G) _ (sym (place_both x G D) ∙ h) in (b.0, map_none (λ j. length G + j) (place_of x D) b.1)

pub not_in_prefix : (x : Name) (F G : List (Global Name)) → IsPrefix F G → place_of x G ≡ None → place_of x F ≡ None
not_in_prefix x F G (M, e) h = (not_in_parts x F M (ap (place_of x) e ∙ h)).0

-- What is not in the first is in the second.
pub from_second : (x : Name) (F D : List (Global Name)) (p : ℕ) → place_of x F ≡ None → place_of x (F ++ D) ≡ Some p → (j : ℕ) × (place_of x D ≡ Some j) × (length F + j ≡ p)
from_second x F D p f h = map_some (λ j. length F + j) (place_of x D) p (sym (ap (λ o. option_or o (option_map (λ j. length F + j) (place_of x D))) f) ∙ (sym (place_both x F D) ∙ h))

stepped : (b : Bool) (o : Option ℕ) (j n : ℕ) → ((i : ℕ) → o ≡ Some i → i < n) → (if b then Some 0 else option_map suc o) ≡ Some j → j < suc n
stepped true o j n f h = let e : 0 ≡ j = cc h in omega (arith, e)
stepped false None j n f h = absurd (cc h)
stepped false (Some i) j n f h = let e : suc i ≡ j = cc h in let l = f i refl in omega (arith, e, l)

pub place_inside : (x : Name) (D : List (Global Name)) (j : ℕ) → place_of x D ≡ Some j → j < length D
place_inside x [] j h = absurd (cc h)
place_inside x (e ∷ D) j h = stepped (same_name x e.name) (place_of x D) j (length D) (λ i q. place_inside x D i q) (sym (position-step (λ d. same_name x d.name) e D) ∙ h)
