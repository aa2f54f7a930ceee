-- The first place at which a test passes, one item at a time.
use Rattle.std.proofs.Common.{◌≡◌, ℕ, zero, suc, ◌+◌, ◌<◌, ◌≤◌, Bool, true, false, not, cond, if◌then◌else◌, nat_lt, List, [], ◌∷◌, ◌++◌, map, length, take, position, Option, Some, None, refl, sym, ap, ◌∙◌, arith}
use Rattle.std.specs.List.{AllByRecursion, position_from, position_or_len}
use Rattle.std.proofs.lemmas.Iterator.Adapters.{position_from-zero}
use Rattle.std.specs.Option.{option_map, option_or}
use Rattle.std.proofs.lemmas.Bool.Decides.{nat_tests}

placed : Bool → ℕ → ℕ → Option ℕ
placed b m n = cond (nat_lt (cond (not b) (1 + m) 0) (suc n)) (Some (cond (not b) (1 + m) 0)) None

placed-is : (b : Bool) (m n : ℕ) → placed b m n ≡ (if b then Some 0 else option_map suc (cond (nat_lt m n) (Some m) None))
unfolding placed
placed-is true m n = grind (arith, nat_tests)
placed-is false m n = grind (arith, nat_tests)

pub position-step : {A : Type 0} (p : A → Bool) (x : A) (xs : List A) → position p (x ∷ xs) ≡ (if p x then Some 0 else option_map suc (position p xs))
unfolding placed
position-step p x xs = placed-is (p x) (position_or_len p xs) (length xs)

pub position-map : {A B : Type 0} (p : B → Bool) (f : A → B) (xs : List A) → position p (map f xs) ≡ position (λ x. p (f x)) xs
position-map p f [] = refl
position-map p f (x ∷ xs) =
    position-step p (f x) (map f xs) ∙ (ap (λ r. if p (f x) then Some 0 else option_map suc r) (position-map p f xs) ∙ sym (position-step (λ y. p (f y)) x xs))

pub position-alike : {A : Type 0} (p q : A → Bool) → ((x : A) → p x ≡ q x) → (xs : List A) → position p xs ≡ position q xs
position-alike p q same xs = ap (λ t. position t xs) (λ j y. same y j)

stepped : (a b : Bool) (n : ℕ) (r : Option ℕ)
    → (if a then Some 0 else option_map suc (option_or r (if b then Some n else None))) ≡ option_or (if a then Some 0 else option_map suc r) (if b then Some (suc n) else None)
stepped true b n r = refl
stepped false true n None = refl
stepped false false n None = refl
stepped false b n (Some k) = refl

-- With an item behind the others.
pub position-behind : {A : Type 0} (p : A → Bool) (xs : List A) (x : A) → position p (xs ++ x ∷ []) ≡ option_or (position p xs) (if p x then Some (length xs) else None)
position-behind p [] x = position-step p x []
position-behind p (y ∷ ys) x =
    position-step p y (ys ++ x ∷ [])
    ∙ (ap (λ r. if p y then Some 0 else option_map suc r) (position-behind p ys x)
    ∙ (stepped (p y) (p x) (length ys) (position p ys)
    ∙ ap (λ r. option_or r (if p x then Some (suc (length ys)) else None)) (sym (position-step p y ys))))

-- Two tests that agree on every item.
pub position-agree : {A : Type 0} (p q : A → Bool) (xs : List A) → AllByRecursion (λ x. p x ≡ q x) xs → position p xs ≡ position q xs
position-agree p q [] same = refl
position-agree p q (x ∷ xs) same =
    position-step p x xs ∙ ((λ j. if same.0 j then Some 0 else option_map suc (position-agree p q xs same.1 j)) ∙ sym (position-step q x xs))

pub position_from_start : {A : Type 0} (p : A → Bool) (xs : List A) → position_from p 0 xs ≡ position p xs
position_from_start p xs = sym (position_from-zero p xs)

-- The place in the first items of a list: the place in the list, where it is among them.
abbrev below : ℕ → Option ℕ → Option ℕ
below n None = None
below n (Some k) = if nat_lt k n then Some k else None

below-next : (n : ℕ) (r : Option ℕ) → option_map suc (below n r) ≡ below (suc n) (option_map suc r)
below-next n None = refl
below-next n (Some k) = by (nat_lt k n) refl
  where
    by : (b : Bool) → nat_lt k n ≡ b → option_map suc (if b then Some k else None) ≡ (if nat_lt (suc k) (suc n) then Some (suc k) else None)
    by true e = grind (arith, e)
    by false e = grind (arith, e)

first-none : {A : Type 0} (p : A → Bool) (n : ℕ) → position p (take n []) ≡ None
first-none p zero = refl
first-none p (suc n) = refl

below-zero : (r : Option ℕ) → None ≡ below 0 r
below-zero None = refl
below-zero (Some k) = grind arith

below-first : (n : ℕ) → Some 0 ≡ below (suc n) (Some 0)
below-first n = grind arith

position_take : {A : Type 0} (p : A → Bool) (n : ℕ) (xs : List A) → position p (take n xs) ≡ below n (position p xs)
position_take p n [] = first-none p n
position_take p zero (x ∷ xs) = below-zero (position p (x ∷ xs))
position_take p (suc n) (x ∷ xs) =
    position-step p x (take n xs)
    ∙ (by (p x) (position_take p n xs) ∙ ap (below (suc n)) (sym (position-step p x xs)))
  where
    by : (b : Bool) → position p (take n xs) ≡ below n (position p xs)
        → (if b then Some 0 else option_map suc (position p (take n xs))) ≡ below (suc n) (if b then Some 0 else option_map suc (position p xs))
    by true rest = below-first n
    by false rest = ap (option_map suc) rest ∙ below-next n (position p xs)

pub position-inside : {A : Type 0} (p : A → Bool) (n : ℕ) (xs : List A) (k : ℕ) → position p xs ≡ Some k → k < n → position p (take n xs) ≡ Some k
position-inside p n xs k at inside = position_take p n xs ∙ (ap (below n) at ∙ grind (arith, inside))

pub position-outside : {A : Type 0} (p : A → Bool) (n : ℕ) (xs : List A) (k : ℕ) → position p xs ≡ Some k → n ≤ k → position p (take n xs) ≡ None
position-outside p n xs k at outside = position_take p n xs ∙ (ap (below n) at ∙ grind (arith, outside))

pub position-absent : {A : Type 0} (p : A → Bool) (n : ℕ) (xs : List A) → position p xs ≡ None → position p (take n xs) ≡ None
position-absent p n xs at = position_take p n xs ∙ ap (below n) at
