-- A list at the place of one of its items.
use Rattle.std.proofs.Common.{◌≡◌, ℕ, zero, suc, ◌+◌, List, [], ◌∷◌, ◌++◌, take, drop, slice_get, Some, None, refl, sym, ap, ◌∙◌, arith}

next : (i : ℕ) → i + 1 ≡ suc i
next i = omega arith

around_suc : {A : Type 0} (xs : List A) (i : ℕ) (x : A) → slice_get xs i ≡ Some x → take i xs ++ x ∷ drop (suc i) xs ≡ xs
around_suc [] i x at = absurd (cc at)
around_suc (y ∷ ys) zero x at = let e : x ≡ y = cc at in ap (λ z. z ∷ ys) e
around_suc (y ∷ ys) (suc i) x at = ap (λ zs. y ∷ zs) (around_suc ys i x at)

-- The items before a place, the one there, and those behind it.
pub around : {A : Type 0} (xs : List A) (i : ℕ) (x : A) → slice_get xs i ≡ Some x → take i xs ++ x ∷ drop (i + 1) xs ≡ xs
around xs i x at = ap (λ n. take i xs ++ x ∷ drop n xs) (next i) ∙ around_suc xs i x at

take_suc : {A : Type 0} (xs : List A) (i : ℕ) (x : A) → slice_get xs i ≡ Some x → take (suc i) xs ≡ take i xs ++ x ∷ []
take_suc [] i x at = absurd (cc at)
take_suc (y ∷ ys) zero x at = let e : y ≡ x = cc at in ap (λ z. z ∷ []) e
take_suc (y ∷ ys) (suc i) x at = ap (λ zs. y ∷ zs) (take_suc ys i x at)

pub take-next : {A : Type 0} (xs : List A) (i : ℕ) (x : A) → slice_get xs i ≡ Some x → take (i + 1) xs ≡ take i xs ++ x ∷ []
take-next xs i x at = ap (λ n. take n xs) (next i) ∙ take_suc xs i x at

drop_suc : {A : Type 0} (xs : List A) (i : ℕ) (x : A) → slice_get xs i ≡ Some x → drop i xs ≡ x ∷ drop (suc i) xs
drop_suc [] i x at = absurd (cc at)
drop_suc (y ∷ ys) zero x at = let e : y ≡ x = cc at in ap (λ z. z ∷ ys) e
drop_suc (y ∷ ys) (suc i) x at = drop_suc ys i x at

pub drop-at : {A : Type 0} (xs : List A) (i : ℕ) (x : A) → slice_get xs i ≡ Some x → drop i xs ≡ x ∷ drop (i + 1) xs
drop-at xs i x at = drop_suc xs i x at ∙ ap (λ n. x ∷ drop n xs) (sym (next i))

pub drop-past : {A : Type 0} (xs : List A) (i : ℕ) → slice_get xs i ≡ None → drop i xs ≡ []
drop-past [] zero at = refl
drop-past [] (suc i) at = refl
drop-past (y ∷ ys) zero at = absurd (cc at)
drop-past (y ∷ ys) (suc i) at = drop-past ys i at
