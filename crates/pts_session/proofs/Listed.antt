-- A list from a place on, item by item.
use Rattle.std.proofs.Common.{◌≡◌, ◌≤◌, ◌+◌, ℕ, zero, suc, List, [], ◌∷◌, ◌++◌, length, map, take, drop, slice_get, Some, refl, sym, ap, ◌∙◌, arith}
use Rattle.std.proofs.lemmas.List.{map-append}

next : (i : ℕ) → i + 1 ≡ suc i
next i = omega arith

drop_next : {A : Type 0} (from place : ℕ) (xs : List A) (x : A) → from ≤ place → slice_get xs place ≡ Some x → drop from (take (suc place) xs) ≡ drop from (take place xs) ++ x ∷ []
drop_next from place [] x l at = absurd (cc at)
drop_next zero zero (y ∷ ys) x l at = let e : y ≡ x = cc at in ap (λ z. z ∷ []) e
drop_next zero (suc place) (y ∷ ys) x l at = ap (λ zs. y ∷ zs) (drop_next zero place ys x (omega arith) at)
drop_next (suc from) zero (y ∷ ys) x l at = absurd (omega (arith, l))
drop_next (suc from) (suc place) (y ∷ ys) x l at = drop_next from place ys x (omega (arith, l)) at

pub drop_none : {A : Type 0} (n : ℕ) (xs : List A) → drop n (take n xs) ≡ []
drop_none zero xs = refl
drop_none (suc n) [] = refl
drop_none (suc n) (x ∷ xs) = drop_none n xs

take_whole : {A : Type 0} (xs : List A) → take (length xs) xs ≡ xs
take_whole [] = refl
take_whole (x ∷ xs) = ap (λ l. x ∷ l) (take_whole xs)

pub shown_none : {A B : Type 0} (f : A → B) (n : ℕ) (xs : List A) → [] ≡ map f (drop n (take n xs))
shown_none f n xs = sym (ap (map f) (drop_none n xs))

pub shown_next : {A B : Type 0} (f : A → B) (from place : ℕ) (xs : List A) (x : A) (old new : List B) → from ≤ place → slice_get xs place ≡ Some x → old ≡ map f (drop from (take place xs)) → new ≡ old ++ f x ∷ [] → new ≡ map f (drop from (take (place + 1) xs))
shown_next f from place xs x old new l at is more =
    more ∙ (ap (λ o. o ++ f x ∷ []) is ∙ (sym (map-append f (drop from (take place xs)) (x ∷ [])) ∙ (ap (map f) (sym (drop_next from place xs x l at)) ∙ ap (λ n. map f (drop from (take n xs))) (sym (next place)))))

pub shown_all : {A B : Type 0} (f : A → B) (from n : ℕ) (xs : List A) (out : List B) → n ≡ length xs → out ≡ map f (drop from (take n xs)) → out ≡ map f (drop from xs)
shown_all f from n xs out e is = is ∙ ap (λ l. map f (drop from l)) (ap (λ m. take m xs) e ∙ take_whole xs)
