-- A prefix of a legal front is legal.
use Rattle.std.proofs.Common.{List, [], ◌∷◌, ◌++◌, ◌⊎◌, ◌≡◌, refl, sym, ap, ◌∙◌, append-nil}
use mathlib.Core.Logic.{inl, inr}
use mathlib.Core.Path.{subst}
use Rattle.pts_ctx.specs.System.{Specification}
use Rattle.pts_ctx.specs.Front.{Front, assumption, definition}
use Rattle.pts_rules.specs.Derives.{Legal, legal_empty, legal_assumption, legal_definition}

rest_same : {A : Type 0} (x y : A) (xs ys : List A) → x ∷ xs ≡ y ∷ ys → xs ≡ ys
rest_same x y xs ys p = cc p

head_same : {A : Type 0} (x y : A) (xs ys : List A) → x ∷ xs ≡ y ∷ ys → x ≡ y
head_same x y xs ys p = cc p

nothing_left : {A : Type 0} (xs ys : List A) → [] ≡ xs ++ ys → (xs ≡ []) × (ys ≡ [])
nothing_left [] ys p = (refl, sym p)
nothing_left (x ∷ xs) ys p = absurd (cc p)

-- Where a list with a last item is cut in two, the second part is empty or has that item.
cut_before : {A : Type 0} (xs : List A) (x : A) (ys zs : List A) → xs ++ x ∷ [] ≡ ys ++ zs → (zs ≡ []) ⊎ ((us : List A) × (xs ≡ ys ++ us))
cut_before xs x [] zs p = inr (xs, refl)
cut_before [] x (y ∷ ys) zs p = inl (nothing_left ys zs (rest_same x y [] (ys ++ zs) p)).1
cut_before {A = A} (w ∷ xs) x (y ∷ ys) zs p = longer (cut_before xs x ys zs (rest_same w y (xs ++ x ∷ []) (ys ++ zs) p))
  where
    longer : (zs ≡ []) ⊎ ((us : List A) × (xs ≡ ys ++ us)) → (zs ≡ []) ⊎ ((us : List A) × (w ∷ xs ≡ y ∷ ys ++ us))
    longer (inl e) = inl e
    longer (inr (us, e)) = inr (us, cc (head_same w y (xs ++ x ∷ []) (ys ++ zs) p, e))

either : {A B C : Type 0} → (A → C) → (B → C) → A ⊎ B → C
either f g (inl a) = f a
either f g (inr b) = g b

whole : {S : Specification} (H G M : Front) → H ≡ G ++ M → Legal S H → M ≡ [] → Legal S G
whole {S} H G M p l e = subst (Legal S) (p ∙ ap (λ N. G ++ N) e ∙ append-nil G) l

cut_legal : {S : Specification} {H : Front} (G M : Front) → H ≡ G ++ M → Legal S H → Legal S G
cut_legal {S} G M p legal_empty = rw (nothing_left G M p).0 legal_empty
cut_legal {S} G M p (legal_assumption x {G = K} {A = A} l f d) =
    either (whole (K ++ assumption x A ∷ []) G M p (legal_assumption x l f d)) (λ u. cut_legal G u.0 u.1 l) (cut_before K (assumption x A) G M p)
cut_legal {S} G M p (legal_definition x {G = K} {a = a} {A = A} l f d) =
    either (whole (K ++ definition x a A ∷ []) G M p (legal_definition x l f d)) (λ u. cut_legal G u.0 u.1 l) (cut_before K (definition x a A) G M p)

pub prefix_legal : (S : Specification) (G M : Front) → Legal S (G ++ M) → Legal S G
prefix_legal S G M l = cut_legal G M refl l
