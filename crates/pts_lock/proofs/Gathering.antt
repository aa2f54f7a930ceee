-- One seat takes the owners of others, one after another.
use Rattle.std.proofs.Common.{◌≡◌, ◌⊎◌, inl, inr, ⊎_elim, ℕ, List, [], ◌∷◌, ◌++◌, length, arith, map, refl, sym, ap, ◌∙◌, subst}
use Rattle.std.specs.List.{AllByRecursion}
use Rattle.pts_names.specs.Lists.{In}
use Rattle.pts_lock.specs.Histories.{SawItsOwn}
use Rattle.pts_lock.specs.Views.{Owns, EachSawItsOwn}
use Rattle.pts_lock.specs.Seats.{first_history}

pub all_parts : {X : Type 0} (P : X → Type 0) (a b : List X) → AllByRecursion P (a ++ b) → AllByRecursion P a × AllByRecursion P b
all_parts P [] b h = (tt, h)
all_parts P (x ∷ a) b h = let r = all_parts P a b h.1 in ((h.0, r.0), r.1)

all_back : {X : Type 0} (P : X → Type 0) (a : List X) (x : X) → AllByRecursion P a → P x → AllByRecursion P (a ++ x ∷ [])
all_back P [] x h p = (p, tt)
all_back P (y ∷ a) x h p = (h.0, all_back P a x h.1 p)

in_parts : {X : Type 0} (owner : X → ℕ) (o : ℕ) (a : List X) (x : X) → In o (map owner (a ++ x ∷ [])) → In o (map owner a) ⊎ (owner x ≡ o)
in_parts owner o [] x (inl e) = inr e
in_parts owner o [] x (inr h) = absurd h
in_parts owner o (y ∷ a) x (inl e) = inl (inl e)
in_parts owner o (y ∷ a) x (inr h) = ⊎_elim (λ z. inl (inr z)) (λ z. inr z) (in_parts owner o a x h)

pub none_in : {X : Type 0} (owner : X → ℕ) (o : ℕ) (xs : List X) → length xs ≡ 0 → In o (map owner xs) → ⊥
none_in owner o [] e h = h
none_in owner o (x ∷ xs) e h = absurd (omega arith)

module _ {E : Type 0} where
  owns_front : (o : ℕ) (ps qs : List (ℕ × List (ℕ × E))) → Owns o ps → Owns o (ps ++ qs)
  owns_front o [] qs h = absurd h
  owns_front o (p ∷ ps) qs (inl e) = inl e
  owns_front o (p ∷ ps) qs (inr h) = inr (owns_front o ps qs h)

  owns_back : (ps : List (ℕ × List (ℕ × E))) (p : ℕ × List (ℕ × E)) → Owns p.0 (ps ++ p ∷ [])
  owns_back [] p = inl refl
  owns_back (q ∷ ps) p = inr (owns_back ps p)

  follow_parts : (ps : List (ℕ × List (ℕ × E))) (p : ℕ × List (ℕ × E)) (now : List (ℕ × E)) → EachSawItsOwn (ps ++ p ∷ []) now → EachSawItsOwn ps now × SawItsOwn p.0 p.1 now
  follow_parts [] p now h = (tt, h.0)
  follow_parts (q ∷ ps) p now h = let r = follow_parts ps p now h.1 in ((h.0, r.0), r.1)

  module _ {X : Type 0} (owner : X → ℕ) (pairs : X → List (ℕ × List (ℕ × E))) (x : X) (before left : List X) (ps qs : List (ℕ × List (ℕ × E)))
      (popped : before ≡ left ++ x ∷ []) (one : pairs x ≡ (owner x, first_history (pairs x)) ∷ []) (both : qs ≡ ps ++ pairs x) where
    pub owners_taken : (all : List X) → ((o : ℕ) → In o (map owner all) → Owns o ps ⊎ In o (map owner before)) → (o : ℕ) → In o (map owner all) → Owns o qs ⊎ In o (map owner left)
    owners_taken all known o i =
        let p : ℕ × List (ℕ × E) = (owner x, first_history (pairs x)) in
        let whole : qs ≡ ps ++ p ∷ [] = both ∙ ap (λ z. ps ++ z) one in
        ⊎_elim (λ h. inl (subst (Owns o) (sym whole) (owns_front o ps (p ∷ []) h)))
        (λ h. ⊎_elim (λ z. inr z) (λ e. inl (subst (λ m. Owns m qs) e (subst (Owns (owner x)) (sym whole) (owns_back ps p)))) (in_parts owner o left x (subst (λ z. In o (map owner z)) popped h)))
        (known o i)

    pub seen_taken : (P : List (ℕ × E) → Type 0) → ((now : List (ℕ × E)) → EachSawItsOwn ps now → AllByRecursion (λ s. SawItsOwn (owner s) (first_history (pairs s)) now) before → P now)
        → (now : List (ℕ × E)) → EachSawItsOwn qs now → AllByRecursion (λ s. SawItsOwn (owner s) (first_history (pairs s)) now) left → P now
    seen_taken P known now f a =
        let p : ℕ × List (ℕ × E) = (owner x, first_history (pairs x)) in
        let r = follow_parts ps p now (subst (λ z. EachSawItsOwn z now) (both ∙ ap (λ z. ps ++ z) one) f) in
        known now r.0 (subst (AllByRecursion (λ s. SawItsOwn (owner s) (first_history (pairs s)) now)) (sym popped) (all_back (λ s. SawItsOwn (owner s) (first_history (pairs s)) now) left x a r.1))
