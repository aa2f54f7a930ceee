-- No sort of a system stands twice.
use Rattle.std.proofs.Common.{ℕ, zero, suc, ◌+◌, ◌<◌, ◌≡◌, refl, sym, ◌∙◌, ap, List, [], ◌∷◌, Bool, true, false, cond, position, nat_lt, subst, Option, Some, None, length, get_or, arith}
use Rattle.std.specs.Option.{option_map}
use Rattle.std.proofs.lemmas.Bool.{ltb-true, ltb-false}
use Rattle.pts_names.specs.Name.{same_name}
use Rattle.pts_names.proofs.Same.{same_name-true, same_name-self}
use Rattle.pts_ctx.specs.System.{system_fault, or_system_fault, first_pair}
use Rattle.pts_ctx.specs.declared.system.SystemFault.{SystemFault}
use Rattle.pts_ctx.specs.declared.system.SystemFault.TheVariants.{DuplicateSort}
use Rattle.pts_ctx.proofs.Positions.{position-step}
use Rattle.pts_printed.specs.Laws.{SortsOfSystemsStandOnce}

no_fault : (a b : Option SystemFault) → or_system_fault a b ≡ None → (a ≡ None) × (b ≡ None)
no_fault None b e = (refl, e)
no_fault (Some w) b e = absurd (cc e)

no_pair : (p : Option (ℕ × ℕ)) → option_map (λ q. DuplicateSort q.0 q.1) p ≡ None → p ≡ None
no_pair None e = refl
no_pair (Some q) e = absurd (cc e)

-- Where no pair of names is one, the first is none of the others, and no pair of these is one.
first_alone : (k : ℕ) (x : List ℕ) (xs : List (List ℕ)) → first_pair same_name k (x ∷ xs) ≡ None → (position (same_name x) xs ≡ None) × (first_pair same_name (k + 1) xs ≡ None)
first_alone k x xs e = by (position (same_name x) xs) e
  where
    by : (o : Option ℕ) → ◌≡◌ {A = Option (ℕ × ℕ)} (elim o as (λ p. Option (ℕ × ℕ)) [ Some d ↦ Some (k, k + 1 + d) | None ↦ first_pair same_name (k + 1) xs ]) None → (o ≡ None) × (first_pair same_name (k + 1) xs ≡ None)
    by None e = (refl, e)
    by (Some d) e = absurd (cc e)

own_position : (k : ℕ) (xs : List (List ℕ)) (s : ℕ) → first_pair same_name k xs ≡ None → s < length xs → position (same_name (get_or xs s [])) xs ≡ Some s
own_position k [] s e l = absurd (omega arith)
own_position k (x ∷ xs) zero e l = position-step (same_name x) x xs ∙ ap (λ b. cond b (Some 0) (option_map suc (position (same_name x) xs))) (same_name-self x)
own_position k (x ∷ xs) (suc s) e l =
    let a = first_alone k x xs e in
    let h = own_position (k + 1) xs s a.1 (omega arith) in
    position-step (same_name (get_or xs s [])) x xs
    ∙ (ap (λ b. cond b (Some 0) (option_map suc (position (same_name (get_or xs s [])) xs))) (other (get_or xs s []) a.0 h)
    ∙ ap (option_map suc) h)
  where
    other : (z : List ℕ) → position (same_name x) xs ≡ None → position (same_name z) xs ≡ Some s → same_name z x ≡ false
    other z none some = by (same_name z x) refl
      where
        by : (b : Bool) → same_name z x ≡ b → b ≡ false
        by true q = absurd (let wrong : None ≡ Some s = sym none ∙ ap (λ y. position (same_name y) xs) (sym (same_name-true z x q)) ∙ some in cc wrong)
        by false q = refl

pub each_sort_once : SortsOfSystemsStandOnce
unfolding system_fault
each_sort_once w e s l =
    let a = no_fault _ _ e in
    let b = no_fault _ _ a.1 in
    own_position 0 w.sorts s (no_pair _ b.0) l

-- What holds below n and at n holds below n + 1.
pub up_to : (P : ℕ → Type 0) (n : ℕ) → ((s : ℕ) → s < n → P s) → P n → (s : ℕ) → s < n + 1 → P s
up_to P n below here s l = by (nat_lt s n) refl
  where
    by : (b : Bool) → nat_lt s n ≡ b → P s
    by true e = below s (ltb-true s n e)
    by false e = let more = ltb-false s n e in subst P (let same : n ≡ s = omega arith in same) here
