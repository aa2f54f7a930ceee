-- What is known of lines when one more comes.
use Rattle.std.proofs.Common.{◌≡◌, ℕ, zero, suc, ◌+◌, ◌<◌, Bool, true, false, if◌then◌else◌, nat_eq, List, [], ◌∷◌, ◌++◌, length, slice_get, slice_set, IfSome, Option, Some, None, refl, sym, ap, ◌∙◌, arith, subst}
use Rattle.std.specs.Option.{option_map, option_or, option_and_then}
use Rattle.pts_terms.specs.declared.term.Sort.{Sort}
use Rattle.pts_ctx.specs.System.{axiom_among, first_pair}
use Rattle.pts_ctx.specs.Tables.{table_at}
use Rattle.pts_ctx.specs.Firsts.{lines_clash, first_place, earlier, Knows}
use Rattle.pts_ctx.proofs.Positions.{position-step, position-behind}
use Rattle.pts_ctx.proofs.Clashes.{after, paired, equal-numbers, pair-behind, clash-none, clash-other, clash-same}

pub value-behind : (lines : List (ℕ × ℕ)) (s q k : ℕ) → axiom_among (lines ++ (s, q) ∷ []) k ≡ option_or (axiom_among lines k) (if nat_eq s k then Some q else None)
value-behind [] s q k = refl
value-behind (l ∷ lines) s q k = ap (λ r. if nat_eq l.0 k then Some l.1 else r) (value-behind lines s q k) ∙ by (nat_eq l.0 k)
  where
    by : (b : Bool) → (if b then Some l.1 else option_or (axiom_among lines k) (if nat_eq s k then Some q else None)) ≡ option_or (if b then Some l.1 else axiom_among lines k) (if nat_eq s k then Some q else None)
    by true = refl
    by false = refl

-- A left side has a first line where it has a value.
pub place-none : (lines : List (ℕ × ℕ)) (s : ℕ) → axiom_among lines s ≡ None → first_place lines s ≡ None
place-none [] s none = refl
place-none (l ∷ lines) s none = position-step (λ m. nat_eq m.0 s) l lines ∙ by (nat_eq l.0 s) none (λ h. place-none lines s h)
  where
    by : (b : Bool) → (if b then Some l.1 else axiom_among lines s) ≡ None → (axiom_among lines s ≡ None → first_place lines s ≡ None) → (if b then Some 0 else option_map suc (first_place lines s)) ≡ None
    by true h rest = absurd (cc h)
    by false h rest = ap (option_map suc) (rest h)

pub place-some : (lines : List (ℕ × ℕ)) (s r : ℕ) → axiom_among lines s ≡ Some r → (p : ℕ) × (first_place lines s ≡ Some p)
place-some [] s r found = absurd (cc found)
place-some (l ∷ lines) s r found =
    let here = by (nat_eq l.0 s) found (λ h. place-some lines s r h) in
    (here.0, position-step (λ m. nat_eq m.0 s) l lines ∙ here.1)
  where
    by : (b : Bool) → (if b then Some l.1 else axiom_among lines s) ≡ Some r → (axiom_among lines s ≡ Some r → (p : ℕ) × (first_place lines s ≡ Some p))
        → (p : ℕ) × ((if b then Some 0 else option_map suc (first_place lines s)) ≡ Some p)
    by true h rest = (0, refl)
    by false h rest = let there = rest h in (suc there.0, ap (option_map suc) there.1)

or-none : {A : Type 0} (r : Option A) → option_or r None ≡ r
or-none None = refl
or-none (Some x) = refl

-- A line behind a first one of the same left side changes neither values nor first places.
pub value-kept : (lines : List (ℕ × ℕ)) (s r q k : ℕ) → axiom_among lines s ≡ Some r → axiom_among (lines ++ (s, q) ∷ []) k ≡ axiom_among lines k
value-kept lines s r q k found = value-behind lines s q k ∙ by (nat_eq s k) refl
  where
    by : (b : Bool) → nat_eq s k ≡ b → option_or (axiom_among lines k) (if b then Some q else None) ≡ axiom_among lines k
    by true e =
        let at : axiom_among lines k ≡ Some r = ap (axiom_among lines) (sym (equal-numbers s k e)) ∙ found in
        ap (λ o. option_or o (Some q)) at ∙ sym at
    by false e = or-none (axiom_among lines k)

pub place-behind : (lines : List (ℕ × ℕ)) (s q k : ℕ) → first_place (lines ++ (s, q) ∷ []) k ≡ option_or (first_place lines k) (if nat_eq s k then Some (length lines) else None)
place-behind lines s q k = position-behind (λ l. nat_eq l.0 k) lines (s, q)

pub place-kept : (lines : List (ℕ × ℕ)) (s p q k : ℕ) → first_place lines s ≡ Some p → first_place (lines ++ (s, q) ∷ []) k ≡ first_place lines k
place-kept lines s p q k found = place-behind lines s q k ∙ by (nat_eq s k) refl
  where
    by : (b : Bool) → nat_eq s k ≡ b → option_or (first_place lines k) (if b then Some (length lines) else None) ≡ first_place lines k
    by true e =
        let at : first_place lines k ≡ Some p = ap (first_place lines) (sym (equal-numbers s k e)) ∙ found in
        ap (λ o. option_or o (Some (length lines))) at ∙ sym at
    by false e = or-none (first_place lines k)

pub get-set : {A : Type 0} (xs : List A) (i : ℕ) (x : A) → i < length xs → slice_get (slice_set xs i x) i ≡ Some x
get-set [] i x inside = absurd (omega arith)
get-set (y ∷ ys) zero x inside = refl
get-set (y ∷ ys) (suc i) x inside = get-set ys i x (omega arith)

pub get-other : {A : Type 0} (xs : List A) (i k : ℕ) (x : A) → nat_eq i k ≡ false → slice_get (slice_set xs i x) k ≡ slice_get xs k
get-other [] zero k x other = refl
get-other [] (suc i) k x other = refl
get-other (y ∷ ys) zero zero x other = absurd (grind arith)
get-other (y ∷ ys) zero (suc k) x other = refl
get-other (y ∷ ys) (suc i) zero x other = refl
get-other (y ∷ ys) (suc i) (suc k) x other = get-other ys i k x (grind arith)

-- What a table has at a place where it was written, and elsewhere.
table-set : (R : List (Option Sort)) (s : ℕ) (q : Sort) (k : ℕ) → s < length R → table_at R s ≡ None
    → table_at (slice_set R s (Some q)) k ≡ option_or (table_at R k) (if nat_eq s k then Some q.0 else None)
table-set R s q k inside none = by (nat_eq s k) refl
  where
    entry : Option (Option Sort) → Option ℕ
    entry o = option_and_then (option_map (λ (r : Sort). r.0)) o

    by : (b : Bool) → nat_eq s k ≡ b → table_at (slice_set R s (Some q)) k ≡ option_or (table_at R k) (if b then Some q.0 else None)
    by true e =
        let same = equal-numbers s k e in
        let empty : table_at R k ≡ None = ap (table_at R) (sym same) ∙ none in
        ap (λ n. table_at (slice_set R s (Some q)) n) (sym same)
        ∙ (ap (λ o. option_and_then (option_map (λ (r : Sort). r.0)) o) (get-set R s (Some q) inside)
        ∙ ap (λ o. option_or o (Some q.0)) (sym empty))
    by false e = ap (λ o. option_and_then (option_map (λ (r : Sort). r.0)) o) (get-other R s k (Some q) e) ∙ sym (or-none (table_at R k))

module _ (R : List (Option Sort)) (P : List ℕ) (C : Option (ℕ × ℕ)) (L : List (ℕ × ℕ)) (s : ℕ) (q : Sort) (known : Knows R P C L) where
  -- A line of a new left side.
  pub note-new : s < length R → s < length P → slice_get R s ≡ Some None → Knows (slice_set R s (Some q)) (slice_set P s (length L)) C (L ++ (s, q.0) ∷ [])
  note-new inside within empty =
      record {
        values = λ k.
            table-set R s q k inside (ap (option_and_then (option_map (λ (r : Sort). r.0))) empty)
            ∙ (ap (λ o. option_or o (if nat_eq s k then Some q.0 else None)) (known.values k) ∙ sym (value-behind L s q.0 k));
        firsts = λ k. subst (λ (o : Option ℕ). IfSome o (λ p. slice_get (slice_set P s (length L)) k ≡ Some p)) (sym (place-behind L s q.0 k)) (first k (nat_eq s k) refl (first_place L k) refl (known.firsts k));
        least =
            known.least ∙ sym (pair-behind lines_clash 0 (length L) L (s, q.0) (omega arith) ∙ ap (λ o. after (first_pair lines_clash 0 L) (paired 0 (length L) o)) (clash-none s q.0 L none));
      }
    where
      none : axiom_among L s ≡ None
      none = sym (known.values s) ∙ ap (option_and_then (option_map (λ (r : Sort). r.0))) empty

      first : (k : ℕ) (b : Bool) → nat_eq s k ≡ b → (r : Option ℕ) → first_place L k ≡ r → IfSome r (λ p. slice_get P k ≡ Some p)
          → IfSome (option_or r (if b then Some (length L) else None)) (λ p. slice_get (slice_set P s (length L)) k ≡ Some p)
      first k true e None at h = ap (slice_get (slice_set P s (length L))) (sym (equal-numbers s k e)) ∙ get-set P s (length L) within
      first k true e (Some p) at h =
          absurd (cc (at, ap (first_place L) (sym (equal-numbers s k e)) ∙ place-none L s none))
      first k false e None at h = tt
      first k false e (Some p) at h = get-other P s k (length L) e ∙ h

  -- A line that says what the first of its left side said.
  pub note-same : (f : Sort) → slice_get R s ≡ Some (Some f) → f.0 ≡ q.0 → Knows R P C (L ++ (s, q.0) ∷ [])
  note-same f there same =
      record {
        values = λ k. known.values k ∙ sym (value-kept L s f.0 q.0 k found);
        firsts = λ k. subst (λ (o : Option ℕ). IfSome o (λ p. slice_get P k ≡ Some p)) (sym (place-kept L s place.0 q.0 k place.1)) (known.firsts k);
        least = known.least ∙ sym (pair-behind lines_clash 0 (length L) L (s, q.0) (omega arith) ∙ clash-same s q.0 0 (length L) L (found ∙ ap Some same));
      }
    where
      found : axiom_among L s ≡ Some f.0
      found = sym (known.values s) ∙ ap (option_and_then (option_map (λ (r : Sort). r.0))) there

      place : (p : ℕ) × (first_place L s ≡ Some p)
      place = place-some L s f.0 found

  -- A line that clashes with the first of its left side.
  pub note-other : (f : Sort) (p : ℕ) → slice_get R s ≡ Some (Some f) → nat_eq f.0 q.0 ≡ false → slice_get P s ≡ Some p → Knows R P (Some (earlier C (p, length L))) (L ++ (s, q.0) ∷ [])
  note-other f p there other first =
      record {
        values = λ k. known.values k ∙ sym (value-kept L s f.0 q.0 k found);
        firsts = λ k. subst (λ (o : Option ℕ). IfSome o (λ n. slice_get P k ≡ Some n)) (sym (place-kept L s place.0 q.0 k place.1)) (known.firsts k);
        least =
            ap (λ c. Some (earlier c (p, length L))) known.least
            ∙ (ap (λ n. Some (earlier (first_pair lines_clash 0 L) (n, length L))) start
            ∙ sym (pair-behind lines_clash 0 (length L) L (s, q.0) (omega arith)
            ∙ ap (λ o. after (first_pair lines_clash 0 L) (paired 0 (length L) o)) (clash-other s q.0 L f.0 found other ∙ at)));
      }
    where
      found : axiom_among L s ≡ Some f.0
      found = sym (known.values s) ∙ ap (option_and_then (option_map (λ (r : Sort). r.0))) there

      place : (n : ℕ) × (first_place L s ≡ Some n)
      place = place-some L s f.0 found

      known_place : (o : Option ℕ) → o ≡ Some place.0 → IfSome o (λ n. slice_get P s ≡ Some n) → slice_get P s ≡ Some place.0
      known_place None e h = absurd (cc e)
      known_place (Some n) e h = h ∙ e

      at : first_place L s ≡ Some p
      at = place.1 ∙ (sym (known_place (first_place L s) place.1 (known.firsts s)) ∙ first)

      start : p ≡ 0 + p
      start = omega arith
