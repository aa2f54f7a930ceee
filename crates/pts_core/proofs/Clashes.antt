-- The first name that exists already, over a front and over one that continues it.
use Rattle.std.proofs.Common.{◌≡◌, ◌≢◌, ◌≤◌, ℕ, suc, ◌+◌, List, [], ◌∷◌, ◌++◌, length, take, drop, slice_get, Option, Some, None, refl, sym, ap, ◌∙◌, arith}
use Rattle.std.proofs.lemmas.List.{append_assoc}
use Rattle.std.proofs.lemmas.Option.{same_Some}
use Rattle.pts_names.specs.Name.{Name}
use Rattle.pts_ctx.specs.Front.{Global}
use Rattle.pts_ctx.specs.Seen.{place_of, IsPrefix}
use Rattle.pts_ctx.proofs.Parts.{take-next, drop-at}
use Rattle.pts_core.specs.Replies.{or_taken, clash_from, first_clash}
use Rattle.pts_core.proofs.Places.{in_neither, in_first, in_second, not_in_parts, not_in_prefix, from_second}

next : (i : ℕ) → suc i ≡ i + 1
next i = omega arith

abbrev pair : ℕ → ℕ → ℕ × ℕ
pair a b = (a, b)

pub same_pair : {a b c d : ℕ} → Some (pair a b) ≡ Some (pair c d) → (a ≡ c) × (b ≡ d)
same_pair {a} {b} {c} {d} h = let e : pair a b ≡ pair c d = same_Some (pair a b) (pair c d) h in (ap (λ r. r.0) e, ap (λ r. r.1) e)

-- An entry that clashes is not before the first one.
clash_number : (G : List (Global Name)) (k : ℕ) (es : List (Global Name)) (j p : ℕ) → clash_from G k es ≡ Some (j, p) → k ≤ j
clash_number G k [] j p h = absurd (cc h)
clash_number G k (e ∷ es) j p h = by (place_of e.name G) (λ q. clash_number (G ++ e ∷ []) (suc k) es j p q) h
  where
    by : (o : Option ℕ) → (clash_from (G ++ e ∷ []) (suc k) es ≡ Some (j, p) → suc k ≤ j) → or_taken k o (clash_from (G ++ e ∷ []) (suc k) es) ≡ Some (j, p) → k ≤ j
    by None f q = let l = f q in omega (arith, l)
    by (Some i) f q = let e : k ≡ j = (same_pair q).0 in omega (arith, e)

-- Entries over a front F and over a longer one G, where none of those before the number k clashes in either.
module _ (F G es : List (Global Name)) (k : ℕ) (e : Global Name) (at : slice_get es k ≡ Some e) where
  over : (H : List (Global Name)) → clash_from (H ++ take k es) k (drop k es) ≡ first_clash H es → first_clash H es ≡ or_taken k (place_of e.name (H ++ take k es)) (clash_from ((H ++ take k es) ++ e ∷ []) (suc k) (drop (k + 1) es))
  over H h = sym h ∙ ap (clash_from (H ++ take k es) k) (drop-at es k e at)

  onward : (H : List (Global Name)) → clash_from (H ++ take k es) k (drop k es) ≡ first_clash H es → place_of e.name (H ++ take k es) ≡ None → clash_from (H ++ take (k + 1) es) (k + 1) (drop (k + 1) es) ≡ first_clash H es
  onward H h free =
      ap (λ D. clash_from (H ++ D) (k + 1) (drop (k + 1) es)) (take-next es k e at)
      ∙ (ap (λ D. clash_from D (k + 1) (drop (k + 1) es)) (sym (append_assoc H (take k es) (e ∷ [])))
      ∙ (ap (λ i. clash_from ((H ++ take k es) ++ e ∷ []) i (drop (k + 1) es)) (sym (next k))
      ∙ (ap (λ o. or_taken k o (clash_from ((H ++ take k es) ++ e ∷ []) (suc k) (drop (k + 1) es))) (sym free) ∙ sym (over H h))))

  -- Its name is in the front.
  pub clash_in_front : (p : ℕ) → clash_from (G ++ take k es) k (drop k es) ≡ first_clash G es → place_of e.name G ≡ Some p → first_clash G es ≡ Some (k, p)
  clash_in_front p h s = over G h ∙ ap (λ o. or_taken k o (clash_from ((G ++ take k es) ++ e ∷ []) (suc k) (drop (k + 1) es))) (in_first e.name G (take k es) p s)

  here_or_later : (o : Option ℕ) (later : Option (ℕ × ℕ)) → ((p : ℕ) → or_taken k o later ≢ Some (k, p)) → o ≡ None
  here_or_later None later h = refl
  here_or_later (Some p) later h = absurd (h p refl)

  free_before : clash_from (F ++ take k es) k (drop k es) ≡ first_clash F es → ((p : ℕ) → first_clash F es ≢ Some (k, p)) → place_of e.name (F ++ take k es) ≡ None
  free_before h never = here_or_later (place_of e.name (F ++ take k es)) _ (λ p q. never p (over F h ∙ q))

  -- Its name is new in both.
  pub no_clash_here : clash_from (F ++ take k es) k (drop k es) ≡ first_clash F es → clash_from (G ++ take k es) k (drop k es) ≡ first_clash G es → ((p : ℕ) → first_clash F es ≢ Some (k, p)) → place_of e.name G ≡ None
      → (clash_from (F ++ take (k + 1) es) (k + 1) (drop (k + 1) es) ≡ first_clash F es) × (clash_from (G ++ take (k + 1) es) (k + 1) (drop (k + 1) es) ≡ first_clash G es)
  no_clash_here f g never free =
      let b = free_before f never in
      (onward F f b, onward G g (in_neither e.name G (take k es) free (not_in_parts e.name F (take k es) b).1))

  found_here : (o : Option ℕ) (later : Option (ℕ × ℕ)) (p : ℕ) → (later ≢ Some (k, p)) → or_taken k o later ≡ Some (k, p) → o ≡ Some p
  found_here None later p never h = absurd (never h)
  found_here (Some q) later p never h = ap Some (same_pair h).1

  -- Its name is that of an entry before it, over the longer front as over the shorter one.
  pub clash_before : (p : ℕ) → IsPrefix F G → clash_from (F ++ take k es) k (drop k es) ≡ first_clash F es → clash_from (G ++ take k es) k (drop k es) ≡ first_clash G es → first_clash F es ≡ Some (k, p) → place_of e.name G ≡ None
      → (j : ℕ) × (length F + j ≡ p) × (place_of e.name (take k es) ≡ Some j) × (first_clash G es ≡ Some (k, length G + j))
  clash_before p pre f g c free =
      let later = clash_from ((F ++ take k es) ++ e ∷ []) (suc k) (drop (k + 1) es) in
      let s = found_here (place_of e.name (F ++ take k es)) later p (λ q. let l = clash_number ((F ++ take k es) ++ e ∷ []) (suc k) (drop (k + 1) es) k p q in omega (arith, l)) (sym (over F f) ∙ c) in
      let (j, d, q) = from_second e.name F (take k es) p (not_in_prefix e.name F G pre free) s in
      (j, q, d, over G g ∙ ap (λ o. or_taken k o (clash_from ((G ++ take k es) ++ e ∷ []) (suc k) (drop (k + 1) es))) (in_second e.name G (take k es) j free d))

-- Whether there is a clash does not depend on where the numbers begin.
no_clash_from : (G : List (Global Name)) (k j : ℕ) (es : List (Global Name)) → clash_from G k es ≡ None → clash_from G j es ≡ None
no_clash_from G k j [] h = refl
no_clash_from G k j (e ∷ es) h = by (place_of e.name G) (λ q. no_clash_from (G ++ e ∷ []) (suc k) (suc j) es q) h
  where
    by : (o : Option ℕ) → (clash_from (G ++ e ∷ []) (suc k) es ≡ None → clash_from (G ++ e ∷ []) (suc j) es ≡ None) → or_taken k o (clash_from (G ++ e ∷ []) (suc k) es) ≡ None → or_taken j o (clash_from (G ++ e ∷ []) (suc j) es) ≡ None
    by None f q = f q
    by (Some p) f q = absurd (cc q)

pub not_taken : (k : ℕ) (o : Option ℕ) (later : Option (ℕ × ℕ)) → or_taken k o later ≡ None → (o ≡ None) × (later ≡ None)
not_taken k None later h = (refl, h)
not_taken k (Some p) later h = absurd (cc h)

-- Where no entry clashes, the first is new in the front, and the others are over the front with it.
pub first_new : (G : List (Global Name)) (e : Global Name) (es : List (Global Name)) → first_clash G (e ∷ es) ≡ None → (place_of e.name G ≡ None) × (first_clash (G ++ e ∷ []) es ≡ None)
unfolding first_clash
first_new G e es h =
    let s = not_taken 0 (place_of e.name G) (clash_from (G ++ e ∷ []) 1 es) h in
    (s.0, no_clash_from (G ++ e ∷ []) 1 0 es s.1)

-- What is new in a longer front is new in a shorter one.
abbrev Fewer : List (Global Name) → List (Global Name) → Type 0
Fewer F G = (x : Name) → place_of x G ≡ None → place_of x F ≡ None

fewer_more : (F G D : List (Global Name)) → Fewer F G → Fewer (F ++ D) (G ++ D)
fewer_more F G D f x h = let s = not_in_parts x G D h in in_neither x F D (f x s.0) s.1

no_clash_fewer : (F G : List (Global Name)) (k : ℕ) (es : List (Global Name)) → Fewer F G → clash_from G k es ≡ None → clash_from F k es ≡ None
no_clash_fewer F G k [] f h = refl
no_clash_fewer F G k (e ∷ es) f h =
    let s = not_taken k (place_of e.name G) (clash_from (G ++ e ∷ []) (suc k) es) h in
    ap (λ o. or_taken k o (clash_from (F ++ e ∷ []) (suc k) es)) (f e.name s.0) ∙ no_clash_fewer (F ++ e ∷ []) (G ++ e ∷ []) (suc k) es (fewer_more F G (e ∷ []) f) s.1

pub no_clash_in_prefix : (F G es : List (Global Name)) → IsPrefix F G → first_clash G es ≡ None → first_clash F es ≡ None
unfolding first_clash
no_clash_in_prefix F G es p h = no_clash_fewer F G 0 es (λ x. not_in_prefix x F G p) h
