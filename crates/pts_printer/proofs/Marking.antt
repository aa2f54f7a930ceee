-- Marks of the parts of a term, one after the other, are the marks of the term.
use Rattle.std.proofs.Common.{ℕ, zero, suc, ◌+◌, ◌-◌, ◌≡◌, ◌≢◌, ◌<◌, ◌≤◌, refl, sym, ◌∙◌, ap, arith, List, [], ◌∷◌, ◌++◌, append_assoc, Bool, true, false, ◌||◌, nat_eq, length, drop, get_or, replicate, reverse}
use Rattle.std.proofs.lemmas.List.{length-reverse, drop_more, get_or-reverse, get_or_default, get_or-set_same, get_or-set_other, length-set, same_lists}
use Rattle.std.specs.Prelude.{slice_set, nat_lt, if◌then◌else◌}
use mathlib.Core.Path.{ap₂}
use Rattle.pts_terms.specs.Tree.{Named, sort, const, var, app, named_lam, named_pi, named_let}
use Rattle.pts_printed.specs.Choice.{occurs, occurring}
use Rattle.pts_printer.specs.Marks.{mark_at, marked, noted, picked}
use Rattle.pts_terms.specs.Limits.{IndicesBelow}
use Rattle.pts_printer.specs.Calls.{first_or_false, without_first}
use Rattle.pts_printer.proofs.Beyond.{none_beyond}

-- Marks with those added that occur in a term; the first mark is that of the variable of index k.
abbrev pub ored : ℕ → List Bool → Named → List Bool
ored k [] t = []
ored k (m ∷ ms) t = (m || occurs k t) ∷ ored (suc k) ms t

or_assoc : (m p q : Bool) → ((m || p) || q) ≡ (m || (p || q))
or_assoc true p q = refl
or_assoc false p q = refl

or_false : (m : Bool) → m ≡ (m || false)
or_false true = refl
or_false false = refl

or_true : (m : Bool) → true ≡ (m || true)
or_true true = refl
or_true false = refl

pub ored_parts : (k : ℕ) (ms : List Bool) (f a : Named) → ored k (ored k ms f) a ≡ ored k ms (app f a)
ored_parts k [] f a = refl
ored_parts k (m ∷ ms) f a = ap₂ (λ p qs. p ∷ qs) (or_assoc m (occurs k f) (occurs k a)) (ored_parts (suc k) ms f a)

pub ored_body : (k : ℕ) (ms : List Bool) (x : List ℕ) (A b : Named) → ored (suc k) (ored k ms A) b ≡ ored k ms (named_lam x A b)
ored_body k [] x A b = refl
ored_body k (m ∷ ms) x A b = ap₂ (λ p qs. p ∷ qs) (or_assoc m (occurs k A) (occurs (suc k) b)) (ored_body (suc k) ms x A b)

pub ored_product : (k : ℕ) (ms : List Bool) (x : List ℕ) (A b : Named) → ored (suc k) (ored k ms A) b ≡ ored k ms (named_pi x A b)
ored_product k [] x A b = refl
ored_product k (m ∷ ms) x A b = ap₂ (λ p qs. p ∷ qs) (or_assoc m (occurs k A) (occurs (suc k) b)) (ored_product (suc k) ms x A b)

pub ored_three : (k : ℕ) (ms : List Bool) (x : List ℕ) (d A b : Named) → ored (suc k) (ored k (ored k ms d) A) b ≡ ored k ms (named_let x d A b)
ored_three k [] x d A b = refl
ored_three k (m ∷ ms) x d A b =
    ap₂ (λ p qs. p ∷ qs)
    (or_assoc (m || occurs k d) (occurs k A) (occurs (suc k) b) ∙ or_assoc m (occurs k d) (occurs k A || occurs (suc k) b))
    (ored_three (suc k) ms x d A b)

-- The same of parts that are gone through from right to left.
or_swap : (m p q : Bool) → (m || (p || q)) ≡ ((m || q) || p)
or_swap true p q = refl
or_swap false true true = refl
or_swap false true false = refl
or_swap false false true = refl
or_swap false false false = refl

ored_app : (k : ℕ) (ms : List Bool) (f a : Named) → ored k ms (app f a) ≡ ored k (ored k ms a) f
ored_app k [] f a = refl
ored_app k (m ∷ ms) f a = ap₂ (λ p qs. p ∷ qs) (or_swap m (occurs k f) (occurs k a)) (ored_app (suc k) ms f a)

ored_lam : (k : ℕ) (ms : List Bool) (x : List ℕ) (A b : Named) → ored k ms (named_lam x A b) ≡ ored k (ored (suc k) ms b) A
ored_lam k [] x A b = refl
ored_lam k (m ∷ ms) x A b = ap₂ (λ p qs. p ∷ qs) (or_swap m (occurs k A) (occurs (suc k) b)) (ored_lam (suc k) ms x A b)

ored_pi : (k : ℕ) (ms : List Bool) (x : List ℕ) (A b : Named) → ored k ms (named_pi x A b) ≡ ored k (ored (suc k) ms b) A
ored_pi k [] x A b = refl
ored_pi k (m ∷ ms) x A b = ap₂ (λ p qs. p ∷ qs) (or_swap m (occurs k A) (occurs (suc k) b)) (ored_pi (suc k) ms x A b)

ored_let : (k : ℕ) (ms : List Bool) (x : List ℕ) (d A b : Named) → ored k ms (named_let x d A b) ≡ ored k (ored k (ored (suc k) ms b) A) d
ored_let k [] x d A b = refl
ored_let k (m ∷ ms) x d A b =
    ap₂ (λ p qs. p ∷ qs)
    (or_swap m (occurs k d) (occurs k A || occurs (suc k) b) ∙ ap (λ p. p || occurs k d) (or_swap m (occurs k A) (occurs (suc k) b)))
    (ored_let (suc k) ms x d A b)

same_index : (k : ℕ) → true ≡ nat_eq k k
same_index k = grind arith

not_index : (i k : ℕ) → i < k → nat_eq i k ≡ false
not_index i k h = grind arith

above_index : (i k : ℕ) → k < i → nat_eq i k ≡ false
above_index i k h = grind arith

pub ored_before : (k : ℕ) (ms : List Bool) (i : ℕ) → i < k → ms ≡ ored k ms (var i)
ored_before k [] i h = refl
ored_before k (m ∷ ms) i h = ap₂ (λ p qs. p ∷ qs) (or_false m ∙ ap (λ p. m || p) (sym (not_index i k h))) (ored_before (suc k) ms i (omega arith))

pub ored_behind : (k : ℕ) (ms : List Bool) (i : ℕ) → k ≤ i → length ms ≤ i - k → ms ≡ ored k ms (var i)
ored_behind k [] i h l = refl
ored_behind k (m ∷ ms) i h l =
    ap₂ (λ p qs. p ∷ qs) (or_false m ∙ ap (λ p. m || p) (sym (above_index i k (omega arith)))) (ored_behind (suc k) ms i (omega arith) (omega arith))

at_place : (k : ℕ) (ms : List Bool) (i p : ℕ) → i ≡ k + p → p < length ms → slice_set ms p true ≡ ored k ms (var i)
at_place k [] i p e l = absurd (omega arith)
at_place k (m ∷ ms) i zero e l =
    let here : k ≡ i = omega arith in
    ap₂ (λ p qs. p ∷ qs) (or_true m ∙ ap (λ p. m || p) (same_index k ∙ ap (λ j. nat_eq j k) here)) (ored_before (suc k) ms i (omega arith))
at_place k (m ∷ ms) i (suc p) e l =
    ap₂ (λ p qs. p ∷ qs) (or_false m ∙ ap (λ p. m || p) (sym (above_index i k (omega arith)))) (at_place (suc k) ms i p (omega arith) (omega arith))

pub ored_at : (k : ℕ) (ms : List Bool) (i : ℕ) → k ≤ i → i - k < length ms → slice_set ms (i - k) true ≡ ored k ms (var i)
ored_at k ms i h l = at_place k ms i (i - k) (omega arith) l

-- The same of marks that stand in the other order.
set_back : (ms : List Bool) (i : ℕ) → i < length ms → reverse (slice_set ms (length ms - 1 - i) true) ≡ slice_set (reverse ms) i true
set_back ms i h = same_lists _ _ lengths places_same
  where
    p : ℕ
    p = length ms - 1 - i

    lengths : length (reverse (slice_set ms p true)) ≡ length (slice_set (reverse ms) i true)
    lengths = length-reverse (slice_set ms p true) ∙ (length-set ms p true ∙ (sym (length-reverse ms) ∙ sym (length-set (reverse ms) i true)))

    long : length (slice_set ms p true) ≡ length ms
    long = length-set ms p true

    back : length (reverse ms) ≡ length ms
    back = length-reverse ms

    here : (k : ℕ) (d : Bool) → k ≡ i → get_or (slice_set ms p true) (length (slice_set ms p true) - 1 - k) d ≡ get_or (slice_set (reverse ms) i true) k d
    here k d e =
        let at : length (slice_set ms p true) - 1 - k ≡ p = omega (arith, long, e) in
        ap (λ n. get_or (slice_set ms p true) n d) at
        ∙ (get_or-set_same ms p true d (omega (arith, h))
        ∙ (sym (get_or-set_same (reverse ms) i true d (omega (arith, back, h))) ∙ ap (λ n. get_or (slice_set (reverse ms) i true) n d) (sym e)))

    there : (k : ℕ) (d : Bool) → k < length ms → k ≢ i → get_or (slice_set ms p true) (length (slice_set ms p true) - 1 - k) d ≡ get_or (slice_set (reverse ms) i true) k d
    there k d l e =
        let at : length (slice_set ms p true) - 1 - k ≡ length ms - 1 - k = omega (arith, long) in
        let other : length ms - 1 - k ≢ p = λ q. e (omega (arith, q, h, l)) in
        ap (λ n. get_or (slice_set ms p true) n d) at
        ∙ (get_or-set_other ms p (length ms - 1 - k) true d other
        ∙ (sym (get_or-reverse ms k d l) ∙ sym (get_or-set_other (reverse ms) i k true d e)))

    either : (k : ℕ) (d : Bool) (b : Bool) → k < length ms → nat_eq k i ≡ b → get_or (slice_set ms p true) (length (slice_set ms p true) - 1 - k) d ≡ get_or (slice_set (reverse ms) i true) k d
    either k d true l e = here k d (grind (arith, e))
    either k d false l e = there k d l (grind (arith, e))

    places_same : (k : ℕ) (d : Bool) → k < length (reverse (slice_set ms p true)) → get_or (reverse (slice_set ms p true)) k d ≡ get_or (slice_set (reverse ms) i true) k d
    places_same k d l =
        let whole = length-reverse (slice_set ms p true) in
        get_or-reverse (slice_set ms p true) k d (omega (arith, l, whole)) ∙ either k d (nat_eq k i) (omega (arith, l, whole, long)) refl

ored_none : (k : ℕ) (ms : List Bool) (t : Named) → ((j : ℕ) → occurs j t ≡ false) → ms ≡ ored k ms t
ored_none k [] t h = refl
ored_none k (m ∷ ms) t h = ap₂ (λ p qs. p ∷ qs) (or_false m ∙ ap (λ p. m || p) (sym (h k))) (ored_none (suc k) ms t h)

mark_is : (k i : ℕ) (ms : List Bool) → mark_at k i ms ≡ ored k ms (var i)
mark_is k i ms = below (nat_lt i k) refl
  where
    within : (b c : Bool) → nat_lt i k ≡ b → nat_lt (i - k) (length ms) ≡ c → (if b then ms else (if c then slice_set ms (i - k) true else ms)) ≡ ored k ms (var i)
    within true c p q = ored_before k ms i (grind (arith, p))
    within false true p q = ored_at k ms i (grind (arith, p)) (grind (arith, q))
    within false false p q = ored_behind k ms i (grind (arith, p)) (grind (arith, q))

    below : (b : Bool) → nat_lt i k ≡ b → mark_at k i ms ≡ ored k ms (var i)
    below b p = within (nat_lt i k) (nat_lt (i - k) (length ms)) refl refl

pub marked_back : (ms : List Bool) (i : ℕ) → i < length ms → reverse (slice_set ms (length ms - 1 - i) true) ≡ mark_at 0 i (reverse ms)
marked_back ms i h = set_back ms i h ∙ (at_place 0 (reverse ms) i i (omega arith) (let k = length-reverse ms in omega arith) ∙ sym (mark_is 0 i (reverse ms)))

pub unmarked_back : (ms : List Bool) (i : ℕ) → length ms ≤ i → reverse ms ≡ mark_at 0 i (reverse ms)
unmarked_back ms i h = ored_behind 0 (reverse ms) i (omega arith) (let k = length-reverse ms in omega arith) ∙ sym (mark_is 0 i (reverse ms))

noted_is : (ms : List Bool) (t : Named) → noted ms t ≡ ored 0 ms t
noted_is ms (sort s) = ored_none 0 ms (sort s) (λ j. refl)
noted_is ms (const c) = ored_none 0 ms (const c) (λ j. refl)
noted_is ms (var i) = mark_is 0 i ms
noted_is ms (app f a) = ap (λ ns. noted ns f) (noted_is ms a) ∙ (noted_is (ored 0 ms a) f ∙ sym (ored_app 0 ms f a))
noted_is ms (named_lam x A b) = ap (λ ns. noted (without_first ns) A) (noted_is (false ∷ ms) b) ∙ (noted_is (ored 1 ms b) A ∙ sym (ored_lam 0 ms x A b))
noted_is ms (named_pi x A b) = ap (λ ns. noted (without_first ns) A) (noted_is (false ∷ ms) b) ∙ (noted_is (ored 1 ms b) A ∙ sym (ored_pi 0 ms x A b))
noted_is ms (named_let x d A b) =
    ap (λ ns. noted (noted (without_first ns) A) d) (noted_is (false ∷ ms) b)
    ∙ (ap (λ ns. noted ns d) (noted_is (ored 1 ms b) A)
    ∙ (noted_is (ored 0 (ored 1 ms b) A) d ∙ sym (ored_let 0 ms x d A b)))

-- The mark of a binder is whether its variable occurs in its body.
pub first_noted : (ms : List Bool) (b : Named) → first_or_false (noted (false ∷ ms) b) ≡ occurs 0 b
first_noted ms b = ap first_or_false (noted_is (false ∷ ms) b)

-- Marks that are made on the way are those of the variables that occur.
pub marked_is : (k : ℕ) (ms : List Bool) (t : Named) → marked k ms t ≡ ored k ms t
marked_is k ms (sort s) = ored_none k ms (sort s) (λ j. refl)
marked_is k ms (const c) = ored_none k ms (const c) (λ j. refl)
marked_is k ms (var i) = mark_is k i ms
marked_is k ms (app f a) = ap (λ ns. marked k ns a) (marked_is k ms f) ∙ (marked_is k (ored k ms f) a ∙ ored_parts k ms f a)
marked_is k ms (named_lam x A b) = ap (λ ns. marked (suc k) ns b) (marked_is k ms A) ∙ (marked_is (suc k) (ored k ms A) b ∙ ored_body k ms x A b)
marked_is k ms (named_pi x A b) = ap (λ ns. marked (suc k) ns b) (marked_is k ms A) ∙ (marked_is (suc k) (ored k ms A) b ∙ ored_product k ms x A b)
marked_is k ms (named_let x d A b) =
    ap (λ ns. marked (suc k) (marked k ns A) b) (marked_is k ms d)
    ∙ (ap (λ ns. marked (suc k) ns b) (marked_is k (ored k ms d) A)
    ∙ (marked_is (suc k) (ored k (ored k ms d) A) b ∙ ored_three k ms x d A b))

picked_ored : (k : ℕ) (L : List (List ℕ)) (t : Named) → picked L (ored k (replicate (length L) false) t) ≡ occurring k L t
picked_ored k [] t = refl
picked_ored k (x ∷ L) t = ap (λ F. if occurs k t then x ∷ F else F) (picked_ored (suc k) L t)

-- The names that are picked by marks that were none.
pub occurring_is : (names : List (List ℕ)) (n : ℕ) (t : Named) → n ≡ length names → picked (reverse names) (marked 1 (replicate n false) t) ≡ occurring 1 (reverse names) t
occurring_is names n t e =
    let same : n ≡ length (reverse names) = e ∙ sym (length-reverse names) in
    ap (λ m. picked (reverse names) (marked 1 (replicate m false) t)) same
    ∙ (ap (picked (reverse names)) (marked_is 1 (replicate (length (reverse names)) false) t) ∙ picked_ored 1 (reverse names) t)

-- One name further.
picked_step : (R : List (List ℕ)) (ms : List Bool) (i : ℕ) (y : List ℕ) (b : Bool) → i < length R → i < length ms → get_or R i y ≡ y → get_or ms i false ≡ b → picked (drop i R) (drop i ms) ≡ (if b then y ∷ picked (drop (i + 1) R) (drop (i + 1) ms) else picked (drop (i + 1) R) (drop (i + 1) ms))
picked_step R ms i y b h l e m =
    ap (λ Q. picked Q (drop i ms)) (drop_more R i y h)
    ∙ (ap (picked (get_or R i y ∷ drop (i + 1) R)) (drop_more ms i false l)
    ∙ (ap (λ z. if get_or ms i false then z ∷ picked (drop (i + 1) R) (drop (i + 1) ms) else picked (drop (i + 1) R) (drop (i + 1) ms)) e
    ∙ ap (λ c. if c then y ∷ picked (drop (i + 1) R) (drop (i + 1) ms) else picked (drop (i + 1) R) (drop (i + 1) ms)) m))

module _ (names : List (List ℕ)) (ms : List Bool) (i : ℕ) (W V : List (List ℕ)) where
  pub skipped : i < length names → length ms ≡ length names → get_or ms i false ≡ false → W ++ picked (drop i (reverse names)) (drop i ms) ≡ V → W ++ picked (drop (i + 1) (reverse names)) (drop (i + 1) ms) ≡ V
  skipped h l m q =
      let inside : i < length (reverse names) = let k = length-reverse names in omega arith in
      let y = get_or (reverse names) i [] in
      ap (λ F. W ++ F) (sym (picked_step (reverse names) ms i y false inside (omega arith) (get_or_default (reverse names) i y [] inside) m)) ∙ q

  pub added : (y z : List ℕ) (U : List (List ℕ)) → i < length names → length ms ≡ length names → get_or ms i false ≡ true → y ≡ get_or names (length names - 1 - i) y → z ≡ y → U ≡ W ++ z ∷ [] → W ++ picked (drop i (reverse names)) (drop i ms) ≡ V → U ++ picked (drop (i + 1) (reverse names)) (drop (i + 1) ms) ≡ V
  added y z U h l m e f u q =
      let inside : i < length (reverse names) = let k = length-reverse names in omega arith in
      let here : get_or (reverse names) i y ≡ y = get_or-reverse names i y h ∙ sym e in
      let rest = picked (drop (i + 1) (reverse names)) (drop (i + 1) ms) in
      ap (λ F. F ++ rest) (u ∙ ap (λ x. W ++ x ∷ []) f)
      ∙ (append_assoc W (y ∷ []) rest
      ∙ (ap (λ F. W ++ F) (sym (picked_step (reverse names) ms i y true inside (omega arith) here m)) ∙ q))

ored_beyond : (k : ℕ) (ms : List Bool) (t : Named) → 4294967296 ≤ k → IndicesBelow 4294967296 t → ms ≡ ored k ms t
ored_beyond k [] t h b = refl
ored_beyond k (m ∷ ms) t h b =
    ap₂ (λ p qs. p ∷ qs) (or_false m ∙ ap (λ p. m || p) (sym (none_beyond k t h b))) (ored_beyond (suc k) ms t (omega (arith, h)) b)

-- No index is as large.
pub none_marked : (k : ℕ) (ms : List Bool) (t : Named) → 4294967296 ≤ k → IndicesBelow 4294967296 t → marked k ms t ≡ ms
none_marked k ms t h b = marked_is k ms t ∙ sym (ored_beyond k ms t h b)
