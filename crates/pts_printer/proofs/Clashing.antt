-- A name clashes exactly if it is one of those that are forbidden.
use Rattle.std.proofs.Common.{ℕ, zero, suc, ◌+◌, ◌-◌, ◌≡◌, ◌<◌, ◌≤◌, refl, sym, ◌∙◌, ap, arith, List, [], ◌∷◌, ◌++◌, Bool, true, false, ◌||◌, ◌&&◌, nat_eq, nat_lt, length, get_or}
use Rattle.std.specs.Prelude.{if◌then◌else◌}
use mathlib.Core.Path.{ap₂}
use Rattle.pts_names.specs.Name.{Name, same_name, is_identifier}
use Rattle.pts_terms.specs.Tree.{Named, sort, const, var, app, named_lam, named_pi, named_let}
use Rattle.pts_terms.specs.Limits.{IndicesBelow}
use Rattle.pts_printed.specs.Choice.{occurs, if_one_part, constants, occurring, forbidden, is_among}
use Rattle.pts_printer.specs.Clashes.{is_outer, clashes}
use Rattle.pts_printer.proofs.Names.{among_both}

-- Whether the name is one of those whose variables occur, by a test of the indices.
abbrev among : Name → List Name → ℕ → (ℕ → Bool) → Bool
among x [] k o = false
among x (y ∷ L) k o = (o k && same_name x y) || among x L (suc k) o

among_step : (p q r : Bool) (x : Name) (y : Name) (F : List Name) → is_among x F ≡ r → is_among x (if p then y ∷ F else F) ≡ ((p && same_name x y) || r)
among_step true q r x y F e = ap (λ b. same_name x y || b) e
among_step false q r x y F e = e

occurring_among : (x : Name) (L : List Name) (k : ℕ) (t : Named) → is_among x (occurring k L t) ≡ among x L k (λ j. occurs j t)
occurring_among x [] k t = refl
occurring_among x (y ∷ L) k t = among_step (occurs k t) true _ x y (occurring (suc k) L t) (occurring_among x L (suc k) t)

-- By two tests.
exchange : (p q s u v : Bool) → (((p || q) && s) || (u || v)) ≡ (((p && s) || u) || ((q && s) || v))
exchange true true true u v = refl
exchange true true false u v = refl
exchange true false true u v = refl
exchange true false false u v = refl
exchange false true true true v = refl
exchange false true true false v = refl
exchange false true false u v = refl
exchange false false s u v = refl

among_either : (x : Name) (L : List Name) (k : ℕ) (o r : ℕ → Bool) → among x L k (λ j. o j || r j) ≡ (among x L k o || among x L k r)
among_either x [] k o r = refl
among_either x (y ∷ L) k o r =
    ap (λ b. ((o k || r k) && same_name x y) || b) (among_either x L (suc k) o r)
    ∙ exchange (o k) (r k) (same_name x y) (among x L (suc k) o) (among x L (suc k) r)

-- By the indices behind a binder.
among_behind : (x : Name) (L : List Name) (k : ℕ) (o : ℕ → Bool) → among x L k (λ j. o (suc j)) ≡ among x L (suc k) o
among_behind x [] k o = refl
among_behind x (y ∷ L) k o = ap (λ b. (o (suc k) && same_name x y) || b) (among_behind x L (suc k) o)

-- By no index.
none_among : (x : Name) (L : List Name) (k : ℕ) (o : ℕ → Bool) → ((j : ℕ) → k ≤ j → o j ≡ false) → among x L k o ≡ false
none_among x [] k o h = refl
none_among x (y ∷ L) k o h =
    ap (λ b. (b && same_name x y) || among x L (suc k) o) (h k (omega arith))
    ∙ none_among x L (suc k) o (λ j l. h j (omega arith))

not_index : (i j : ℕ) → i < j → nat_eq i j ≡ false
not_index i j h = grind arith

same_index : (i : ℕ) → nat_eq i i ≡ true
same_index i = grind arith

not_above : (i j : ℕ) → j < i → nat_eq i j ≡ false
not_above i j h = grind arith

or_false : (b : Bool) → (b || false) ≡ b
or_false true = refl
or_false false = refl

-- By one index.
one_among : (x : Name) (L : List Name) (k i p : ℕ) → i ≡ k + p → p < length L → among x L k (λ j. nat_eq i j) ≡ same_name x (get_or L p [])
one_among x [] k i p e h = absurd (omega arith)
one_among x (y ∷ L) k i zero e h =
    let here : k ≡ i = omega arith in
    ap₂ (λ b c. (b && same_name x y) || c) (ap (λ j. nat_eq i j) here ∙ same_index i) (none_among x L (suc k) (λ j. nat_eq i j) (λ j l. not_index i j (omega arith)))
    ∙ or_false (same_name x y)
one_among x (y ∷ L) k i (suc p) e h =
    ap (λ b. (b && same_name x y) || among x L (suc k) (λ j. nat_eq i j)) (not_above i k (omega arith))
    ∙ one_among x L (suc k) i p (omega arith) (omega arith)

far_among : (x : Name) (L : List Name) (k i : ℕ) → k + length L ≤ i → among x L k (λ j. nat_eq i j) ≡ false
far_among x [] k i h = refl
far_among x (y ∷ L) k i h =
    ap (λ b. (b && same_name x y) || among x L (suc k) (λ j. nat_eq i j)) (not_above i k (omega arith))
    ∙ far_among x L (suc k) i (omega arith)

outer_among : (x : Name) (L : List Name) (k i : ℕ) → is_outer x L k i ≡ among x L k (λ j. nat_eq i j)
outer_among x L k i = cases (nat_lt i k) (nat_lt (i - k) (length L)) refl refl
  where
    cases : (b c : Bool) → nat_lt i k ≡ b → nat_lt (i - k) (length L) ≡ c → is_outer x L k i ≡ among x L k (λ j. nat_eq i j)
    cases true c p q = rw p (sym (none_among x L k (λ j. nat_eq i j) (λ j l. not_index i j (grind (arith, p)))))
    cases false true p q = rw (p, q) (sym (one_among x L k i (i - k) (grind (arith, p)) (grind (arith, q))))
    cases false false p q = rw (p, q) (sym (far_among x L k i (grind (arith, p, q))))

-- The two kinds of forbidden names.
abbrev kinds : Name → List Name → ℕ → Named → Bool
kinds x L k t = among x L k (λ j. occurs j t) || is_among x (constants t)

regroup : (p q r s : Bool) → ((p || r) || (q || s)) ≡ ((p || q) || (r || s))
regroup true q r s = refl
regroup false true true s = refl
regroup false true false s = refl
regroup false false r s = refl

two_kinds : (x : Name) (L : List Name) (k : ℕ) (o r : ℕ → Bool) (F G : List Name) → ((among x L k o || is_among x F) || (among x L k r || is_among x G)) ≡ (among x L k (λ j. o j || r j) || is_among x (F ++ G))
two_kinds x L k o r F G =
    regroup (among x L k o) (among x L k r) (is_among x F) (is_among x G)
    ∙ ap₂ (λ b c. b || c) (sym (among_either x L k o r)) (sym (among_both x F G))

behind_kinds : (x : Name) (L : List Name) (k : ℕ) (b : Named) → kinds x L (suc k) b ≡ (among x L k (λ j. occurs (suc j) b) || is_among x (constants b))
behind_kinds x L k b = ap (λ c. c || is_among x (constants b)) (sym (among_behind x L k (λ j. occurs j b)))

none_is : (x : Name) (L : List Name) (k : ℕ) (b : Bool) → b ≡ (among x L k (λ j. false) || b)
none_is x L k b = ap (λ c. c || b) (sym (none_among x L k (λ j. false) (λ j l. refl)))

part_among : (x c : Name) (p : Bool) → (p && same_name x c) ≡ is_among x (if p then c ∷ [] else [])
part_among x c true = sym (or_false (same_name x c))
part_among x c false = refl

clashes_kinds : (x : Name) (L : List Name) (k : ℕ) (t : Named) → clashes x L k t ≡ kinds x L k t
clashes_kinds x L k (sort s) = none_is x L k false
clashes_kinds x L k (const c) = part_among x c (is_identifier c) ∙ none_is x L k (is_among x (if_one_part c))
clashes_kinds x L k (var i) = outer_among x L k i ∙ sym (or_false (among x L k (λ j. nat_eq i j)))
clashes_kinds x L k (app f a) =
    ap₂ (λ b c. b || c) (clashes_kinds x L k f) (clashes_kinds x L k a)
    ∙ two_kinds x L k (λ j. occurs j f) (λ j. occurs j a) (constants f) (constants a)
clashes_kinds x L k (named_lam y A b) =
    ap₂ (λ b c. b || c) (clashes_kinds x L k A) (clashes_kinds x L (suc k) b ∙ behind_kinds x L k b)
    ∙ two_kinds x L k (λ j. occurs j A) (λ j. occurs (suc j) b) (constants A) (constants b)
clashes_kinds x L k (named_pi y A b) =
    ap₂ (λ b c. b || c) (clashes_kinds x L k A) (clashes_kinds x L (suc k) b ∙ behind_kinds x L k b)
    ∙ two_kinds x L k (λ j. occurs j A) (λ j. occurs (suc j) b) (constants A) (constants b)
clashes_kinds x L k (named_let y d A b) =
    ap₂ (λ b c. b || c) (clashes_kinds x L k d)
    (ap₂ (λ b c. b || c) (clashes_kinds x L k A) (clashes_kinds x L (suc k) b ∙ behind_kinds x L k b)
    ∙ two_kinds x L k (λ j. occurs j A) (λ j. occurs (suc j) b) (constants A) (constants b))
    ∙ two_kinds x L k (λ j. occurs j d) (λ j. occurs j A || occurs (suc j) b) (constants d) (constants A ++ constants b)

pub clashes_is : (x : Name) (L : List Name) (t : Named) → clashes x L 1 t ≡ is_among x (forbidden L t)
clashes_is x L t =
    clashes_kinds x L 1 t
    ∙ (ap (λ b. b || is_among x (constants t)) (sym (occurring_among x L 1 t))
    ∙ sym (among_both x (occurring 1 L t) (constants t)))

-- Behind as many binders as there are indices, a further binder changes nothing.
outer_beyond : (m : ℕ) (x : Name) (L : List Name) (k i : ℕ) → m ≤ k → i < m → false ≡ is_outer x L k i
outer_beyond m x L k i h l = let e : nat_lt i k ≡ true = grind (arith, h, l) in rw e refl

same_beyond : (m : ℕ) (x : Name) (L : List Name) (k l : ℕ) (t : Named) → m ≤ k → m ≤ l → IndicesBelow m t → clashes x L k t ≡ clashes x L l t
same_beyond m x L k l (sort s) h g b = refl
same_beyond m x L k l (const c) h g b = refl
same_beyond m x L k l (var i) h g b = sym (outer_beyond m x L k i h b) ∙ outer_beyond m x L l i g b
same_beyond m x L k l (app f a) h g b = ap₂ (λ p q. p || q) (same_beyond m x L k l f h g b.0) (same_beyond m x L k l a h g b.1)
same_beyond m x L k l (named_lam y A t) h g b = ap₂ (λ p q. p || q) (same_beyond m x L k l A h g b.0) (same_beyond m x L (suc k) (suc l) t (omega arith) (omega arith) b.1)
same_beyond m x L k l (named_pi y A t) h g b = ap₂ (λ p q. p || q) (same_beyond m x L k l A h g b.0) (same_beyond m x L (suc k) (suc l) t (omega arith) (omega arith) b.1)
same_beyond m x L k l (named_let y d A t) h g b =
    ap₂ (λ p q. p || q) (same_beyond m x L k l d h g b.0)
    (ap₂ (λ p q. p || q) (same_beyond m x L k l A h g b.1) (same_beyond m x L (suc k) (suc l) t (omega arith) (omega arith) b.2))

pub clashes_beyond : (x : Name) (L : List Name) (k : ℕ) (t : Named) → 4294967296 ≤ k → IndicesBelow 4294967296 t → clashes x L k t ≡ clashes x L (suc k) t
clashes_beyond x L k t h b = same_beyond 4294967296 x L k (suc k) t h (omega arith) b
