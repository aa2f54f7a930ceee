-- Matches and solutions.
use Rattle.std.proofs.Common.{◌≡◌, ℕ, zero, suc, ◌+◌, ◌-◌, ◌<◌, ◌≤◌, length, List, [], ◌∷◌, Option, Some, None, refl, sym, ap, ◌∙◌, subst, arith, true, false, Bool}
use Rattle.std.specs.Prelude.{slice_index_or, nat_lt, nat_eq, map, replicate, if◌then◌else◌}
use Rattle.std.specs.Option.{option_map, option_and_then}
use Rattle.std.proofs.lemmas.Bool.Decides.{nat_tests}
use mathlib.Core.Path.{ap₂}
use Rattle.pts_names.specs.Name.{Name, same_name}
use Rattle.pts_terms.specs.Tree.{Named, Bare, bare, lift, same_term, sort, const, var, app, named_lam, named_pi, named_let, lam, pi, let_in}
use Rattle.pts_terms.proofs.Lifting.{ap₃}
use Rattle.pts_terms.proofs.Same.{same_term_eq}
use Rattle.pts_terms.proofs.Unnamed.{bare_lift}
use Rattle.pts_match.specs.Lowering.{is_clear, lower}
use Rattle.pts_match.specs.Matching.{Assignment, joined, assign, only_if, is_index, match_variable, match_index, match_under, match_of}
use Rattle.pts_match.specs.Laws.{put_all, put_all_index, Allows, Solves, IsMatch, MatchesAreSound, MatchesAreComplete, MatchesAreUnique}
use Rattle.pts_match.proofs.Lifted.{lift_lower, lower_lift, clear_lift, clear_bare, bare_lower, same_if}

-- What an assignment that is answered says of the tests before it.
held : (b : Bool) (s q : Assignment) → only_if b s ≡ Some q → (b ≡ true) × (s ≡ q)
held true s q e = (refl, cc e)
held false s q e = absurd (cc e)

holds : (b : Bool) (s : Assignment) → b ≡ true → only_if b s ≡ Some s
holds true s e = refl
holds false s e = absurd (cc e)

first_of_two : (f : Assignment → Option Assignment) (o : Option Assignment) (q : Assignment) → option_and_then f o ≡ Some q → (p : Assignment) × (o ≡ Some p) × (f p ≡ Some q)
first_of_two f (Some p) q e = (p, refl, e)
first_of_two f None q e = absurd (cc e)

both_of_two : (f : Assignment → Option Assignment) (o : Option Assignment) (p q : Assignment) → o ≡ Some p → f p ≡ Some q → option_and_then f o ≡ Some q
both_of_two f o p q e h = ap (option_and_then f) e ∙ h

if_true : {X : Type 0} (b : Bool) (x y : X) → b ≡ true → (if b then x else y) ≡ x
if_true true x y e = refl
if_true false x y e = absurd (cc e)

if_false : {X : Type 0} (b : Bool) (x y : X) → b ≡ false → (if b then x else y) ≡ y
if_false false x y e = refl
if_false true x y e = absurd (cc e)

allows_as : (q s : Assignment) (r : List Named) → s ≡ q → Allows q r → Allows s r
allows_as q s r e h = subst (λ z. Allows z r) (sym e) h

allows_length : (s : Assignment) (r : List Named) → Allows s r → length s ≡ length r
allows_length [] [] h = refl
allows_length (None ∷ s) (t ∷ r) h = ap suc (allows_length s r h)
allows_length (Some a ∷ s) (t ∷ r) h = ap suc (allows_length s r h.1)
allows_length [] (t ∷ r) h = absurd h
allows_length (None ∷ s) [] h = absurd h
allows_length (Some a ∷ s) [] h = absurd h

-- What a variable is to be.
rest_some : (o : Option Named) (m : Option Assignment) (q : Assignment) → option_map (λ r. o ∷ r) m ≡ Some q → (p : Assignment) × (m ≡ Some p) × (q ≡ o ∷ p)
rest_some o (Some p) q e = (p, refl, sym (cc e))
rest_some o None q e = absurd (cc e)

first_some : (t : Bool) (c : Named) (s q : Assignment) → option_map (λ b. Some b ∷ s) (if t then Some c else None) ≡ Some q → (t ≡ true) × (q ≡ Some c ∷ s)
first_some true c s q e = (refl, sym (cc e))
first_some false c s q e = absurd (cc e)

assign_sound : (j : ℕ) (a : Named) (s q : Assignment) (r : List Named) → assign j a s ≡ Some q → Allows q r → Allows s r × (bare a ≡ bare (slice_index_or r j (sort 0)))
assign_sound j a [] q r e h = absurd (cc e)
assign_sound zero a (None ∷ s) q [] e h = let p : Some a ∷ s ≡ q = cc e in absurd (subst (λ q. Allows q []) (sym p) h)
assign_sound zero a (None ∷ s) q (t ∷ r) e h = let p : Some a ∷ s ≡ q = cc e in let f = subst (λ q. Allows q (t ∷ r)) (sym p) h in (f.1, f.0)
assign_sound zero a (Some c ∷ s) q [] e h = let p = first_some _ c s q e in absurd (subst (λ q. Allows q []) p.1 h)
assign_sound zero a (Some c ∷ s) q (t ∷ r) e h = let p = first_some _ c s q e in let f = subst (λ q. Allows q (t ∷ r)) p.1 h in (f, same_term_eq (bare a) (bare c) p.0 ∙ f.0)
assign_sound (suc j) a (None ∷ s) q [] e h = let p = rest_some None _ q e in absurd (subst (λ q. Allows q []) p.2 h)
assign_sound (suc j) a (None ∷ s) q (t ∷ r) e h = let p = rest_some None _ q e in let f = subst (λ q. Allows q (t ∷ r)) p.2 h in assign_sound j a s p.0 r p.1 f
assign_sound (suc j) a (Some c ∷ s) q [] e h = let p = rest_some (Some c) _ q e in absurd (subst (λ q. Allows q []) p.2 h)
assign_sound (suc j) a (Some c ∷ s) q (t ∷ r) e h = let p = rest_some (Some c) _ q e in let f = subst (λ q. Allows q (t ∷ r)) p.2 h in let i = assign_sound j a s p.0 r p.1 f.1 in ((f.0, i.0), i.1)

assign_complete : (j : ℕ) (a : Named) (s : Assignment) (r : List Named) → Allows s r → j < length s → bare a ≡ bare (slice_index_or r j (sort 0)) → (q : Assignment) × (assign j a s ≡ Some q) × Allows q r
assign_complete j a [] r h l e = absurd (omega (arith, l))
assign_complete j a (None ∷ s) [] h l e = absurd h
assign_complete j a (Some c ∷ s) [] h l e = absurd h
assign_complete zero a (None ∷ s) (t ∷ r) h l e = (Some a ∷ s, refl, (e, h))
assign_complete zero a (Some c ∷ s) (t ∷ r) h l e =
    let p : same_term (bare a) (bare c) ≡ true = same_if (bare a) (bare c) (e ∙ sym h.0) in
    (Some c ∷ s, ap (option_map (λ b. Some b ∷ s)) (if_true (same_term (bare a) (bare c)) (Some c) None p), h)
assign_complete (suc j) a (None ∷ s) (t ∷ r) h l e = let p = assign_complete j a s r h (omega (arith, l)) e in (None ∷ p.0, ap (option_map (λ r. None ∷ r)) p.1, p.2)
assign_complete (suc j) a (Some c ∷ s) (t ∷ r) h l e = let p = assign_complete j a s r h.1 (omega (arith, l)) e in (Some c ∷ p.0, ap (option_map (λ r. Some c ∷ r)) p.1, (h.0, p.2))

-- What an index of the pattern becomes, and what it meets, by where it is.
module _ (n i : ℕ) (r : List Named) where
  bound_index : nat_lt i n ≡ true → put_all_index n r i ≡ var i
  bound_index p = if_true (nat_lt i n) _ _ p

  open_index : nat_lt i n ≡ false → nat_lt i (n + length r) ≡ true → put_all_index n r i ≡ lift 0 n (slice_index_or r (i - n) (sort 0))
  open_index p l = if_false (nat_lt i n) _ _ p ∙ if_true (nat_lt i (n + length r)) _ _ l

  context_index : nat_lt i n ≡ false → nat_lt i (n + length r) ≡ false → put_all_index n r i ≡ var (i - length r)
  context_index p l = if_false (nat_lt i n) _ _ p ∙ if_false (nat_lt i (n + length r)) _ _ l

module _ (n i : ℕ) (g : Named) (s : Assignment) where
  bound_match : nat_lt i n ≡ true → match_index n i g s ≡ only_if (is_index i g) s
  bound_match p = if_true (nat_lt i n) _ _ p

  open_match : nat_lt i n ≡ false → nat_lt i (n + length s) ≡ true → match_index n i g s ≡ match_variable n (i - n) g s
  open_match p l = if_false (nat_lt i n) _ _ p ∙ if_true (nat_lt i (n + length s)) _ _ l

  context_match : nat_lt i n ≡ false → nat_lt i (n + length s) ≡ false → match_index n i g s ≡ only_if (is_index (i - length s) g) s
  context_match p l = if_false (nat_lt i n) _ _ p ∙ if_false (nat_lt i (n + length s)) _ _ l

-- An index that meets a part becomes it.
module _ (n i : ℕ) (g : Named) (s q : Assignment) (r : List Named) (h : Allows q r) where
  variable_sound : (t : Bool) → is_clear 0 n g ≡ t → nat_lt i n ≡ false → nat_lt i (n + length s) ≡ true → (if t then assign (i - n) (lower 0 n g) s else None) ≡ Some q → Allows s r × (bare (put_all_index n r i) ≡ bare g)
  variable_sound false c p o e = absurd (cc e)
  variable_sound true c p o e =
      let a = assign_sound (i - n) (lower 0 n g) s q r e h in
      let l : nat_lt i (n + length r) ≡ true = ap (λ k. nat_lt i (n + k)) (sym (allows_length s r a.0)) ∙ o in
      let t = slice_index_or r (i - n) (sort 0) in
      (a.0, ap bare (open_index n i r p l) ∙ bare_lift 0 n t ∙ ap (lift 0 n) (sym a.1) ∙ sym (bare_lift 0 n (lower 0 n g)) ∙ ap bare (lift_lower 0 n g c))

  outer_sound : (t : Bool) → nat_lt i (n + length s) ≡ t → nat_lt i n ≡ false → (if t then match_variable n (i - n) g s else only_if (is_index (i - length s) g) s) ≡ Some q → Allows s r × (bare (put_all_index n r i) ≡ bare g)
  outer_sound true o p e = variable_sound (is_clear 0 n g) refl p o e
  outer_sound false o p e =
      let z = held (is_index (i - length s) g) s q e in
      let k = allows_as q s r z.1 h in
      let m = allows_length s r k in
      let l : nat_lt i (n + length r) ≡ false = ap (λ k. nat_lt i (n + k)) (sym m) ∙ o in
      (k, ap bare (context_index n i r p l) ∙ ap (λ k. bare {B = Name} (var (i - k))) (sym m) ∙ same_term_eq (var (i - length s)) (bare g) z.0)

  index_sound : (t : Bool) → nat_lt i n ≡ t → (if t then only_if (is_index i g) s else (if nat_lt i (n + length s) then match_variable n (i - n) g s else only_if (is_index (i - length s) g) s)) ≡ Some q → Allows s r × (bare (put_all_index n r i) ≡ bare g)
  index_sound true p e = let z = held (is_index i g) s q e in (allows_as q s r z.1 h, ap bare (bound_index n i r p) ∙ same_term_eq (var i) (bare g) z.0)
  index_sound false p e = outer_sound (nat_lt i (n + length s)) refl p e

pub match_sound : (n : ℕ) (C g : Named) (s q : Assignment) (r : List Named) → match_under n C g s ≡ Some q → Allows q r → Allows s r × (bare (put_all n r C) ≡ bare g)
match_sound n (var i) g s q r e h = index_sound n i g s q r h (nat_lt i n) refl e
match_sound n (sort a) (sort b) s q r e h = let z = held (nat_eq a b) s q e in (allows_as q s r z.1 h, same_term_eq (sort a) (sort b) z.0)
match_sound n (const c) (const d) s q r e h = let z = held (same_name c d) s q e in (allows_as q s r z.1 h, same_term_eq (const c) (const d) z.0)
match_sound n (app f a) (app k b) s q r e h =
    let p = first_of_two (match_under n a b) (match_under n f k s) q e in
    let v = match_sound n a b p.0 q r p.2 h in
    let u = match_sound n f k s p.0 r p.1 v.0 in
    (u.0, ap₂ app u.1 v.1)
match_sound n (named_lam x A b) (named_lam y C d) s q r e h =
    let p = first_of_two (match_under (suc n) b d) (match_under n A C s) q e in
    let v = match_sound (suc n) b d p.0 q r p.2 h in
    let u = match_sound n A C s p.0 r p.1 v.0 in
    (u.0, ap₂ lam u.1 v.1)
match_sound n (named_pi x A b) (named_pi y C d) s q r e h =
    let p = first_of_two (match_under (suc n) b d) (match_under n A C s) q e in
    let v = match_sound (suc n) b d p.0 q r p.2 h in
    let u = match_sound n A C s p.0 r p.1 v.0 in
    (u.0, ap₂ pi u.1 v.1)
match_sound n (named_let x a A b) (named_let y c C d) s q r e h =
    let p = first_of_two (match_under (suc n) b d) (option_and_then (match_under n A C) (match_under n a c s)) q e in
    let o = first_of_two (match_under n A C) (match_under n a c s) p.0 p.1 in
    let v = match_sound (suc n) b d p.0 q r p.2 h in
    let u = match_sound n A C o.0 p.0 r o.2 v.0 in
    let w = match_sound n a c s o.0 r o.1 u.0 in
    (w.0, ap₃ let_in w.1 u.1 v.1)
match_sound n t g s q r e h = absurd (cc e)

at_least : (i n : ℕ) → nat_lt i n ≡ false → n ≤ i
at_least i n e = grind (arith, nat_tests)

less_than : (i n : ℕ) → nat_lt i n ≡ true → i < n
less_than i n e = grind (arith, nat_tests)

-- An index that becomes a part meets it.
module _ (n i : ℕ) (g : Named) (s : Assignment) (r : List Named) (h : Allows s r) where
  index_complete : (t o : Bool) → nat_lt i n ≡ t → nat_lt i (n + length s) ≡ o → bare (put_all_index n r i) ≡ bare g → (q : Assignment) × (match_index n i g s ≡ Some q) × Allows q r
  index_complete true o p l e =
      let x : bare {B = Name} (var i) ≡ bare g = sym (ap bare (bound_index n i r p)) ∙ e in
      (s, bound_match n i g s p ∙ holds (is_index i g) s (same_if (var i) (bare g) x), h)
  index_complete false true p l e =
      let t = slice_index_or r (i - n) (sort 0) in
      let m = allows_length s r h in
      let k : nat_lt i (n + length r) ≡ true = ap (λ z. nat_lt i (n + z)) (sym m) ∙ l in
      let x : bare g ≡ lift 0 n (bare t) = sym e ∙ ap bare (open_index n i r p k) ∙ bare_lift 0 n t in
      let c : is_clear 0 n g ≡ true = sym (clear_bare 0 n g) ∙ ap (is_clear 0 n) x ∙ clear_lift 0 n (bare t) in
      let y : bare (lower 0 n g) ≡ bare t = bare_lower 0 n g ∙ ap (lower 0 n) x ∙ lower_lift 0 n (bare t) in
      let u : n ≤ i = at_least i n p in
      let v : i < n + length s = less_than i (n + length s) l in
      let a = assign_complete (i - n) (lower 0 n g) s r h (omega (arith, u, v)) y in
      (a.0, open_match n i g s p l ∙ if_true (is_clear 0 n g) (assign (i - n) (lower 0 n g) s) None c ∙ a.1, a.2)
  index_complete false false p l e =
      let m = allows_length s r h in
      let k : nat_lt i (n + length r) ≡ false = ap (λ z. nat_lt i (n + z)) (sym m) ∙ l in
      let x : bare {B = Name} (var (i - length s)) ≡ bare g = ap (λ z. bare {B = Name} (var (i - z))) m ∙ sym (ap bare (context_index n i r p k)) ∙ e in
      (s, context_match n i g s p l ∙ holds (is_index (i - length s) g) s (same_if (var (i - length s)) (bare g) x), h)

pub match_complete : (n : ℕ) (C g : Named) (s : Assignment) (r : List Named) → Allows s r → bare (put_all n r C) ≡ bare g → (q : Assignment) × (match_under n C g s ≡ Some q) × Allows q r
match_complete n (var i) g s r h e = index_complete n i g s r h (nat_lt i n) (nat_lt i (n + length s)) refl refl e
match_complete n (sort a) (sort b) s r h e = (s, holds (nat_eq a b) s (same_if (sort a) (sort b) e), h)
match_complete n (const c) (const d) s r h e = (s, holds (same_name c d) s (same_if (const c) (const d) e), h)
match_complete n (app f a) (app k b) s r h e =
    let u = match_complete n f k s r h (cc e) in
    let v = match_complete n a b u.0 r u.2 (cc e) in
    (v.0, both_of_two (match_under n a b) (match_under n f k s) u.0 v.0 u.1 v.1, v.2)
match_complete n (named_lam x A b) (named_lam y C d) s r h e =
    let u = match_complete n A C s r h (cc e) in
    let v = match_complete (suc n) b d u.0 r u.2 (cc e) in
    (v.0, both_of_two (match_under (suc n) b d) (match_under n A C s) u.0 v.0 u.1 v.1, v.2)
match_complete n (named_pi x A b) (named_pi y C d) s r h e =
    let u = match_complete n A C s r h (cc e) in
    let v = match_complete (suc n) b d u.0 r u.2 (cc e) in
    (v.0, both_of_two (match_under (suc n) b d) (match_under n A C s) u.0 v.0 u.1 v.1, v.2)
match_complete n (named_let x a A b) (named_let y c C d) s r h e =
    let w = match_complete n a c s r h (cc e) in
    let u = match_complete n A C w.0 r w.2 (cc e) in
    let v = match_complete (suc n) b d u.0 r u.2 (cc e) in
    let z = both_of_two (match_under n A C) (match_under n a c s) w.0 u.0 w.1 u.1 in
    (v.0, both_of_two (match_under (suc n) b d) (option_and_then (match_under n A C) (match_under n a c s)) u.0 v.0 z v.1, v.2)
match_complete n t g s r h e = absurd (cc e)

-- Nothing is known at the beginning.
none_allows : (k : ℕ) (r : List Named) → length r ≡ k → Allows (replicate k None) r
none_allows zero [] e = tt
none_allows zero (t ∷ r) e = absurd (omega (arith, e))
none_allows (suc k) [] e = absurd (omega (arith, e))
none_allows (suc k) (t ∷ r) e = none_allows k r (omega (arith, e))

none_length : (k : ℕ) (r : List Named) → Allows (replicate k None) r → length r ≡ k
none_length zero [] h = refl
none_length zero (t ∷ r) h = absurd h
none_length (suc k) [] h = absurd h
none_length (suc k) (t ∷ r) h = ap suc (none_length k r h)

pub matches_sound : MatchesAreSound
matches_sound k C g s e r = (
  (λ h. let m = match_sound 0 C g (replicate k None) s r e h in (none_length k r m.0, m.1)),
  (λ h. let m = match_complete 0 C g (replicate k None) r (none_allows k r h.0) h.1 in let p : s ≡ m.0 = cc (sym e ∙ m.1) in allows_as m.0 s r p m.2),
)

pub matches_complete : MatchesAreComplete
matches_complete k C g r e h = let m = match_complete 0 C g (replicate k None) r (none_allows k r h.0) h.1 in absurd (cc (sym e ∙ m.1))

-- Terms that an assignment allows: its own, and t for each open variable.
abbrev pub filled : Named → Assignment → List Named
filled t [] = []
filled t (None ∷ s) = t ∷ filled t s
filled t (Some a ∷ s) = a ∷ filled t s

filled_allowed : (t : Named) (s : Assignment) → Allows s (filled t s)
filled_allowed t [] = tt
filled_allowed t (None ∷ s) = filled_allowed t s
filled_allowed t (Some a ∷ s) = (refl, filled_allowed t s)

-- Two sorts show which variables are open.
no_two : (t : Bare) → t ≡ sort 0 → t ≡ sort 1 → ⊥
no_two t p q = absurd (cc (sym p ∙ q))

same_assignments : (s q : Assignment) → Allows q (filled (sort 0) s) → Allows q (filled (sort 1) s) → Allows s (filled (sort 0) q) → Allows s (filled (sort 1) q) → map (option_map bare) s ≡ map (option_map bare) q
same_assignments [] [] a b c d = refl
same_assignments [] (None ∷ q) a b c d = absurd a
same_assignments [] (Some y ∷ q) a b c d = absurd a
same_assignments (None ∷ s) [] a b c d = absurd a
same_assignments (Some x ∷ s) [] a b c d = absurd a
same_assignments (None ∷ s) (None ∷ q) a b c d = ap (λ z. None ∷ z) (same_assignments s q a b c d)
same_assignments (None ∷ s) (Some y ∷ q) a b c d = absurd (no_two (bare y) a.0 b.0)
same_assignments (Some x ∷ s) (None ∷ q) a b c d = absurd (no_two (bare x) c.0 d.0)
same_assignments (Some x ∷ s) (Some y ∷ q) a b c d = ap₂ (λ u z. Some u ∷ z) (sym a.0) (same_assignments s q a.1 b.1 c.1 d.1)

pub matches_unique : MatchesAreUnique
matches_unique k C g s q m n =
    let f = λ (p o : Assignment) (i : IsMatch k C g p) (j : IsMatch k C g o) (t : Named). (j (filled t p)).1 ((i (filled t p)).0 (filled_allowed t p)) in
    same_assignments s q (f s q m n (sort 0)) (f s q m n (sort 1)) (f q s n m (sort 0)) (f q s n m (sort 1))
