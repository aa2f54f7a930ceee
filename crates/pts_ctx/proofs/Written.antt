-- The clashes of what is written are those of the places of its sorts.
use Rattle.std.proofs.Common.{◌≡◌, ℕ, suc, ◌+◌, ◌<◌, ◌≤◌, ◌&&◌, Bool, true, false, not, if◌then◌else◌, nat_eq, List, [], ◌∷◌, map, length, position, slice_get, Option, Some, None, is_some, refl, sym, ap, ◌∙◌, arith}
use Rattle.std.specs.List.{AllByRecursion}
use Rattle.std.specs.Option.{option_map, unwrap_or}
use Rattle.std.proofs.lemmas.Option.{slice_get_within}
use Rattle.pts_names.specs.Name.{same_name}
use Rattle.pts_names.proofs.Same.{same_name-true, same_name-from_equal}
use Rattle.pts_ctx.specs.System.{sort_of, is_sort_of, place_among, first_pair, axioms_clash, rules_clash, axiom_is_declared, rule_is_declared, axiom_at, rule_at}
use Rattle.pts_ctx.specs.Tables.{rule_line}
use Rattle.pts_ctx.specs.Firsts.{lines_clash}
use Rattle.pts_ctx.proofs.Positions.{position-step, position-map, position-agree}
use Rattle.pts_ctx.proofs.Clashes.{from_here}
use Rattle.pts_ctx.proofs.Tabled.{same-square}

-- The spelling stands at its place.
place-found : (sorts : List (List ℕ)) (x : List ℕ) (i : ℕ) → sort_of sorts x ≡ Some i → slice_get sorts i ≡ Some x
place-found [] x i at = absurd (cc at)
place-found (y ∷ sorts) x i at = by (same_name x y) refl (sort_of sorts x) refl (sym (position-step (same_name x) y sorts) ∙ at) (λ k f. place-found sorts x k f)
  where
    by : (b : Bool) → same_name x y ≡ b → (r : Option ℕ) → sort_of sorts x ≡ r → (if b then Some 0 else option_map suc r) ≡ Some i
        → ((k : ℕ) → sort_of sorts x ≡ Some k → slice_get sorts k ≡ Some x) → slice_get (y ∷ sorts) i ≡ Some x
    by true e r f h rest =
        let zero_is : i ≡ 0 = sym (cc h) in
        ap (slice_get (y ∷ sorts)) zero_is ∙ ap Some (sym (same_name-true x y e))
    by false e None f h rest = absurd (cc h)
    by false e (Some k) f h rest =
        let next : i ≡ suc k = sym (cc h) in
        ap (slice_get (y ∷ sorts)) next ∙ rest k f

declared-place : (sorts : List (List ℕ)) (x : List ℕ) → is_sort_of sorts x ≡ true → sort_of sorts x ≡ Some (place_among sorts x)
declared-place sorts x h = by (sort_of sorts x) h
  where
    by : (r : Option ℕ) → is_some r ≡ true → r ≡ Some (unwrap_or r 0)
    by None h = absurd (cc h)
    by (Some k) h = refl

there : (sorts : List (List ℕ)) (x : List ℕ) → is_sort_of sorts x ≡ true → slice_get sorts (place_among sorts x) ≡ Some x
there sorts x h = place-found sorts x (place_among sorts x) (declared-place sorts x h)

pub place-below : (sorts : List (List ℕ)) (x : List ℕ) → is_sort_of sorts x ≡ true → place_among sorts x < length sorts
place-below sorts x h = slice_get_within sorts (place_among sorts x) x (there sorts x h)

-- Two declared spellings are one where their places are.
pub same-place : (sorts : List (List ℕ)) (x y : List ℕ) → is_sort_of sorts x ≡ true → is_sort_of sorts y ≡ true → same_name x y ≡ nat_eq (place_among sorts x) (place_among sorts y)
same-place sorts x y hx hy = by (same_name x y) (nat_eq (place_among sorts x) (place_among sorts y)) refl refl
  where
    by : (b c : Bool) → same_name x y ≡ b → nat_eq (place_among sorts x) (place_among sorts y) ≡ c → b ≡ c
    by true true e f = refl
    by false false e f = refl
    by true false e f =
        let one : place_among sorts x ≡ place_among sorts y = ap (place_among sorts) (same_name-true x y e) in
        absurd (grind (arith, f, one))
    by false true e f =
        let one : place_among sorts x ≡ place_among sorts y = grind (arith, f) in
        let equal : x ≡ y = cc (sym (there sorts x hx) ∙ (ap (slice_get sorts) one ∙ there sorts y hy)) in
        absurd (cc (e, same_name-from_equal x y equal))

both : (a b : Bool) → (a && b) ≡ true → (a ≡ true) × (b ≡ true)
both a b h = grind arith

-- Where no item fails a test, all pass it.
pub all_pass : {A : Type 0} (p : A → Bool) (xs : List A) → position (λ x. not (p x)) xs ≡ None → AllByRecursion (λ x. p x ≡ true) xs
all_pass p [] none = tt
all_pass p (x ∷ xs) none = by (p x) refl (sym (position-step (λ y. not (p y)) x xs) ∙ none) (λ h. all_pass p xs h)
  where
    by : (b : Bool) → p x ≡ b → (if not b then Some 0 else option_map suc (position (λ y. not (p y)) xs)) ≡ None
        → (position (λ y. not (p y)) xs ≡ None → AllByRecursion (λ y. p y ≡ true) xs) → (p x ≡ true) × AllByRecursion (λ y. p y ≡ true) xs
    by true e h rest = (e, rest (none_inside (position (λ y. not (p y)) xs) h))
      where
        none_inside : (r : Option ℕ) → option_map suc r ≡ None → r ≡ None
        none_inside None g = refl
        none_inside (Some k) g = absurd (cc g)
    by false e h rest = absurd (cc h)

pub pair-map : {A B : Type 0} (clash : B → B → Bool) (f : A → B) (k : ℕ) (xs : List A) → first_pair clash k (map f xs) ≡ first_pair (λ a b. clash (f a) (f b)) k xs
pair-map clash f k [] = refl
pair-map clash f k (x ∷ xs) =
    ap (from_here clash k (map f xs)) (position-map (clash (f x)) f xs) ∙ by (position (λ b. clash (f x) (f b)) xs) (pair-map clash f (k + 1) xs)
  where
    by : (r : Option ℕ) → first_pair clash (k + 1) (map f xs) ≡ first_pair (λ a b. clash (f a) (f b)) (k + 1) xs → from_here clash k (map f xs) r ≡ from_here (λ a b. clash (f a) (f b)) k xs r
    by None rest = rest
    by (Some d) rest = refl

module _ {A : Type 0} (one other : A → A → Bool) (D : A → Type 0) (agree : (a b : A) → D a → D b → one a b ≡ other a b) where
  agree_all : (a : A) (xs : List A) → D a → AllByRecursion D xs → AllByRecursion (λ b. one a b ≡ other a b) xs
  agree_all a [] da all = tt
  agree_all a (x ∷ xs) da all = (agree a x da all.0, agree_all a xs da all.1)

  pub pair-agree : (k : ℕ) (xs : List A) → AllByRecursion D xs → first_pair one k xs ≡ first_pair other k xs
  pair-agree k [] all = refl
  pair-agree k (x ∷ xs) all =
      ap (from_here one k xs) (position-agree (one x) (other x) xs (agree_all x xs all.0 all.1)) ∙ by (position (other x) xs) (pair-agree (k + 1) xs all.1)
    where
      by : (r : Option ℕ) → first_pair one (k + 1) xs ≡ first_pair other (k + 1) xs → from_here one k xs r ≡ from_here other k xs r
      by None rest = rest
      by (Some d) rest = refl

-- Axioms clash as their places do.
pub axioms-clash : (sorts : List (List ℕ)) (axioms : List (List ℕ × List ℕ)) → position (λ a. not (axiom_is_declared sorts a)) axioms ≡ None
    → first_pair axioms_clash 0 axioms ≡ first_pair lines_clash 0 (map (axiom_at sorts) axioms)
axioms-clash sorts axioms none =
    pair-agree axioms_clash (λ a b. lines_clash (axiom_at sorts a) (axiom_at sorts b)) (λ a. axiom_is_declared sorts a ≡ true) agree 0 axioms (all_pass (axiom_is_declared sorts) axioms none)
    ∙ sym (pair-map lines_clash (axiom_at sorts) 0 axioms)
  where
    agree : (a b : List ℕ × List ℕ) → axiom_is_declared sorts a ≡ true → axiom_is_declared sorts b ≡ true → axioms_clash a b ≡ lines_clash (axiom_at sorts a) (axiom_at sorts b)
    agree a b ha hb =
        let (p, q) = both (is_sort_of sorts a.0) (is_sort_of sorts a.1) ha in
        let (r, s) = both (is_sort_of sorts b.0) (is_sort_of sorts b.1) hb in
        λ j. same-place sorts a.0 b.0 p r j && not (same-place sorts a.1 b.1 q s j)

three : (a b c : Bool) → (a && (b && c)) ≡ true → (a ≡ true) × (b ≡ true) × (c ≡ true)
three a b c h = grind arith

and-assoc : (a b c : Bool) → (a && (b && c)) ≡ ((a && b) && c)
and-assoc a b c = grind arith

-- Rules clash as their lines do.
pub rules-clash : (sorts : List (List ℕ)) (rules : List (List ℕ × List ℕ × List ℕ)) → length sorts ≤ 64 → position (λ r. not (rule_is_declared sorts r)) rules ≡ None
    → first_pair rules_clash 0 rules ≡ first_pair lines_clash 0 (map rule_line (map (rule_at sorts) rules))
rules-clash sorts rules few none =
    pair-agree rules_clash (λ a b. lines_clash (rule_line (rule_at sorts a)) (rule_line (rule_at sorts b))) (λ r. rule_is_declared sorts r ≡ true) agree 0 rules (all_pass (rule_is_declared sorts) rules none)
    ∙ (sym (pair-map (λ a b. lines_clash (rule_line a) (rule_line b)) (rule_at sorts) 0 rules) ∙ sym (pair-map lines_clash rule_line 0 (map (rule_at sorts) rules)))
  where
    agree : (a b : List ℕ × List ℕ × List ℕ) → rule_is_declared sorts a ≡ true → rule_is_declared sorts b ≡ true
        → rules_clash a b ≡ lines_clash (rule_line (rule_at sorts a)) (rule_line (rule_at sorts b))
    agree a b ha hb =
        let (p, q, r) = three (is_sort_of sorts a.0) (is_sort_of sorts a.1) (is_sort_of sorts a.2) ha in
        let (s, t, u) = three (is_sort_of sorts b.0) (is_sort_of sorts b.1) (is_sort_of sorts b.2) hb in
        let left : place_among sorts a.1 < 64 = let h = place-below sorts a.1 q in omega arith in
        let right : place_among sorts b.1 < 64 = let h = place-below sorts b.1 t in omega arith in
        (λ j. same-place sorts a.0 b.0 p s j && (same-place sorts a.1 b.1 q t j && not (same-place sorts a.2 b.2 r u j)))
        ∙ (and-assoc (nat_eq (place_among sorts a.0) (place_among sorts b.0)) (nat_eq (place_among sorts a.1) (place_among sorts b.1)) (not (nat_eq (place_among sorts a.2) (place_among sorts b.2)))
        ∙ ap (λ c. c && not (nat_eq (place_among sorts a.2) (place_among sorts b.2))) (sym (same-square (place_among sorts a.0) (place_among sorts a.1) (place_among sorts b.0) (place_among sorts b.1) left right)))
