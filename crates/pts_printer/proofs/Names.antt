-- Lists of names.
use Rattle.std.proofs.Common.{◌≡◌, refl, sym, ◌∙◌, ap, ℕ, suc, ◌+◌, ◌-◌, ◌<◌, ◌≤◌, List, [], ◌∷◌, ◌++◌, Bool, true, false, ◌||◌, ◌&&◌, nat_eq, nat_lt, length, drop, get_or, reverse, arith}
use Rattle.std.specs.Prelude.{codes, decimal, if◌then◌else◌}
use Rattle.std.specs.Cmp.Lexicographic.{pointwise}
use Rattle.std.proofs.lemmas.List.{reverse-append, drop_more}
use Rattle.pts_names.specs.Name.{Name, same_name, is_identifier, underscore}
use Rattle.pts_names.proofs.Same.{same_name-pointwise, same_name-true}
use Rattle.pts_printer.specs.Clashes.{is_outer}
use Rattle.pts_printed.specs.Choice.{is_among, base, letter_x, numbered, allowed, if_short, choice}

pub reverse_more : {A : Type 0} (fs : List A) (f : A) → reverse (fs ++ f ∷ []) ≡ f ∷ reverse fs
reverse_more fs f = reverse-append fs (f ∷ [])

or_assoc : (m p q : Bool) → ((m || p) || q) ≡ (m || (p || q))
or_assoc true p q = refl
or_assoc false p q = refl

pub among_both : (x : Name) (F G : List Name) → is_among x (F ++ G) ≡ (is_among x F || is_among x G)
among_both x [] G = refl
among_both x (y ∷ F) G = ap (λ b. same_name x y || b) (among_both x F G) ∙ sym (or_assoc (same_name x y) (is_among x F) (is_among x G))

-- One name further in a list.
among_step : (x : Name) (F : List Name) (i : ℕ) (y : Name) → i < length F → y ≡ get_or F i y → is_among x (drop i F) ≡ (pointwise nat_eq x y || is_among x (drop (i + 1) F))
among_step x F i y h e =
    ap (is_among x) (drop_more F i y h)
    ∙ ap (λ b. b || is_among x (drop (i + 1) F)) (ap (same_name x) (sym e) ∙ same_name-pointwise x y)

pub among_found : (x : Name) (F : List Name) (i : ℕ) (y : Name) → i < length F → y ≡ get_or F i y → pointwise nat_eq x y ≡ true → is_among x (drop i F) ≡ is_among x F → true ≡ is_among x F
among_found x F i y h e t q = ap (λ b. b || is_among x (drop (i + 1) F)) (sym t) ∙ (sym (among_step x F i y h e) ∙ q)

pub among_passed : (x : Name) (F : List Name) (i : ℕ) (y : Name) → i < length F → y ≡ get_or F i y → pointwise nat_eq x y ≡ false → is_among x (drop i F) ≡ is_among x F → is_among x (drop (i + 1) F) ≡ is_among x F
among_passed x F i y h e t q = ap (λ b. b || is_among x (drop (i + 1) F)) (sym t) ∙ (sym (among_step x F i y h e) ∙ q)

-- Where the choice begins.
pub base_other : (x : Name) (used : Bool) → is_identifier x ≡ false → codes "x" ≡ base x used
base_other x used e = grind (arith, e)

pub base_used : (x : Name) (used : Bool) → is_identifier x ≡ true → used ≡ true → pointwise nat_eq x underscore ≡ true → codes "x" ≡ base x used
base_used x used e u s = let r : same_name x underscore ≡ true = same_name-pointwise x underscore ∙ s in grind (arith, e, u, r)

pub base_plain : (x : Name) (used : Bool) → is_identifier x ≡ true → pointwise nat_eq x underscore ≡ false → x ≡ base x used
base_plain x used e s = let r : same_name x underscore ≡ false = same_name-pointwise x underscore ∙ s in grind (arith, e, r)

unused_cases : (x : Name) (b : Bool) → same_name x underscore ≡ b → x ≡ (if b then underscore else x)
unused_cases x true s = same_name-true x underscore s
unused_cases x false s = refl

pub base_unused : (x : Name) (used : Bool) → is_identifier x ≡ true → used ≡ false → x ≡ base x used
base_unused x used e u = let r = unused_cases x (same_name x underscore) refl in r ∙ rw (e, u) refl

-- The search for a number, before it: e - n numbers are left.
pub number_found : (n e : ℕ) (x : Name) (F : List Name) → n < e → is_among (x ++ decimal n) F ≡ false → numbered n (e - n) x F ≡ x ++ decimal n
number_found n e x F h t =
    let more : e - n ≡ suc (e - n - 1) = omega arith in
    ap (λ m. numbered n m x F) more ∙ ap (λ b. if b then numbered (suc n) (e - n - 1) x F else (x ++ decimal n)) t

pub number_passed : (n e : ℕ) (x : Name) (F : List Name) → n < e → is_among (x ++ decimal n) F ≡ true → numbered n (e - n) x F ≡ numbered (n + 1) (e - (n + 1)) x F
number_passed n e x F h t =
    let more : e - n ≡ suc (e - (n + 1)) = omega arith in
    let next : suc n ≡ n + 1 = omega arith in
    ap (λ m. numbered n m x F) more
    ∙ (ap (λ b. if b then numbered (suc n) (e - (n + 1)) x F else (x ++ decimal n)) t
    ∙ ap (λ m. numbered m (e - (n + 1)) x F) next)

pub number_last : (n e : ℕ) (x : Name) (F : List Name) → e ≤ n → numbered n (e - n) x F ≡ x ++ decimal n
number_last n e x F h = let none : e - n ≡ 0 = omega arith in ap (λ m. numbered n m x F) none

-- Whether a variable occurs matters of a name `_` alone.
used_base : (x : Name) (used : Bool) → base x (same_name x underscore && used) ≡ base x used
used_base x used = cases (same_name x underscore) refl
  where
    cases : (b : Bool) → same_name x underscore ≡ b → base x (same_name x underscore && used) ≡ base x used
    cases true e = ap (λ b. base x (b && used)) e
    cases false e = rw e refl

pub choice_used : (x : Name) (used : Bool) (F : List Name) → choice x (same_name x underscore && used) F ≡ choice x used F
unfolding choice
choice_used x used F = ap (λ y. if_short (allowed y F) (allowed letter_x F)) (used_base x used)

pub arrow_name : (x : Name) → same_name x underscore ≡ pointwise nat_eq x underscore
arrow_name x = same_name-pointwise x underscore

pub name_test : (x y : Name) → same_name x y ≡ pointwise nat_eq x y
name_test x y = same_name-pointwise x y

allowed_free : (x : Name) (F : List Name) → is_among x F ≡ false → allowed x F ≡ x
allowed_free x F h = ap (λ b. if b then numbered 1 (length F) x F else x) h

short_is : (y z : Name) → length y ≤ 128 → if_short y z ≡ y
short_is y z h = let e : nat_lt 128 (length y) ≡ false = grind (arith, h) in ap (λ b. if b then z else y) e

pub choice_free : (x : Name) (used : Bool) (F : List Name) → is_among (base x used) F ≡ false → length (base x used) ≤ 128 → choice x used F ≡ base x used
unfolding choice
choice_free x used F h s =
    ap (λ y. if_short y (allowed letter_x F)) (allowed_free (base x used) F h) ∙ short_is (base x used) (allowed letter_x F) s

-- The test of the name of a variable.
pub outer_is : (x : Name) (L : List Name) (k i : ℕ) (y : Name) → k ≤ i → i - k < length L → y ≡ get_or L (i - k) [] → pointwise nat_eq x y ≡ is_outer x L k i
outer_is x L k i y h l e =
    let behind : nat_lt i k ≡ false = grind (arith, h) in
    let inside : nat_lt (i - k) (length L) ≡ true = grind (arith, l) in
    sym (same_name-pointwise x y) ∙ (ap (same_name x) e ∙ sym (rw (behind, inside) refl))
