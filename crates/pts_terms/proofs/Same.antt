-- The test of terms without printed names decides equality.
use Rattle.std.proofs.Common.{ℕ, Bool, true, ◌≡◌, ap, arith}
use Rattle.std.specs.Prelude.{◌&&◌, nat_eq}
use mathlib.Core.Path.{ap₂}
use Rattle.pts_names.proofs.Same.{same_name-true, same_name-self}
use Rattle.pts_terms.specs.Tree.{Bare, sort, const, var, app, lam, pi, let_in, same_term}
use Rattle.pts_terms.proofs.Lifting.{ap₃}

pub both : (a b : Bool) → (a && b) ≡ true → (a ≡ true) × (b ≡ true)
both a b h = grind arith

pub both_hold : (a b : Bool) → a ≡ true → b ≡ true → (a && b) ≡ true
both_hold a b p q = grind arith

pub nat_eq_self : (i : ℕ) → nat_eq i i ≡ true
nat_eq_self i = grind arith

pub nat_eq_same : (i j : ℕ) → nat_eq i j ≡ true → i ≡ j
nat_eq_same i j h = grind arith

pub same_term_self : (t : Bare) → same_term t t ≡ true
same_term_self (sort s) = nat_eq_self s
same_term_self (const c) = same_name-self c
same_term_self (var i) = nat_eq_self i
same_term_self (app f a) = both_hold _ _ (same_term_self f) (same_term_self a)
same_term_self (lam A b) = both_hold _ _ (same_term_self A) (same_term_self b)
same_term_self (pi A b) = both_hold _ _ (same_term_self A) (same_term_self b)
same_term_self (let_in a A b) = both_hold _ _ (same_term_self a) (both_hold _ _ (same_term_self A) (same_term_self b))

pub same_term_eq : (t u : Bare) → same_term t u ≡ true → t ≡ u
same_term_eq (sort s) (sort r) h = ap sort (nat_eq_same s r h)
same_term_eq (const c) (const d) h = ap const (same_name-true c d h)
same_term_eq (var i) (var j) h = ap var (nat_eq_same i j h)
same_term_eq (app f a) (app g b) h = let (p, q) = both _ _ h in ap₂ app (same_term_eq f g p) (same_term_eq a b q)
same_term_eq (lam A b) (lam B c) h = let (p, q) = both _ _ h in ap₂ lam (same_term_eq A B p) (same_term_eq b c q)
same_term_eq (pi A b) (pi B c) h = let (p, q) = both _ _ h in ap₂ pi (same_term_eq A B p) (same_term_eq b c q)
same_term_eq (let_in a A b) (let_in c B d) h =
    let (p, r) = both _ _ h in
    let (q, o) = both (same_term A B) (same_term b d) r in
    ap₃ let_in (same_term_eq a c p) (same_term_eq A B q) (same_term_eq b d o)
same_term_eq _ _ h = absurd (cc h)
