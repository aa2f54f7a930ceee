-- Lowering and lifting undo each other.
use Rattle.std.proofs.Common.{◌≡◌, ℕ, suc, ◌+◌, ◌-◌, ◌≤◌, Bool, true, false, refl, sym, ap, ◌∙◌, arith}
use Rattle.std.specs.Prelude.{◌&&◌, ◌||◌, nat_lt, nat_le}
use Rattle.std.proofs.lemmas.Bool.Decides.{nat_tests}
use mathlib.Core.Path.{ap₂}
use Rattle.pts_terms.specs.Tree.{Tree, Named, Bare, bare, sort, const, var, app, named_lam, named_pi, named_let, lam, pi, let_in, lift, lift_index, same_term}
use Rattle.pts_terms.proofs.Lifting.{ap₃, lift_join}
use Rattle.pts_terms.proofs.Same.{both, both_hold, same_term_eq, same_term_self}
use Rattle.pts_terms.proofs.Unnamed.{bare_lift}
use Rattle.pts_match.specs.Lowering.{is_clear, lower, lower_index}

index_back : (k n i : ℕ) → (nat_lt i k || nat_le (k + n) i) ≡ true → lift_index k n (lower_index k n i) ≡ i
index_back k n i h = grind (arith, nat_tests)

-- What is clear of binders is lifted back under them.
pub lift_lower : {B : Type 0} (k n : ℕ) (t : Tree B) → is_clear k n t ≡ true → lift k n (lower k n t) ≡ t
lift_lower k n (sort s) h = refl
lift_lower k n (const c) h = refl
lift_lower k n (var i) h = ap var (index_back k n i h)
lift_lower k n (app f a) h = let p = both _ _ h in ap₂ app (lift_lower k n f p.0) (lift_lower k n a p.1)
lift_lower k n (named_lam x A b) h = let p = both _ _ h in ap₂ (named_lam x) (lift_lower k n A p.0) (lift_lower (suc k) n b p.1)
lift_lower k n (named_pi x A b) h = let p = both _ _ h in ap₂ (named_pi x) (lift_lower k n A p.0) (lift_lower (suc k) n b p.1)
lift_lower k n (named_let x a A b) h = let p = both _ _ h in let q = both _ _ p.1 in ap₃ (named_let x) (lift_lower k n a p.0) (lift_lower k n A q.0) (lift_lower (suc k) n b q.1)

index_down : (k n i : ℕ) → lower_index k n (lift_index k n i) ≡ i
index_down k n i = grind (arith, nat_tests)

pub lower_lift : {B : Type 0} (k n : ℕ) (t : Tree B) → lower k n (lift k n t) ≡ t
lower_lift k n (sort s) = refl
lower_lift k n (const c) = refl
lower_lift k n (var i) = ap var (index_down k n i)
lower_lift k n (app f a) = ap₂ app (lower_lift k n f) (lower_lift k n a)
lower_lift k n (named_lam x A b) = ap₂ (named_lam x) (lower_lift k n A) (lower_lift (suc k) n b)
lower_lift k n (named_pi x A b) = ap₂ (named_pi x) (lower_lift k n A) (lower_lift (suc k) n b)
lower_lift k n (named_let x a A b) = ap₃ (named_let x) (lower_lift k n a) (lower_lift k n A) (lower_lift (suc k) n b)

index_lifted : (k n i : ℕ) → (nat_lt (lift_index k n i) k || nat_le (k + n) (lift_index k n i)) ≡ true
index_lifted k n i = grind (arith, nat_tests)

-- What was lifted is clear of the binders.
pub clear_lift : {B : Type 0} (k n : ℕ) (t : Tree B) → is_clear k n (lift k n t) ≡ true
clear_lift k n (sort s) = refl
clear_lift k n (const c) = refl
clear_lift k n (var i) = index_lifted k n i
clear_lift k n (app f a) = both_hold _ _ (clear_lift k n f) (clear_lift k n a)
clear_lift k n (named_lam x A b) = both_hold _ _ (clear_lift k n A) (clear_lift (suc k) n b)
clear_lift k n (named_pi x A b) = both_hold _ _ (clear_lift k n A) (clear_lift (suc k) n b)
clear_lift k n (named_let x a A b) = both_hold _ _ (clear_lift k n a) (both_hold _ _ (clear_lift k n A) (clear_lift (suc k) n b))

-- Printed names don't matter to either.
pub clear_bare : {B : Type 0} (k n : ℕ) (t : Tree B) → is_clear k n (bare t) ≡ is_clear k n t
clear_bare k n (sort s) = refl
clear_bare k n (const c) = refl
clear_bare k n (var i) = refl
clear_bare k n (app f a) = ap₂ (λ p q. p && q) (clear_bare k n f) (clear_bare k n a)
clear_bare k n (named_lam x A b) = ap₂ (λ p q. p && q) (clear_bare k n A) (clear_bare (suc k) n b)
clear_bare k n (named_pi x A b) = ap₂ (λ p q. p && q) (clear_bare k n A) (clear_bare (suc k) n b)
clear_bare k n (named_let x a A b) = ap₃ (λ p q r. p && (q && r)) (clear_bare k n a) (clear_bare k n A) (clear_bare (suc k) n b)

pub bare_lower : {B : Type 0} (k n : ℕ) (t : Tree B) → bare (lower k n t) ≡ lower k n (bare t)
bare_lower k n (sort s) = refl
bare_lower k n (const c) = refl
bare_lower k n (var i) = refl
bare_lower k n (app f a) = ap₂ app (bare_lower k n f) (bare_lower k n a)
bare_lower k n (named_lam x A b) = ap₂ lam (bare_lower k n A) (bare_lower (suc k) n b)
bare_lower k n (named_pi x A b) = ap₂ pi (bare_lower k n A) (bare_lower (suc k) n b)
bare_lower k n (named_let x a A b) = ap₃ let_in (bare_lower k n a) (bare_lower k n A) (bare_lower (suc k) n b)

-- Tests that follow from each other are one.
one_test : (a b : Bool) → (a ≡ true → b ≡ true) → (b ≡ true → a ≡ true) → a ≡ b
one_test true b f g = sym (f refl)
one_test false true f g = g refl
one_test false false f g = refl

pub same_if : (t u : Bare) → t ≡ u → same_term t u ≡ true
same_if t u e = ap (same_term t) (sym e) ∙ same_term_self t

pub same_swap : (t u : Bare) → same_term t u ≡ same_term u t
same_swap t u = one_test _ _ (λ h. same_if u t (sym (same_term_eq t u h))) (λ h. same_if t u (sym (same_term_eq u t h)))

-- Lifted terms are equal where the terms are.
same_lift : (k n : ℕ) (t u : Bare) → same_term (lift k n t) (lift k n u) ≡ same_term t u
same_lift k n t u =
    one_test _ _
    (λ h. same_if t u (sym (lower_lift k n t) ∙ ap (lower k n) (same_term_eq _ _ h) ∙ lower_lift k n u))
    (λ h. same_if (lift k n t) (lift k n u) (ap (lift k n) (same_term_eq t u h)))

-- Parts under n and under m binders are compared by lifting the one under fewer.
pub same_parts : (t u : Named) (n m : ℕ) → m ≤ n → is_clear 0 n t ≡ true → is_clear 0 m u ≡ true → same_term (bare t) (lift 0 (n - m) (bare u)) ≡ same_term (bare (lower 0 n t)) (bare (lower 0 m u))
same_parts t u n m l h g =
    let T = bare (lower 0 n t) in
    let U = bare (lower 0 m u) in
    let p : bare t ≡ lift 0 n T = sym (ap bare (lift_lower 0 n t h)) ∙ bare_lift 0 n (lower 0 n t) in
    let q : bare u ≡ lift 0 m U = sym (ap bare (lift_lower 0 m u g)) ∙ bare_lift 0 m (lower 0 m u) in
    let i : m + (n - m) ≡ n = omega (arith, l) in
    let j : lift 0 (n - m) (lift 0 m U) ≡ lift 0 n U = lift_join 0 m 0 (n - m) U (omega arith) (omega arith) ∙ ap (λ x. lift 0 x U) i in
    ap (λ x. same_term x (lift 0 (n - m) (bare u))) p ∙ ap (λ x. same_term (lift 0 n T) (lift 0 (n - m) x)) q ∙ ap (same_term (lift 0 n T)) j ∙ same_lift 0 n T U
