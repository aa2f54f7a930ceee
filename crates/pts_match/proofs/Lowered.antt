-- What lowering leaves as it is.
use Rattle.std.proofs.Common.{◌≡◌, ℕ, suc, ◌+◌, ◌-◌, ◌≤◌, ◌<◌, List, refl, sym, ap, ◌∙◌, subst, arith, true}
use Rattle.std.specs.Prelude.{◌&&◌, ◌||◌, nat_lt, nat_le}
use Rattle.std.proofs.lemmas.Bool.Decides.{nat_tests}
use mathlib.Core.Path.{ap₂}
use Rattle.pts_names.specs.Name.{Name}
use Rattle.pts_terms.specs.Tree.{Tree, Named, bare, sort, const, var, app, named_lam, named_pi, named_let, Below}
use Rattle.pts_terms.specs.Limits.{free_of, depth_of, size_of, within}
use Rattle.pts_terms.proofs.Lifting.{ap₃}
use Rattle.pts_terms.proofs.Same.{both_hold}
use Rattle.pts_record.specs.declared.shape.Shape.{Shape}
use Rattle.pts_record.specs.Table.{named_at, bare_at}
use Rattle.pts_record.proofs.Compared.{free_below}
use Rattle.pts_record.proofs.Trees.{bare_of_named}
use Rattle.pts_grow.proofs.Lifted.{stands_within}
use Rattle.pts_match.specs.Lowering.{is_clear, lower, lower_index}

-- The bound of a term's free indices bounds them.
pub below_at : (ss : List Shape) (k l : ℕ) → free_of (bare_at ss k) ≤ l → Below l (bare (named_at ss k))
below_at ss k l h = subst (Below l) (sym (bare_of_named ss k)) (free_below l (bare_at ss k) h)

index_clear : (k n i : ℕ) → i < k → (nat_lt i k || nat_le (k + n) i) ≡ true
index_clear k n i h = grind (arith, nat_tests)

pub clear_past : {B : Type 0} (k n : ℕ) (t : Tree B) → Below k (bare t) → is_clear k n t ≡ true
clear_past k n (sort s) h = refl
clear_past k n (const c) h = refl
clear_past k n (var i) h = index_clear k n i h
clear_past k n (app f a) h = both_hold _ _ (clear_past k n f h.0) (clear_past k n a h.1)
clear_past k n (named_lam x A b) h = both_hold _ _ (clear_past k n A h.0) (clear_past (suc k) n b h.1)
clear_past k n (named_pi x A b) h = both_hold _ _ (clear_past k n A h.0) (clear_past (suc k) n b h.1)
clear_past k n (named_let x a A b) h = both_hold _ _ (clear_past k n a h.0) (both_hold _ _ (clear_past k n A h.1) (clear_past (suc k) n b h.2))

index_clear_of_none : (k i : ℕ) → (nat_lt i k || nat_le (k + 0) i) ≡ true
index_clear_of_none k i = grind (arith, nat_tests)

clear_none : {B : Type 0} (k : ℕ) (t : Tree B) → is_clear k 0 t ≡ true
clear_none k (sort s) = refl
clear_none k (const c) = refl
clear_none k (var i) = index_clear_of_none k i
clear_none k (app f a) = both_hold _ _ (clear_none k f) (clear_none k a)
clear_none k (named_lam x A b) = both_hold _ _ (clear_none k A) (clear_none (suc k) b)
clear_none k (named_pi x A b) = both_hold _ _ (clear_none k A) (clear_none (suc k) b)
clear_none k (named_let x a A b) = both_hold _ _ (clear_none k a) (both_hold _ _ (clear_none k A) (clear_none (suc k) b))

pub clear_of_bound : (ss : List Shape) (k from by : ℕ) → free_of (bare_at ss k) ≤ from → is_clear from by (named_at ss k) ≡ true
clear_of_bound ss k from by h = clear_past from by (named_at ss k) (below_at ss k from h)

pub clear_of_none : (t : Named) (from by : ℕ) → by ≡ 0 → is_clear from by t ≡ true
clear_of_none t from by e = ap (λ n. is_clear from n t) e ∙ clear_none from t

lower_index_below : (k n i : ℕ) → i < k → lower_index k n i ≡ i
lower_index_below k n i h = grind (arith, nat_tests)

lower_past : {B : Type 0} (k n : ℕ) (t : Tree B) → Below k (bare t) → lower k n t ≡ t
lower_past k n (sort s) h = refl
lower_past k n (const c) h = refl
lower_past k n (var i) h = ap var (lower_index_below k n i h)
lower_past k n (app f a) h = ap₂ app (lower_past k n f h.0) (lower_past k n a h.1)
lower_past k n (named_lam x A b) h = ap₂ (named_lam x) (lower_past k n A h.0) (lower_past (suc k) n b h.1)
lower_past k n (named_pi x A b) h = ap₂ (named_pi x) (lower_past k n A h.0) (lower_past (suc k) n b h.1)
lower_past k n (named_let x a A b) h = ap₃ (named_let x) (lower_past k n a h.0) (lower_past k n A h.1) (lower_past (suc k) n b h.2)

lower_index_none : (k i : ℕ) → lower_index k 0 i ≡ i
lower_index_none k i = grind (arith, nat_tests)

lower_zero : {B : Type 0} (k : ℕ) (t : Tree B) → lower k 0 t ≡ t
lower_zero k (sort s) = refl
lower_zero k (const c) = refl
lower_zero k (var i) = ap var (lower_index_none k i)
lower_zero k (app f a) = ap₂ app (lower_zero k f) (lower_zero k a)
lower_zero k (named_lam x A b) = ap₂ (named_lam x) (lower_zero k A) (lower_zero (suc k) b)
lower_zero k (named_pi x A b) = ap₂ (named_pi x) (lower_zero k A) (lower_zero (suc k) b)
lower_zero k (named_let x a A b) = ap₃ (named_let x) (lower_zero k a) (lower_zero k A) (lower_zero (suc k) b)

pub lower_same : (ss : List Shape) (k from by : ℕ) → free_of (bare_at ss k) ≤ from → lower from by (named_at ss k) ≡ named_at ss k
lower_same ss k from by h = lower_past from by (named_at ss k) (below_at ss k from h)

pub lower_none : (t : Named) (from by : ℕ) → by ≡ 0 → lower from by t ≡ t
lower_none t from by e = ap (λ n. lower from n t) e ∙ lower_zero from t

-- A local definition is lowered part by part.
pub let_lowered : (k n : ℕ) (x y : Name) (t D A B d a b : Named) → t ≡ named_let y D A B → x ≡ y → d ≡ lower k n D → a ≡ lower k n A → b ≡ lower (k + 1) n B → named_let x d a b ≡ lower k n t
let_lowered k n x y t D A B d a b e f p q s =
    let i : k + 1 ≡ suc k = omega arith in
    let z : b ≡ lower (suc k) n B = s ∙ ap (λ j. lower j n B) i in
    let w : lower k n t ≡ named_let y (lower k n D) (lower k n A) (lower (suc k) n B) = ap (lower k n) e in
    cc

-- A lowered term is as large as it was.
lower_depth : {B : Type 0} (k n : ℕ) (t : Tree B) → depth_of (lower k n t) ≡ depth_of t
lower_depth k n (sort s) = refl
lower_depth k n (const c) = refl
lower_depth k n (var i) = refl
lower_depth k n (app f a) = rw (lower_depth k n f, lower_depth k n a) refl
lower_depth k n (named_lam x A b) = rw (lower_depth k n A, lower_depth (suc k) n b) refl
lower_depth k n (named_pi x A b) = rw (lower_depth k n A, lower_depth (suc k) n b) refl
lower_depth k n (named_let x a A b) = rw (lower_depth k n a, lower_depth k n A, lower_depth (suc k) n b) refl

lower_size : {B : Type 0} (k n : ℕ) (t : Tree B) → size_of (lower k n t) ≡ size_of t
lower_size k n (sort s) = refl
lower_size k n (const c) = refl
lower_size k n (var i) = refl
lower_size k n (app f a) = rw (lower_size k n f, lower_size k n a) refl
lower_size k n (named_lam x A b) = rw (lower_size k n A, lower_size (suc k) n b) refl
lower_size k n (named_pi x A b) = rw (lower_size k n A, lower_size (suc k) n b) refl
lower_size k n (named_let x a A b) = rw (lower_size k n a, lower_size k n A, lower_size (suc k) n b) refl

lower_within : (k n : ℕ) (t : Named) → within (lower k n t) ≡ within t
lower_within k n t = let p = lower_depth k n t in let q = lower_size k n t in cc

pub lower_fits : (ss : List Shape) (k from by : ℕ) → (depth_of (bare_at ss k) ≤ 2000) × (size_of (bare_at ss k) ≤ 1000000) → within (lower from by (named_at ss k)) ≡ true
lower_fits ss k from by h = lower_within from by (named_at ss k) ∙ stands_within ss k h
