-- Laws of lifting. An index law is arithmetic; a term law goes through each constructor.
use Rattle.std.proofs.Common.{ℕ, suc, ◌+◌, ◌≡◌, ◌<◌, ◌≤◌, refl, ap, arith, ◌∙◌}
use mathlib.Core.Path.{ap₂}
use Rattle.pts_terms.specs.Tree.{Tree, sort, const, var, app, named_lam, named_pi, named_let, lift_index, lift}

pub ap₃ : {A B C D : Type 0} (f : A → B → C → D) {a a' : A} {b b' : B} {c c' : C} → a ≡ a' → b ≡ b' → c ≡ c' → f a b c ≡ f a' b' c'
ap₃ f p q r = λ i. f (p i) (q i) (r i)

pub lift_index_below : (k n i : ℕ) → i < k → lift_index k n i ≡ i
lift_index_below k n i h = grind arith

pub lift_index_above : (k n i : ℕ) → k ≤ i → lift_index k n i ≡ i + n
lift_index_above k n i h = grind arith

pub lift_index_zero : (k i : ℕ) → lift_index k 0 i ≡ i
lift_index_zero k i = grind arith

pub lift_index_join : (k n l m i : ℕ) → k ≤ l → l ≤ k + n → lift_index l m (lift_index k n i) ≡ lift_index k (n + m) i
lift_index_join k n l m i p q = grind arith

pub lift_index_swap : (k n l m j i : ℕ) → k ≤ l → j ≡ l + n → lift_index j m (lift_index k n i) ≡ lift_index k n (lift_index l m i)
lift_index_swap k n l m j i p q = grind arith

-- To lift by nothing.
pub lift_zero : {B : Type 0} (k : ℕ) (t : Tree B) → lift k 0 t ≡ t
lift_zero k (sort s) = refl
lift_zero k (const c) = refl
lift_zero k (var i) = ap var (lift_index_zero k i)
lift_zero k (app f a) = ap₂ app (lift_zero k f) (lift_zero k a)
lift_zero k (named_lam x A b) = ap₂ (named_lam x) (lift_zero k A) (lift_zero (suc k) b)
lift_zero k (named_pi x A b) = ap₂ (named_pi x) (lift_zero k A) (lift_zero (suc k) b)
lift_zero k (named_let x d A b) = ap₃ (named_let x) (lift_zero k d) (lift_zero k A) (lift_zero (suc k) b)

-- Two lifts, the second at a place among the binders of the first, are one.
pub lift_join : {B : Type 0} (k n l m : ℕ) (t : Tree B) → k ≤ l → l ≤ k + n → lift l m (lift k n t) ≡ lift k (n + m) t
lift_join k n l m (sort s) p q = refl
lift_join k n l m (const c) p q = refl
lift_join k n l m (var i) p q = ap var (lift_index_join k n l m i p q)
lift_join k n l m (app f a) p q = ap₂ app (lift_join k n l m f p q) (lift_join k n l m a p q)
lift_join k n l m (named_lam x A b) p q = ap₂ (named_lam x) (lift_join k n l m A p q) (lift_join (suc k) n (suc l) m b (omega arith) (omega arith))
lift_join k n l m (named_pi x A b) p q = ap₂ (named_pi x) (lift_join k n l m A p q) (lift_join (suc k) n (suc l) m b (omega arith) (omega arith))
lift_join k n l m (named_let x d A b) p q = ap₃ (named_let x) (lift_join k n l m d p q) (lift_join k n l m A p q) (lift_join (suc k) n (suc l) m b (omega arith) (omega arith))

-- Two lifts at places apart may change their order.
pub lift_swap : {B : Type 0} (k n l m j : ℕ) (t : Tree B) → k ≤ l → j ≡ l + n → lift j m (lift k n t) ≡ lift k n (lift l m t)
lift_swap k n l m j (sort s) p q = refl
lift_swap k n l m j (const c) p q = refl
lift_swap k n l m j (var i) p q = ap var (lift_index_swap k n l m j i p q)
lift_swap k n l m j (app f a) p q = ap₂ app (lift_swap k n l m j f p q) (lift_swap k n l m j a p q)
lift_swap k n l m j (named_lam x A b) p q = ap₂ (named_lam x) (lift_swap k n l m j A p q) (lift_swap (suc k) n (suc l) m (suc j) b (omega arith) (omega arith))
lift_swap k n l m j (named_pi x A b) p q = ap₂ (named_pi x) (lift_swap k n l m j A p q) (lift_swap (suc k) n (suc l) m (suc j) b (omega arith) (omega arith))
lift_swap k n l m j (named_let x d A b) p q = ap₃ (named_let x) (lift_swap k n l m j d p q) (lift_swap k n l m j A p q) (lift_swap (suc k) n (suc l) m (suc j) b (omega arith) (omega arith))

-- Behind one more binder.
pub lift_once_more : {B : Type 0} (n : ℕ) (t : Tree B) → lift 0 1 (lift 0 n t) ≡ lift 0 (suc n) t
lift_once_more n t = lift_join 0 n 0 1 t (omega arith) (omega arith) ∙ ap (λ m. lift 0 m t) (omega arith)
