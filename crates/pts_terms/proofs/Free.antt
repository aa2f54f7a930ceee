-- Free indices: their bound under lifting and substitution, and what these do beyond the bound.
use Rattle.std.proofs.Common.{ℕ, suc, ◌+◌, ◌≡◌, ◌<◌, ◌≤◌, refl, ap, arith}
use mathlib.Core.Path.{ap₂}
use Rattle.pts_terms.specs.Tree.{Tree, sort, const, var, app, named_lam, named_pi, named_let, lift_index, lift, put_index, put, Below}
use Rattle.pts_terms.proofs.Lifting.{ap₃, lift_index_below}

pub Below_more : {B : Type 0} (k l : ℕ) (t : Tree B) → k ≤ l → Below k t → Below l t
Below_more k l (sort s) p h = tt
Below_more k l (const c) p h = tt
Below_more k l (var i) p h = omega arith
Below_more k l (app f a) p h = (Below_more k l f p h.0, Below_more k l a p h.1)
Below_more k l (named_lam x A b) p h = (Below_more k l A p h.0, Below_more (suc k) (suc l) b (omega arith) h.1)
Below_more k l (named_pi x A b) p h = (Below_more k l A p h.0, Below_more (suc k) (suc l) b (omega arith) h.1)
Below_more k l (named_let x a A b) p h = (Below_more k l a p h.0, Below_more k l A p h.1, Below_more (suc k) (suc l) b (omega arith) h.2)

below_lift_index : (k n m i : ℕ) → i < m → lift_index k n i < m + n
below_lift_index k n m i h = grind arith

pub Below_lift : {B : Type 0} (k n m j : ℕ) (t : Tree B) → j ≡ m + n → Below m t → Below j (lift k n t)
Below_lift k n m j (sort s) q h = tt
Below_lift k n m j (const c) q h = tt
Below_lift k n m j (var i) q h = omega (arith, below_lift_index k n m i h)
Below_lift k n m j (app f a) q h = (Below_lift k n m j f q h.0, Below_lift k n m j a q h.1)
Below_lift k n m j (named_lam x A b) q h = (Below_lift k n m j A q h.0, Below_lift (suc k) n (suc m) (suc j) b (omega arith) h.1)
Below_lift k n m j (named_pi x A b) q h = (Below_lift k n m j A q h.0, Below_lift (suc k) n (suc m) (suc j) b (omega arith) h.1)
Below_lift k n m j (named_let x a A b) q h = (Below_lift k n m j a q h.0, Below_lift k n m j A q h.1, Below_lift (suc k) n (suc m) (suc j) b (omega arith) h.2)

below_put_index : {B : Type 0} (k n m j : ℕ) (a : Tree B) (i : ℕ) → j ≡ m + n → k ≤ j → Below m a → i < suc j → Below j (put_index k n a i)
below_put_index k n m j a i q p h r = grind (arith, Below_lift 0 n m j a)

pub Below_put : {B : Type 0} (k n m j : ℕ) (a t : Tree B) → j ≡ m + n → k ≤ j → Below m a → Below (suc j) t → Below j (put k n a t)
Below_put k n m j a (sort s) q p h r = tt
Below_put k n m j a (const c) q p h r = tt
Below_put k n m j a (var i) q p h r = below_put_index k n m j a i q p h r
Below_put k n m j a (app f b) q p h r = (Below_put k n m j a f q p h r.0, Below_put k n m j a b q p h r.1)
Below_put k n m j a (named_lam x A b) q p h r = (Below_put k n m j a A q p h r.0, Below_put (suc k) (suc n) m (suc j) a b (omega arith) (omega arith) h r.1)
Below_put k n m j a (named_pi x A b) q p h r = (Below_put k n m j a A q p h r.0, Below_put (suc k) (suc n) m (suc j) a b (omega arith) (omega arith) h r.1)
Below_put k n m j a (named_let x d A b) q p h r = (Below_put k n m j a d q p h r.0, Below_put k n m j a A q p h r.1, Below_put (suc k) (suc n) m (suc j) a b (omega arith) (omega arith) h r.2)

-- Lifting does nothing beyond the free indices.
pub lift_past : {B : Type 0} (k l n : ℕ) (t : Tree B) → k ≤ l → Below k t → lift l n t ≡ t
lift_past k l n (sort s) p h = refl
lift_past k l n (const c) p h = refl
lift_past k l n (var i) p h = ap var (lift_index_below l n i (omega arith))
lift_past k l n (app f a) p h = ap₂ app (lift_past k l n f p h.0) (lift_past k l n a p h.1)
lift_past k l n (named_lam x A b) p h = ap₂ (named_lam x) (lift_past k l n A p h.0) (lift_past (suc k) (suc l) n b (omega arith) h.1)
lift_past k l n (named_pi x A b) p h = ap₂ (named_pi x) (lift_past k l n A p h.0) (lift_past (suc k) (suc l) n b (omega arith) h.1)
lift_past k l n (named_let x d A b) p h = ap₃ (named_let x) (lift_past k l n d p h.0) (lift_past k l n A p h.1) (lift_past (suc k) (suc l) n b (omega arith) h.2)

put_index_below : {B : Type 0} (k n : ℕ) (a : Tree B) (i : ℕ) → i < k → put_index k n a i ≡ var i
put_index_below k n a i h = grind arith

-- Neither does substitution.
pub put_past : {B : Type 0} (k l n : ℕ) (a t : Tree B) → k ≤ l → Below k t → put l n a t ≡ t
put_past k l n a (sort s) p h = refl
put_past k l n a (const c) p h = refl
put_past k l n a (var i) p h = put_index_below l n a i (omega arith)
put_past k l n a (app f b) p h = ap₂ app (put_past k l n a f p h.0) (put_past k l n a b p h.1)
put_past k l n a (named_lam x A b) p h = ap₂ (named_lam x) (put_past k l n a A p h.0) (put_past (suc k) (suc l) (suc n) a b (omega arith) h.1)
put_past k l n a (named_pi x A b) p h = ap₂ (named_pi x) (put_past k l n a A p h.0) (put_past (suc k) (suc l) (suc n) a b (omega arith) h.1)
put_past k l n a (named_let x d A b) p h = ap₃ (named_let x) (put_past k l n a d p h.0) (put_past k l n a A p h.1) (put_past (suc k) (suc l) (suc n) a b (omega arith) h.2)
