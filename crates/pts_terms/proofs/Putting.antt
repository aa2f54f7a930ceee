-- Laws of substitution. The argument lives outside the n binders that were passed.
use Rattle.std.proofs.Common.{ℕ, suc, ◌+◌, ◌≡◌, ◌≤◌, refl, ap, arith, ◌∙◌}
use mathlib.Core.Path.{ap₂}
use Rattle.pts_terms.specs.Tree.{Tree, sort, const, var, app, named_lam, named_pi, named_let, lift_index, lift, put_index, put, subst}
use Rattle.pts_terms.proofs.Lifting.{ap₃, lift_join, lift_swap, lift_zero}

put_index_lifted : {B : Type 0} (k n m : ℕ) (a : Tree B) (i : ℕ) → put_index k n (lift 0 m a) i ≡ put_index k (m + n) a i
put_index_lifted k n m a i = grind (arith, lift_join 0 m 0 n a)

-- An argument that was lifted by m lives outside m more binders.
pub put_lifted : {B : Type 0} (k n m j : ℕ) (a t : Tree B) → j ≡ m + n → put k n (lift 0 m a) t ≡ put k j a t
put_lifted k n m j a (sort s) q = refl
put_lifted k n m j a (const c) q = refl
put_lifted k n m j a (var i) q = put_index_lifted k n m a i ∙ ap (λ l. put_index k l a i) (omega arith)
put_lifted k n m j a (app f b) q = ap₂ app (put_lifted k n m j a f q) (put_lifted k n m j a b q)
put_lifted k n m j a (named_lam x A b) q = ap₂ (named_lam x) (put_lifted k n m j a A q) (put_lifted (suc k) (suc n) m (suc j) a b (omega arith))
put_lifted k n m j a (named_pi x A b) q = ap₂ (named_pi x) (put_lifted k n m j a A q) (put_lifted (suc k) (suc n) m (suc j) a b (omega arith))
put_lifted k n m j a (named_let x d A b) q = ap₃ (named_let x) (put_lifted k n m j a d q) (put_lifted k n m j a A q) (put_lifted (suc k) (suc n) m (suc j) a b (omega arith))

-- The substitution of a lifted argument is the one that counts the binders passed.
pub subst_lifted : {B : Type 0} (k : ℕ) (a t : Tree B) → subst k (lift 0 k a) t ≡ put k k a t
subst_lifted k a t = put_lifted k 0 k k a t (omega arith)

put_index_lift : {B : Type 0} (k n l m : ℕ) (a : Tree B) (i : ℕ) → k ≤ l → l ≤ k + n → put_index l m a (lift_index k (suc n) i) ≡ var (lift_index k n i)
put_index_lift k n l m a i p q = grind arith

-- A lifted term does not have the index that is replaced.
pub put_lift : {B : Type 0} (k n l m : ℕ) (a t : Tree B) → k ≤ l → l ≤ k + n → put l m a (lift k (suc n) t) ≡ lift k n t
put_lift k n l m a (sort s) p q = refl
put_lift k n l m a (const c) p q = refl
put_lift k n l m a (var i) p q = put_index_lift k n l m a i p q
put_lift k n l m a (app f b) p q = ap₂ app (put_lift k n l m a f p q) (put_lift k n l m a b p q)
put_lift k n l m a (named_lam x A b) p q = ap₂ (named_lam x) (put_lift k n l m a A p q) (put_lift (suc k) n (suc l) (suc m) a b (omega arith) (omega arith))
put_lift k n l m a (named_pi x A b) p q = ap₂ (named_pi x) (put_lift k n l m a A p q) (put_lift (suc k) n (suc l) (suc m) a b (omega arith) (omega arith))
put_lift k n l m a (named_let x d A b) p q = ap₃ (named_let x) (put_lift k n l m a d p q) (put_lift k n l m a A p q) (put_lift (suc k) n (suc l) (suc m) a b (omega arith) (omega arith))

lift_put_index_inside : {B : Type 0} (k n l j m h : ℕ) (a : Tree B) (i : ℕ) → k ≤ l → j ≡ l + n → k ≤ m → h ≡ m + n → lift k n (put_index l m a i) ≡ put_index j h a (lift_index k n i)
lift_put_index_inside k n l j m h a i p q r s = grind (arith, lift_join 0 m k n a)

-- Lifting at a place among the binders that the substitution passed.
pub lift_put_inside : {B : Type 0} (k n l j m h : ℕ) (a t : Tree B) → k ≤ l → j ≡ l + n → k ≤ m → h ≡ m + n → lift k n (put l m a t) ≡ put j h a (lift k n t)
lift_put_inside k n l j m h a (sort s) p q r z = refl
lift_put_inside k n l j m h a (const c) p q r z = refl
lift_put_inside k n l j m h a (var i) p q r z = lift_put_index_inside k n l j m h a i p q r z
lift_put_inside k n l j m h a (app f b) p q r z = ap₂ app (lift_put_inside k n l j m h a f p q r z) (lift_put_inside k n l j m h a b p q r z)
lift_put_inside k n l j m h a (named_lam x A b) p q r z = ap₂ (named_lam x) (lift_put_inside k n l j m h a A p q r z) (lift_put_inside (suc k) n (suc l) (suc j) (suc m) (suc h) a b (omega arith) (omega arith) (omega arith) (omega arith))
lift_put_inside k n l j m h a (named_pi x A b) p q r z = ap₂ (named_pi x) (lift_put_inside k n l j m h a A p q r z) (lift_put_inside (suc k) n (suc l) (suc j) (suc m) (suc h) a b (omega arith) (omega arith) (omega arith) (omega arith))
lift_put_inside k n l j m h a (named_let x d A b) p q r z = ap₃ (named_let x) (lift_put_inside k n l j m h a d p q r z) (lift_put_inside k n l j m h a A p q r z) (lift_put_inside (suc k) n (suc l) (suc j) (suc m) (suc h) a b (omega arith) (omega arith) (omega arith) (omega arith))

lift_put_index_outside : {B : Type 0} (k n l m j : ℕ) (a : Tree B) (i : ℕ) → j ≡ k + m → l ≤ j → lift j n (put_index l m a i) ≡ put_index l m (lift k n a) (lift_index (suc j) n i)
lift_put_index_outside k n l m j a i q p = grind (arith, lift_swap 0 m k n j a)

-- Lifting at a place outside the index that is replaced.
pub lift_put_outside : {B : Type 0} (k n l m j : ℕ) (a t : Tree B) → j ≡ k + m → l ≤ j → lift j n (put l m a t) ≡ put l m (lift k n a) (lift (suc j) n t)
lift_put_outside k n l m j a (sort s) q p = refl
lift_put_outside k n l m j a (const c) q p = refl
lift_put_outside k n l m j a (var i) q p = lift_put_index_outside k n l m j a i q p
lift_put_outside k n l m j a (app f b) q p = ap₂ app (lift_put_outside k n l m j a f q p) (lift_put_outside k n l m j a b q p)
lift_put_outside k n l m j a (named_lam x A b) q p = ap₂ (named_lam x) (lift_put_outside k n l m j a A q p) (lift_put_outside k n (suc l) (suc m) (suc j) a b (omega arith) (omega arith))
lift_put_outside k n l m j a (named_pi x A b) q p = ap₂ (named_pi x) (lift_put_outside k n l m j a A q p) (lift_put_outside k n (suc l) (suc m) (suc j) a b (omega arith) (omega arith))
lift_put_outside k n l m j a (named_let x d A b) q p = ap₃ (named_let x) (lift_put_outside k n l m j a d q p) (lift_put_outside k n l m j a A q p) (lift_put_outside k n (suc l) (suc m) (suc j) a b (omega arith) (omega arith))

put_put_index : {B : Type 0} (k q l m j p : ℕ) (a b : Tree B) (i : ℕ) → j ≡ k + m → p ≡ q + m → l ≤ j → l ≤ p → put j p a (put_index l m b i) ≡ put l m (put k q a b) (put_index (suc j) (suc p) a i)
put_put_index k q l m j p a b i e f g h = grind (arith, lift_put_inside 0 m k j q p a b, put_lift 0 p l m (put k q a b) a)

-- Two substitutions, the inner one at a place l within the outer one's.
pub put_put : {B : Type 0} (k q l m j p : ℕ) (a b t : Tree B) → j ≡ k + m → p ≡ q + m → l ≤ j → l ≤ p → put j p a (put l m b t) ≡ put l m (put k q a b) (put (suc j) (suc p) a t)
put_put k q l m j p a b (sort s) e f g h = refl
put_put k q l m j p a b (const c) e f g h = refl
put_put k q l m j p a b (var i) e f g h = put_put_index k q l m j p a b i e f g h
put_put k q l m j p a b (app c d) e f g h = ap₂ app (put_put k q l m j p a b c e f g h) (put_put k q l m j p a b d e f g h)
put_put k q l m j p a b (named_lam x A c) e f g h = ap₂ (named_lam x) (put_put k q l m j p a b A e f g h) (put_put k q (suc l) (suc m) (suc j) (suc p) a b c (omega arith) (omega arith) (omega arith) (omega arith))
put_put k q l m j p a b (named_pi x A c) e f g h = ap₂ (named_pi x) (put_put k q l m j p a b A e f g h) (put_put k q (suc l) (suc m) (suc j) (suc p) a b c (omega arith) (omega arith) (omega arith) (omega arith))
put_put k q l m j p a b (named_let x d A c) e f g h = ap₃ (named_let x) (put_put k q l m j p a b d e f g h) (put_put k q l m j p a b A e f g h) (put_put k q (suc l) (suc m) (suc j) (suc p) a b c (omega arith) (omega arith) (omega arith) (omega arith))

-- A term that was lifted once has nothing at index 0.
pub put_back : {B : Type 0} (a t : Tree B) → subst 0 a (lift 0 1 t) ≡ t
put_back a t = put_lift 0 0 0 0 a t (omega arith) (omega arith) ∙ lift_zero 0 t
