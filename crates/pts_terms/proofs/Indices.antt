-- What the operations do to indices that are small, and to the measures of a term.
use Rattle.std.proofs.Common.{ℕ, suc, ◌≡◌, ◌<◌, ◌≤◌, refl, ap, arith}
use mathlib.Core.Path.{ap₂}
use Rattle.pts_terms.specs.Tree.{Tree, Bare, Named, sort, const, var, app, named_lam, named_pi, named_let, bare, lift_index, lift, put_index, put, same_term}
use Rattle.pts_terms.specs.Limits.{depth_of, size_of, IndicesBelow}
use Rattle.pts_terms.proofs.Lifting.{ap₃}

index_high : (m k n i : ℕ) → m ≤ k → i < m → lift_index k n i ≡ i
index_high m k n i h b = grind arith

index_up : (m k n i : ℕ) → lift_index k n i < m → i < m
index_up m k n i b = grind arith

module _ {B : Type 0} (m : ℕ) where
  lift_high : (k n : ℕ) (t : Tree B) → m ≤ k → IndicesBelow m t → lift k n t ≡ t
  lift_high k n (sort s) h b = refl
  lift_high k n (const c) h b = refl
  lift_high k n (var i) h b = ap var (index_high m k n i h b)
  lift_high k n (app f a) h b = ap₂ app (lift_high k n f h b.0) (lift_high k n a h b.1)
  lift_high k n (named_lam x A t) h b = ap₂ (named_lam x) (lift_high k n A h b.0) (lift_high (suc k) n t (omega (arith, h)) b.1)
  lift_high k n (named_pi x A t) h b = ap₂ (named_pi x) (lift_high k n A h b.0) (lift_high (suc k) n t (omega (arith, h)) b.1)
  lift_high k n (named_let x a A t) h b = ap₃ (named_let x) (lift_high k n a h b.0) (lift_high k n A h b.1) (lift_high (suc k) n t (omega (arith, h)) b.2)

  lifted_below : (k n : ℕ) (t : Tree B) → IndicesBelow m (lift k n t) → IndicesBelow m t
  lifted_below k n (sort s) b = tt
  lifted_below k n (const c) b = tt
  lifted_below k n (var i) b = index_up m k n i b
  lifted_below k n (app f a) b = (lifted_below k n f b.0, lifted_below k n a b.1)
  lifted_below k n (named_lam x A t) b = (lifted_below k n A b.0, lifted_below (suc k) n t b.1)
  lifted_below k n (named_pi x A t) b = (lifted_below k n A b.0, lifted_below (suc k) n t b.1)
  lifted_below k n (named_let x a A t) b = (lifted_below k n a b.0, lifted_below k n A b.1, lifted_below (suc k) n t b.2)

  put_index_high : (k n : ℕ) (a : Tree B) (i : ℕ) → m ≤ k → i < m → put_index k n a i ≡ var i
  put_index_high k n a i h b = grind arith

  put_high : (k n : ℕ) (a t : Tree B) → m ≤ k → IndicesBelow m t → put k n a t ≡ t
  put_high k n a (sort s) h b = refl
  put_high k n a (const c) h b = refl
  put_high k n a (var i) h b = put_index_high k n a i h b
  put_high k n a (app f d) h b = ap₂ app (put_high k n a f h b.0) (put_high k n a d h b.1)
  put_high k n a (named_lam x A t) h b = ap₂ (named_lam x) (put_high k n a A h b.0) (put_high (suc k) (suc n) a t (omega (arith, h)) b.1)
  put_high k n a (named_pi x A t) h b = ap₂ (named_pi x) (put_high k n a A h b.0) (put_high (suc k) (suc n) a t (omega (arith, h)) b.1)
  put_high k n a (named_let x d A t) h b = ap₃ (named_let x) (put_high k n a d h b.0) (put_high k n a A h b.1) (put_high (suc k) (suc n) a t (omega (arith, h)) b.2)

  bare_below : (t : Tree B) → IndicesBelow m t → IndicesBelow m (bare t)
  bare_below (sort s) b = tt
  bare_below (const c) b = tt
  bare_below (var i) b = b
  bare_below (app f a) b = (bare_below f b.0, bare_below a b.1)
  bare_below (named_lam x A t) b = (bare_below A b.0, bare_below t b.1)
  bare_below (named_pi x A t) b = (bare_below A b.0, bare_below t b.1)
  bare_below (named_let x a A t) b = (bare_below a b.0, bare_below A b.1, bare_below t b.2)

-- No index of the program is 2^32 or more.
pub lift_beyond : (k n : ℕ) (t : Named) → 4294967296 ≤ k → IndicesBelow 4294967296 (lift k n t) → lift k n t ≡ t
lift_beyond k n t h b = lift_high 4294967296 k n t h (lifted_below 4294967296 k n t b)

pub put_beyond : (k n : ℕ) (a t : Named) → 4294967296 ≤ k → IndicesBelow 4294967296 t → put k n a t ≡ t
put_beyond k n a t h b = put_high 4294967296 k n a t h b

pub same_lift_beyond : (k n : ℕ) (t : Bare) (u : Named) → 4294967296 ≤ k → IndicesBelow 4294967296 u → same_term t (lift k n (bare u)) ≡ same_term t (bare u)
same_lift_beyond k n t u h b = ap (same_term t) (lift_high 4294967296 k n (bare u) h (bare_below 4294967296 u b))

pub same_put_beyond : (k n : ℕ) (a t : Bare) (u : Named) → 4294967296 ≤ k → IndicesBelow 4294967296 u → same_term t (put k n a (bare u)) ≡ same_term t (bare u)
same_put_beyond k n a t u h b = ap (same_term t) (put_high 4294967296 k n a (bare u) h (bare_below 4294967296 u b))

-- Lifting keeps the measures.
pub lift_depth : {B : Type 0} (k n : ℕ) (t : Tree B) → depth_of (lift k n t) ≡ depth_of t
lift_depth k n (sort s) = refl
lift_depth k n (const c) = refl
lift_depth k n (var i) = refl
lift_depth k n (app f a) = let p = lift_depth k n f in let q = lift_depth k n a in cc
lift_depth k n (named_lam x A b) = let p = lift_depth k n A in let q = lift_depth (suc k) n b in cc
lift_depth k n (named_pi x A b) = let p = lift_depth k n A in let q = lift_depth (suc k) n b in cc
lift_depth k n (named_let x a A b) = let p = lift_depth k n a in let q = lift_depth k n A in let r = lift_depth (suc k) n b in cc

pub lift_size : {B : Type 0} (k n : ℕ) (t : Tree B) → size_of (lift k n t) ≡ size_of t
lift_size k n (sort s) = refl
lift_size k n (const c) = refl
lift_size k n (var i) = refl
lift_size k n (app f a) = let p = lift_size k n f in let q = lift_size k n a in cc
lift_size k n (named_lam x A b) = let p = lift_size k n A in let q = lift_size (suc k) n b in cc
lift_size k n (named_pi x A b) = let p = lift_size k n A in let q = lift_size (suc k) n b in cc
lift_size k n (named_let x a A b) = let p = lift_size k n a in let q = lift_size k n A in let r = lift_size (suc k) n b in cc

pub depth_put_beyond : (k n : ℕ) (a t : Named) → 4294967296 ≤ k → IndicesBelow 4294967296 t → depth_of (put k n a t) ≡ depth_of t
depth_put_beyond k n a t h b = ap depth_of (put_beyond k n a t h b)

pub size_put_beyond : (k n : ℕ) (a t : Named) → 4294967296 ≤ k → IndicesBelow 4294967296 t → size_of (put k n a t) ≡ size_of t
size_put_beyond k n a t h b = ap size_of (put_beyond k n a t h b)
