-- The operations on terms commute with leaving printed names out.
use Rattle.std.proofs.Common.{ℕ, suc, Bool, true, false, ◌≡◌, refl, arith}
use Rattle.std.specs.Prelude.{if◌then◌else◌}
use mathlib.Core.Path.{ap₂}
use Rattle.pts_names.specs.Name.{Name, same_name}
use Rattle.pts_terms.specs.Tree.{Tree, Bare, sort, const, var, app, named_lam, named_pi, named_let, lam, pi, let_in, bare, lift, put_index, put, subst_const}
use Rattle.pts_terms.specs.Limits.{depth_of, size_of, within}
use Rattle.pts_terms.proofs.Lifting.{ap₃}

pub bare_lift : {B : Type 0} (k n : ℕ) (t : Tree B) → bare (lift k n t) ≡ lift k n (bare t)
bare_lift k n (sort s) = refl
bare_lift k n (const c) = refl
bare_lift k n (var i) = refl
bare_lift k n (app f a) = ap₂ app (bare_lift k n f) (bare_lift k n a)
bare_lift k n (named_lam x A b) = ap₂ lam (bare_lift k n A) (bare_lift (suc k) n b)
bare_lift k n (named_pi x A b) = ap₂ pi (bare_lift k n A) (bare_lift (suc k) n b)
bare_lift k n (named_let x a A b) = ap₃ let_in (bare_lift k n a) (bare_lift k n A) (bare_lift (suc k) n b)

bare_put_index : {B : Type 0} (k n : ℕ) (a : Tree B) (i : ℕ) → bare (put_index k n a i) ≡ put_index k n (bare a) i
bare_put_index k n a i = grind (arith, bare_lift 0 n a)

pub bare_put : {B : Type 0} (k n : ℕ) (a t : Tree B) → bare (put k n a t) ≡ put k n (bare a) (bare t)
bare_put k n a (sort s) = refl
bare_put k n a (const c) = refl
bare_put k n a (var i) = bare_put_index k n a i
bare_put k n a (app f b) = ap₂ app (bare_put k n a f) (bare_put k n a b)
bare_put k n a (named_lam x A b) = ap₂ lam (bare_put k n a A) (bare_put (suc k) (suc n) a b)
bare_put k n a (named_pi x A b) = ap₂ pi (bare_put k n a A) (bare_put (suc k) (suc n) a b)
bare_put k n a (named_let x d A b) = ap₃ let_in (bare_put k n a d) (bare_put k n a A) (bare_put (suc k) (suc n) a b)

bare_choice : {B : Type 0} (b : Bool) (t u : Tree B) → bare (if b then t else u) ≡ (if b then bare t else bare u)
bare_choice true t u = refl
bare_choice false t u = refl

pub bare_subst_const : {B : Type 0} (c : Name) (a t : Tree B) → bare (subst_const c a t) ≡ subst_const c (bare a) (bare t)
bare_subst_const c a (sort s) = refl
bare_subst_const c a (const d) = bare_choice (same_name c d) a (const d)
bare_subst_const c a (var i) = refl
bare_subst_const c a (app f b) = ap₂ app (bare_subst_const c a f) (bare_subst_const c a b)
bare_subst_const c a (named_lam x A b) = ap₂ lam (bare_subst_const c a A) (bare_subst_const c a b)
bare_subst_const c a (named_pi x A b) = ap₂ pi (bare_subst_const c a A) (bare_subst_const c a b)
bare_subst_const c a (named_let x d A b) = ap₃ let_in (bare_subst_const c a d) (bare_subst_const c a A) (bare_subst_const c a b)

-- A term without printed names is itself.
pub bare_bare : (t : Bare) → bare t ≡ t
bare_bare (sort s) = refl
bare_bare (const c) = refl
bare_bare (var i) = refl
bare_bare (app f a) = ap₂ app (bare_bare f) (bare_bare a)
bare_bare (lam A b) = ap₂ lam (bare_bare A) (bare_bare b)
bare_bare (pi A b) = ap₂ pi (bare_bare A) (bare_bare b)
bare_bare (let_in a A b) = ap₃ let_in (bare_bare a) (bare_bare A) (bare_bare b)

-- Neither does leaving them out change how large the term is.
pub bare_depth : {B : Type 0} (t : Tree B) → depth_of (bare t) ≡ depth_of t
bare_depth (sort s) = refl
bare_depth (const c) = refl
bare_depth (var i) = refl
bare_depth (app f a) = let p = bare_depth f in let q = bare_depth a in cc
bare_depth (named_lam x A b) = let p = bare_depth A in let q = bare_depth b in cc
bare_depth (named_pi x A b) = let p = bare_depth A in let q = bare_depth b in cc
bare_depth (named_let x a A b) = let p = bare_depth a in let q = bare_depth A in let r = bare_depth b in cc

pub bare_size : {B : Type 0} (t : Tree B) → size_of (bare t) ≡ size_of t
bare_size (sort s) = refl
bare_size (const c) = refl
bare_size (var i) = refl
bare_size (app f a) = let p = bare_size f in let q = bare_size a in cc
bare_size (named_lam x A b) = let p = bare_size A in let q = bare_size b in cc
bare_size (named_pi x A b) = let p = bare_size A in let q = bare_size b in cc
bare_size (named_let x a A b) = let p = bare_size a in let q = bare_size A in let r = bare_size b in cc

pub bare_within : {B : Type 0} (t : Tree B) → within (bare t) ≡ within t
bare_within t = let p = bare_depth t in let q = bare_size t in cc
