-- Replacing constants by closed terms commutes with lifting and with putting.
use Rattle.std.proofs.Common.{ℕ, suc, ◌≡◌, ◌+◌, ◌<◌, ◌≤◌, refl, sym, ap, ◌∙◌, arith}
use Rattle.std.specs.Prelude.{if◌then◌else◌, Bool, true, false, nat_lt, nat_eq, pred}
use mathlib.Core.Path.{ap₂}
use Rattle.pts_names.specs.Name.{Name, same_name}
use Rattle.pts_terms.specs.Tree.{Tree, Bare, sort, const, var, app, lam, pi, let_in, lift, lift_index, put, put_index, subst, Below}
use Rattle.pts_terms.proofs.Lifting.{ap₃}
use Rattle.pts_terms.specs.Replaced.{replaced}
use Rattle.pts_image.specs.Image.{Closed}

lift_var : (k n i l : ℕ) → i < l → l ≤ k → ◌≡◌ {A = Bare} (var (lift_index k n i)) (var i)
lift_var k n i l p q = grind arith

pub lift_closed : (l k n : ℕ) (t : Bare) → l ≤ k → Below l t → lift k n t ≡ t
lift_closed l k n (sort s) p b = refl
lift_closed l k n (const c) p b = refl
lift_closed l k n (var i) p b = lift_var k n i l b p
lift_closed l k n (app f a) p b = ap₂ app (lift_closed l k n f p b.0) (lift_closed l k n a p b.1)
lift_closed l k n (lam A t) p b = ap₂ lam (lift_closed l k n A p b.0) (lift_closed (suc l) (suc k) n t (omega arith) b.1)
lift_closed l k n (pi A t) p b = ap₂ pi (lift_closed l k n A p b.0) (lift_closed (suc l) (suc k) n t (omega arith) b.1)
lift_closed l k n (let_in a A t) p b = ap₃ let_in (lift_closed l k n a p b.0) (lift_closed l k n A p b.1) (lift_closed (suc l) (suc k) n t (omega arith) b.2)

put_var : (k n i l : ℕ) (a : Bare) → i < l → l ≤ k → put_index k n a i ≡ var i
put_var k n i l a p q = grind arith

pub put_closed : (l k n : ℕ) (a t : Bare) → l ≤ k → Below l t → put k n a t ≡ t
put_closed l k n a (sort s) p b = refl
put_closed l k n a (const c) p b = refl
put_closed l k n a (var i) p b = put_var k n i l a b p
put_closed l k n a (app f t) p b = ap₂ app (put_closed l k n a f p b.0) (put_closed l k n a t p b.1)
put_closed l k n a (lam A t) p b = ap₂ lam (put_closed l k n a A p b.0) (put_closed (suc l) (suc k) (suc n) a t (omega arith) b.1)
put_closed l k n a (pi A t) p b = ap₂ pi (put_closed l k n a A p b.0) (put_closed (suc l) (suc k) (suc n) a t (omega arith) b.1)
put_closed l k n a (let_in d A t) p b = ap₃ let_in (put_closed l k n a d p b.0) (put_closed l k n a A p b.1) (put_closed (suc l) (suc k) (suc n) a t (omega arith) b.2)

module _ (f : Name → Bare) (closed : Closed f) where
  pub replaced_lift : (k n : ℕ) (t : Bare) → replaced f (lift k n t) ≡ lift k n (replaced f t)
  replaced_lift k n (sort s) = refl
  replaced_lift k n (const c) = sym (lift_closed 0 k n (f c) (omega arith) (closed c))
  replaced_lift k n (var i) = refl
  replaced_lift k n (app g a) = ap₂ app (replaced_lift k n g) (replaced_lift k n a)
  replaced_lift k n (lam A t) = ap₂ lam (replaced_lift k n A) (replaced_lift (suc k) n t)
  replaced_lift k n (pi A t) = ap₂ pi (replaced_lift k n A) (replaced_lift (suc k) n t)
  replaced_lift k n (let_in a A t) = ap₃ let_in (replaced_lift k n a) (replaced_lift k n A) (replaced_lift (suc k) n t)

  replaced_index : (k n : ℕ) (a : Bare) (i : ℕ) → replaced f (put_index k n a i) ≡ put_index k n (replaced f a) i
  replaced_index k n a i = grind (arith, replaced_lift 0 n a)

  pub replaced_put : (k n : ℕ) (a t : Bare) → replaced f (put k n a t) ≡ put k n (replaced f a) (replaced f t)
  replaced_put k n a (sort s) = refl
  replaced_put k n a (const c) = sym (put_closed 0 k n (replaced f a) (f c) (omega arith) (closed c))
  replaced_put k n a (var i) = replaced_index k n a i
  replaced_put k n a (app g t) = ap₂ app (replaced_put k n a g) (replaced_put k n a t)
  replaced_put k n a (lam A t) = ap₂ lam (replaced_put k n a A) (replaced_put (suc k) (suc n) a t)
  replaced_put k n a (pi A t) = ap₂ pi (replaced_put k n a A) (replaced_put (suc k) (suc n) a t)
  replaced_put k n a (let_in d A t) = ap₃ let_in (replaced_put k n a d) (replaced_put k n a A) (replaced_put (suc k) (suc n) a t)
