-- Terms that are equal without a walk.
use Rattle.std.proofs.Common.{◌≡◌, ℕ, suc, ◌≤◌, List, ap, ◌∙◌, subst, arith, true}
use Rattle.pts_terms.specs.Tree.{Tree, Bare, sort, const, var, app, named_lam, named_pi, named_let, lift, put, same_term, Below}
use Rattle.pts_terms.specs.Limits.{free_of}
use Rattle.pts_terms.proofs.Same.{same_term_self}
use Rattle.pts_terms.proofs.Lifting.{lift_zero}
use Rattle.pts_terms.proofs.Free.{lift_past, put_past}
use Rattle.pts_record.specs.declared.shape.Shape.{Shape}
use Rattle.pts_record.specs.Table.{bare_at}

pub same_number : (ss : List Shape) (k l : ℕ) → k ≡ l → same_term (bare_at ss k) (bare_at ss l) ≡ true
same_number ss k l e = subst (λ i. same_term (bare_at ss k) (bare_at ss i) ≡ true) e (same_term_self (bare_at ss k))

-- the bound of a term's free indices bounds them
pub free_below : {B : Type 0} (k : ℕ) (t : Tree B) → free_of t ≤ k → Below k t
free_below k (sort s) h = tt
free_below k (const c) h = tt
free_below k (var i) h = omega (arith, h)
free_below k (app f a) h = (free_below k f (omega (arith, h)), free_below k a (omega (arith, h)))
free_below k (named_lam x A b) h = (free_below k A (omega (arith, h)), free_below (suc k) b (omega (arith, h)))
free_below k (named_pi x A b) h = (free_below k A (omega (arith, h)), free_below (suc k) b (omega (arith, h)))
free_below k (named_let x a A b) h = (free_below k a (omega (arith, h)), free_below k A (omega (arith, h)), free_below (suc k) b (omega (arith, h)))

pub lift_nothing : (k n : ℕ) (t u : Bare) → n ≡ 0 → same_term t (lift k n u) ≡ same_term t u
lift_nothing k n t u e = ap (λ m. same_term t (lift k m u)) e ∙ ap (same_term t) (lift_zero k u)

pub lift_beyond : (k n : ℕ) (t u : Bare) → free_of u ≤ k → same_term t (lift k n u) ≡ same_term t u
lift_beyond k n t u h = ap (same_term t) (lift_past k k n u (omega arith) (free_below k u h))

pub put_beyond : (k n : ℕ) (a t u : Bare) → free_of u ≤ k → same_term t (put k n a u) ≡ same_term t u
put_beyond k n a t u h = ap (same_term t) (put_past k k n a u (omega arith) (free_below k u h))
