-- What putting terms for constants does to the other operations on terms.
use Rattle.std.proofs.Common.{◌≡◌, refl, []}
use Rattle.std.specs.Prelude.{◌∷◌}
use mathlib.Core.Path.{ap₂}
use Rattle.pts_names.specs.Name.{Name}
use Rattle.pts_terms.specs.Tree.{Tree, sort, const, var, app, named_lam, named_pi, named_let, subst_const}
use Rattle.pts_terms.specs.Replaced.{replaced, among}
use Rattle.pts_terms.proofs.Lifting.{ap₃}

-- One constant: the substitution for it is the replacement by one pair.
pub subst_const_is_replaced : {B : Type 0} (c : Name) (a t : Tree B) → subst_const c a t ≡ replaced (among ((c, a) ∷ [])) t
subst_const_is_replaced c a (sort s) = refl
subst_const_is_replaced c a (const d) = refl
subst_const_is_replaced c a (var i) = refl
subst_const_is_replaced c a (app f b) = ap₂ app (subst_const_is_replaced c a f) (subst_const_is_replaced c a b)
subst_const_is_replaced c a (named_lam x A b) = ap₂ (named_lam x) (subst_const_is_replaced c a A) (subst_const_is_replaced c a b)
subst_const_is_replaced c a (named_pi x A b) = ap₂ (named_pi x) (subst_const_is_replaced c a A) (subst_const_is_replaced c a b)
subst_const_is_replaced c a (named_let x d A b) = ap₃ (named_let x) (subst_const_is_replaced c a d) (subst_const_is_replaced c a A) (subst_const_is_replaced c a b)
