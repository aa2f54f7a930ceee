-- Each rule as its first part and what follows, and how a part goes on or ends the whole.
use Rattle.std.proofs.Common.{◌≡◌, ℕ, refl, ap, ◌∷◌}
use Rattle.pts_names.specs.Name.{Name}
use Rattle.pts_terms.specs.Tree.{Named, named_pi, sort, subst}
use Rattle.pts_ctx.specs.System.{Specification, rule_of}
use Rattle.pts_ctx.specs.Front.{assumed, defined}
use Rattle.pts_reduce_cost.specs.Costs.{Globals, Entries}
use Rattle.pts_reduce_cost.specs.Run.{Run, ends, fails, deep, spent, and_then, turned}
use Rattle.pts_infer_cost.specs.Typing.{into, under, unsorted, wanted, of_argument, of_definition, comes, made, by_rule}
use Rattle.pts_infer_cost.specs.Inference.{gives, Typer, sort_tested, sorted, types_compared, fit_tested, fitted, product_found, argument_fitted, argument_inferred, function_typed, application, product_body, product, body_sorted, body_inferred, abstraction, definition_type, definition_body, definition_fitted, local_definition}

-- A part that ends goes on; each other one is what the whole comes to.
pub part_ends : {F A B : Type 0} (r : Run F A) (next : A → ℕ → Run F B) (x : A) (k : ℕ) → r ≡ ends x k → and_then r next ≡ next x k
unfolding and_then
part_ends r next x k e = ap (λ r. and_then r next) e

pub part_fails : {F A B : Type 0} (r : Run F A) (next : A → ℕ → Run F B) (f : F) (k : ℕ) → r ≡ fails f k → and_then r next ≡ fails f k
unfolding and_then
part_fails r next f k e = ap (λ r. and_then r next) e

pub part_deep : {F A B : Type 0} (r : Run F A) (next : A → ℕ → Run F B) (k : ℕ) → r ≡ deep k → and_then r next ≡ deep k
unfolding and_then
part_deep r next k e = ap (λ r. and_then r next) e

pub part_spent : {F A B : Type 0} (r : Run F A) (next : A → ℕ → Run F B) → r ≡ spent → and_then r next ≡ spent
unfolding and_then
part_spent r next e = ap (λ r. and_then r next) e

-- The same of a part that is seen from the whole.
pub turned_ends : {E F A : Type 0} (g : E → F) (r : Run E A) (x : A) (k : ℕ) → r ≡ ends x k → turned g r ≡ ends x k
unfolding turned
turned_ends g r x k e = ap (turned g) e

pub turned_fails : {E F A : Type 0} (g : E → F) (r : Run E A) (f : E) (k : ℕ) → r ≡ fails f k → turned g r ≡ fails (g f) k
unfolding turned
turned_fails g r f k e = ap (turned g) e

pub turned_deep : {E F A : Type 0} (g : E → F) (r : Run E A) (k : ℕ) → r ≡ deep k → turned g r ≡ deep k
unfolding turned
turned_deep g r k e = ap (turned g) e

pub turned_spent : {E F A : Type 0} (g : E → F) (r : Run E A) → r ≡ spent → turned g r ≡ spent
unfolding turned
turned_spent g r e = ap (turned g) e

pub ruleset part_runs = (part_ends, part_fails, part_deep, part_spent, turned_ends, turned_fails, turned_deep, turned_spent)

-- The rules.
module _ (S : Specification) (G : Globals) (infer : Typer) (L : Entries) where
  pub sorted_is : (t : Named) (k : ℕ) → sorted S G infer L t k ≡ and_then (infer L t k) (sort_tested S G L)
  unfolding sorted
  sorted_is t k = refl

  pub fit_tested_is : (T W : Named) (k : ℕ) → fit_tested S G infer L T W k ≡ and_then (turned wanted (sorted S G infer L W k)) (types_compared G L T W)
  unfolding fit_tested
  fit_tested_is T W k = refl

  pub application_is : (f a : Named) (k : ℕ) → application S G infer L f a k ≡ and_then (turned (into 0) (infer L f k)) (function_typed S G infer L a)
  unfolding application
  application_is f a k = refl

  pub function_typed_is : (a F : Named) (k : ℕ) → function_typed S G infer L a F k ≡ and_then (turned (into 0) (product_found S G infer L F k)) (argument_inferred S G infer L a)
  unfolding function_typed
  function_typed_is a F k = refl

  pub argument_inferred_is : (a : Named) (P : Named × Named) (k : ℕ) → argument_inferred S G infer L a P k ≡ and_then (turned (into 1) (infer L a k)) (argument_fitted S G infer L a P)
  unfolding argument_inferred
  argument_inferred_is a P k = refl

  pub argument_fitted_is : (a : Named) (P : Named × Named) (T : Named) (k : ℕ) → argument_fitted S G infer L a P T k ≡ and_then (turned (of_argument P.0) (fitted S G infer L T P.0 k)) (λ u k. gives (made (subst 0 a P.1)) k)
  unfolding argument_fitted
  argument_fitted_is a P T k = refl

  pub product_is : (x : Name) (A B : Named) (k : ℕ) → product S G infer L x A B k ≡ and_then (turned (into 0) (sorted S G infer L A k)) (product_body S G infer L x A B)
  unfolding product
  product_is x A B k = refl

  pub product_body_is : (x : Name) (A B : Named) (s : ℕ) (k : ℕ) → product_body S G infer L x A B s k ≡ and_then (turned (under 1 x) (sorted S G infer (assumed A ∷ L) B k)) (λ r k. gives (by_rule s r (rule_of S s r) (λ q. comes (sort q))) k)
  unfolding product_body
  product_body_is x A B s k = refl

  pub abstraction_is : (x : Name) (A b : Named) (k : ℕ) → abstraction S G infer L x A b k ≡ and_then (turned (into 0) (sorted S G infer L A k)) (body_inferred S G infer L x A b)
  unfolding abstraction
  abstraction_is x A b k = refl

  pub body_inferred_is : (x : Name) (A b : Named) (s : ℕ) (k : ℕ) → body_inferred S G infer L x A b s k ≡ and_then (turned (under 1 x) (infer (assumed A ∷ L) b k)) (body_sorted S G infer L x A s)
  unfolding body_inferred
  body_inferred_is x A b s k = refl

  pub body_sorted_is : (x : Name) (A : Named) (s : ℕ) (B : Named) (k : ℕ) → body_sorted S G infer L x A s B k ≡ and_then (turned (unsorted 1 x B) (sorted S G infer (assumed A ∷ L) B k)) (λ r k. gives (by_rule s r (rule_of S s r) (λ q. made (named_pi x A B))) k)
  unfolding body_sorted
  body_sorted_is x A s B k = refl

  pub local_definition_is : (x : Name) (a A b : Named) (k : ℕ) → local_definition S G infer L x a A b k ≡ and_then (turned (into 0) (infer L a k)) (definition_fitted S G infer L x a A b)
  unfolding local_definition
  local_definition_is x a A b k = refl

  pub definition_fitted_is : (x : Name) (a A b D : Named) (k : ℕ) → definition_fitted S G infer L x a A b D k ≡ and_then (turned of_definition (fitted S G infer L D A k)) (definition_body S G infer L x a A b)
  unfolding definition_fitted
  definition_fitted_is x a A b D k = refl

  pub definition_body_is : (x : Name) (a A b : Named) (u : Unit {0}) (k : ℕ) → definition_body S G infer L x a A b u k ≡ and_then (turned (under 2 x) (infer (defined a A ∷ L) b k)) (definition_type S G infer L x a A)
  unfolding definition_body
  definition_body_is x a A b u k = refl

pub ruleset rules_by_parts = (sorted_is, fit_tested_is, application_is, function_typed_is, argument_inferred_is, argument_fitted_is, product_is, product_body_is, abstraction_is, body_inferred_is, body_sorted_is, local_definition_is, definition_fitted_is, definition_body_is)
