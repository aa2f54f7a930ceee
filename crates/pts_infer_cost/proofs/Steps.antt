-- Inference at its cost, row by row: what each rule comes to, by what its next part came to.
use Rattle.std.proofs.Common.{◌≡◌, ℕ, zero, suc, refl, ap, ◌∙◌, ◌∷◌, Some, None}
use Rattle.pts_names.specs.Name.{Name}
use Rattle.pts_terms.specs.Tree.{Named, sort, const, var, app, named_lam, named_pi, named_let, subst}
use Rattle.pts_ctx.specs.System.{Specification, axiom_of, rule_of}
use Rattle.pts_ctx.specs.Front.{find, assumed, defined, entry_at}
use Rattle.pts_reduce_cost.specs.Costs.{Globals, Entries}
use Rattle.pts_reduce_cost.specs.Run.{ends, fails, deep, spent, and_then, paid, turned}
use Rattle.pts_infer_cost.specs.Typing.{Flaw, into, under, unsorted, FitFlaw, of_argument, of_definition, comes, as_sort, type_at, made, by_axiom, by_rule}
use Rattle.pts_infer_cost.specs.Inference.{gives, Typer, looked_up, type_of_global, sorted, fitted, product_found, argument_fitted, argument_inferred, function_typed, application, product_body, product, body_sorted, body_inferred, abstraction, definition_type_as, definition_type, definition_body, definition_fitted, local_definition, typed_by_form, inferred}

-- A unit is paid; the nesting, and then the form of the term, are looked at.
pub inferred_unpaid : (S : Specification) (G : Globals) (d : ℕ) (L : Entries) (t : Named) (k : ℕ) → k ≡ 0 → inferred S G d L t k ≡ spent
unfolding inferred paid
inferred_unpaid S G zero L t k e = rw e refl
inferred_unpaid S G (suc d) L t k e = rw e refl

pub inferred_too_deep : (S : Specification) (G : Globals) (d : ℕ) (L : Entries) (t : Named) (k j : ℕ) → d ≡ 0 → k ≡ suc j → inferred S G d L t k ≡ deep j
unfolding inferred paid
inferred_too_deep S G d L t k j z p = rw (z, p) refl

paid_form : (S : Specification) (G : Globals) (d : ℕ) (L : Entries) (t : Named) (j : ℕ) → inferred S G (suc d) L t (suc j) ≡ typed_by_form S G (inferred S G d) L t j
unfolding inferred paid
paid_form S G d L t j = refl

pub inferred_by_form : (S : Specification) (G : Globals) (n d : ℕ) (L : Entries) (t : Named) (k j : ℕ) → n ≡ suc d → k ≡ suc j → inferred S G n L t k ≡ typed_by_form S G (inferred S G d) L t j
inferred_by_form S G n d L t k j z p = ap (λ n. inferred S G n L t k) z ∙ ap (inferred S G (suc d) L t) p ∙ paid_form S G d L t j

pub ruleset inferences = (inferred_unpaid, inferred_too_deep, inferred_by_form)

module _ (S : Specification) (G : Globals) (infer : Typer) where
  -- The form of the term.
  pub typed_sort : (L : Entries) (t : Named) (s k : ℕ) → t ≡ sort s → typed_by_form S G infer L t k ≡ gives (by_axiom s (axiom_of S s)) k
  unfolding typed_by_form
  typed_sort L t s k e = ap (λ t. typed_by_form S G infer L t k) e

  pub typed_constant : (L : Entries) (t : Named) (c : Name) (k : ℕ) → t ≡ const c → typed_by_form S G infer L t k ≡ looked_up (type_of_global (find c G)) k
  unfolding typed_by_form
  typed_constant L t c k e = ap (λ t. typed_by_form S G infer L t k) e

  pub typed_variable : (L : Entries) (t : Named) (i k : ℕ) → t ≡ var i → typed_by_form S G infer L t k ≡ looked_up (type_at i (entry_at L i)) k
  unfolding typed_by_form
  typed_variable L t i k e = ap (λ t. typed_by_form S G infer L t k) e

  pub typed_application : (L : Entries) (t f a : Named) (k : ℕ) → t ≡ app f a → typed_by_form S G infer L t k ≡ application S G infer L f a k
  unfolding typed_by_form
  typed_application L t f a k e = ap (λ t. typed_by_form S G infer L t k) e

  pub typed_product : (L : Entries) (t : Named) (x : Name) (A B : Named) (k : ℕ) → t ≡ named_pi x A B → typed_by_form S G infer L t k ≡ product S G infer L x A B k
  unfolding typed_by_form
  typed_product L t x A B k e = ap (λ t. typed_by_form S G infer L t k) e

  pub typed_abstraction : (L : Entries) (t : Named) (x : Name) (A b : Named) (k : ℕ) → t ≡ named_lam x A b → typed_by_form S G infer L t k ≡ abstraction S G infer L x A b k
  unfolding typed_by_form
  typed_abstraction L t x A b k e = ap (λ t. typed_by_form S G infer L t k) e

  pub typed_definition : (L : Entries) (t : Named) (x : Name) (a A b : Named) (k : ℕ) → t ≡ named_let x a A b → typed_by_form S G infer L t k ≡ local_definition S G infer L x a A b k
  unfolding typed_by_form
  typed_definition L t x a A b k e = ap (λ t. typed_by_form S G infer L t k) e

  -- An application, from its first part to the last.
  pub application_goes_on : (L : Entries) (h a : Named) (F : Named) (k j : ℕ) → infer L h k ≡ ends F j → application S G infer L h a k ≡ function_typed S G infer L a F j
  unfolding application and_then turned
  application_goes_on L h a F k j e = ap (λ r. and_then (turned (into 0) r) (function_typed S G infer L a)) e

  pub application_flawed : (L : Entries) (h a : Named) (f : Flaw) (k j : ℕ) → infer L h k ≡ fails f j → application S G infer L h a k ≡ fails (into 0 f) j
  unfolding application and_then turned
  application_flawed L h a f k j e = ap (λ r. and_then (turned (into 0) r) (function_typed S G infer L a)) e

  pub application_deep : (L : Entries) (h a : Named) (k j : ℕ) → infer L h k ≡ deep j → application S G infer L h a k ≡ deep j
  unfolding application and_then turned
  application_deep L h a k j e = ap (λ r. and_then (turned (into 0) r) (function_typed S G infer L a)) e

  pub application_spent : (L : Entries) (h a : Named) (k : ℕ) → infer L h k ≡ spent → application S G infer L h a k ≡ spent
  unfolding application and_then turned
  application_spent L h a k e = ap (λ r. and_then (turned (into 0) r) (function_typed S G infer L a)) e

  pub function_typed_goes_on : (L : Entries) (a F : Named) (P : Named × Named) (k j : ℕ) → product_found S G infer L F k ≡ ends P j → function_typed S G infer L a F k ≡ argument_inferred S G infer L a P j
  unfolding function_typed and_then turned
  function_typed_goes_on L a F P k j e = ap (λ r. and_then (turned (into 0) r) (argument_inferred S G infer L a)) e

  pub function_typed_flawed : (L : Entries) (a F : Named) (f : Flaw) (k j : ℕ) → product_found S G infer L F k ≡ fails f j → function_typed S G infer L a F k ≡ fails (into 0 f) j
  unfolding function_typed and_then turned
  function_typed_flawed L a F f k j e = ap (λ r. and_then (turned (into 0) r) (argument_inferred S G infer L a)) e

  pub function_typed_deep : (L : Entries) (a F : Named) (k j : ℕ) → product_found S G infer L F k ≡ deep j → function_typed S G infer L a F k ≡ deep j
  unfolding function_typed and_then turned
  function_typed_deep L a F k j e = ap (λ r. and_then (turned (into 0) r) (argument_inferred S G infer L a)) e

  pub function_typed_spent : (L : Entries) (a F : Named) (k : ℕ) → product_found S G infer L F k ≡ spent → function_typed S G infer L a F k ≡ spent
  unfolding function_typed and_then turned
  function_typed_spent L a F k e = ap (λ r. and_then (turned (into 0) r) (argument_inferred S G infer L a)) e

  pub argument_inferred_goes_on : (L : Entries) (a : Named) (P : Named × Named) (T : Named) (k j : ℕ) → infer L a k ≡ ends T j → argument_inferred S G infer L a P k ≡ argument_fitted S G infer L a P T j
  unfolding argument_inferred and_then turned
  argument_inferred_goes_on L a P T k j e = ap (λ r. and_then (turned (into 1) r) (argument_fitted S G infer L a P)) e

  pub argument_inferred_flawed : (L : Entries) (a : Named) (P : Named × Named) (f : Flaw) (k j : ℕ) → infer L a k ≡ fails f j → argument_inferred S G infer L a P k ≡ fails (into 1 f) j
  unfolding argument_inferred and_then turned
  argument_inferred_flawed L a P f k j e = ap (λ r. and_then (turned (into 1) r) (argument_fitted S G infer L a P)) e

  pub argument_inferred_deep : (L : Entries) (a : Named) (P : Named × Named) (k j : ℕ) → infer L a k ≡ deep j → argument_inferred S G infer L a P k ≡ deep j
  unfolding argument_inferred and_then turned
  argument_inferred_deep L a P k j e = ap (λ r. and_then (turned (into 1) r) (argument_fitted S G infer L a P)) e

  pub argument_inferred_spent : (L : Entries) (a : Named) (P : Named × Named) (k : ℕ) → infer L a k ≡ spent → argument_inferred S G infer L a P k ≡ spent
  unfolding argument_inferred and_then turned
  argument_inferred_spent L a P k e = ap (λ r. and_then (turned (into 1) r) (argument_fitted S G infer L a P)) e

  pub argument_fitted_goes_on : (L : Entries) (a : Named) (P : Named × Named) (T : Named) (u : Unit {0}) (k j : ℕ) → fitted S G infer L T P.0 k ≡ ends u j → argument_fitted S G infer L a P T k ≡ gives (made (subst 0 a P.1)) j
  unfolding argument_fitted and_then turned gives
  argument_fitted_goes_on L a P T u k j e = ap (λ r. and_then (turned (of_argument P.0) r) (λ u k. gives (made (subst 0 a P.1)) k)) e

  pub argument_fitted_flawed : (L : Entries) (a : Named) (P : Named × Named) (T : Named) (f : FitFlaw) (k j : ℕ) → fitted S G infer L T P.0 k ≡ fails f j → argument_fitted S G infer L a P T k ≡ fails (of_argument P.0 f) j
  unfolding argument_fitted and_then turned gives
  argument_fitted_flawed L a P T f k j e = ap (λ r. and_then (turned (of_argument P.0) r) (λ u k. gives (made (subst 0 a P.1)) k)) e

  pub argument_fitted_deep : (L : Entries) (a : Named) (P : Named × Named) (T : Named) (k j : ℕ) → fitted S G infer L T P.0 k ≡ deep j → argument_fitted S G infer L a P T k ≡ deep j
  unfolding argument_fitted and_then turned gives
  argument_fitted_deep L a P T k j e = ap (λ r. and_then (turned (of_argument P.0) r) (λ u k. gives (made (subst 0 a P.1)) k)) e

  pub argument_fitted_spent : (L : Entries) (a : Named) (P : Named × Named) (T : Named) (k : ℕ) → fitted S G infer L T P.0 k ≡ spent → argument_fitted S G infer L a P T k ≡ spent
  unfolding argument_fitted and_then turned gives
  argument_fitted_spent L a P T k e = ap (λ r. and_then (turned (of_argument P.0) r) (λ u k. gives (made (subst 0 a P.1)) k)) e

  -- A product.
  pub product_goes_on : (L : Entries) (x : Name) (A B : Named) (s : ℕ) (k j : ℕ) → sorted S G infer L A k ≡ ends s j → product S G infer L x A B k ≡ product_body S G infer L x A B s j
  unfolding product and_then turned
  product_goes_on L x A B s k j e = ap (λ r. and_then (turned (into 0) r) (product_body S G infer L x A B)) e

  pub product_flawed : (L : Entries) (x : Name) (A B : Named) (f : Flaw) (k j : ℕ) → sorted S G infer L A k ≡ fails f j → product S G infer L x A B k ≡ fails (into 0 f) j
  unfolding product and_then turned
  product_flawed L x A B f k j e = ap (λ r. and_then (turned (into 0) r) (product_body S G infer L x A B)) e

  pub product_deep : (L : Entries) (x : Name) (A B : Named) (k j : ℕ) → sorted S G infer L A k ≡ deep j → product S G infer L x A B k ≡ deep j
  unfolding product and_then turned
  product_deep L x A B k j e = ap (λ r. and_then (turned (into 0) r) (product_body S G infer L x A B)) e

  pub product_spent : (L : Entries) (x : Name) (A B : Named) (k : ℕ) → sorted S G infer L A k ≡ spent → product S G infer L x A B k ≡ spent
  unfolding product and_then turned
  product_spent L x A B k e = ap (λ r. and_then (turned (into 0) r) (product_body S G infer L x A B)) e

  pub product_body_goes_on : (L : Entries) (x : Name) (A B : Named) (s : ℕ) (r' : ℕ) (k j : ℕ) → sorted S G infer (assumed A ∷ L) B k ≡ ends r' j → product_body S G infer L x A B s k ≡ gives (by_rule s r' (rule_of S s r') (λ q. comes (sort q))) j
  unfolding product_body and_then turned gives
  product_body_goes_on L x A B s r' k j e = ap (λ r. and_then (turned (under 1 x) r) (λ r k. gives (by_rule s r (rule_of S s r) (λ q. comes (sort q))) k)) e

  pub product_body_flawed : (L : Entries) (x : Name) (A B : Named) (s : ℕ) (f : Flaw) (k j : ℕ) → sorted S G infer (assumed A ∷ L) B k ≡ fails f j → product_body S G infer L x A B s k ≡ fails (under 1 x f) j
  unfolding product_body and_then turned gives
  product_body_flawed L x A B s f k j e = ap (λ r. and_then (turned (under 1 x) r) (λ r k. gives (by_rule s r (rule_of S s r) (λ q. comes (sort q))) k)) e

  pub product_body_deep : (L : Entries) (x : Name) (A B : Named) (s : ℕ) (k j : ℕ) → sorted S G infer (assumed A ∷ L) B k ≡ deep j → product_body S G infer L x A B s k ≡ deep j
  unfolding product_body and_then turned gives
  product_body_deep L x A B s k j e = ap (λ r. and_then (turned (under 1 x) r) (λ r k. gives (by_rule s r (rule_of S s r) (λ q. comes (sort q))) k)) e

  pub product_body_spent : (L : Entries) (x : Name) (A B : Named) (s : ℕ) (k : ℕ) → sorted S G infer (assumed A ∷ L) B k ≡ spent → product_body S G infer L x A B s k ≡ spent
  unfolding product_body and_then turned gives
  product_body_spent L x A B s k e = ap (λ r. and_then (turned (under 1 x) r) (λ r k. gives (by_rule s r (rule_of S s r) (λ q. comes (sort q))) k)) e

  -- An abstraction.
  pub abstraction_goes_on : (L : Entries) (x : Name) (A b : Named) (s : ℕ) (k j : ℕ) → sorted S G infer L A k ≡ ends s j → abstraction S G infer L x A b k ≡ body_inferred S G infer L x A b s j
  unfolding abstraction and_then turned
  abstraction_goes_on L x A b s k j e = ap (λ r. and_then (turned (into 0) r) (body_inferred S G infer L x A b)) e

  pub abstraction_flawed : (L : Entries) (x : Name) (A b : Named) (f : Flaw) (k j : ℕ) → sorted S G infer L A k ≡ fails f j → abstraction S G infer L x A b k ≡ fails (into 0 f) j
  unfolding abstraction and_then turned
  abstraction_flawed L x A b f k j e = ap (λ r. and_then (turned (into 0) r) (body_inferred S G infer L x A b)) e

  pub abstraction_deep : (L : Entries) (x : Name) (A b : Named) (k j : ℕ) → sorted S G infer L A k ≡ deep j → abstraction S G infer L x A b k ≡ deep j
  unfolding abstraction and_then turned
  abstraction_deep L x A b k j e = ap (λ r. and_then (turned (into 0) r) (body_inferred S G infer L x A b)) e

  pub abstraction_spent : (L : Entries) (x : Name) (A b : Named) (k : ℕ) → sorted S G infer L A k ≡ spent → abstraction S G infer L x A b k ≡ spent
  unfolding abstraction and_then turned
  abstraction_spent L x A b k e = ap (λ r. and_then (turned (into 0) r) (body_inferred S G infer L x A b)) e

  pub body_inferred_goes_on : (L : Entries) (x : Name) (A b : Named) (s : ℕ) (B : Named) (k j : ℕ) → infer (assumed A ∷ L) b k ≡ ends B j → body_inferred S G infer L x A b s k ≡ body_sorted S G infer L x A s B j
  unfolding body_inferred and_then turned
  body_inferred_goes_on L x A b s B k j e = ap (λ r. and_then (turned (under 1 x) r) (body_sorted S G infer L x A s)) e

  pub body_inferred_flawed : (L : Entries) (x : Name) (A b : Named) (s : ℕ) (f : Flaw) (k j : ℕ) → infer (assumed A ∷ L) b k ≡ fails f j → body_inferred S G infer L x A b s k ≡ fails (under 1 x f) j
  unfolding body_inferred and_then turned
  body_inferred_flawed L x A b s f k j e = ap (λ r. and_then (turned (under 1 x) r) (body_sorted S G infer L x A s)) e

  pub body_inferred_deep : (L : Entries) (x : Name) (A b : Named) (s : ℕ) (k j : ℕ) → infer (assumed A ∷ L) b k ≡ deep j → body_inferred S G infer L x A b s k ≡ deep j
  unfolding body_inferred and_then turned
  body_inferred_deep L x A b s k j e = ap (λ r. and_then (turned (under 1 x) r) (body_sorted S G infer L x A s)) e

  pub body_inferred_spent : (L : Entries) (x : Name) (A b : Named) (s : ℕ) (k : ℕ) → infer (assumed A ∷ L) b k ≡ spent → body_inferred S G infer L x A b s k ≡ spent
  unfolding body_inferred and_then turned
  body_inferred_spent L x A b s k e = ap (λ r. and_then (turned (under 1 x) r) (body_sorted S G infer L x A s)) e

  pub body_sorted_goes_on : (L : Entries) (x : Name) (A : Named) (s : ℕ) (B : Named) (r' : ℕ) (k j : ℕ) → sorted S G infer (assumed A ∷ L) B k ≡ ends r' j → body_sorted S G infer L x A s B k ≡ gives (by_rule s r' (rule_of S s r') (λ q. made (named_pi x A B))) j
  unfolding body_sorted and_then turned gives
  body_sorted_goes_on L x A s B r' k j e = ap (λ r. and_then (turned (unsorted 1 x B) r) (λ r k. gives (by_rule s r (rule_of S s r) (λ q. made (named_pi x A B))) k)) e

  pub body_sorted_flawed : (L : Entries) (x : Name) (A : Named) (s : ℕ) (B : Named) (f : Flaw) (k j : ℕ) → sorted S G infer (assumed A ∷ L) B k ≡ fails f j → body_sorted S G infer L x A s B k ≡ fails (unsorted 1 x B f) j
  unfolding body_sorted and_then turned gives
  body_sorted_flawed L x A s B f k j e = ap (λ r. and_then (turned (unsorted 1 x B) r) (λ r k. gives (by_rule s r (rule_of S s r) (λ q. made (named_pi x A B))) k)) e

  pub body_sorted_deep : (L : Entries) (x : Name) (A : Named) (s : ℕ) (B : Named) (k j : ℕ) → sorted S G infer (assumed A ∷ L) B k ≡ deep j → body_sorted S G infer L x A s B k ≡ deep j
  unfolding body_sorted and_then turned gives
  body_sorted_deep L x A s B k j e = ap (λ r. and_then (turned (unsorted 1 x B) r) (λ r k. gives (by_rule s r (rule_of S s r) (λ q. made (named_pi x A B))) k)) e

  pub body_sorted_spent : (L : Entries) (x : Name) (A : Named) (s : ℕ) (B : Named) (k : ℕ) → sorted S G infer (assumed A ∷ L) B k ≡ spent → body_sorted S G infer L x A s B k ≡ spent
  unfolding body_sorted and_then turned gives
  body_sorted_spent L x A s B k e = ap (λ r. and_then (turned (unsorted 1 x B) r) (λ r k. gives (by_rule s r (rule_of S s r) (λ q. made (named_pi x A B))) k)) e

  -- A local definition.
  pub local_definition_goes_on : (L : Entries) (x : Name) (a A b : Named) (D : Named) (k j : ℕ) → infer L a k ≡ ends D j → local_definition S G infer L x a A b k ≡ definition_fitted S G infer L x a A b D j
  unfolding local_definition and_then turned
  local_definition_goes_on L x a A b D k j e = ap (λ r. and_then (turned (into 0) r) (definition_fitted S G infer L x a A b)) e

  pub local_definition_flawed : (L : Entries) (x : Name) (a A b : Named) (f : Flaw) (k j : ℕ) → infer L a k ≡ fails f j → local_definition S G infer L x a A b k ≡ fails (into 0 f) j
  unfolding local_definition and_then turned
  local_definition_flawed L x a A b f k j e = ap (λ r. and_then (turned (into 0) r) (definition_fitted S G infer L x a A b)) e

  pub local_definition_deep : (L : Entries) (x : Name) (a A b : Named) (k j : ℕ) → infer L a k ≡ deep j → local_definition S G infer L x a A b k ≡ deep j
  unfolding local_definition and_then turned
  local_definition_deep L x a A b k j e = ap (λ r. and_then (turned (into 0) r) (definition_fitted S G infer L x a A b)) e

  pub local_definition_spent : (L : Entries) (x : Name) (a A b : Named) (k : ℕ) → infer L a k ≡ spent → local_definition S G infer L x a A b k ≡ spent
  unfolding local_definition and_then turned
  local_definition_spent L x a A b k e = ap (λ r. and_then (turned (into 0) r) (definition_fitted S G infer L x a A b)) e

  pub definition_fitted_goes_on : (L : Entries) (x : Name) (a A b D : Named) (u : Unit {0}) (k j : ℕ) → fitted S G infer L D A k ≡ ends u j → definition_fitted S G infer L x a A b D k ≡ definition_body S G infer L x a A b u j
  unfolding definition_fitted and_then turned
  definition_fitted_goes_on L x a A b D u k j e = ap (λ r. and_then (turned (of_definition) r) (definition_body S G infer L x a A b)) e

  pub definition_fitted_flawed : (L : Entries) (x : Name) (a A b D : Named) (f : FitFlaw) (k j : ℕ) → fitted S G infer L D A k ≡ fails f j → definition_fitted S G infer L x a A b D k ≡ fails (of_definition f) j
  unfolding definition_fitted and_then turned
  definition_fitted_flawed L x a A b D f k j e = ap (λ r. and_then (turned (of_definition) r) (definition_body S G infer L x a A b)) e

  pub definition_fitted_deep : (L : Entries) (x : Name) (a A b D : Named) (k j : ℕ) → fitted S G infer L D A k ≡ deep j → definition_fitted S G infer L x a A b D k ≡ deep j
  unfolding definition_fitted and_then turned
  definition_fitted_deep L x a A b D k j e = ap (λ r. and_then (turned (of_definition) r) (definition_body S G infer L x a A b)) e

  pub definition_fitted_spent : (L : Entries) (x : Name) (a A b D : Named) (k : ℕ) → fitted S G infer L D A k ≡ spent → definition_fitted S G infer L x a A b D k ≡ spent
  unfolding definition_fitted and_then turned
  definition_fitted_spent L x a A b D k e = ap (λ r. and_then (turned (of_definition) r) (definition_body S G infer L x a A b)) e

  pub definition_body_goes_on : (L : Entries) (x : Name) (a A b : Named) (u : Unit {0}) (B : Named) (k j : ℕ) → infer (defined a A ∷ L) b k ≡ ends B j → definition_body S G infer L x a A b u k ≡ definition_type S G infer L x a A B j
  unfolding definition_body and_then turned
  definition_body_goes_on L x a A b u B k j e = ap (λ r. and_then (turned (under 2 x) r) (definition_type S G infer L x a A)) e

  pub definition_body_flawed : (L : Entries) (x : Name) (a A b : Named) (u : Unit {0}) (f : Flaw) (k j : ℕ) → infer (defined a A ∷ L) b k ≡ fails f j → definition_body S G infer L x a A b u k ≡ fails (under 2 x f) j
  unfolding definition_body and_then turned
  definition_body_flawed L x a A b u f k j e = ap (λ r. and_then (turned (under 2 x) r) (definition_type S G infer L x a A)) e

  pub definition_body_deep : (L : Entries) (x : Name) (a A b : Named) (u : Unit {0}) (k j : ℕ) → infer (defined a A ∷ L) b k ≡ deep j → definition_body S G infer L x a A b u k ≡ deep j
  unfolding definition_body and_then turned
  definition_body_deep L x a A b u k j e = ap (λ r. and_then (turned (under 2 x) r) (definition_type S G infer L x a A)) e

  pub definition_body_spent : (L : Entries) (x : Name) (a A b : Named) (u : Unit {0}) (k : ℕ) → infer (defined a A ∷ L) b k ≡ spent → definition_body S G infer L x a A b u k ≡ spent
  unfolding definition_body and_then turned
  definition_body_spent L x a A b u k e = ap (λ r. and_then (turned (under 2 x) r) (definition_type S G infer L x a A)) e

  pub sort_for_definition : (L : Entries) (x : Name) (a A B : Named) (s k : ℕ) → as_sort B ≡ Some s → definition_type S G infer L x a A B k ≡ ends B k
  unfolding definition_type definition_type_as
  sort_for_definition L x a A B s k e = ap (λ o. definition_type_as S G infer L x a A B o k) e

  unsorted_type : (L : Entries) (x : Name) (a A B : Named) (k : ℕ) → as_sort B ≡ None → definition_type S G infer L x a A B k ≡ and_then (turned (unsorted 2 x B) (sorted S G infer (defined a A ∷ L) B k)) (λ s k. gives (made (named_let x a A B)) k)
  unfolding definition_type definition_type_as
  unsorted_type L x a A B k e = ap (λ o. definition_type_as S G infer L x a A B o k) e

  pub definition_type_goes_on : (L : Entries) (x : Name) (a A B : Named) (s : ℕ) (k j : ℕ) → as_sort B ≡ None → sorted S G infer (defined a A ∷ L) B k ≡ ends s j → definition_type S G infer L x a A B k ≡ gives (made (named_let x a A B)) j
  unfolding and_then turned
  definition_type_goes_on L x a A B s k j p e = unsorted_type L x a A B k p ∙ ap (λ r. and_then (turned (unsorted 2 x B) r) (λ s k. gives (made (named_let x a A B)) k)) e

  pub definition_type_flawed : (L : Entries) (x : Name) (a A B : Named) (f : Flaw) (k j : ℕ) → as_sort B ≡ None → sorted S G infer (defined a A ∷ L) B k ≡ fails f j → definition_type S G infer L x a A B k ≡ fails (unsorted 2 x B f) j
  unfolding and_then turned
  definition_type_flawed L x a A B f k j p e = unsorted_type L x a A B k p ∙ ap (λ r. and_then (turned (unsorted 2 x B) r) (λ s k. gives (made (named_let x a A B)) k)) e

  pub definition_type_deep : (L : Entries) (x : Name) (a A B : Named) (k j : ℕ) → as_sort B ≡ None → sorted S G infer (defined a A ∷ L) B k ≡ deep j → definition_type S G infer L x a A B k ≡ deep j
  unfolding and_then turned
  definition_type_deep L x a A B k j p e = unsorted_type L x a A B k p ∙ ap (λ r. and_then (turned (unsorted 2 x B) r) (λ s k. gives (made (named_let x a A B)) k)) e

  pub definition_type_spent : (L : Entries) (x : Name) (a A B : Named) (k : ℕ) → as_sort B ≡ None → sorted S G infer (defined a A ∷ L) B k ≡ spent → definition_type S G infer L x a A B k ≡ spent
  unfolding and_then turned
  definition_type_spent L x a A B k p e = unsorted_type L x a A B k p ∙ ap (λ r. and_then (turned (unsorted 2 x B) r) (λ s k. gives (made (named_let x a A B)) k)) e

pub ruleset forms = (typed_sort, typed_constant, typed_variable, typed_application, typed_product, typed_abstraction, typed_definition)

pub ruleset applications = (application_goes_on, application_flawed, application_deep, application_spent, function_typed_goes_on, function_typed_flawed, function_typed_deep, function_typed_spent, argument_inferred_goes_on, argument_inferred_flawed, argument_inferred_deep, argument_inferred_spent, argument_fitted_goes_on, argument_fitted_flawed, argument_fitted_deep, argument_fitted_spent)

pub ruleset products = (product_goes_on, product_flawed, product_deep, product_spent, product_body_goes_on, product_body_flawed, product_body_deep, product_body_spent)

pub ruleset abstractions = (abstraction_goes_on, abstraction_flawed, abstraction_deep, abstraction_spent, body_inferred_goes_on, body_inferred_flawed, body_inferred_deep, body_inferred_spent, body_sorted_goes_on, body_sorted_flawed, body_sorted_deep, body_sorted_spent)

pub ruleset definitions = (local_definition_goes_on, local_definition_flawed, local_definition_deep, local_definition_spent, definition_fitted_goes_on, definition_fitted_flawed, definition_fitted_deep, definition_fitted_spent, definition_body_goes_on, definition_body_flawed, definition_body_deep, definition_body_spent, definition_type_goes_on, definition_type_flawed, definition_type_deep, definition_type_spent, sort_for_definition)
