-- Inference as it is done on a budget.
use Rattle.std.specs.Prelude.{ℕ, zero, suc, ◌∷◌, Bool, Option, Some, None, if◌then◌else◌}
use Rattle.pts_names.specs.Name.{Name}
use Rattle.pts_terms.specs.Tree.{Named, bare, same_term, sort, const, var, app, named_lam, named_pi, named_let, subst}
use Rattle.pts_ctx.specs.System.{Specification, axiom_of, rule_of}
use Rattle.pts_ctx.specs.Front.{Global, find, assumed, defined, entry_at}
use Rattle.pts_reduce_cost.specs.Costs.{Globals, Entries, nesting}
use Rattle.pts_reduce_cost.specs.Run.{Run, ends, fails, deep, spent, and_then, paid, turned}
use Rattle.pts_reduce_cost.specs.Work.{formed, Difference, tested}
use Rattle.pts_infer_cost.specs.Typing.{Flaw, here, into, under, unsorted, FitFlaw, wanted, judged, of_argument, of_definition, by_flaw, by_limits, Outcome, comes, stops, not_product, not_convertible, as_sort, as_product, type_at, made, by_axiom, by_rule, by_form}

-- What work comes to at an outcome, with k units left.
unfoldable pub gives : {F A : Type 0} → Outcome F A → ℕ → Run F A
gives (comes x) k = ends x k
gives (stops (by_flaw f)) k = fails f k
gives (stops by_limits) k = deep k

-- What infers a term in a local context.
abbrev pub Typer : Type 0
Typer = Entries → Named → ℕ → Run Flaw Named

-- The type that is looked up. What is not there has no type at any cost, so that each budget is spent.
unfoldable pub looked_up : Option Named → ℕ → Run Flaw Named
looked_up None k = spent
looked_up (Some T) k = ends T k

abbrev pub type_of_global : Option (Global Name) → Option Named
type_of_global None = None
type_of_global (Some e) = Some e.type

-- The sort test of a type.
unfoldable pub sort_tested_as : Specification → Globals → Entries → Named → Option ℕ → ℕ → Run Flaw ℕ
sort_tested_as S G L T (Some s) k = ends s k
sort_tested_as S G L T None k = and_then (formed G L k T) (λ v k. gives (by_form S T v) k)

unfoldable pub sort_tested : Specification → Globals → Entries → Named → ℕ → Run Flaw ℕ
sort_tested S G L T k = sort_tested_as S G L T (as_sort T) k

-- What follows, where `infer` does the inferences that a rule asks for. First the inference with sort test.
unfoldable pub sorted : Specification → Globals → Typer → Entries → Named → ℕ → Run Flaw ℕ
sorted S G infer L t k = and_then (infer L t k) (sort_tested S G L)

-- The fit of what has the type T to the wanted type W.
abbrev pub misfit : Named → Named → Difference → FitFlaw
misfit T W d = judged (here (not_convertible d.place T W))

unfoldable pub types_compared : Globals → Entries → Named → Named → ℕ → ℕ → Run FitFlaw (Unit {0})
types_compared G L T W s k = turned (misfit T W) (tested G nesting L T W k)

unfoldable pub fit_tested : Specification → Globals → Typer → Entries → Named → Named → ℕ → Run FitFlaw (Unit {0})
fit_tested S G infer L T W k = and_then (turned wanted (sorted S G infer L W k)) (types_compared G L T W)

unfoldable pub fitted_as : Specification → Globals → Typer → Entries → Named → Named → Bool → ℕ → Run FitFlaw (Unit {0})
fitted_as S G infer L T W same k = if same then ends tt k else fit_tested S G infer L T W k

unfoldable pub fitted : Specification → Globals → Typer → Entries → Named → Named → ℕ → Run FitFlaw (Unit {0})
fitted S G infer L T W b = paid b (fitted_as S G infer L T W (same_term (bare T) (bare W)))

-- The product that the type F of a function is: at once, or by its form v.
unfoldable pub product_form : Specification → Globals → Typer → Entries → Named → (v : Named) → Option (Named × Named) → ℕ → Run Flaw (Named × Named)
product_form S G infer L F v None k = fails (here (not_product F)) k
product_form S G infer L F v (Some P) k = and_then (sorted S G infer L v k) (λ s k. ends P k)

unfoldable pub product_reduced : Specification → Globals → Typer → Entries → Named → ℕ → Run Flaw (Named × Named)
product_reduced S G infer L F k = and_then (formed G L k F) (λ v k. product_form S G infer L F v (as_product v) k)

unfoldable pub product_found_as : Specification → Globals → Typer → Entries → Named → Option (Named × Named) → ℕ → Run Flaw (Named × Named)
product_found_as S G infer L F (Some P) k = ends P k
product_found_as S G infer L F None k = turned (λ f. here (not_product F)) (product_reduced S G infer L F k)

unfoldable pub product_found : Specification → Globals → Typer → Entries → Named → ℕ → Run Flaw (Named × Named)
product_found S G infer L F k = product_found_as S G infer L F (as_product F) k

-- An application, from its last part to the first.
unfoldable pub argument_fitted : Specification → Globals → Typer → Entries → Named → Named × Named → Named → ℕ → Run Flaw Named
argument_fitted S G infer L a P T k = and_then (turned (of_argument P.0) (fitted S G infer L T P.0 k)) (λ u k. gives (made (subst 0 a P.1)) k)

unfoldable pub argument_inferred : Specification → Globals → Typer → Entries → Named → Named × Named → ℕ → Run Flaw Named
argument_inferred S G infer L a P k = and_then (turned (into 1) (infer L a k)) (argument_fitted S G infer L a P)

unfoldable pub function_typed : Specification → Globals → Typer → Entries → Named → Named → ℕ → Run Flaw Named
function_typed S G infer L a F k = and_then (turned (into 0) (product_found S G infer L F k)) (argument_inferred S G infer L a)

unfoldable pub application : Specification → Globals → Typer → Entries → Named → Named → ℕ → Run Flaw Named
application S G infer L f a k = and_then (turned (into 0) (infer L f k)) (function_typed S G infer L a)

-- A product.
unfoldable pub product_body : Specification → Globals → Typer → Entries → Name → Named → Named → ℕ → ℕ → Run Flaw Named
product_body S G infer L x A B s k = and_then (turned (under 1 x) (sorted S G infer (assumed A ∷ L) B k)) (λ r k. gives (by_rule s r (rule_of S s r) (λ q. comes (sort q))) k)

unfoldable pub product : Specification → Globals → Typer → Entries → Name → Named → Named → ℕ → Run Flaw Named
product S G infer L x A B k = and_then (turned (into 0) (sorted S G infer L A k)) (product_body S G infer L x A B)

-- An abstraction.
unfoldable pub body_sorted : Specification → Globals → Typer → Entries → Name → Named → ℕ → Named → ℕ → Run Flaw Named
body_sorted S G infer L x A s B k = and_then (turned (unsorted 1 x B) (sorted S G infer (assumed A ∷ L) B k)) (λ r k. gives (by_rule s r (rule_of S s r) (λ q. made (named_pi x A B))) k)

unfoldable pub body_inferred : Specification → Globals → Typer → Entries → Name → Named → Named → ℕ → ℕ → Run Flaw Named
body_inferred S G infer L x A b s k = and_then (turned (under 1 x) (infer (assumed A ∷ L) b k)) (body_sorted S G infer L x A s)

unfoldable pub abstraction : Specification → Globals → Typer → Entries → Name → Named → Named → ℕ → Run Flaw Named
abstraction S G infer L x A b k = and_then (turned (into 0) (sorted S G infer L A k)) (body_inferred S G infer L x A b)

-- A local definition.
unfoldable pub definition_type_as : Specification → Globals → Typer → Entries → Name → (a A B : Named) → Option ℕ → ℕ → Run Flaw Named
definition_type_as S G infer L x a A B (Some s) k = ends B k
definition_type_as S G infer L x a A B None k = and_then (turned (unsorted 2 x B) (sorted S G infer (defined a A ∷ L) B k)) (λ s k. gives (made (named_let x a A B)) k)

unfoldable pub definition_type : Specification → Globals → Typer → Entries → Name → (a A B : Named) → ℕ → Run Flaw Named
definition_type S G infer L x a A B k = definition_type_as S G infer L x a A B (as_sort B) k

unfoldable pub definition_body : Specification → Globals → Typer → Entries → Name → (a A b : Named) → Unit {0} → ℕ → Run Flaw Named
definition_body S G infer L x a A b u k = and_then (turned (under 2 x) (infer (defined a A ∷ L) b k)) (definition_type S G infer L x a A)

unfoldable pub definition_fitted : Specification → Globals → Typer → Entries → Name → (a A b D : Named) → ℕ → Run Flaw Named
definition_fitted S G infer L x a A b D k = and_then (turned of_definition (fitted S G infer L D A k)) (definition_body S G infer L x a A b)

unfoldable pub local_definition : Specification → Globals → Typer → Entries → Name → (a A b : Named) → ℕ → Run Flaw Named
local_definition S G infer L x a A b k = and_then (turned (into 0) (infer L a k)) (definition_fitted S G infer L x a A b)

-- Each form of a term, after its unit.
unfoldable pub typed_by_form : Specification → Globals → Typer → Typer
typed_by_form S G infer L (sort s) k = gives (by_axiom s (axiom_of S s)) k
typed_by_form S G infer L (const c) k = looked_up (type_of_global (find c G)) k
typed_by_form S G infer L (var i) k = looked_up (type_at i (entry_at L i)) k
typed_by_form S G infer L (app f a) k = application S G infer L f a k
typed_by_form S G infer L (named_pi x A B) k = product S G infer L x A B k
typed_by_form S G infer L (named_lam x A b) k = abstraction S G infer L x A b k
typed_by_form S G infer L (named_let x a A b) k = local_definition S G infer L x a A b k

-- Inference, in which inferences may be nested so deep.
unfoldable pub inferred : Specification → Globals → ℕ → Typer
inferred S G zero L t b = paid b deep
inferred S G (suc d) L t b = paid b (typed_by_form S G (inferred S G d) L t)
