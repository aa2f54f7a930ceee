-- Inferences that are computed, each with as many units as it costs; and rules that give the same.
use Rattle.std.proofs.Common.{None, [], ◌∷◌, ◌≡◌, refl, Some}
use Rattle.pts_names.specs.Name.{Name}
use Rattle.pts_terms.specs.Tree.{Named, sort, const, var, app, named_lam, named_pi, named_let}
use Rattle.pts_ctx.specs.System.{Specification, axiom_of, rule_of}
use Rattle.pts_ctx.specs.Front.{find, assumed, unknown}
use Rattle.pts_rules.specs.Step.{head_step}
use Rattle.pts_reduce_cost.specs.Costs.{Globals}
use Rattle.pts_reduce_cost.specs.Run.{ends, fails, deep, spent, and_then, paid, turned, checked}
use Rattle.pts_reduce_cost.specs.Work.{stepped, after_step, reduced, formed, agree, both_parts, compared_as, compared, forms_tested, tested}
use Rattle.pts_infer_cost.specs.Typing.{here, under, not_a_sort, not_product, no_rule, no_axiom, not_convertible, comes, stops, by_flaw, at_once, of_sort, of_variable, of_abstraction, of_product, body_stops, Infers, type_tested, inference_nesting}
use Rattle.pts_infer_cost.specs.Inference.{inferred, gives, looked_up, sort_tested_as, sort_tested, sorted, types_compared, fit_tested, fitted_as, fitted, product_form, product_reduced, product_found_as, product_found, argument_fitted, argument_inferred, function_typed, application, product_body, product, body_sorted, body_inferred, abstraction, definition_type_as, definition_type, definition_body, definition_fitted, local_definition, typed_by_form}

abbrev x : Name
x = 120 ∷ []

abbrev A : Name
A = 65 ∷ []

abbrev star : Named
star = sort 0

abbrev square : Named
square = sort 1

-- The calculus of constructions, and the simply typed one.
abbrev constructions : Specification
constructions = record { sorts = (42 ∷ []) ∷ (35 ∷ []) ∷ []; axioms = (0, 1) ∷ []; rules = (0, 0, 0) ∷ (0, 1, 1) ∷ (1, 0, 0) ∷ (1, 1, 1) ∷ [] }

abbrev simple : Specification
simple = record { sorts = (42 ∷ []) ∷ (35 ∷ []) ∷ []; axioms = (0, 1) ∷ []; rules = (0, 0, 0) ∷ [] }

-- `\A:*. \x:A. x` with its type `@A:*. @x:A. A`, and `\x:*. x`.
abbrev identity : Named
identity = named_lam A star (named_lam x (var 0) (var 0))

abbrev identity_type : Named
identity_type = named_pi A star (named_pi x (var 0) (var 1))

abbrev of_types : Named
of_types = named_lam x star (var 0)

abbrev name : Name
name = 97 ∷ []

abbrev front : Globals
front = record { name = name; body = Some of_types; type = app of_types (named_pi x star square) } ∷ []

-- The type comes with the ninth unit: two pay for the outer abstraction and its domain, four for the inner one, and
-- three
-- for the type of that.
identity_typed : inferred constructions [] inference_nesting [] identity 9 ≡ ends identity_type 0
unfolding inferred paid typed_by_form gives looked_up find axiom_of rule_of application function_typed argument_inferred argument_fitted product product_body abstraction body_inferred body_sorted local_definition definition_fitted definition_body definition_type definition_type_as sorted sort_tested sort_tested_as product_found product_found_as product_reduced product_form fitted fitted_as fit_tested types_compared formed reduced after_step stepped head_step checked tested forms_tested compared compared_as agree both_parts turned and_then
identity_typed = refl

identity_unpaid : inferred constructions [] inference_nesting [] identity 8 ≡ spent
unfolding inferred paid typed_by_form gives looked_up find axiom_of rule_of application function_typed argument_inferred argument_fitted product product_body abstraction body_inferred body_sorted local_definition definition_fitted definition_body definition_type definition_type_as sorted sort_tested sort_tested_as product_found product_found_as product_reduced product_form fitted fitted_as fit_tested types_compared formed reduced after_step stepped head_step checked tested forms_tested compared compared_as agree both_parts turned and_then
identity_unpaid = refl

-- What is above the cost is left. Without a rule for the two sorts the flaw is at the abstraction.
no_rule_for : inferred simple [] inference_nesting [] identity 100 ≡ fails (here (no_rule 1 0)) 91
unfolding inferred paid typed_by_form gives looked_up find axiom_of rule_of application function_typed argument_inferred argument_fitted product product_body abstraction body_inferred body_sorted local_definition definition_fitted definition_body definition_type definition_type_as sorted sort_tested sort_tested_as product_found product_found_as product_reduced product_form fitted fitted_as fit_tested types_compared formed reduced after_step stepped head_step checked tested forms_tested compared compared_as agree both_parts turned and_then
no_rule_for = refl

-- A sort without an axiom; and the same in the type of a body, which then is no sort.
no_axiom_for : inferred constructions [] inference_nesting [] square 1 ≡ fails (here (no_axiom 1)) 0
unfolding inferred paid typed_by_form gives looked_up find axiom_of rule_of application function_typed argument_inferred argument_fitted product product_body abstraction body_inferred body_sorted local_definition definition_fitted definition_body definition_type definition_type_as sorted sort_tested sort_tested_as product_found product_found_as product_reduced product_form fitted fitted_as fit_tested types_compared formed reduced after_step stepped head_step checked tested forms_tested compared compared_as agree both_parts turned and_then
no_axiom_for = refl

no_axiom_behind : inferred constructions [] inference_nesting [] (named_lam x star square) 3 ≡ fails (record { place = 1 ∷ []; names = x ∷ []; kind = no_axiom 1 }) 0
unfolding inferred paid typed_by_form gives looked_up find axiom_of rule_of application function_typed argument_inferred argument_fitted product product_body abstraction body_inferred body_sorted local_definition definition_fitted definition_body definition_type definition_type_as sorted sort_tested sort_tested_as product_found product_found_as product_reduced product_form fitted fitted_as fit_tested types_compared formed reduced after_step stepped head_step checked tested forms_tested compared compared_as agree both_parts turned and_then
no_axiom_behind = refl

no_sort_of_body : inferred constructions [] inference_nesting [] (named_lam x star star) 4 ≡ fails (record { place = 1 ∷ []; names = x ∷ []; kind = not_a_sort square }) 0
unfolding inferred paid typed_by_form gives looked_up find axiom_of rule_of application function_typed argument_inferred argument_fitted product product_body abstraction body_inferred body_sorted local_definition definition_fitted definition_body definition_type definition_type_as sorted sort_tested sort_tested_as product_found product_found_as product_reduced product_form fitted fitted_as fit_tested types_compared formed reduced after_step stepped head_step checked tested forms_tested compared compared_as agree both_parts turned and_then
no_sort_of_body = refl

-- A domain whose type is no sort.
domain_unsorted : inferred constructions [] inference_nesting [] (named_pi x of_types star) 5 ≡ fails (record { place = 0 ∷ []; names = []; kind = not_a_sort (named_pi x star star) }) 0
unfolding inferred paid typed_by_form gives looked_up find axiom_of rule_of application function_typed argument_inferred argument_fitted product product_body abstraction body_inferred body_sorted local_definition definition_fitted definition_body definition_type definition_type_as sorted sort_tested sort_tested_as product_found product_found_as product_reduced product_form fitted fitted_as fit_tested types_compared formed reduced after_step stepped head_step checked tested forms_tested compared compared_as agree both_parts turned and_then
domain_unsorted = refl

-- A function whose type is no product: the flaw is at the function, behind the binder.
no_product_here : inferred constructions [] inference_nesting [] (named_lam A star (app (var 0) (var 0))) 4 ≡ fails (record { place = 1 ∷ 0 ∷ []; names = A ∷ []; kind = not_product star }) 0
unfolding inferred paid typed_by_form gives looked_up find axiom_of rule_of application function_typed argument_inferred argument_fitted product product_body abstraction body_inferred body_sorted local_definition definition_fitted definition_body definition_type definition_type_as sorted sort_tested sort_tested_as product_found product_found_as product_reduced product_form fitted fitted_as fit_tested types_compared formed reduced after_step stepped head_step checked tested forms_tested compared compared_as agree both_parts turned and_then
no_product_here = refl

-- An argument of another type: five units for the application and its function, and one each for the argument, the fit,
-- the domain, and the test.
not_convertible_at : inferred constructions [] inference_nesting [] (app of_types star) 9 ≡ fails (record { place = 1 ∷ []; names = []; kind = not_convertible [] square star }) 0
unfolding inferred paid typed_by_form gives looked_up find axiom_of rule_of application function_typed argument_inferred argument_fitted product product_body abstraction body_inferred body_sorted local_definition definition_fitted definition_body definition_type definition_type_as sorted sort_tested sort_tested_as product_found product_found_as product_reduced product_form fitted fitted_as fit_tested types_compared formed reduced after_step stepped head_step checked tested forms_tested compared compared_as agree both_parts turned and_then
not_convertible_at = refl

not_convertible_unpaid : inferred constructions [] inference_nesting [] (app of_types star) 8 ≡ spent
unfolding inferred paid typed_by_form gives looked_up find axiom_of rule_of application function_typed argument_inferred argument_fitted product product_body abstraction body_inferred body_sorted local_definition definition_fitted definition_body definition_type definition_type_as sorted sort_tested sort_tested_as product_found product_found_as product_reduced product_form fitted fitted_as fit_tested types_compared formed reduced after_step stepped head_step checked tested forms_tested compared compared_as agree both_parts turned and_then
not_convertible_unpaid = refl

-- An argument of equal type costs a unit for the fit alone.
argument_fits : inferred constructions [] inference_nesting (assumed star ∷ []) (app of_types (var 0)) 7 ≡ ends star 0
unfolding inferred paid typed_by_form gives looked_up find axiom_of rule_of application function_typed argument_inferred argument_fitted product product_body abstraction body_inferred body_sorted local_definition definition_fitted definition_body definition_type definition_type_as sorted sort_tested sort_tested_as product_found product_found_as product_reduced product_form fitted fitted_as fit_tested types_compared formed reduced after_step stepped head_step checked tested forms_tested compared compared_as agree both_parts turned and_then
argument_fits = refl

-- Where the body's type is a sort it is the type of a local definition.
sort_of_definition : inferred constructions [] inference_nesting [] (named_let x star square (named_pi x (var 0) (var 1))) 6 ≡ ends square 0
unfolding inferred paid typed_by_form gives looked_up find axiom_of rule_of application function_typed argument_inferred argument_fitted product product_body abstraction body_inferred body_sorted local_definition definition_fitted definition_body definition_type definition_type_as sorted sort_tested sort_tested_as product_found product_found_as product_reduced product_form fitted fitted_as fit_tested types_compared formed reduced after_step stepped head_step checked tested forms_tested compared compared_as agree both_parts turned and_then
sort_of_definition = refl

-- A definition that doesn't fit, in its wanted type and in itself.
wanted_flawed : inferred constructions [] inference_nesting [] (named_let x star (named_pi x star square) (var 0)) 6 ≡ fails (record { place = 1 ∷ 1 ∷ []; names = x ∷ []; kind = no_axiom 1 }) 0
unfolding inferred paid typed_by_form gives looked_up find axiom_of rule_of application function_typed argument_inferred argument_fitted product product_body abstraction body_inferred body_sorted local_definition definition_fitted definition_body definition_type definition_type_as sorted sort_tested sort_tested_as product_found product_found_as product_reduced product_form fitted fitted_as fit_tested types_compared formed reduced after_step stepped head_step checked tested forms_tested compared compared_as agree both_parts turned and_then
wanted_flawed = refl

definition_misfits : inferred constructions [] inference_nesting [] (named_let x star star (var 0)) 5 ≡ fails (record { place = 0 ∷ []; names = []; kind = not_convertible [] square star }) 0
unfolding inferred paid typed_by_form gives looked_up find axiom_of rule_of application function_typed argument_inferred argument_fitted product product_body abstraction body_inferred body_sorted local_definition definition_fitted definition_body definition_type definition_type_as sorted sort_tested sort_tested_as product_found product_found_as product_reduced product_form fitted fitted_as fit_tested types_compared formed reduced after_step stepped head_step checked tested forms_tested compared compared_as agree both_parts turned and_then
definition_misfits = refl

-- Else the type is a local definition: one unit each for the whole, the definition, its fit, the body, and the body's
-- type.
definition_type_made : inferred constructions [] inference_nesting (assumed (var 0) ∷ assumed star ∷ []) (named_let x (var 1) star (var 1)) 5 ≡ ends (named_let x (var 1) star (var 2)) 0
unfolding inferred paid typed_by_form gives looked_up find axiom_of rule_of application function_typed argument_inferred argument_fitted product product_body abstraction body_inferred body_sorted local_definition definition_fitted definition_body definition_type definition_type_as sorted sort_tested sort_tested_as product_found product_found_as product_reduced product_form fitted fitted_as fit_tested types_compared formed reduced after_step stepped head_step checked tested forms_tested compared compared_as agree both_parts turned and_then
definition_type_made = refl

-- A constant has the type that the front says. Where a product is wanted that is reduced, and what it is reduced to is
-- inferred: each flaw of this is one of the function.
constant_typed : inferred constructions front inference_nesting [] (const name) 1 ≡ ends (app of_types (named_pi x star square)) 0
unfolding inferred paid typed_by_form gives looked_up find axiom_of rule_of application function_typed argument_inferred argument_fitted product product_body abstraction body_inferred body_sorted local_definition definition_fitted definition_body definition_type definition_type_as sorted sort_tested sort_tested_as product_found product_found_as product_reduced product_form fitted fitted_as fit_tested types_compared formed reduced after_step stepped head_step checked tested forms_tested compared compared_as agree both_parts turned and_then
constant_typed = refl

product_untyped : inferred constructions front inference_nesting [] (app (const name) star) 6 ≡ fails (record { place = 0 ∷ []; names = []; kind = not_product (app of_types (named_pi x star square)) }) 0
unfolding inferred paid typed_by_form gives looked_up find axiom_of rule_of application function_typed argument_inferred argument_fitted product product_body abstraction body_inferred body_sorted local_definition definition_fitted definition_body definition_type definition_type_as sorted sort_tested sort_tested_as product_found product_found_as product_reduced product_form fitted fitted_as fit_tested types_compared formed reduced after_step stepped head_step checked tested forms_tested compared compared_as agree both_parts turned and_then
product_untyped = refl

product_unpaid : inferred constructions front inference_nesting [] (app (const name) star) 5 ≡ spent
unfolding inferred paid typed_by_form gives looked_up find axiom_of rule_of application function_typed argument_inferred argument_fitted product product_body abstraction body_inferred body_sorted local_definition definition_fitted definition_body definition_type definition_type_as sorted sort_tested sort_tested_as product_found product_found_as product_reduced product_form fitted fitted_as fit_tested types_compared formed reduced after_step stepped head_step checked tested forms_tested compared compared_as agree both_parts turned and_then
product_unpaid = refl

-- What has no entry has no type at any cost, and neither has a variable of which nothing is known.
nothing_known : inferred constructions [] inference_nesting [] (const name) 1000 ≡ spent
unfolding inferred paid typed_by_form gives looked_up find axiom_of rule_of application function_typed argument_inferred argument_fitted product product_body abstraction body_inferred body_sorted local_definition definition_fitted definition_body definition_type definition_type_as sorted sort_tested sort_tested_as product_found product_found_as product_reduced product_form fitted fitted_as fit_tested types_compared formed reduced after_step stepped head_step checked tested forms_tested compared compared_as agree both_parts turned and_then
nothing_known = refl

nothing_known_of : inferred constructions [] inference_nesting (unknown ∷ []) (var 0) 1000 ≡ spent
unfolding inferred paid typed_by_form gives looked_up find axiom_of rule_of application function_typed argument_inferred argument_fitted product product_body abstraction body_inferred body_sorted local_definition definition_fitted definition_body definition_type definition_type_as sorted sort_tested sort_tested_as product_found product_found_as product_reduced product_form fitted fitted_as fit_tested types_compared formed reduced after_step stepped head_step checked tested forms_tested compared compared_as agree both_parts turned and_then
nothing_known_of = refl

-- An inference that is nested too deep pays its unit.
too_deep : inferred constructions [] 0 [] star 1 ≡ deep 0
unfolding inferred paid typed_by_form gives looked_up find axiom_of rule_of application function_typed argument_inferred argument_fitted product product_body abstraction body_inferred body_sorted local_definition definition_fitted definition_body definition_type definition_type_as sorted sort_tested sort_tested_as product_found product_found_as product_reduced product_form fitted fitted_as fit_tested types_compared formed reduced after_step stepped head_step checked tested forms_tested compared compared_as agree both_parts turned and_then
too_deep = refl

nested_once : inferred constructions [] 1 [] (named_lam x star star) 2 ≡ deep 0
unfolding inferred paid typed_by_form gives looked_up find axiom_of rule_of application function_typed argument_inferred argument_fitted product product_body abstraction body_inferred body_sorted local_definition definition_fitted definition_body definition_type definition_type_as sorted sort_tested sort_tested_as product_found product_found_as product_reduced product_form fitted fitted_as fit_tested types_compared formed reduced after_step stepped head_step checked tested forms_tested compared compared_as agree both_parts turned and_then
nested_once = refl

-- Definitions over `A : *` and `d : A -> A`, each with what its inference costs, and then what its fit to `A -> A` does:
-- `\x:A. x`, `\x:A. d (d x)`, `(\h:A -> A. \x:A. h x) d` and `let h := d : A -> A in h` cost 5, 11, 18 and 15 units.
abbrev base : Named
base = const A

abbrev maps : Named
maps = named_pi x base base

abbrev d : Named
d = const x

abbrev maps_front : Globals
maps_front = record { name = A; body = None; type = star } ∷ record { name = x; body = Some (named_lam x base (var 0)); type = maps } ∷ []

abbrev local_type : Named
local_type = named_let x d maps maps

same_map : (inferred constructions maps_front inference_nesting [] (named_lam x base (var 0)) 5 ≡ ends maps 1) × (fitted constructions maps_front (inferred constructions maps_front inference_nesting) [] maps maps 1 ≡ ends tt 0)
unfolding inferred paid typed_by_form gives looked_up find axiom_of rule_of application function_typed argument_inferred argument_fitted product product_body abstraction body_inferred body_sorted local_definition definition_fitted definition_body definition_type definition_type_as sorted sort_tested sort_tested_as product_found product_found_as product_reduced product_form fitted fitted_as fit_tested types_compared formed reduced after_step stepped head_step checked tested forms_tested compared compared_as agree both_parts turned and_then
same_map = (refl, refl)

twice : inferred constructions maps_front inference_nesting [] (named_lam x base (app d (app d (var 0)))) 11 ≡ ends maps 1
unfolding inferred paid typed_by_form gives looked_up find axiom_of rule_of application function_typed argument_inferred argument_fitted product product_body abstraction body_inferred body_sorted local_definition definition_fitted definition_body definition_type definition_type_as sorted sort_tested sort_tested_as product_found product_found_as product_reduced product_form fitted fitted_as fit_tested types_compared formed reduced after_step stepped head_step checked tested forms_tested compared compared_as agree both_parts turned and_then
twice = refl

applied : inferred constructions maps_front inference_nesting [] (app (named_lam x maps (named_lam x base (app (var 1) (var 0)))) d) 18 ≡ ends maps 1
unfolding inferred paid typed_by_form gives looked_up find axiom_of rule_of application function_typed argument_inferred argument_fitted product product_body abstraction body_inferred body_sorted local_definition definition_fitted definition_body definition_type definition_type_as sorted sort_tested sort_tested_as product_found product_found_as product_reduced product_form fitted fitted_as fit_tested types_compared formed reduced after_step stepped head_step checked tested forms_tested compared compared_as agree both_parts turned and_then
applied = refl

locally : (inferred constructions maps_front inference_nesting [] (named_let x d maps (var 0)) 15 ≡ ends local_type 8) × (fitted constructions maps_front (inferred constructions maps_front inference_nesting) [] local_type maps 8 ≡ ends tt 0)
unfolding inferred paid typed_by_form gives looked_up find axiom_of rule_of application function_typed argument_inferred argument_fitted product product_body abstraction body_inferred body_sorted local_definition definition_fitted definition_body definition_type definition_type_as sorted sort_tested sort_tested_as product_found product_found_as product_reduced product_form fitted fitted_as fit_tested types_compared formed reduced after_step stepped head_step checked tested forms_tested compared compared_as agree both_parts turned and_then
locally = (refl, refl)

-- The same by the rules.
identity_costs : Infers constructions [] inference_nesting [] identity (comes identity_type) 9
unfolding axiom_of rule_of
identity_costs =
    of_abstraction {B = named_pi x (var 0) (var 1)} {s = 1} {r = 0} {m = 1} {n = 4} {k = 3} (type_tested of_sort (at_once refl))
    (of_abstraction {B = var 1} {s = 0} {r = 0} {m = 1} {n = 1} {k = 1} (type_tested (of_variable refl) (at_once refl)) (of_variable refl) (type_tested (of_variable refl) (at_once refl)))
    (type_tested {m = 3} (of_product {s = 0} {r = 0} {m = 1} {n = 1} (type_tested (of_variable refl) (at_once refl)) (type_tested (of_variable refl) (at_once refl))) (at_once refl))

flaw_costs : Infers constructions [] inference_nesting [] (named_lam x star square) (stops (by_flaw (under 1 x (here (no_axiom 1))))) 3
unfolding axiom_of
flaw_costs = body_stops {s = 1} {m = 1} {n = 1} (type_tested of_sort (at_once refl)) of_sort
