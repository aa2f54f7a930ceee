-- Costs that are computed: reductions and tests, each with as many units as it costs, and with one unit less.
use Rattle.std.proofs.Common.{ℕ, zero, suc, [], ◌∷◌, ◌≡◌, refl, Some}
use Rattle.pts_names.specs.Name.{Name}
use Rattle.pts_terms.specs.Tree.{Named, sort, const, var, app, named_lam, named_pi}
use Rattle.pts_ctx.specs.Front.{find, defined, assumed}
use Rattle.pts_rules.specs.Step.{head_step}
use Rattle.pts_reduce_cost.specs.Costs.{Globals, Entries, form, Reduces, no_step, one_step, no_, Tests, equal_terms, by_forms, unlike, second_part, nesting}
use Rattle.pts_reduce_cost.specs.Run.{ends, fails, deep, spent, and_then, paid, turned, checked}
use Rattle.pts_reduce_cost.specs.Work.{stepped, after_step, reduced, formed, agree, both_parts, compared_as, compared, forms_tested, tested}

abbrev x : Name
x = 120 ∷ []

abbrev y : Name
y = 121 ∷ []

abbrev star : Named
star = sort 0

abbrev square : Named
square = sort 1

abbrev identity : Named
identity = named_lam x star (var 0)

-- A definition of the front, and a front and a context with one definition each.
abbrev name : Name
name = 97 ∷ []

abbrev front : Globals
front = record { name = name; body = Some (app identity star); type = square } ∷ []

abbrev context : Entries
context = defined (var 0) star ∷ assumed star ∷ []

-- An identity that is applied to a sort is reduced in one step.
identity_applied : reduced [] [] 1 (app identity star) ≡ ends star 0
unfolding reduced after_step stepped paid checked head_step
identity_applied = refl

identity_unpaid : reduced [] [] 0 (app identity star) ≡ spent
unfolding reduced after_step stepped paid checked head_step
identity_unpaid = refl

identity_costs : Reduces [] [] (app identity star) (form star) 1
unfolding head_step
identity_costs = one_step refl refl (no_step refl)

-- A form costs nothing.
form_for_nothing : reduced [] [] 0 identity ≡ ends identity 0
unfolding reduced after_step stepped paid checked head_step
form_for_nothing = refl

-- A constant becomes its body, and that is reduced further; what is above the cost is left.
constant_opened : reduced front [] 5 (const name) ≡ ends star 3
unfolding reduced after_step stepped paid checked head_step find
constant_opened = refl

-- A variable becomes its definition, as seen from its place.
variable_opened : reduced [] context 1 (app (var 0) star) ≡ ends (app (var 1) star) 0
unfolding reduced after_step stepped paid checked head_step
variable_opened = refl

-- Arguments are not reduced.
argument_stays : reduced [] [] 0 (app (var 0) (app identity star)) ≡ ends (app (var 0) (app identity star)) 0
unfolding reduced after_step stepped paid checked head_step
argument_stays = refl

-- Equal terms cost one unit, also where they have a head step. Printed names don't count.
equal_for_one : tested [] nesting [] (app identity star) (app (named_lam y star (var 0)) star) 1 ≡ ends tt 0
unfolding tested paid
equal_for_one = refl

equal_unpaid : tested [] nesting [] star star 0 ≡ spent
unfolding tested paid
equal_unpaid = refl

-- Two sorts after one step each: three units, and no at the empty place.
sorts_differ : tested [] nesting [] (app identity star) (app identity square) 3 ≡ fails (record { place = []; left = star; right = square }) 0
unfolding tested paid forms_tested and_then formed turned reduced after_step stepped checked head_step compared compared_as agree
sorts_differ = refl

sorts_cost : Tests [] nesting [] (app identity star) (app identity square) (no_ [] star square) 3
unfolding head_step
sorts_cost = by_forms refl (one_step refl refl (no_step refl)) (one_step refl refl (no_step refl)) (unlike refl)

sorts_unpaid : tested [] nesting [] (app identity star) (app identity square) 2 ≡ spent
unfolding tested paid forms_tested and_then formed turned reduced after_step stepped checked head_step compared compared_as agree
sorts_unpaid = refl

-- A step on the left alone, to the same form: the two units are for the test and the step.
same_form : tested [] nesting [] (app identity star) star 2 ≡ ends tt 0
unfolding tested paid forms_tested and_then formed turned reduced after_step stepped checked head_step compared compared_as agree
same_form = refl

-- Applications whose arguments differ: a unit for the whole, for the functions, and for the arguments.
arguments_differ : tested [] nesting [] (app (var 0) star) (app (var 0) square) 3 ≡ fails (record { place = 1 ∷ []; left = star; right = square }) 0
unfolding tested paid forms_tested and_then formed turned reduced after_step stepped checked head_step compared compared_as agree both_parts
arguments_differ = refl

arguments_cost : Tests [] nesting [] (app (var 0) star) (app (var 0) square) (no_ (1 ∷ []) star square) 3
unfolding head_step
arguments_cost = by_forms refl (no_step refl) (no_step refl) (second_part {o = no_ [] star square} refl (equal_terms refl) (by_forms refl (no_step refl) (no_step refl) (unlike refl)))

arguments_unpaid : tested [] nesting [] (app (var 0) star) (app (var 0) square) 2 ≡ spent
unfolding tested paid forms_tested and_then formed turned reduced after_step stepped checked head_step compared compared_as agree both_parts
arguments_unpaid = refl

-- Where the functions differ the arguments are not looked at.
functions_differ : tested [] nesting [] (app (var 0) (app identity star)) (app (var 1) square) 2 ≡ fails (record { place = 0 ∷ []; left = var 0; right = var 1 }) 0
unfolding tested paid forms_tested and_then formed turned reduced after_step stepped checked head_step compared compared_as agree both_parts
functions_differ = refl

-- Behind a binder an index stands for the entry before, and the body's place comes behind that of the product.
bodies_differ : tested [] nesting [] (app (var 0) (named_pi x star (var 0))) (app (var 0) (named_pi y star (var 1))) 5 ≡ fails (record { place = 1 ∷ 1 ∷ []; left = var 0; right = var 1 }) 0
unfolding tested paid forms_tested and_then formed turned reduced after_step stepped checked head_step compared compared_as agree both_parts
bodies_differ = refl

-- Bodies are compared in a bare context: what the outer variable is defined as is seen, and of the inner nothing is known.
bodies_agree : tested [] nesting context (named_lam x star (var 1)) (named_lam y star (var 2)) 4 ≡ ends tt 0
unfolding tested paid forms_tested and_then formed turned reduced after_step stepped checked head_step compared compared_as agree both_parts
bodies_agree = refl

-- An abstraction and a product differ at once.
kinds_differ : tested [] nesting [] identity (named_pi x star (var 0)) 1 ≡ fails (record { place = []; left = identity; right = named_pi x star (var 0) }) 0
unfolding tested paid forms_tested and_then formed turned reduced after_step stepped checked head_step compared compared_as agree both_parts
kinds_differ = refl

-- A test that is nested too deep pays its unit, also for equal terms.
too_deep : tested [] 0 [] star star 1 ≡ deep 0
unfolding tested paid
too_deep = refl

nested_once : tested [] 1 [] (app (var 0) star) (app (var 0) square) 2 ≡ deep 0
unfolding tested paid forms_tested and_then formed turned reduced after_step stepped checked head_step compared compared_as agree both_parts
nested_once = refl

-- A term of depth n + 1, and a step that makes it deeper by one.
deep_by : ℕ → Named
deep_by zero = star
deep_by (suc n) = app star (deep_by n)

deepened : ℕ → Named
deepened n = app (named_lam x star (app star (var 0))) (deep_by n)

-- A step to a term beyond the limits costs its unit and is the last.
step_within : reduced [] [] 1 (deepened 1998) ≡ ends (deep_by 1999) 0
unfolding reduced after_step stepped paid checked head_step deep_by deepened
step_within = refl

step_beyond : reduced [] [] 1 (deepened 1999) ≡ deep 0
unfolding reduced after_step stepped paid checked head_step deep_by deepened
step_beyond = refl

beyond_unpaid : reduced [] [] 0 (deepened 1999) ≡ spent
unfolding reduced after_step stepped paid checked head_step deep_by deepened
beyond_unpaid = refl

-- Where the left term is beyond the limits, the right one is not reduced.
left_beyond : tested [] nesting [] (deepened 1999) (app identity star) 2 ≡ deep 0
unfolding tested paid forms_tested and_then formed turned reduced after_step stepped checked head_step deep_by deepened
left_beyond = refl

right_beyond : tested [] nesting [] (app identity star) (deepened 1999) 3 ≡ deep 0
unfolding tested paid forms_tested and_then formed turned reduced after_step stepped checked head_step deep_by deepened
right_beyond = refl
