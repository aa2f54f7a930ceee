-- The rules of inference are right, row by row, where the inferences that they ask for are.
use Rattle.std.proofs.Common.{◌≡◌, ℕ, zero, suc, ◌+◌, ◌∷◌, refl, sym, ap, ◌∙◌, subst, arith, Option, Some, None}
use Rattle.pts_names.specs.Name.{Name}
use Rattle.pts_terms.specs.Tree.{Named, sort, const, var, app, named_lam, named_pi, named_let, subst as put_in}
use Rattle.pts_ctx.specs.System.{Specification, axiom_of, rule_of}
use Rattle.pts_ctx.specs.Front.{Global, find, assumed, defined, entry_at}
use Rattle.pts_reduce_cost.specs.Costs.{Globals, Entries}
use Rattle.pts_reduce_cost.specs.Run.{ends, paid, turned}
use Rattle.pts_infer_cost.specs.Typing.{Flaw, into, under, unsorted, of_argument, of_definition, by_limits, comes, stops, Typing, as_sort, type_at, made, by_axiom, by_rule, Infers, nested_too_deep, of_sort, of_constant, of_variable, function_stops, function_type_stops, argument_stops, argument_fit_stops, of_application, product_domain_stops, product_body_stops, of_product, domain_stops, body_stops, body_type_stops, of_abstraction, definition_stops, definition_fit_stops, definition_body_stops, of_definition_of_sort, definition_body_type_stops, of_local_definition, Sorts, Fits, Products}
use Rattle.pts_infer_cost.specs.Inference.{gives, Typer, looked_up, type_of_global, sorted, fitted, product_found, argument_fitted, argument_inferred, function_typed, application, product_body, product, body_sorted, body_inferred, abstraction, definition_type_as, definition_type, definition_body, definition_fitted, local_definition, typed_by_form, inferred}
use Rattle.pts_infer_cost.proofs.Right.{Costs, Comes, Right, Paid, pay, Moved, stopped, came_to, Then, stop, next, Last, last_stop, last, Free, free, same_costs, paid_right, turned_right, then_right, free_right, last_right, as_outcome}
use Rattle.pts_infer_cost.proofs.Parts.{sorts_right, fits_right, products_right}

-- What is looked up: a type that costs nothing, or nothing at any cost.
pub data Found (x : Option Named) : Typing → ℕ → Type 0 where
  found : {T : Named} → x ≡ Some T → Found x (comes T) 0

found_reached : (x : Option Named) (o : Typing) (n k b : ℕ) → Found x o n → b ≡ n + k → looked_up x b ≡ gives o k
unfolding looked_up gives
found_reached x _ _ k b (found {T} p) e = let q : b ≡ k = omega (arith, e) in ap (λ y. looked_up y b) p ∙ ap (ends T) q

found_came : (y x : Option Named) → y ≡ x → (b : ℕ) → Comes (Found y) b (looked_up x b)
unfolding looked_up
found_came y None e b = tt
found_came y (Some T) e b = (0, found e, omega arith)

pub found_right : (x : Option Named) → Right (Found x) (looked_up x)
found_right x = record { reached = found_reached x; came = found_came x x refl }

global_type : (x : Option (Global Name)) (T : Named) → type_of_global x ≡ Some T → (e : Global Name) × (x ≡ Some e) × (e.type ≡ T)
global_type None T p = absurd (cc p)
global_type (Some e) T p = (e, refl, cc p)

module _ (S : Specification) (G : Globals) (d : ℕ) (infer : Typer) (right : (L : Entries) (t : Named) → Right (Infers S G d L t) (infer L t)) where
  -- Sorts, constants and variables.
  module _ (L : Entries) where
    sort_out : (s : ℕ) (o : Typing) (n : ℕ) → Infers S G (suc d) L (sort s) o n → Paid (Free (by_axiom s (axiom_of S s))) o n
    sort_out s _ _ of_sort = pay free

    sort_in : (s : ℕ) (o : Typing) (n : ℕ) → Paid (Free (by_axiom s (axiom_of S s))) o n → Infers S G (suc d) L (sort s) o n
    sort_in s _ _ (pay free) = of_sort

    constant_out : (c : Name) (o : Typing) (n : ℕ) → Infers S G (suc d) L (const c) o n → Paid (Found (type_of_global (find c G))) o n
    constant_out c _ _ (of_constant p) = pay (found (ap type_of_global p))

    constant_in : (c : Name) (o : Typing) (n : ℕ) → Paid (Found (type_of_global (find c G))) o n → Infers S G (suc d) L (const c) o n
    constant_in c _ _ (pay (found {T} p)) = let (e, q, i) = global_type (find c G) T p in subst (λ x. Infers S G (suc d) L (const c) (comes x) 1) i (of_constant q)

    variable_out : (i : ℕ) (o : Typing) (n : ℕ) → Infers S G (suc d) L (var i) o n → Paid (Found (type_at i (entry_at L i))) o n
    variable_out i _ _ (of_variable p) = pay (found p)

    variable_in : (i : ℕ) (o : Typing) (n : ℕ) → Paid (Found (type_at i (entry_at L i))) o n → Infers S G (suc d) L (var i) o n
    variable_in i _ _ (pay (found p)) = of_variable p

  -- An application.
  module _ (L : Entries) (f a : Named) where
    FitFollows : (P : Named × Named) (T : Named) → Costs Flaw Named
    FitFollows P T = Last (Moved (of_argument P.0) (Fits S G d L T P.0)) (λ u. made (put_in 0 a P.1))

    ArgumentFollows : (P : Named × Named) → Costs Flaw Named
    ArgumentFollows P = Then (Moved (into 1) (Infers S G d L a)) (FitFollows P)

    ProductFollows : (F : Named) → Costs Flaw Named
    ProductFollows F = Then (Moved (into 0) (Products S G d L F)) ArgumentFollows

    Application : Costs Flaw Named
    Application = Then (Moved (into 0) (Infers S G d L f)) ProductFollows

    application_out : (o : Typing) (n : ℕ) → Infers S G (suc d) L (app f a) o n → Paid Application o n
    unfolding Application ProductFollows ArgumentFollows FitFollows
    application_out _ _ (function_stops c) = pay (stop (stopped c))
    application_out _ _ (function_type_stops c p) = pay (next (came_to c) (stop (stopped p)))
    application_out _ _ (argument_stops c p i) = pay (next (came_to c) (next (came_to p) (stop (stopped i))))
    application_out _ _ (argument_fit_stops c p i j) = pay (next (came_to c) (next (came_to p) (next (came_to i) (last_stop (stopped j)))))
    application_out _ _ (of_application c p i j) = pay (next (came_to c) (next (came_to p) (next (came_to i) (last (came_to j) refl))))

    application_in : (o : Typing) (n : ℕ) → Paid Application o n → Infers S G (suc d) L (app f a) o n
    unfolding Application ProductFollows ArgumentFollows FitFollows
    application_in _ _ (pay (stop (stopped c))) = function_stops c
    application_in _ _ (pay (next (came_to c) (stop (stopped p)))) = function_type_stops c p
    application_in _ _ (pay (next (came_to c) (next (came_to p) (stop (stopped i))))) = argument_stops c p i
    application_in _ _ (pay (next (came_to c) (next (came_to p) (next (came_to i) (last_stop (stopped j)))))) = argument_fit_stops c p i j
    application_in o _ (pay (next (came_to c) (next (came_to p) (next (came_to i) (last (came_to j) q))))) = as_outcome (Infers S G (suc d) L (app f a)) _ o _ q (of_application c p i j)

    fit_follows_right : (P : Named × Named) (T : Named) → Right (FitFollows P T) (argument_fitted S G infer L a P T)
    unfolding FitFollows argument_fitted
    fit_follows_right P T = last_right (Moved (of_argument P.0) (Fits S G d L T P.0)) (λ k. turned (of_argument P.0) (fitted S G infer L T P.0 k)) (λ u. made (put_in 0 a P.1)) (turned_right (of_argument P.0) (Fits S G d L T P.0) (fitted S G infer L T P.0) (fits_right S G d infer right L T P.0))

    argument_follows_right : (P : Named × Named) → Right (ArgumentFollows P) (argument_inferred S G infer L a P)
    unfolding ArgumentFollows argument_inferred
    argument_follows_right P = then_right (Moved (into 1) (Infers S G d L a)) (FitFollows P) (λ k. turned (into 1) (infer L a k)) (argument_fitted S G infer L a P) (turned_right (into 1) (Infers S G d L a) (infer L a) (right L a)) (fit_follows_right P)

    product_follows_right : (F : Named) → Right (ProductFollows F) (function_typed S G infer L a F)
    unfolding ProductFollows function_typed
    product_follows_right F = then_right (Moved (into 0) (Products S G d L F)) ArgumentFollows (λ k. turned (into 0) (product_found S G infer L F k)) (argument_inferred S G infer L a) (turned_right (into 0) (Products S G d L F) (product_found S G infer L F) (products_right S G d infer right L F)) argument_follows_right

    application_right : Right Application (application S G infer L f a)
    unfolding Application application
    application_right = then_right (Moved (into 0) (Infers S G d L f)) ProductFollows (λ k. turned (into 0) (infer L f k)) (function_typed S G infer L a) (turned_right (into 0) (Infers S G d L f) (infer L f) (right L f)) product_follows_right

  -- A product.
  module _ (L : Entries) (x : Name) (A B : Named) where
    RangeFollows : (s : ℕ) → Costs Flaw Named
    RangeFollows s = Last (Moved (under 1 x) (Sorts S G d (assumed A ∷ L) B)) (λ r. by_rule s r (rule_of S s r) (λ q. comes (sort q)))

    Product : Costs Flaw Named
    Product = Then (Moved (into 0) (Sorts S G d L A)) RangeFollows

    product_out : (o : Typing) (n : ℕ) → Infers S G (suc d) L (named_pi x A B) o n → Paid Product o n
    unfolding Product RangeFollows
    product_out _ _ (product_domain_stops c) = pay (stop (stopped c))
    product_out _ _ (product_body_stops c p) = pay (next (came_to c) (last_stop (stopped p)))
    product_out _ _ (of_product c p) = pay (next (came_to c) (last (came_to p) refl))

    product_in : (o : Typing) (n : ℕ) → Paid Product o n → Infers S G (suc d) L (named_pi x A B) o n
    unfolding Product RangeFollows
    product_in _ _ (pay (stop (stopped c))) = product_domain_stops c
    product_in _ _ (pay (next (came_to c) (last_stop (stopped p)))) = product_body_stops c p
    product_in o _ (pay (next (came_to c) (last (came_to p) q))) = as_outcome (Infers S G (suc d) L (named_pi x A B)) _ o _ q (of_product c p)

    range_follows_right : (s : ℕ) → Right (RangeFollows s) (product_body S G infer L x A B s)
    unfolding RangeFollows product_body
    range_follows_right s = last_right (Moved (under 1 x) (Sorts S G d (assumed A ∷ L) B)) (λ k. turned (under 1 x) (sorted S G infer (assumed A ∷ L) B k)) (λ r. by_rule s r (rule_of S s r) (λ q. comes (sort q))) (turned_right (under 1 x) (Sorts S G d (assumed A ∷ L) B) (sorted S G infer (assumed A ∷ L) B) (sorts_right S G d infer right (assumed A ∷ L) B))

    product_right : Right Product (product S G infer L x A B)
    unfolding Product product
    product_right = then_right (Moved (into 0) (Sorts S G d L A)) RangeFollows (λ k. turned (into 0) (sorted S G infer L A k)) (product_body S G infer L x A B) (turned_right (into 0) (Sorts S G d L A) (sorted S G infer L A) (sorts_right S G d infer right L A)) range_follows_right

  -- An abstraction.
  module _ (L : Entries) (x : Name) (A b : Named) where
    SortFollows : (s : ℕ) (B : Named) → Costs Flaw Named
    SortFollows s B = Last (Moved (unsorted 1 x B) (Sorts S G d (assumed A ∷ L) B)) (λ r. by_rule s r (rule_of S s r) (λ q. made (named_pi x A B)))

    BodyFollows : (s : ℕ) → Costs Flaw Named
    BodyFollows s = Then (Moved (under 1 x) (Infers S G d (assumed A ∷ L) b)) (SortFollows s)

    Abstraction : Costs Flaw Named
    Abstraction = Then (Moved (into 0) (Sorts S G d L A)) BodyFollows

    abstraction_out : (o : Typing) (n : ℕ) → Infers S G (suc d) L (named_lam x A b) o n → Paid Abstraction o n
    unfolding Abstraction BodyFollows SortFollows
    abstraction_out _ _ (domain_stops c) = pay (stop (stopped c))
    abstraction_out _ _ (body_stops c p) = pay (next (came_to c) (stop (stopped p)))
    abstraction_out _ _ (body_type_stops c p i) = pay (next (came_to c) (next (came_to p) (last_stop (stopped i))))
    abstraction_out _ _ (of_abstraction c p i) = pay (next (came_to c) (next (came_to p) (last (came_to i) refl)))

    abstraction_in : (o : Typing) (n : ℕ) → Paid Abstraction o n → Infers S G (suc d) L (named_lam x A b) o n
    unfolding Abstraction BodyFollows SortFollows
    abstraction_in _ _ (pay (stop (stopped c))) = domain_stops c
    abstraction_in _ _ (pay (next (came_to c) (stop (stopped p)))) = body_stops c p
    abstraction_in _ _ (pay (next (came_to c) (next (came_to p) (last_stop (stopped i))))) = body_type_stops c p i
    abstraction_in o _ (pay (next (came_to c) (next (came_to p) (last (came_to i) q)))) = as_outcome (Infers S G (suc d) L (named_lam x A b)) _ o _ q (of_abstraction c p i)

    sort_follows_right : (s : ℕ) (B : Named) → Right (SortFollows s B) (body_sorted S G infer L x A s B)
    unfolding SortFollows body_sorted
    sort_follows_right s B = last_right (Moved (unsorted 1 x B) (Sorts S G d (assumed A ∷ L) B)) (λ k. turned (unsorted 1 x B) (sorted S G infer (assumed A ∷ L) B k)) (λ r. by_rule s r (rule_of S s r) (λ q. made (named_pi x A B))) (turned_right (unsorted 1 x B) (Sorts S G d (assumed A ∷ L) B) (sorted S G infer (assumed A ∷ L) B) (sorts_right S G d infer right (assumed A ∷ L) B))

    body_follows_right : (s : ℕ) → Right (BodyFollows s) (body_inferred S G infer L x A b s)
    unfolding BodyFollows body_inferred
    body_follows_right s = then_right (Moved (under 1 x) (Infers S G d (assumed A ∷ L) b)) (SortFollows s) (λ k. turned (under 1 x) (infer (assumed A ∷ L) b k)) (body_sorted S G infer L x A s) (turned_right (under 1 x) (Infers S G d (assumed A ∷ L) b) (infer (assumed A ∷ L) b) (right (assumed A ∷ L) b)) (sort_follows_right s)

    abstraction_right : Right Abstraction (abstraction S G infer L x A b)
    unfolding Abstraction abstraction
    abstraction_right = then_right (Moved (into 0) (Sorts S G d L A)) BodyFollows (λ k. turned (into 0) (sorted S G infer L A k)) (body_inferred S G infer L x A b) (turned_right (into 0) (Sorts S G d L A) (sorted S G infer L A) (sorts_right S G d infer right L A)) body_follows_right

  -- A local definition.
  module _ (L : Entries) (x : Name) (a A b : Named) where
    data TypeFollows (B : Named) : Typing → ℕ → Type 0 where
      type_is_sort : {s : ℕ} → as_sort B ≡ Some s → TypeFollows B (comes B) 0
      type_is_sorted : {o : Typing} {n : ℕ} → as_sort B ≡ None → Last (Moved (unsorted 2 x B) (Sorts S G d (defined a A ∷ L) B)) (λ s. made (named_let x a A B)) o n → TypeFollows B o n

    DefinitionBody : Unit {0} → Costs Flaw Named
    DefinitionBody u = Then (Moved (under 2 x) (Infers S G d (defined a A ∷ L) b)) TypeFollows

    DefinitionFits : (D : Named) → Costs Flaw Named
    DefinitionFits D = Then (Moved of_definition (Fits S G d L D A)) DefinitionBody

    Definition : Costs Flaw Named
    Definition = Then (Moved (into 0) (Infers S G d L a)) DefinitionFits

    plus : (m n k : ℕ) (o : Typing) → Infers S G (suc d) L (named_let x a A b) o (suc (m + (n + k))) → Infers S G (suc d) L (named_let x a A b) o (suc (m + (n + (k + 0))))
    plus m n k o c = let e : m + (n + k) ≡ m + (n + (k + 0)) = omega arith in subst (λ i. Infers S G (suc d) L (named_let x a A b) o (suc i)) e c

    minus : (m n k : ℕ) (o : Typing) → Paid Definition o (suc (m + (n + (k + 0)))) → Paid Definition o (suc (m + (n + k)))
    minus m n k o c = let e : m + (n + (k + 0)) ≡ m + (n + k) = omega arith in subst (λ i. Paid Definition o (suc i)) e c

    definition_out : (o : Typing) (n : ℕ) → Infers S G (suc d) L (named_let x a A b) o n → Paid Definition o n
    unfolding Definition DefinitionFits DefinitionBody
    definition_out _ _ (definition_stops c) = pay (stop (stopped c))
    definition_out _ _ (definition_fit_stops c f) = pay (next (came_to c) (stop (stopped f)))
    definition_out _ _ (definition_body_stops c f i) = pay (next (came_to c) (next (came_to f) (stop (stopped i))))
    definition_out o _ (of_definition_of_sort {m = m} {n = n} {k = k} c f i e) = minus m n k o (pay (next (came_to c) (next (came_to f) (next (came_to i) (type_is_sort e)))))
    definition_out _ _ (definition_body_type_stops c f i e j) = pay (next (came_to c) (next (came_to f) (next (came_to i) (type_is_sorted e (last_stop (stopped j))))))
    definition_out _ _ (of_local_definition c f i e j) = pay (next (came_to c) (next (came_to f) (next (came_to i) (type_is_sorted e (last (came_to j) refl)))))

    definition_in : (o : Typing) (n : ℕ) → Paid Definition o n → Infers S G (suc d) L (named_let x a A b) o n
    unfolding Definition DefinitionFits DefinitionBody
    definition_in _ _ (pay (stop (stopped c))) = definition_stops c
    definition_in _ _ (pay (next (came_to c) (stop (stopped f)))) = definition_fit_stops c f
    definition_in _ _ (pay (next (came_to c) (next (came_to f) (stop (stopped i))))) = definition_body_stops c f i
    definition_in o _ (pay (next {m = m} (came_to c) (next {m = n} (came_to f) (next {m = k} (came_to i) (type_is_sort e))))) = plus m n k o (of_definition_of_sort c f i e)
    definition_in _ _ (pay (next (came_to c) (next (came_to f) (next (came_to i) (type_is_sorted e (last_stop (stopped j))))))) = definition_body_type_stops c f i e j
    definition_in o _ (pay (next (came_to c) (next (came_to f) (next (came_to i) (type_is_sorted e (last (came_to j) q)))))) = as_outcome (Infers S G (suc d) L (named_let x a A b)) _ o _ q (of_local_definition c f i e j)

    type_free : (B : Named) (s : ℕ) → as_sort B ≡ Some s → (o : Typing) (n : ℕ) → TypeFollows B o n → Free (comes B) o n
    type_free B s e _ _ (type_is_sort p) = free
    type_free B s e _ _ (type_is_sorted p c) = absurd (cc (sym e ∙ p))

    free_type : (B : Named) (s : ℕ) → as_sort B ≡ Some s → (o : Typing) (n : ℕ) → Free (comes B) o n → TypeFollows B o n
    free_type B s e _ _ free = type_is_sort e

    type_last : (B : Named) → as_sort B ≡ None → (o : Typing) (n : ℕ) → TypeFollows B o n → Last (Moved (unsorted 2 x B) (Sorts S G d (defined a A ∷ L) B)) (λ s. made (named_let x a A B)) o n
    type_last B e _ _ (type_is_sort p) = absurd (cc (sym e ∙ p))
    type_last B e _ _ (type_is_sorted p c) = c

    type_follows_right : (B : Named) (y : Option ℕ) → as_sort B ≡ y → Right (TypeFollows B) (definition_type_as S G infer L x a A B y)
    unfolding definition_type_as gives
    type_follows_right B (Some s) e = same_costs (Free (comes B)) (TypeFollows B) (definition_type_as S G infer L x a A B (Some s)) (free_type B s e) (type_free B s e) (free_right (comes B))
    type_follows_right B None e = same_costs (Last (Moved (unsorted 2 x B) (Sorts S G d (defined a A ∷ L) B)) (λ s. made (named_let x a A B))) (TypeFollows B) (definition_type_as S G infer L x a A B None) (λ o n c. type_is_sorted e c) (type_last B e)
        (last_right (Moved (unsorted 2 x B) (Sorts S G d (defined a A ∷ L) B)) (λ k. turned (unsorted 2 x B) (sorted S G infer (defined a A ∷ L) B k)) (λ s. made (named_let x a A B)) (turned_right (unsorted 2 x B) (Sorts S G d (defined a A ∷ L) B) (sorted S G infer (defined a A ∷ L) B) (sorts_right S G d infer right (defined a A ∷ L) B)))

    definition_body_right : (u : Unit {0}) → Right (DefinitionBody u) (definition_body S G infer L x a A b u)
    unfolding DefinitionBody definition_body definition_type
    definition_body_right u = then_right (Moved (under 2 x) (Infers S G d (defined a A ∷ L) b)) TypeFollows (λ k. turned (under 2 x) (infer (defined a A ∷ L) b k)) (definition_type S G infer L x a A) (turned_right (under 2 x) (Infers S G d (defined a A ∷ L) b) (infer (defined a A ∷ L) b) (right (defined a A ∷ L) b)) (λ B. type_follows_right B (as_sort B) refl)

    definition_fits_right : (D : Named) → Right (DefinitionFits D) (definition_fitted S G infer L x a A b D)
    unfolding DefinitionFits definition_fitted
    definition_fits_right D = then_right (Moved of_definition (Fits S G d L D A)) DefinitionBody (λ k. turned of_definition (fitted S G infer L D A k)) (definition_body S G infer L x a A b) (turned_right of_definition (Fits S G d L D A) (fitted S G infer L D A) (fits_right S G d infer right L D A)) definition_body_right

    definition_right : Right Definition (local_definition S G infer L x a A b)
    unfolding Definition local_definition
    definition_right = then_right (Moved (into 0) (Infers S G d L a)) DefinitionFits (λ k. turned (into 0) (infer L a k)) (definition_fitted S G infer L x a A b) (turned_right (into 0) (Infers S G d L a) (infer L a) (right L a)) definition_fits_right

  -- All rows.
  pub rows_right : (L : Entries) (t : Named) → Right (Infers S G (suc d) L t) (λ b. paid b (typed_by_form S G infer L t))
  unfolding typed_by_form
  rows_right L (sort s) = same_costs (Paid (Free (by_axiom s (axiom_of S s)))) (Infers S G (suc d) L (sort s)) (λ b. paid b (typed_by_form S G infer L (sort s))) (sort_in L s) (sort_out L s) (paid_right (Free (by_axiom s (axiom_of S s))) (gives (by_axiom s (axiom_of S s))) (free_right (by_axiom s (axiom_of S s))))
  rows_right L (const c) = same_costs (Paid (Found (type_of_global (find c G)))) (Infers S G (suc d) L (const c)) (λ b. paid b (typed_by_form S G infer L (const c))) (constant_in L c) (constant_out L c) (paid_right (Found (type_of_global (find c G))) (looked_up (type_of_global (find c G))) (found_right (type_of_global (find c G))))
  rows_right L (var i) = same_costs (Paid (Found (type_at i (entry_at L i)))) (Infers S G (suc d) L (var i)) (λ b. paid b (typed_by_form S G infer L (var i))) (variable_in L i) (variable_out L i) (paid_right (Found (type_at i (entry_at L i))) (looked_up (type_at i (entry_at L i))) (found_right (type_at i (entry_at L i))))
  rows_right L (app f a) = same_costs (Paid (Application L f a)) (Infers S G (suc d) L (app f a)) (λ b. paid b (typed_by_form S G infer L (app f a))) (application_in L f a) (application_out L f a) (paid_right (Application L f a) (application S G infer L f a) (application_right L f a))
  rows_right L (named_pi x A B) = same_costs (Paid (Product L x A B)) (Infers S G (suc d) L (named_pi x A B)) (λ b. paid b (typed_by_form S G infer L (named_pi x A B))) (product_in L x A B) (product_out L x A B) (paid_right (Product L x A B) (product S G infer L x A B) (product_right L x A B))
  rows_right L (named_lam x A b) = same_costs (Paid (Abstraction L x A b)) (Infers S G (suc d) L (named_lam x A b)) (λ b'. paid b' (typed_by_form S G infer L (named_lam x A b))) (abstraction_in L x A b) (abstraction_out L x A b) (paid_right (Abstraction L x A b) (abstraction S G infer L x A b) (abstraction_right L x A b))
  rows_right L (named_let x a A b) = same_costs (Paid (Definition L x a A b)) (Infers S G (suc d) L (named_let x a A b)) (λ b'. paid b' (typed_by_form S G infer L (named_let x a A b))) (definition_in L x a A b) (definition_out L x a A b) (paid_right (Definition L x a A b) (local_definition S G infer L x a A b) (definition_right L x a A b))

-- Nesting.
deep_out : (S : Specification) (G : Globals) (L : Entries) (t : Named) (o : Typing) (n : ℕ) → Infers S G 0 L t o n → Paid (Free (stops by_limits)) o n
deep_out S G L t _ _ nested_too_deep = pay free

deep_in : (S : Specification) (G : Globals) (L : Entries) (t : Named) (o : Typing) (n : ℕ) → Paid (Free (stops by_limits)) o n → Infers S G 0 L t o n
deep_in S G L t _ _ (pay free) = nested_too_deep

pub inferred_right : (S : Specification) (G : Globals) (d : ℕ) (L : Entries) (t : Named) → Right (Infers S G d L t) (inferred S G d L t)
unfolding inferred gives
inferred_right S G zero L t = same_costs (Paid (Free (stops by_limits))) (Infers S G 0 L t) (inferred S G zero L t) (deep_in S G L t) (deep_out S G L t) (paid_right (Free (stops by_limits)) (gives (stops by_limits)) (free_right (stops by_limits)))
inferred_right S G (suc d) L t = rows_right S G d (inferred S G d) (λ M u. inferred_right S G d M u) L t
