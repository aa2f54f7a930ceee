-- What a flaw shows has its free indices in the context of its place.
use Rattle.std.proofs.Common.{◌≡◌, ℕ, suc, ◌+◌, ◌∷◌, length, map, subst, arith, Bool, true, false, Option, Some, None, is_some}
use Rattle.std.specs.Prelude.{if◌then◌else◌}
use Rattle.std.proofs.lemmas.List.{length-map}
use Rattle.pts_names.specs.Name.{Name}
use Rattle.pts_terms.specs.Tree.{Named, Bare, bare, Below, sort, const, var, app, named_lam, named_pi, named_let, pi, subst as put_in}
use Rattle.pts_terms.specs.Limits.{within}
use Rattle.pts_ctx.specs.System.{Specification, axiom_of, rule_of}
use Rattle.pts_ctx.specs.Front.{bare_front, assumed, defined}
use Rattle.pts_record.specs.Said.{bare_local}
use Rattle.pts_rules.specs.Derives.{Legal}
use Rattle.pts_rules.specs.WellFormed.{and_assumed, and_defined}
use Rattle.pts_rules.proofs.Scoped.{judgement_scoped}
use Rattle.pts_reduce_cost.specs.Costs.{Globals, Entries, TestAnswer, yes_, no_, beyond}
use Rattle.pts_infer_cost.specs.Laws.{Has, Formed, KindBelow, FlawBelow, FitFlawBelow}
use Rattle.pts_infer_cost.specs.Typing.{Flaw, here, into, under, unsorted, FitFlaw, wanted, judged, of_argument, of_definition, Stop, by_flaw, by_limits, Outcome, comes, stops, moved, Typing, not_a_sort, not_product, refused, made, by_axiom, by_rule, by_form, by_verdict, SortTest, at_once, form_too_large, form_tested, Infers, nested_too_deep, of_sort, of_constant, of_variable, function_stops, function_type_stops, argument_stops, argument_fit_stops, of_application, product_domain_stops, product_body_stops, of_product, domain_stops, body_stops, body_type_stops, of_abstraction, definition_stops, definition_fit_stops, definition_body_stops, of_definition_of_sort, definition_body_type_stops, of_local_definition, Sorts, term_stops, type_tested, Fits, equal_types, wanted_stops, types_tested, Products, is_product, product_too_large, no_product, product_stops, product_reached}
use Rattle.pts_infer_cost.proofs.Derived.{inferred_types, sorts_types, fit_types, product_types_of}

-- What stops a part has its indices below n.
abbrev pub StopBelow : ℕ → Stop Flaw → Type 0
StopBelow n (by_flaw f) = FlawBelow n f
StopBelow n by_limits = Unit {0}

abbrev pub OutcomeBelow : {A : Type 0} → ℕ → Outcome Flaw A → Type 0
OutcomeBelow n (comes x) = Unit {0}
OutcomeBelow n (stops e) = StopBelow n e

abbrev pub FitStopBelow : ℕ → Stop FitFlaw → Type 0
FitStopBelow n (by_flaw f) = FitFlawBelow n f
FitStopBelow n by_limits = Unit {0}

abbrev pub FitBelow : ℕ → Outcome FitFlaw (Unit {0}) → Type 0
FitBelow n (comes x) = Unit {0}
FitBelow n (stops e) = FitStopBelow n e

-- Flaws seen from the whole.
into_below : (n i : ℕ) (e : Stop Flaw) → StopBelow n e → StopBelow n (moved (into i) e)
into_below n i (by_flaw f) h = h
into_below n i by_limits h = tt

under_below : (n i : ℕ) (x : Name) (e : Stop Flaw) → StopBelow (suc n) e → StopBelow n (moved (under i x) e)
under_below n i x (by_flaw f) h = let q : length f.names + suc n ≡ suc (length f.names) + n = omega arith in subst (λ m. KindBelow m f.kind) q h
under_below n i x by_limits h = tt

zero_more : (n : ℕ) (T : Named) → Below n T → Below (0 + n) T
zero_more n T h = let q : n ≡ 0 + n = omega arith in subst (λ m. Below m T) q h

one_more : (n : ℕ) (T : Named) → Below (suc n) T → Below (1 + n) T
one_more n T h = let q : suc n ≡ 1 + n = omega arith in subst (λ m. Below m T) q h

unsorted_below : (n i : ℕ) (x : Name) (B : Named) (e : Stop Flaw) → Below (suc n) B → StopBelow n (moved (unsorted i x B) e)
unsorted_below n i x B (by_flaw f) h = one_more n B h
unsorted_below n i x B by_limits h = tt

argument_below : (n : ℕ) (A : Named) (e : Stop FitFlaw) → Below n A → FitStopBelow n e → StopBelow n (moved (of_argument A) e)
argument_below n A (by_flaw (wanted f)) h g = zero_more n A h
argument_below n A (by_flaw (judged f)) h g = g
argument_below n A by_limits h g = tt

definition_below : (n : ℕ) (e : Stop FitFlaw) → FitStopBelow n e → StopBelow n (moved of_definition e)
definition_below n (by_flaw (wanted f)) g = g
definition_below n (by_flaw (judged f)) g = g
definition_below n by_limits g = tt

wanted_below : (n : ℕ) (e : Stop Flaw) → StopBelow n e → FitStopBelow n (moved wanted e)
wanted_below n (by_flaw f) h = h
wanted_below n by_limits h = tt

no_product_below : (n : ℕ) (F : Named) (e : Stop Flaw) → Below n F → StopBelow n (moved (λ f. here (not_product F)) e)
no_product_below n F (by_flaw f) h = zero_more n F h
no_product_below n F by_limits h = tt

-- Ends of rules.
made_below : (n : ℕ) (T : Named) (b : Bool) → OutcomeBelow n (if b then comes T else stops by_limits)
made_below n T true = tt
made_below n T false = tt

axiom_below : (n s : ℕ) (o : Option ℕ) → OutcomeBelow n (by_axiom s o)
axiom_below n s None = tt
axiom_below n s (Some r) = tt

product_below : (n s r : ℕ) (o : Option ℕ) → OutcomeBelow n (by_rule s r o (λ q. comes (sort q)))
product_below n s r None = tt
product_below n s r (Some q) = tt

abstraction_below : (n s r : ℕ) (T : Named) (o : Option ℕ) → OutcomeBelow n (by_rule s r o (λ q. made T))
abstraction_below n s r T None = tt
abstraction_below n s r T (Some q) = made_below n T (within T)

tested_below : (n s : ℕ) (T : Named) (b : Bool) → Below n T → OutcomeBelow n (if b then comes s else refused (not_a_sort T))
tested_below n s T true h = tt
tested_below n s T false h = zero_more n T h

form_below : (S : Specification) (n : ℕ) (T v : Named) → Below n T → OutcomeBelow n (by_form S T v)
form_below S n T (sort s) h = tested_below n s T (is_some (axiom_of S s)) h
form_below S n T (const c) h = zero_more n T h
form_below S n T (var i) h = zero_more n T h
form_below S n T (app f a) h = zero_more n T h
form_below S n T (named_lam x A b) h = zero_more n T h
form_below S n T (named_pi x A b) h = zero_more n T h
form_below S n T (named_let x a A b) h = zero_more n T h

verdict_below : (n : ℕ) (T W : Named) (v : TestAnswer) → Below n T → Below n W → FitBelow n (by_verdict T W v)
verdict_below n T W yes_ h g = tt
verdict_below n T W (no_ place v w) h g = (zero_more n T h, zero_more n W g)
verdict_below n T W beyond h g = tt

-- A type of a term has its indices in the context.
named_below : (n : ℕ) (t : Named) → Below n (bare t) → Below n t
named_below n (sort s) h = tt
named_below n (const c) h = tt
named_below n (var i) h = h
named_below n (app f a) h = (named_below n f h.0, named_below n a h.1)
named_below n (named_lam x A b) h = (named_below n A h.0, named_below (suc n) b h.1)
named_below n (named_pi x A b) h = (named_below n A h.0, named_below (suc n) b h.1)
named_below n (named_let x a A b) h = (named_below n a h.0, named_below n A h.1, named_below (suc n) b h.2)

module _ (S : Specification) (G : Globals) where
  in_context : (L : Entries) (t : Bare) → Below (length (map bare_local L)) t → Below (length L) t
  in_context L t h = subst (λ m. Below m t) (length-map L bare_local) h

  subject_below : (L : Entries) (t : Named) (T : Bare) → Has S G L (bare t) T → Below (length L) t
  subject_below L t T d = named_below (length L) t (in_context L (bare t) (judgement_scoped S (bare_front G) (map bare_local L) (bare t) T d).0)

  type_below : (L : Entries) (t : Bare) (T : Named) → Has S G L t (bare T) → Below (length L) T
  type_below L t T d = named_below (length L) T (in_context L (bare T) (judgement_scoped S (bare_front G) (map bare_local L) t (bare T) d).1)

  domain_below : (L : Entries) (t : Bare) (A B : Named) → Has S G L t (pi (bare A) (bare B)) → Below (length L) A
  domain_below L t A B d = named_below (length L) A (in_context L (pi (bare A) (bare B)) (judgement_scoped S (bare_front G) (map bare_local L) t (pi (bare A) (bare B)) d).1).0

  test_below : {L : Entries} {T : Named} {o : Outcome Flaw ℕ} {n : ℕ} → SortTest S G L T o n → Below (length L) T → OutcomeBelow (length L) o
  test_below (at_once e) h = tt
  test_below (form_too_large e r) h = tt
  test_below {L} (form_tested {T} {v} e r) h = form_below S (length L) T v h

  mutual
    pub inferred_below : {d : ℕ} {L : Entries} {t : Named} {o : Typing} {n : ℕ} → Infers S G d L t o n → Legal S (bare_front G) → Formed S G L → OutcomeBelow (length L) o
    inferred_below nested_too_deep l w = tt
    inferred_below (of_sort {d} {L} {s}) l w = axiom_below (length L) s (axiom_of S s)
    inferred_below (of_constant p) l w = tt
    inferred_below (of_variable p) l w = tt
    inferred_below (function_stops {d} {L} {f} {a} {e} c) l w = into_below (length L) 0 e (inferred_below c l w)
    inferred_below (function_type_stops {d} {L} {f} {a} {F} {e} c p) l w = into_below (length L) 0 e (products_below p l w (type_below L (bare f) F (inferred_types S G c l w)))
    inferred_below (argument_stops {d} {L} {f} {a} {F} {P} {e} c p i) l w = into_below (length L) 1 e (inferred_below i l w)
    inferred_below (argument_fit_stops {d} {L} {f} {a} {F} {T} {P} {e} c p i j) l w =
        argument_below (length L) P.0 e (domain_below L (bare f) P.0 P.1 (product_types_of S G p l w (bare f) (inferred_types S G c l w))) (fit_below j l w (type_below L (bare a) T (inferred_types S G i l w)))
    inferred_below (of_application {d} {L} {f} {a} {F} {T} {P} c p i j) l w = made_below (length L) (put_in 0 a P.1) (within (put_in 0 a P.1))
    inferred_below (product_domain_stops {d} {L} {x} {A} {B} {e} c) l w = into_below (length L) 0 e (sorts_below c l w)
    inferred_below (product_body_stops {d} {L} {x} {A} {B} {s} {e} c p) l w = under_below (length L) 1 x e (sorts_below p l (and_assumed w (sorts_types S G c l w)))
    inferred_below (of_product {d} {L} {x} {A} {B} {s} {r} c p) l w = product_below (length L) s r (rule_of S s r)
    inferred_below (domain_stops {d} {L} {x} {A} {b} {e} c) l w = into_below (length L) 0 e (sorts_below c l w)
    inferred_below (body_stops {d} {L} {x} {A} {b} {s} {e} c p) l w = under_below (length L) 1 x e (inferred_below p l (and_assumed w (sorts_types S G c l w)))
    inferred_below (body_type_stops {d} {L} {x} {A} {b} {B} {s} {e} c p i) l w = unsorted_below (length L) 1 x B e (type_below (assumed A ∷ L) (bare b) B (inferred_types S G p l (and_assumed w (sorts_types S G c l w))))
    inferred_below (of_abstraction {d} {L} {x} {A} {b} {B} {s} {r} c p i) l w = abstraction_below (length L) s r (named_pi x A B) (rule_of S s r)
    inferred_below (definition_stops {d} {L} {x} {a} {A} {b} {e} c) l w = into_below (length L) 0 e (inferred_below c l w)
    inferred_below (definition_fit_stops {d} {L} {x} {a} {A} {b} {D} {e} c f) l w = definition_below (length L) e (fit_below f l w (type_below L (bare a) D (inferred_types S G c l w)))
    inferred_below (definition_body_stops {d} {L} {x} {a} {A} {b} {D} {e} c f i) l w = under_below (length L) 2 x e (inferred_below i l (and_defined w (fit_types S G f l w (bare a) (inferred_types S G c l w))))
    inferred_below (of_definition_of_sort c f i e) l w = tt
    inferred_below (definition_body_type_stops {d} {L} {x} {a} {A} {b} {B} {D} {e} c f i q j) l w = unsorted_below (length L) 2 x B e (type_below (defined a A ∷ L) (bare b) B (inferred_types S G i l (and_defined w (fit_types S G f l w (bare a) (inferred_types S G c l w)))))
    inferred_below (of_local_definition {d} {L} {x} {a} {A} {b} {B} c f i e j) l w = made_below (length L) (named_let x a A B) (within (named_let x a A B))

    pub sorts_below : {d : ℕ} {L : Entries} {t : Named} {o : Outcome Flaw ℕ} {n : ℕ} → Sorts S G d L t o n → Legal S (bare_front G) → Formed S G L → OutcomeBelow (length L) o
    sorts_below (term_stops c) l w = inferred_below c l w
    sorts_below (type_tested {d} {L} {t} {T} c p) l w = test_below p (type_below L (bare t) T (inferred_types S G c l w))

    pub fit_below : {d : ℕ} {L : Entries} {T W : Named} {o : Outcome FitFlaw (Unit {0})} {n : ℕ} → Fits S G d L T W o n → Legal S (bare_front G) → Formed S G L → Below (length L) T → FitBelow (length L) o
    fit_below (equal_types e) l w h = tt
    fit_below (wanted_stops {d} {L} {T} {W} {e} q c) l w h = wanted_below (length L) e (sorts_below c l w)
    fit_below (types_tested {d} {L} {T} {W} {v} {s} e c p) l w h = verdict_below (length L) T W v h (subject_below L W (sort s) (sorts_types S G c l w))

    pub products_below : {d : ℕ} {L : Entries} {F : Named} {o : Outcome Flaw (Named × Named)} {n : ℕ} → Products S G d L F o n → Legal S (bare_front G) → Formed S G L → Below (length L) F → OutcomeBelow (length L) o
    products_below (is_product e) l w h = tt
    products_below (product_too_large e r) l w h = tt
    products_below (no_product {d} {L} {F} e r p) l w h = zero_more (length L) F h
    products_below (product_stops {d} {L} {F} {v} {P} {e} q r p c) l w h = no_product_below (length L) F e h
    products_below (product_reached e r p c) l w h = tt

pub flaw_scoped : (S : Specification) (G : Globals) (d : ℕ) (L : Entries) (t : Named) (f : Flaw) (n : ℕ) → Infers S G d L t (stops (by_flaw f)) n → Legal S (bare_front G) → Formed S G L → FlawBelow (length L) f
flaw_scoped S G d L t f n c l w = inferred_below S G c l w

pub sorts_scoped : (S : Specification) (G : Globals) (d : ℕ) (L : Entries) (t : Named) (f : Flaw) (n : ℕ) → Sorts S G d L t (stops (by_flaw f)) n → Legal S (bare_front G) → Formed S G L → FlawBelow (length L) f
sorts_scoped S G d L t f n c l w = sorts_below S G c l w

pub sort_test_scoped : (S : Specification) (G : Globals) (L : Entries) (t T : Named) (f : Flaw) (n : ℕ) → SortTest S G L T (stops (by_flaw f)) n → Has S G L (bare t) (bare T) → FlawBelow (length L) f
sort_test_scoped S G L t T f n c d = test_below S G c (type_below S G L (bare t) T d)

pub fit_scoped : (S : Specification) (G : Globals) (d : ℕ) (L : Entries) (t T W : Named) (f : FitFlaw) (n : ℕ) → Fits S G d L T W (stops (by_flaw f)) n → Legal S (bare_front G) → Formed S G L → Has S G L (bare t) (bare T) → FitFlawBelow (length L) f
fit_scoped S G d L t T W f n c l w h = fit_below S G c l w (type_below S G L (bare t) T h)
