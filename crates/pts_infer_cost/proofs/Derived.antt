-- What is inferred is derivable: over a legal front, in a well-formed context, and without printed names.
use Rattle.std.proofs.Common.{◌≡◌, ℕ, zero, suc, [], ◌∷◌, map, refl, sym, ap, ◌∙◌, subst, Bool, true, false, Option, Some, None, is_some}
use Rattle.std.specs.Prelude.{if◌then◌else◌}
use Rattle.std.specs.Option.{option_map}
use Rattle.pts_names.specs.Name.{Name}
use Rattle.pts_terms.specs.Tree.{Named, Bare, bare, sort, const, var, app, named_lam, named_pi, named_let, pi, lift, subst as put_in}
use Rattle.pts_terms.specs.Limits.{within}
use Rattle.pts_terms.proofs.Same.{same_term_eq}
use Rattle.pts_terms.proofs.Unnamed.{bare_lift, bare_put}
use Rattle.pts_ctx.specs.System.{Specification, axiom_of, rule_of}
use Rattle.pts_ctx.specs.Front.{bare_global, bare_front, Local, assumed, defined, unknown, entry_at}
use Rattle.pts_record.specs.Said.{bare_local}
use Rattle.pts_rules.specs.Step.{Convertible}
use Rattle.pts_rules.specs.Derives.{Derives, product, application, abstraction, formation, introduction, conversion, Legal}
use Rattle.pts_rules.specs.WellFormed.{and_assumed, and_defined}
use Rattle.pts_rules.proofs.HeadBare.{find_bare}
use Rattle.pts_rules.proofs.Weakening.{sort_derives, const_derives, assumed_derives, defined_derives}
use Rattle.pts_reduce_cost.specs.Costs.{Globals, Entries, TestAnswer, yes_, no_, beyond, Tests, nesting}
use Rattle.pts_reduce_cost.proofs.Converts.{form_joined, yes_joined}
use Rattle.pts_infer_cost.specs.Laws.{Has, Formed}
use Rattle.pts_infer_cost.specs.Typing.{Flaw, FitFlaw, by_limits, Outcome, comes, stops, Typing, not_a_sort, refused, as_sort, as_product, type_at, made, by_axiom, by_rule, by_form, by_verdict, SortTest, at_once, form_too_large, form_tested, Infers, nested_too_deep, of_sort, of_constant, of_variable, function_stops, function_type_stops, argument_stops, argument_fit_stops, of_application, product_domain_stops, product_body_stops, of_product, domain_stops, body_stops, body_type_stops, of_abstraction, definition_stops, definition_fit_stops, definition_body_stops, of_definition_of_sort, definition_body_type_stops, of_local_definition, Sorts, term_stops, type_tested, Fits, equal_types, wanted_stops, types_tested, Products, is_product, product_too_large, no_product, product_stops, product_reached}

-- What an outcome says, where it is no flaw.
abbrev TypesTo : Specification → Globals → Entries → Bare → Typing → Type 0
TypesTo S G L t (comes T) = Has S G L t (bare T)
TypesTo S G L t (stops e) = Unit {0}

abbrev SortsTo : Specification → Globals → Entries → Bare → Outcome Flaw ℕ → Type 0
SortsTo S G L t (comes s) = Has S G L t (sort s)
SortsTo S G L t (stops e) = Unit {0}

abbrev FitsTo : Specification → Globals → Entries → Named → Named → Outcome FitFlaw (Unit {0}) → Type 0
FitsTo S G L T W (comes x) = (t : Bare) → Has S G L t (bare T) → Has S G L t (bare W)
FitsTo S G L T W (stops e) = Unit {0}

abbrev ProductsTo : Specification → Globals → Entries → Named → Outcome Flaw (Named × Named) → Type 0
ProductsTo S G L F (comes P) = (t : Bare) → Has S G L t (bare F) → Has S G L t (pi (bare P.0) (bare P.1))
ProductsTo S G L F (stops e) = Unit {0}

-- A term that is a sort or a product.
sort_is : (T : Named) (s : ℕ) → as_sort T ≡ Some s → bare T ≡ sort s
sort_is (sort r) s e = let q : r ≡ s = cc e in ap sort q
sort_is (const c) s e = absurd (cc e)
sort_is (var i) s e = absurd (cc e)
sort_is (app f a) s e = absurd (cc e)
sort_is (named_lam x A b) s e = absurd (cc e)
sort_is (named_pi x A b) s e = absurd (cc e)
sort_is (named_let x a A b) s e = absurd (cc e)

product_is : (T : Named) (P : Named × Named) → as_product T ≡ Some P → bare T ≡ pi (bare P.0) (bare P.1)
product_is (named_pi x A B) P e = let q : (A, B) ≡ P = cc e in ap (λ p. pi (bare p.0) (bare p.1)) q
product_is (sort r) P e = absurd (cc e)
product_is (const c) P e = absurd (cc e)
product_is (var i) P e = absurd (cc e)
product_is (app f a) P e = absurd (cc e)
product_is (named_lam x A b) P e = absurd (cc e)
product_is (named_let x a A b) P e = absurd (cc e)

-- An entry and its type, without printed names.
entry_bare : (L : Entries) (i : ℕ) → entry_at (map bare_local L) i ≡ option_map bare_local (entry_at L i)
entry_bare [] i = refl
entry_bare (e ∷ L) zero = refl
entry_bare (e ∷ L) (suc i) = entry_bare L i

module _ (S : Specification) (G : Globals) where
  of_type : (L : Entries) (t T U : Bare) → T ≡ U → Has S G L t T → Has S G L t U
  of_type L t T U e d = subst (λ x. Has S G L t x) e d

  -- The type of a variable.
  variable_at : (L : Entries) (i : ℕ) (A : Named) → Formed S G L → (o : Option (Local Name)) → entry_at L i ≡ o → type_at i o ≡ Some A → Has S G L (var i) (bare A)
  variable_at L i A w None p e = absurd (cc e)
  variable_at L i A w (Some (assumed B)) p e = let q : lift 0 (suc i) B ≡ A = cc e in of_type L (var i) _ _ (sym (bare_lift 0 (suc i) B) ∙ ap bare q) (assumed_derives i (bare B) w (entry_bare L i ∙ ap (option_map bare_local) p))
  variable_at L i A w (Some (defined a B)) p e = let q : lift 0 (suc i) B ≡ A = cc e in of_type L (var i) _ _ (sym (bare_lift 0 (suc i) B) ∙ ap bare q) (defined_derives i (bare a) (bare B) w (entry_bare L i ∙ ap (option_map bare_local) p))
  variable_at L i A w (Some unknown) p e = absurd (cc e)

  -- A type that is made, an axiom, and a rule.
  made_types : (L : Entries) (t : Bare) (T : Named) (b : Bool) → Has S G L t (bare T) → TypesTo S G L t (if b then comes T else stops by_limits)
  made_types L t T true d = d
  made_types L t T false d = tt

  axiom_types : (L : Entries) (s : ℕ) (o : Option ℕ) → axiom_of S s ≡ o → Legal S (bare_front G) → Formed S G L → TypesTo S G L (sort s) (by_axiom s o)
  axiom_types L s None e l w = tt
  axiom_types L s (Some r) e l w = sort_derives l w e

  product_types : (L : Entries) (A B : Bare) (s r : ℕ) (o : Option ℕ) → rule_of S s r ≡ o → Has S G L A (sort s) → Derives S (bare_front G) (assumed A ∷ map bare_local L) B (sort r) → TypesTo S G L (pi A B) (by_rule s r o (λ q. comes (sort q)))
  product_types L A B s r None e c d = tt
  product_types L A B s r (Some q) e c d = product c d e

  abstraction_types : (L : Entries) (x : Name) (A b B : Named) (s r : ℕ) (o : Option ℕ) → rule_of S s r ≡ o → Has S G L (bare A) (sort s) → Has S G (assumed A ∷ L) (bare b) (bare B) → Has S G (assumed A ∷ L) (bare B) (sort r) → TypesTo S G L (bare (named_lam x A b)) (by_rule s r o (λ q. made (named_pi x A B)))
  abstraction_types L x A b B s r None e c d f = tt
  abstraction_types L x A b B s r (Some q) e c d f = made_types L (bare (named_lam x A b)) (named_pi x A B) (within (named_pi x A B)) (abstraction d (product c f e))

  -- The sort test.
  axiom_sorts : (L : Entries) (T : Named) (s : ℕ) (o : Option ℕ) → axiom_of S s ≡ o → Legal S (bare_front G) → Formed S G L → (t : Bare) → Has S G L t (bare T) → Convertible (bare_front G) (map bare_local L) (bare T) (sort s) → SortsTo S G L t (if is_some o then comes s else refused (not_a_sort T))
  axiom_sorts L T s None e l w t d c = tt
  axiom_sorts L T s (Some r) e l w t d c = conversion d (sort_derives l w e) c

  form_sorts : (L : Entries) (T v : Named) → Legal S (bare_front G) → Formed S G L → (t : Bare) → Has S G L t (bare T) → Convertible (bare_front G) (map bare_local L) (bare T) (bare v) → SortsTo S G L t (by_form S T v)
  form_sorts L T (sort s) l w t d c = axiom_sorts L T s (axiom_of S s) refl l w t d c
  form_sorts L T (const x) l w t d c = tt
  form_sorts L T (var i) l w t d c = tt
  form_sorts L T (app f a) l w t d c = tt
  form_sorts L T (named_lam x A b) l w t d c = tt
  form_sorts L T (named_pi x A b) l w t d c = tt
  form_sorts L T (named_let x a A b) l w t d c = tt

  test_sorts : {L : Entries} {T : Named} {o : Outcome Flaw ℕ} {n : ℕ} → SortTest S G L T o n → Legal S (bare_front G) → Formed S G L → (t : Bare) → Has S G L t (bare T) → SortsTo S G L t o
  test_sorts {L} (at_once {T} {s} e) l w t d = of_type L t (bare T) (sort s) (sort_is T s e) d
  test_sorts (form_too_large e r) l w t d = tt
  test_sorts {L} (form_tested {T} {v} {n} e r) l w t d = form_sorts L T v l w t d (form_joined G L T v n r)

  -- The test of the types of a fit.
  verdict_fits : (L : Entries) (T W : Named) (v : TestAnswer) (s n : ℕ) → Tests G nesting L T W v n → Has S G L (bare W) (sort s) → FitsTo S G L T W (by_verdict T W v)
  verdict_fits L T W yes_ s n c d = λ t h. conversion h d (yes_joined G nesting L T W n c)
  verdict_fits L T W (no_ place v w) s n c d = tt
  verdict_fits L T W beyond s n c d = tt

  mutual
    pub inferred_types : {d : ℕ} {L : Entries} {t : Named} {o : Typing} {n : ℕ} → Infers S G d L t o n → Legal S (bare_front G) → Formed S G L → TypesTo S G L (bare t) o
    inferred_types nested_too_deep l w = tt
    inferred_types (of_sort {d} {L} {s}) l w = axiom_types L s (axiom_of S s) refl l w
    inferred_types (of_constant {d} {L} {c} {e} p) l w = const_derives c (bare_global e) l w (find_bare c G ∙ ap (option_map bare_global) p)
    inferred_types (of_variable {d} {L} {i} {A} p) l w = variable_at L i A w (entry_at L i) refl p
    inferred_types (function_stops c) l w = tt
    inferred_types (function_type_stops c p) l w = tt
    inferred_types (argument_stops c p i) l w = tt
    inferred_types (argument_fit_stops c p i j) l w = tt
    inferred_types (of_application {d} {L} {f} {a} {F} {T} {P} c p i j) l w =
        let g = product_types_of p l w (bare f) (inferred_types c l w) in
        let b = fit_types j l w (bare a) (inferred_types i l w) in
        made_types L (bare (app f a)) (put_in 0 a P.1) (within (put_in 0 a P.1)) (of_type L (bare (app f a)) _ _ (sym (bare_put 0 0 a P.1)) (application g b))
    inferred_types (product_domain_stops c) l w = tt
    inferred_types (product_body_stops c p) l w = tt
    inferred_types (of_product {d} {L} {x} {A} {B} {s} {r} c p) l w =
        let h = sorts_types c l w in
        product_types L (bare A) (bare B) s r (rule_of S s r) refl h (sorts_types p l (and_assumed w h))
    inferred_types (domain_stops c) l w = tt
    inferred_types (body_stops c p) l w = tt
    inferred_types (body_type_stops c p i) l w = tt
    inferred_types (of_abstraction {d} {L} {x} {A} {b} {B} {s} {r} c p i) l w =
        let h = sorts_types c l w in
        abstraction_types L x A b B s r (rule_of S s r) refl h (inferred_types p l (and_assumed w h)) (sorts_types i l (and_assumed w h))
    inferred_types (definition_stops c) l w = tt
    inferred_types (definition_fit_stops c f) l w = tt
    inferred_types (definition_body_stops c f i) l w = tt
    inferred_types (of_definition_of_sort {d} {L} {x} {a} {A} {b} {B} {D} {s} c f i e) l w =
        let h = fit_types f l w (bare a) (inferred_types c l w) in
        let u = inferred_types i l (and_defined w h) in
        of_type L (bare (named_let x a A b)) (sort s) (bare B) (sym (sort_is B s e)) (formation (of_type (defined a A ∷ L) (bare b) (bare B) (sort s) (sort_is B s e) u))
    inferred_types (definition_body_type_stops c f i e j) l w = tt
    inferred_types (of_local_definition {d} {L} {x} {a} {A} {b} {B} c f i e j) l w =
        let h = fit_types f l w (bare a) (inferred_types c l w) in
        let u = inferred_types i l (and_defined w h) in
        let v = sorts_types j l (and_defined w h) in
        made_types L (bare (named_let x a A b)) (named_let x a A B) (within (named_let x a A B)) (introduction u (formation v))

    pub sorts_types : {d : ℕ} {L : Entries} {t : Named} {o : Outcome Flaw ℕ} {n : ℕ} → Sorts S G d L t o n → Legal S (bare_front G) → Formed S G L → SortsTo S G L (bare t) o
    sorts_types (term_stops c) l w = tt
    sorts_types (type_tested {t = t} c p) l w = test_sorts p l w (bare t) (inferred_types c l w)

    pub fit_types : {d : ℕ} {L : Entries} {T W : Named} {o : Outcome FitFlaw (Unit {0})} {n : ℕ} → Fits S G d L T W o n → Legal S (bare_front G) → Formed S G L → FitsTo S G L T W o
    fit_types (equal_types {d} {L} {T} {W} e) l w = λ t h. of_type L t (bare T) (bare W) (same_term_eq (bare T) (bare W) e) h
    fit_types (wanted_stops e c) l w = tt
    fit_types (types_tested {d} {L} {T} {W} {v} {s} {m} {n} e c p) l w = verdict_fits L T W v s n p (sorts_types c l w)

    pub product_types_of : {d : ℕ} {L : Entries} {F : Named} {o : Outcome Flaw (Named × Named)} {n : ℕ} → Products S G d L F o n → Legal S (bare_front G) → Formed S G L → ProductsTo S G L F o
    product_types_of (is_product {d} {L} {F} {P} e) l w = λ t h. of_type L t (bare F) (pi (bare P.0) (bare P.1)) (product_is F P e) h
    product_types_of (product_too_large e r) l w = tt
    product_types_of (no_product e r p) l w = tt
    product_types_of (product_stops e r p c) l w = tt
    product_types_of (product_reached {d} {L} {F} {v} {P} {s} {m} {n} e r p c) l w = λ t h. of_type L t (bare v) (pi (bare P.0) (bare P.1)) (product_is v P p) (conversion h (sorts_types c l w) (form_joined G L F v m r))

-- The same, of a type, a sort, the test of a type, and a fit.
pub type_derived : (S : Specification) (G : Globals) (d : ℕ) (L : Entries) (t T : Named) (n : ℕ) → Infers S G d L t (comes T) n → Legal S (bare_front G) → Formed S G L → Has S G L (bare t) (bare T)
type_derived S G d L t T n c l w = inferred_types S G c l w

pub sort_derived : (S : Specification) (G : Globals) (d : ℕ) (L : Entries) (t : Named) (s n : ℕ) → Sorts S G d L t (comes s) n → Legal S (bare_front G) → Formed S G L → Has S G L (bare t) (sort s)
sort_derived S G d L t s n c l w = sorts_types S G c l w

pub sort_test_derived : (S : Specification) (G : Globals) (L : Entries) (t T : Named) (s n : ℕ) → SortTest S G L T (comes s) n → Legal S (bare_front G) → Formed S G L → Has S G L (bare t) (bare T) → Has S G L (bare t) (sort s)
sort_test_derived S G L t T s n c l w d = test_sorts S G c l w (bare t) d

pub fit_derived : (S : Specification) (G : Globals) (d : ℕ) (L : Entries) (t T W : Named) (n : ℕ) → Fits S G d L T W (comes tt) n → Legal S (bare_front G) → Formed S G L → Has S G L (bare t) (bare T) → Has S G L (bare t) (bare W)
fit_derived S G d L t T W n c l w h = fit_types S G c l w (bare t) h
