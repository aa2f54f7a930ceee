-- What is stated comes to one outcome at most, at one cost.
use Rattle.std.proofs.Common.{◌≡◌, ℕ, ◌+◌, [], refl, sym, ap, ◌∙◌, subst, Some, None}
use mathlib.Core.Path.{ap₂}
use Rattle.pts_names.specs.Name.{Name}
use Rattle.pts_terms.specs.Tree.{Named}
use Rattle.pts_ctx.specs.System.{Specification}
use Rattle.pts_reduce_cost.specs.Costs.{Globals}
use Rattle.pts_infer_cost.specs.Typing.{Fits, Flaw, FitFlaw, Stop, moved, judged, Outcome, comes, stops, inference_nesting}
use Rattle.pts_infer_cost.proofs.Exact.{inference_once, sorts_once, fit_once}
use Rattle.pts_infer.specs.Answered.{OfTerm, term_too_large, term_inferred, OfType, type_too_large, type_sorted, OfFitted, body_too_large, wanted_too_large, body_stops, body_fitted}
use Rattle.pts_infer.specs.declared.part.Part.TheVariants.{Whole, Ty}
use Rattle.pts_declare.specs.Stated.{Stated, assumption, definition, typed_definition}
use Rattle.pts_declare.specs.Checking.{DeclareOutcome, flawed, turned, of_fit, entry, Checks, of_assumption, of_definition, of_typed_definition}

module _ (S : Specification) (G : Globals) where
  term_once : (t : Named) (o p : Outcome Flaw Named) (m n : ℕ) → OfTerm S G t o m → OfTerm S G t p n → (o ≡ p) × (m ≡ n)
  term_once t o p m n (term_too_large h) (term_too_large k) = (refl, refl)
  term_once t o p m n (term_too_large h) (term_inferred k d) = absurd (cc)
  term_once t o p m n (term_inferred k d) (term_too_large h) = absurd (cc)
  term_once t o p m n (term_inferred h d) (term_inferred k e) = inference_once S G inference_nesting [] t o p m n d e

  type_once : (A : Named) (o p : Outcome Flaw ℕ) (m n : ℕ) → OfType S G A o m → OfType S G A p n → (o ≡ p) × (m ≡ n)
  type_once A o p m n (type_too_large h) (type_too_large k) = (refl, refl)
  type_once A o p m n (type_too_large h) (type_sorted k d) = absurd (cc)
  type_once A o p m n (type_sorted k d) (type_too_large h) = absurd (cc)
  type_once A o p m n (type_sorted h d) (type_sorted k e) = sorts_once S G inference_nesting [] A o p m n d e

  same_stop : (o p : Outcome Flaw Named) (e f : Stop Flaw) → o ≡ stops e → p ≡ stops f → o ≡ p → e ≡ f
  same_stop o p e f i j h = cc

  same_value : (o p : Outcome Flaw Named) (x y : Named) → o ≡ comes x → p ≡ comes y → o ≡ p → x ≡ y
  same_value o p x y i j h = cc

  fitted_once : (t A : Named) (o p : Outcome FitFlaw (Unit {0})) (m n : ℕ) → OfFitted S G t A o m → OfFitted S G t A p n → (o ≡ p) × (m ≡ n)
  fitted_once t A o p m n (body_too_large h) (body_too_large k) = (refl, refl)
  fitted_once t A o p m n (body_too_large h) (wanted_too_large k i) = absurd (cc)
  fitted_once t A o p m n (body_too_large h) (body_stops k i d) = absurd (cc)
  fitted_once t A o p m n (body_too_large h) (body_fitted k i d e) = absurd (cc)
  fitted_once t A o p m n (wanted_too_large h i) (body_too_large k) = absurd (cc)
  fitted_once t A o p m n (wanted_too_large h i) (wanted_too_large k j) = (refl, refl)
  fitted_once t A o p m n (wanted_too_large h i) (body_stops k j d) = absurd (cc)
  fitted_once t A o p m n (wanted_too_large h i) (body_fitted k j d e) = absurd (cc)
  fitted_once t A o p m n (body_stops h i d) (body_too_large k) = absurd (cc)
  fitted_once t A o p m n (body_stops h i d) (wanted_too_large k j) = absurd (cc)
  fitted_once t A o p m n (body_stops {e = f} h i d) (body_stops {e = g} k j e) =
      let r = inference_once S G inference_nesting [] t (stops f) (stops g) m n d e in
      (ap (λ q. stops (moved judged q)) (same_stop (stops f) (stops g) f g refl refl r.0), r.1)
  fitted_once t A o p m n (body_stops {e = f} h i d) (body_fitted {T = T} {m = m2} k j c e) =
      let r = inference_once S G inference_nesting [] t (stops f) (comes T) m m2 d c in absurd (cc r.0)
  fitted_once t A o p m n (body_fitted h i c d) (body_too_large k) = absurd (cc)
  fitted_once t A o p m n (body_fitted h i c d) (wanted_too_large k j) = absurd (cc)
  fitted_once t A o p m n (body_fitted {T = T} {m = m2} h i c e) (body_stops {e = f} k j d) =
      let r = inference_once S G inference_nesting [] t (comes T) (stops f) m2 n c d in absurd (cc r.0)
  fitted_once t A o p m n (body_fitted {T = T} {m = m1} {n = n1} h i c d) (body_fitted {T = U} {m = m2} {n = n2} k j e f) =
      let r = inference_once S G inference_nesting [] t (comes T) (comes U) m1 m2 c e in
      let g = subst (λ V. Fits S G inference_nesting [] V A o n1) (same_value (comes T) (comes U) T U refl refl r.0) d in
      let q = fit_once S G inference_nesting [] U A o p n1 n2 g f in
      (q.0, ap₂ (λ a b. a + b) r.1 q.1)

  pub checks_once : (x : Name) (s : Stated) (o p : DeclareOutcome) (m n : ℕ) → Checks S G x s o m → Checks S G x s p n → (o ≡ p) × (m ≡ n)
  checks_once x (assumption A) o p m n (of_assumption u c e) (of_assumption v d f) =
      let r = type_once A u v m n c d in (e ∙ ap (turned (flawed Ty) (λ s. entry x None A)) r.0 ∙ sym f, r.1)
  checks_once x (definition t) o p m n (of_definition u c e) (of_definition v d f) =
      let r = term_once t u v m n c d in (e ∙ ap (turned (flawed Whole) (λ A. entry x (Some t) A)) r.0 ∙ sym f, r.1)
  checks_once x (typed_definition A t) o p m n (of_typed_definition u c e) (of_typed_definition v d f) =
      let r = fitted_once t A u v m n c d in (e ∙ ap (turned of_fit (λ q. entry x (Some t) A)) r.0 ∙ sym f, r.1)
