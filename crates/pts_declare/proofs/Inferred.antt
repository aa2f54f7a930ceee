-- What inference comes to, of what is stated.
use Rattle.std.proofs.Common.{◌≡◌, ℕ, [], refl, ap, Some, None}
use Rattle.pts_names.specs.Name.{Name}
use Rattle.pts_terms.specs.Tree.{Named}
use Rattle.pts_ctx.specs.System.{Specification}
use Rattle.pts_ctx.specs.Front.{Global}
use Rattle.pts_reduce_cost.specs.Costs.{Globals}
use Rattle.pts_reduce_cost.specs.Laws.{WithinBudget, AboveBudget}
use Rattle.pts_infer_cost.specs.Typing.{wanted, judged, by_flaw, by_limits, comes, stops}
use Rattle.pts_infer.specs.declared.answer.InferFault.{InferFault}
use Rattle.pts_infer.specs.declared.answer.InferFault.TheVariants as infer
use Rattle.pts_infer.specs.declared.answer.FitFault.{FitFault}
use Rattle.pts_infer.specs.declared.answer.FitFault.TheVariants as fit
use Rattle.pts_infer.specs.Answered.{Refused, Unfit, OfTerm, OfType, OfFitted}
use Rattle.pts_infer.specs.declared.part.Part.TheVariants.{Whole, Ty}
use Rattle.pts_declare.specs.Stated.{assumption, definition, typed_definition}
use Rattle.pts_declare.specs.Checking.{flawed, entry, Checks, of_assumption, of_definition, of_typed_definition}
use Rattle.pts_declare.specs.Refusals.{NotDeclared, infer_fault, fit_fault}

module _ (S : Specification) (G : Globals) (x : Name) where
  pub type_within : (A : Named) (e : Global Name) (s b k : ℕ) → e ≡ entry x None A → WithinBudget (OfType S G A) b (comes s) k → WithinBudget (Checks S G x (assumption A)) b (comes e) k
  type_within A e s b k q (n, c, p) = (n, of_assumption (comes s) c (ap comes q), p)

  pub body_within : (t A : Named) (e : Global Name) (b k : ℕ) → e ≡ entry x (Some t) A → WithinBudget (OfTerm S G t) b (comes A) k → WithinBudget (Checks S G x (definition t)) b (comes e) k
  body_within t A e b k q (n, c, p) = (n, of_definition (comes A) c (ap comes q), p)

  pub fit_within : (A t : Named) (e : Global Name) (b k : ℕ) → e ≡ entry x (Some t) A → WithinBudget (OfFitted S G t A) b (comes tt) k → WithinBudget (Checks S G x (typed_definition A t)) b (comes e) k
  fit_within A t e b k q (n, c, p) = (n, of_typed_definition (comes tt) c (ap comes q), p)

  above_type : (A : Named) (b : ℕ) → AboveBudget (OfType S G A) b → AboveBudget (Checks S G x (assumption A)) b
  above_type A b a p n (of_assumption o c q) = a o n c

  above_body : (t : Named) (b : ℕ) → AboveBudget (OfTerm S G t) b → AboveBudget (Checks S G x (definition t)) b
  above_body t b a p n (of_definition o c q) = a o n c

  above_fit : (A t : Named) (b : ℕ) → AboveBudget (OfFitted S G t A) b → AboveBudget (Checks S G x (typed_definition A t)) b
  above_fit A t b a p n (of_typed_definition o c q) = a o n c

  pub type_refused : (A : Named) (f : InferFault) (b k : ℕ) → Refused [] (OfType S G A) f b k → NotDeclared S G x (assumption A) (infer_fault Ty f) b k
  type_refused A (infer.Flaw f) b k (g, q, (n, c, e)) = (n, of_assumption (stops (by_flaw g)) c (ap (λ h. stops (by_flaw (flawed Ty h))) q), e)
  type_refused A infer.Spent b k (a, z) = (above_type A b a, z, refl)
  type_refused A infer.Deep b k (n, c, e) = ((n, of_assumption (stops by_limits) c refl, e), refl)
  type_refused A infer.Memory b k h = tt

  pub body_refused : (t : Named) (f : InferFault) (b k : ℕ) → Refused [] (OfTerm S G t) f b k → NotDeclared S G x (definition t) (infer_fault Whole f) b k
  body_refused t (infer.Flaw f) b k (g, q, (n, c, e)) = (n, of_definition (stops (by_flaw g)) c (ap (λ h. stops (by_flaw (flawed Whole h))) q), e)
  body_refused t infer.Spent b k (a, z) = (above_body t b a, z, refl)
  body_refused t infer.Deep b k (n, c, e) = ((n, of_definition (stops by_limits) c refl, e), refl)
  body_refused t infer.Memory b k h = tt

  pub fit_refused : (A t : Named) (f : FitFault) (b k : ℕ) → Unfit [] (OfFitted S G t A) f b k → NotDeclared S G x (typed_definition A t) (fit_fault A t f) b k
  fit_refused A t (fit.Wanted f) b k (g, q, (n, c, e)) = (n, of_typed_definition (stops (by_flaw (wanted g))) c (ap (λ h. stops (by_flaw (flawed Ty h))) q), e)
  fit_refused A t (fit.Judged f) b k (g, q, (n, c, e)) = (n, of_typed_definition (stops (by_flaw (judged g))) c (ap (λ h. stops (by_flaw (flawed Whole h))) q), e)
  fit_refused A t fit.Spent b k (a, z) = (above_fit A t b a, z, refl)
  fit_refused A t fit.Deep b k (n, c, e) = ((n, of_typed_definition (stops by_limits) c refl, e), refl)
  fit_refused A t fit.Memory b k h = tt
