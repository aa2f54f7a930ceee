-- What is stated of a name comes to over a front, and what that costs.
use Rattle.std.specs.Prelude.{◌≡◌, ℕ, Option, Some, None}
use Rattle.pts_names.specs.Name.{Name}
use Rattle.pts_terms.specs.Tree.{Named}
use Rattle.pts_ctx.specs.System.{Specification}
use Rattle.pts_ctx.specs.Front.{Global}
use Rattle.pts_reduce_cost.specs.Costs.{Globals}
use Rattle.pts_infer_cost.specs.Typing.{Flaw, FitFlaw, wanted, judged, moved, Outcome, comes, stops}
use Rattle.pts_infer.specs.Answered.{OfTerm, OfType, OfFitted}
use Rattle.pts_infer.specs.declared.part.Part.{Part}
use Rattle.pts_infer.specs.declared.part.Part.TheVariants.{Whole, Ty}
use Rattle.pts_declare.specs.Stated.{Stated, assumption, definition, typed_definition}

-- A flaw, with the part of what is stated that has it.
pub data PartFlaw : Type 0 where
  flawed : Part → Flaw → PartFlaw

-- What is stated comes to an entry, or is stopped by a flaw of a part or by the limits.
abbrev pub DeclareOutcome : Type 0
DeclareOutcome = Outcome PartFlaw (Global Name)

abbrev pub turned : {E F A B : Type 0} → (E → F) → (A → B) → Outcome E A → Outcome F B
turned f g (comes x) = comes (g x)
turned f g (stops e) = stops (moved f e)

-- The flaw of a fit is one of the type or of the body.
abbrev pub of_fit : FitFlaw → PartFlaw
of_fit (wanted f) = flawed Ty f
of_fit (judged f) = flawed Whole f

abbrev pub entry : Name → Option Named → Named → Global Name
entry x a A = record { name = x; body = a; type = A }

-- Checks S G x s o n: in the system S and over the front G, what is stated as x comes to o and costs n.
pub data Checks (S : Specification) (G : Globals) (x : Name) : Stated → DeclareOutcome → ℕ → Type 0 where
  of_assumption : {A : Named} {p : DeclareOutcome} {n : ℕ} (o : Outcome Flaw ℕ) → OfType S G A o n → p ≡ turned (flawed Ty) (λ s. entry x None A) o → Checks S G x (assumption A) p n
  of_definition : {t : Named} {p : DeclareOutcome} {n : ℕ} (o : Outcome Flaw Named) → OfTerm S G t o n → p ≡ turned (flawed Whole) (λ A. entry x (Some t) A) o → Checks S G x (definition t) p n
  of_typed_definition : {A t : Named} {p : DeclareOutcome} {n : ℕ} (o : Outcome FitFlaw (Unit {0})) → OfFitted S G t A o n → p ≡ turned of_fit (λ q. entry x (Some t) A) o → Checks S G x (typed_definition A t) p n
