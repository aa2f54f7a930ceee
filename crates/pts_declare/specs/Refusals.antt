-- What is answered where what is stated is refused.
use Rattle.std.specs.Prelude.{◌≡◌, ℕ}
use Rattle.pts_names.specs.Name.{Name}
use Rattle.pts_terms.specs.Tree.{Named}
use Rattle.pts_ctx.specs.System.{Specification}
use Rattle.pts_reduce_cost.specs.Costs.{Globals}
use Rattle.pts_reduce_cost.specs.Laws.{WithinBudget, AboveBudget}
use Rattle.pts_infer_cost.specs.Typing.{by_flaw, by_limits, stops}
use Rattle.pts_infer.specs.Answered.{flaw_seen}
use Rattle.pts_infer.specs.declared.answer.InferFault.{InferFault}
use Rattle.pts_infer.specs.declared.answer.InferFault.TheVariants as infer
use Rattle.pts_infer.specs.declared.answer.FitFault.{FitFault}
use Rattle.pts_infer.specs.declared.answer.FitFault.TheVariants as fit
use Rattle.pts_infer.specs.declared.part.Part.{Part}
use Rattle.pts_infer.specs.declared.part.Part.TheVariants.{Whole, Ty}
use Rattle.pts_declare.specs.declared.fault.DeclareFault.{DeclareFault}
use Rattle.pts_declare.specs.declared.fault.DeclareFault.TheVariants.{Infer, Memory}
use Rattle.pts_declare.specs.Stated.{Stated, typed_definition, spent_part, deep_part}
use Rattle.pts_declare.specs.Checking.{flawed, Checks}

-- What is stated as x over the front G, with b units before and k after it: its outcome is the flaw of the part, or something
-- beyond the limits; or each outcome costs more than b, and nothing is left. Out of memory is free, and never the fault of a
-- part.
abbrev pub NotDeclared : Specification → Globals → Name → Stated → DeclareFault → ℕ → ℕ → Type 0
NotDeclared S G x s (Infer part (infer.Flaw f)) b k = WithinBudget (Checks S G x s) b (stops (by_flaw (flawed part (flaw_seen f)))) k
NotDeclared S G x s (Infer part infer.Spent) b k = AboveBudget (Checks S G x s) b × (k ≡ 0) × (part ≡ spent_part s)
NotDeclared S G x s (Infer part infer.Deep) b k = WithinBudget (Checks S G x s) b (stops by_limits) k × (part ≡ deep_part s)
NotDeclared S G x s (Infer part infer.Memory) b k = ⊥
NotDeclared S G x s Memory b k = Unit {0}

-- The fault of the inference of a part.
abbrev pub infer_fault : Part → InferFault → DeclareFault
infer_fault part infer.Memory = Memory
infer_fault part e = Infer part e

-- The fault of the fit of a body to its type A, in its part.
abbrev pub fit_fault : (A t : Named) → FitFault → DeclareFault
fit_fault A t (fit.Wanted f) = Infer Ty (infer.Flaw f)
fit_fault A t (fit.Judged f) = Infer Whole (infer.Flaw f)
fit_fault A t fit.Spent = Infer Whole infer.Spent
fit_fault A t fit.Deep = Infer (deep_part (typed_definition A t)) infer.Deep
fit_fault A t fit.Memory = Memory
