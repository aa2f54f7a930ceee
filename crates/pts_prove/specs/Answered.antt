-- What the calls answer, against what a command comes to.
use Rattle.std.specs.Prelude.{◌≡◌, ℕ, List, Option, Some, None, Result, Ok, Err}
use Rattle.pts_names.specs.Name.{Name}
use Rattle.pts_terms.specs.Seen.{named}
use Rattle.pts_reduce_cost.specs.Laws.{WithinBudget, AboveBudget}
use Rattle.pts_infer_cost.specs.Typing.{Flaw, by_flaw, by_limits, Outcome, comes, stops}
use Rattle.pts_grow.specs.declared.fault.TermFault.{TermFault}
use Rattle.pts_grow.specs.declared.fault.TermFault.TheVariants as made
use Rattle.pts_reduce.specs.declared.fault.ReduceFault.{ReduceFault}
use Rattle.pts_reduce.specs.declared.fault.ReduceFault.TheVariants as reduce
use Rattle.pts_infer.specs.Answered.{flaw_seen, behind}
use Rattle.pts_infer.specs.declared.answer.InferFault.{InferFault}
use Rattle.pts_infer.specs.declared.answer.InferFault.TheVariants as infer
use Rattle.pts_infer.specs.declared.answer.FitFault.{FitFault}
use Rattle.pts_infer.specs.declared.answer.FitFault.TheVariants as fit
use Rattle.pts_infer.specs.declared.part.Part.{Part as AnswerPart}
use Rattle.pts_infer.specs.declared.part.Part.TheVariants.{Whole, Ty, Goal}
use Rattle.pts_prove_cost.specs.Commands.{Part, of_term, of_type, of_goal, Refusal, no_goal, taken, not_product, no_match, undetermined, not_there, no_body, flawed}
use Rattle.pts_prove.specs.declared.fault.ProveFault.{ProveFault}
use Rattle.pts_prove.specs.declared.fault.ProveFault.TheVariants as fault

-- The part that an answer names.
abbrev pub part_seen : AnswerPart → Part
part_seen Whole = of_term
part_seen Ty = of_type
part_seen Goal = of_goal

-- Why there was no answer, with b units before and k after it: the command comes to that refusal, of which a flaw has these
-- names before its own, or to something beyond the limits; or each outcome costs more than b, and the meter stands at its
-- limit. Running out of memory is free.
abbrev pub Refuses : {A : Type 0} → List Name → (Outcome Refusal A → ℕ → Type 0) → ProveFault → ℕ → ℕ → Type 0
Refuses xs costs fault.NoGoal b k = WithinBudget costs b (stops (by_flaw no_goal)) k
Refuses xs costs (fault.Taken x n) b k = WithinBudget costs b (stops (by_flaw (taken x n))) k
Refuses xs costs (fault.NotProduct t) b k = WithinBudget costs b (stops (by_flaw (not_product (named t)))) k
Refuses xs costs (fault.NoMatch n) b k = WithinBudget costs b (stops (by_flaw (no_match n))) k
Refuses xs costs (fault.Undetermined i) b k = WithinBudget costs b (stops (by_flaw (undetermined i))) k
Refuses xs costs (fault.NotThere c) b k = WithinBudget costs b (stops (by_flaw (not_there c))) k
Refuses xs costs (fault.NoBody c) b k = WithinBudget costs b (stops (by_flaw (no_body c))) k
Refuses xs costs (fault.Flaw p f) b k = (g : Flaw) × (flaw_seen f ≡ behind xs g) × WithinBudget costs b (stops (by_flaw (flawed (part_seen p) g))) k
Refuses xs costs fault.Spent b k = AboveBudget costs b × (k ≡ 0)
Refuses xs costs fault.Deep b k = WithinBudget costs b (stops by_limits) k
Refuses xs costs fault.Memory b k = Unit {0}

-- The answer is that refusal, of which a flaw has these names before its own. Memory may have run out.
abbrev pub Tells : List Name → Refusal → ProveFault → Type 0
Tells xs w (fault.Taken x n) = w ≡ taken x n
Tells xs w (fault.NotProduct t) = w ≡ not_product (named t)
Tells xs w (fault.NoMatch n) = w ≡ no_match n
Tells xs w (fault.Undetermined i) = w ≡ undetermined i
Tells xs w (fault.NotThere c) = w ≡ not_there c
Tells xs w (fault.NoBody c) = w ≡ no_body c
Tells xs w (fault.Flaw p f) = (g : Flaw) × (flaw_seen f ≡ behind xs g) × (w ≡ flawed (part_seen p) g)
Tells xs w fault.Memory = Unit {0}
Tells xs w _ = ⊥

-- The name exists at a place, and the answer is the refusal of it.
abbrev pub IsTaken : List Name → Name → Option ℕ → ProveFault → Type 0
IsTaken xs x None e = ⊥
IsTaken xs x (Some place) e = Tells xs (taken x place) e

-- The command comes to what the answer stands for, at its cost; or to the refusal of it.
abbrev pub Answers : {X A : Type 0} → List Name → (X → A) → (Outcome Refusal A → ℕ → Type 0) → Result X ProveFault → ℕ → ℕ → Type 0
Answers xs value costs (Ok x) b k = WithinBudget costs b (comes (value x)) k
Answers xs value costs (Err e) b k = Refuses xs costs e b k

-- The fault of an inference and of a fit in a part, of a reduction, and of a term that is made.
abbrev pub put_in : AnswerPart → InferFault → ProveFault
put_in p (infer.Flaw f) = fault.Flaw p f
put_in p infer.Spent = fault.Spent
put_in p infer.Deep = fault.Deep
put_in p infer.Memory = fault.Memory

abbrev pub misfit_put_in : AnswerPart → FitFault → ProveFault
misfit_put_in p (fit.Wanted f) = fault.Flaw p f
misfit_put_in p (fit.Judged f) = fault.Flaw p f
misfit_put_in p fit.Spent = fault.Spent
misfit_put_in p fit.Deep = fault.Deep
misfit_put_in p fit.Memory = fault.Memory

abbrev pub of_reduction : ReduceFault → ProveFault
of_reduction reduce.Spent = fault.Spent
of_reduction reduce.Deep = fault.Deep
of_reduction reduce.Memory = fault.Memory

abbrev pub of_making : TermFault → ProveFault
of_making made.TooLarge = fault.Deep
of_making made.Memory = fault.Memory
