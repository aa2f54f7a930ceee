-- What the public calls answer, against what inference comes to.
use Rattle.std.specs.Prelude.{◌≡◌, ◌+◌, ◌++◌, ℕ, List, [], true, false}
use Rattle.pts_names.specs.Name.{Name}
use Rattle.pts_terms.specs.Tree.{Named}
use Rattle.pts_terms.specs.Limits.{within}
use Rattle.pts_terms.specs.Seen.{named}
use Rattle.pts_ctx.specs.System.{Specification}
use Rattle.pts_record.specs.declared.shape.Shape.{Shape}
use Rattle.pts_reduce_cost.specs.Costs.{Globals}
use Rattle.pts_reduce_cost.specs.Laws.{WithinBudget, AboveBudget}
use Rattle.pts_infer_cost.specs.Typing.{Infers, Sorts, Fits, inference_nesting, Stop, moved, Kind, not_a_sort, not_product, no_rule, no_axiom, not_convertible, Flaw, FitFlaw, wanted, judged, by_flaw, by_limits, Outcome, comes, stops}
use Rattle.pts_infer.specs.declared.answer.FlawKind.{FlawKind}
use Rattle.pts_infer.specs.declared.answer.FlawKind.TheVariants as kind
use Rattle.pts_infer.specs.declared.answer.Flaw as answer
use Rattle.pts_infer.specs.declared.answer.InferFault.{InferFault}
use Rattle.pts_infer.specs.declared.answer.InferFault.TheVariants as infer
use Rattle.pts_infer.specs.declared.answer.FitFault.{FitFault}
use Rattle.pts_infer.specs.declared.answer.FitFault.TheVariants as fit
use Rattle.pts_infer.specs.declared.fault.Fault.{Fault}
use Rattle.pts_infer.specs.declared.fault.Fault.TheVariants.{Spent, Deep, Flawed}
use Rattle.pts_infer.specs.declared.fault.Misfit.{Misfit}
use Rattle.pts_infer.specs.declared.fault.Misfit.TheVariants as misfit
use Rattle.pts_infer.specs.Given.{flaw_of}

-- The flaw that an answer tells.
abbrev pub kind_seen : FlawKind → Kind
kind_seen (kind.NotASort t) = not_a_sort (named t)
kind_seen (kind.NotProduct t) = not_product (named t)
kind_seen (kind.NoRule s r) = no_rule s.0 r.0
kind_seen (kind.NoAxiom s) = no_axiom s.0
kind_seen (kind.NotConvertible place have want) = not_convertible place (named have) (named want)

abbrev pub flaw_seen : answer.Flaw → Flaw
flaw_seen f = record { place = f.place; names = f.names; kind = kind_seen f.kind }

-- A flaw with these names before those of the binders on the way.
abbrev pub behind : List Name → Flaw → Flaw
behind xs f = record { place = f.place; names = xs ++ f.names; kind = f.kind }

-- Why there was no answer, with b units before and k after it: the outcome is the flaw that is told, or something
-- beyond the limits; or each outcome costs more than b, and the meter stands at its limit. Running out of memory is free.
abbrev pub Refused : {A : Type 0} → List Name → (Outcome Flaw A → ℕ → Type 0) → InferFault → ℕ → ℕ → Type 0
Refused xs costs (infer.Flaw f) b k = (g : Flaw) × (flaw_seen f ≡ behind xs g) × WithinBudget costs b (stops (by_flaw g)) k
Refused xs costs infer.Spent b k = AboveBudget costs b × (k ≡ 0)
Refused xs costs infer.Deep b k = WithinBudget costs b (stops by_limits) k
Refused xs costs infer.Memory b k = Unit {0}

abbrev pub Unfit : List Name → (Outcome FitFlaw (Unit {0}) → ℕ → Type 0) → FitFault → ℕ → ℕ → Type 0
Unfit xs costs (fit.Wanted f) b k = (g : Flaw) × (flaw_seen f ≡ behind xs g) × WithinBudget costs b (stops (by_flaw (wanted g))) k
Unfit xs costs (fit.Judged f) b k = (g : Flaw) × (flaw_seen f ≡ behind xs g) × WithinBudget costs b (stops (by_flaw (judged g))) k
Unfit xs costs fit.Spent b k = AboveBudget costs b × (k ≡ 0)
Unfit xs costs fit.Deep b k = WithinBudget costs b (stops by_limits) k
Unfit xs costs fit.Memory b k = Unit {0}

-- What becomes of a term that is handed in: it must be within limits, and is then inferred in the empty context.
pub data OfTerm (S : Specification) (G : Globals) (t : Named) : Outcome Flaw Named → ℕ → Type 0 where
  term_too_large : within t ≡ false → OfTerm S G t (stops by_limits) 0
  term_inferred : {o : Outcome Flaw Named} {n : ℕ} → within t ≡ true → Infers S G inference_nesting [] t o n → OfTerm S G t o n

-- The same of the type of an assumption, with the sort test.
pub data OfType (S : Specification) (G : Globals) (A : Named) : Outcome Flaw ℕ → ℕ → Type 0 where
  type_too_large : within A ≡ false → OfType S G A (stops by_limits) 0
  type_sorted : {o : Outcome Flaw ℕ} {n : ℕ} → within A ≡ true → Sorts S G inference_nesting [] A o n → OfType S G A o n

-- The same of a term with a type that is given: the limits of both come first, then the inference, then the fit.
pub data OfFitted (S : Specification) (G : Globals) (t A : Named) : Outcome FitFlaw (Unit {0}) → ℕ → Type 0 where
  body_too_large : within t ≡ false → OfFitted S G t A (stops by_limits) 0
  wanted_too_large : within t ≡ true → within A ≡ false → OfFitted S G t A (stops by_limits) 0
  body_stops : {e : Stop Flaw} {n : ℕ} → within t ≡ true → within A ≡ true → Infers S G inference_nesting [] t (stops e) n → OfFitted S G t A (stops (moved judged e)) n
  body_fitted : {T : Named} {o : Outcome FitFlaw (Unit {0})} {m n : ℕ} → within t ≡ true → within A ≡ true → Infers S G inference_nesting [] t (comes T) m → Fits S G inference_nesting [] T A o n → OfFitted S G t A o (m + n)

-- The answer tells the fault, a flaw with these names before its own.
abbrev pub ShownAs : List Shape → List Name → Fault → InferFault → Type 0
ShownAs ss xs e infer.Memory = Unit {0}
ShownAs ss xs Spent infer.Spent = Unit {0}
ShownAs ss xs Deep infer.Deep = Unit {0}
ShownAs ss xs (Flawed f) (infer.Flaw h) = flaw_seen h ≡ behind xs (flaw_of ss f)
ShownAs ss xs e h = ⊥

-- The same of a fault of inference as one of the judged term, and of a fault of a fit.
abbrev pub ShownJudged : List Shape → List Name → Fault → FitFault → Type 0
ShownJudged ss xs e fit.Memory = Unit {0}
ShownJudged ss xs Spent fit.Spent = Unit {0}
ShownJudged ss xs Deep fit.Deep = Unit {0}
ShownJudged ss xs (Flawed f) (fit.Judged h) = flaw_seen h ≡ behind xs (flaw_of ss f)
ShownJudged ss xs e h = ⊥

abbrev pub ShownMisfit : List Shape → List Name → Misfit → FitFault → Type 0
ShownMisfit ss xs e fit.Memory = Unit {0}
ShownMisfit ss xs misfit.Spent fit.Spent = Unit {0}
ShownMisfit ss xs misfit.Deep fit.Deep = Unit {0}
ShownMisfit ss xs (misfit.Wanted f) (fit.Wanted h) = flaw_seen h ≡ behind xs (flaw_of ss f)
ShownMisfit ss xs (misfit.Own f) (fit.Judged h) = flaw_seen h ≡ behind xs (flaw_of ss f)
ShownMisfit ss xs e h = ⊥
