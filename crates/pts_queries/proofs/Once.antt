-- Each line that asks has one answer.
use Rattle.std.proofs.Common.{◌≡◌, ◌<◌, ◌+◌, refl, sym, ap, ◌∙◌, ℕ, List, [], arith, Result, Ok, Err}
use Rattle.pts_names.specs.Name.{Name}
use Rattle.pts_terms.specs.Tree.{Named}
use Rattle.pts_ctx.specs.System.{Specification}
use Rattle.pts_grammar.specs.Syntax.{Syntax}
use Rattle.pts_parser.specs.declared.fault.ReadFault.{ReadFault}
use Rattle.pts_reduce_cost.specs.Costs.{Globals, Entries, too_large, Reduces, beyond, Tests, nesting}
use Rattle.pts_reduce_cost.proofs.Reached.{one_reduct, one_verdict}
use Rattle.pts_infer_cost.specs.Typing.{by_limits, stops, Infers, inference_nesting}
use Rattle.pts_infer_cost.proofs.Exact.{inference_once}
use Rattle.pts_queries.specs.Budgets.{Worked, came_to, above, Works, is_within, is_above}
use Rattle.pts_queries.specs.Reading.{term_over, OnTerm}
use Rattle.pts_queries.specs.Queries.{worked_line, AnswersWork, Limited, beyond_limits, inside_limits, InfersTerm, ReducesTerm, TestsTerms, inferred_line, reduced_line, tested_line, AnswersInferUnder, AnswersReduceUnder, AnswersEqualUnder, AnswersInfer, AnswersReduce, AnswersEqual}
use Rattle.pts_queries.specs.Laws.{HasOneLine}

-- Work that has one outcome, at one cost.
abbrev pub ComesOnce : {O : Type 0} → (O → ℕ → Type 0) → Type 0
ComesOnce {O} costs = (o p : O) (m n : ℕ) → costs o m → costs p n → (o ≡ p) × (m ≡ n)

module _ {O : Type 0} (costs : O → ℕ → Type 0) (once : ComesOnce costs) (b : ℕ) where
  not_both : {P : Type 0} (m k : ℕ) → m + k ≡ b → b < m → P
  not_both m k e h = absurd (omega (arith, e, h))

  works_once : (w v : Worked O) → Works costs b w → Works costs b v → w ≡ v
  works_once (came_to o) (came_to p) (is_within k (m, h, e)) (is_within j (n, i, f)) = ap came_to (once o p m n h i).0
  works_once (came_to o) above (is_within k (m, h, e)) (is_above a) = not_both m k e (a o m h)
  works_once above (came_to p) (is_above a) (is_within j (n, i, f)) = not_both n j f (a p n i)
  works_once above above h i = refl

  replies_once : (line_of : O → List ℕ) → HasOneLine (AnswersWork costs b line_of)
  replies_once line_of l m (w, h, e) (v, i, f) = e ∙ ap (worked_line line_of) (works_once w v h i) ∙ sym f

on_term_once : (said : Result Named ReadFault) (says : Named → List ℕ → Type 0) → ((t : Named) → HasOneLine (says t)) → HasOneLine (OnTerm said says)
on_term_once (Ok t) says once l m h i = once t l m h i
on_term_once (Err e) says once l m h i = h ∙ sym i

limited_once : {O : Type 0} (t : Named) (big : O) (costs : O → ℕ → Type 0) → ComesOnce costs → ComesOnce (Limited t big costs)
limited_once t big costs once o p m n (beyond_limits h) (beyond_limits k) = (refl, refl)
limited_once t big costs once o p m n (beyond_limits h) (inside_limits k d) = absurd (cc)
limited_once t big costs once o p m n (inside_limits k d) (beyond_limits h) = absurd (cc)
limited_once t big costs once o p m n (inside_limits h d) (inside_limits k e) = once o p m n d e

-- The three kinds of work, and the lines of them.
module _ (S : Specification) (G : Globals) (xs : List Name) (L : Entries) where
  inferences_once : (t : Named) → ComesOnce (InfersTerm S G L t)
  inferences_once t = limited_once t (stops by_limits) (Infers S G inference_nesting L t) (inference_once S G inference_nesting L t)

  reductions_once : (t : Named) → ComesOnce (ReducesTerm G L t)
  reductions_once t = limited_once t too_large (Reduces G L t) (one_reduct G L t)

  tests_once : (t u : Named) → ComesOnce (TestsTerms G L t u)
  tests_once t u = limited_once t beyond (Limited u beyond (Tests G nesting L t u)) (limited_once u beyond (Tests G nesting L t u) (one_verdict G nesting L t u))

  pub infer_once_under : (b : ℕ) (T : Syntax) → HasOneLine (AnswersInferUnder S G xs L b T)
  infer_once_under b T = on_term_once (term_over S.sorts G xs T) (λ t. AnswersWork (InfersTerm S G L t) b (inferred_line S.sorts xs t)) (λ t. replies_once (InfersTerm S G L t) (inferences_once t) b (inferred_line S.sorts xs t))

  pub reduce_once_under : (b : ℕ) (T : Syntax) → HasOneLine (AnswersReduceUnder S G xs L b T)
  reduce_once_under b T = on_term_once (term_over S.sorts G xs T) (λ t. AnswersWork (ReducesTerm G L t) b (reduced_line S.sorts xs)) (λ t. replies_once (ReducesTerm G L t) (reductions_once t) b (reduced_line S.sorts xs))

  pub equal_once_under : (b : ℕ) (T U : Syntax) → HasOneLine (AnswersEqualUnder S G xs L b T U)
  equal_once_under b T U =
      on_term_once (term_over S.sorts G xs T) (λ t. OnTerm (term_over S.sorts G xs U) (λ u. AnswersWork (TestsTerms G L t u) b tested_line)) (λ t. on_term_once (term_over S.sorts G xs U) (λ u. AnswersWork (TestsTerms G L t u) b tested_line) (λ u. replies_once (TestsTerms G L t u) (tests_once t u) b tested_line))

-- The same without hypotheses.
pub infer_once : (S : Specification) (G : Globals) (b : ℕ) (T : Syntax) → HasOneLine (AnswersInfer S G b T)
infer_once S G b T = infer_once_under S G [] [] b T

pub reduce_once : (S : Specification) (G : Globals) (b : ℕ) (T : Syntax) → HasOneLine (AnswersReduce S G b T)
reduce_once S G b T = reduce_once_under S G [] [] b T

pub equal_once : (S : Specification) (G : Globals) (b : ℕ) (T U : Syntax) → HasOneLine (AnswersEqual S G b T U)
equal_once S G b T U = equal_once_under S G [] [] b T U
