-- The lines of what work comes to.
use Rattle.std.proofs.Common.{◌≡◌, ◌≢◌, refl, sym, ap, subst, ℕ, List, arith, Result, Ok, Err, IfOk, OnOk}
use Rattle.pts_names.specs.Name.{Name}
use Rattle.pts_terms.specs.Tree.{Named}
use Rattle.pts_ctx.specs.System.{Specification}
use Rattle.pts_rules.specs.Meter.{Units, left}
use Rattle.pts_reduce_cost.specs.Costs.{Globals, Entries}
use Rattle.pts_reduce_cost.specs.Laws.{WithinBudget, AboveBudget}
use Rattle.pts_reduce.specs.Answered.{Refused as NotReduced}
use Rattle.pts_reduce.specs.declared.fault.ReduceFault.{ReduceFault}
use Rattle.pts_reduce.specs.declared.fault.ReduceFault.TheVariants as reduce
use Rattle.pts_infer_cost.specs.Typing.{by_flaw, by_limits, stops}
use Rattle.pts_infer.specs.Answered.{Refused}
use Rattle.pts_infer.specs.FaultText.{part_text}
use Rattle.pts_infer.specs.declared.answer.InferFault.{InferFault}
use Rattle.pts_infer.specs.declared.answer.InferFault.TheVariants as infer
use Rattle.pts_infer.specs.declared.part.Part.TheVariants.{Whole}
use Rattle.pts_flaw_text.specs.FlawText.{flaw_text}
use Rattle.pts_flaw_text.specs.InferText.{spent_text, deep_text, infer_text}
use Rattle.pts_queries.specs.Budgets.{came_to, above, is_within, is_above}
use Rattle.pts_queries.specs.Replies.{refusal}
use Rattle.pts_queries.specs.Queries.{AnswersWork, InfersTerm, TestsTerms, inferred_line, tested_line}
use Rattle.pts_queries.specs.Inner.{reduce_text, IsTested}

-- A new meter has all of its units.
pub fresh_left : (m : Units) (b : ℕ) → m ≡ record { limit = b; spent = 0 } → left m ≡ b
fresh_left m b new = let l = ap (λ u. u.limit) new in let s = ap (λ u. u.spent) new in omega (arith, l, s)

-- Of work with c units, which are the budget: a line of its outcome, and the line of its refusal.
module _ {O : Type 0} (costs : O → ℕ → Type 0) (b c : ℕ) (start : c ≡ b) (line_of : O → List ℕ) where
  pub replied : (o : O) (k : ℕ) (line : List ℕ) → WithinBudget costs c o k → line ≡ line_of o → AnswersWork costs b line_of line
  replied o k line h is = (came_to o, is_within k (subst (λ d. WithinBudget costs d o k) start h), is)

  pub answered : {E : Type 0} (o : O) (k : ℕ) (r : Result (List ℕ) E) → WithinBudget costs c o k → IfOk r (λ line. line ≡ line_of o) → IfOk r (λ line. AnswersWork costs b line_of line)
  answered o k (Ok line) h is = replied o k line h is
  answered o k (Err e) h is = tt

  replied_above : (line : List ℕ) → AboveBudget costs c → line ≡ refusal spent_text → AnswersWork costs b line_of line
  replied_above line h is = (above, is_above (subst (λ d. AboveBudget costs d) start h), is)

  stopped_by : (big : O) (f : ReduceFault) (k : ℕ) (line : List ℕ) → line_of big ≡ refusal deep_text → NotReduced costs big f c k → f ≢ reduce.Memory → line ≡ refusal (reduce_text f) → AnswersWork costs b line_of line
  stopped_by big reduce.Spent k line deep h other is = replied_above line h.0 is
  stopped_by big reduce.Deep k line deep h other is = replied big k line h (subst (λ l. line ≡ l) (sym deep) is)
  stopped_by big reduce.Memory k line deep h other is = absurd (other refl)

  pub stopped : {E : Type 0} (big : O) (f : ReduceFault) (k : ℕ) (r : Result (List ℕ) E) → line_of big ≡ refusal deep_text → NotReduced costs big f c k → OnOk r (f ≢ reduce.Memory) → IfOk r (λ line. line ≡ refusal (reduce_text f)) → IfOk r (λ line. AnswersWork costs b line_of line)
  stopped big f k (Ok line) deep h other is = stopped_by big f k line deep h other is
  stopped big f k (Err e) deep h other is = tt

-- The same of the inference of a term, over the names of hypotheses.
module _ (S : Specification) (G : Globals) (xs : List Name) (L : Entries) (t : Named) (b c : ℕ) (start : c ≡ b) where
  untyped_by : (f : InferFault) (k : ℕ) (line : List ℕ) → Refused xs (InfersTerm S G L t) f c k → f ≢ infer.Memory → line ≡ refusal (infer_text S.sorts Whole f) → AnswersWork (InfersTerm S G L t) b (inferred_line S.sorts xs t) line
  untyped_by (infer.Flaw f) k line (g, same, within) other is =
      replied (InfersTerm S G L t) b c start (inferred_line S.sorts xs t) (stops (by_flaw g)) k line within (subst (λ h. line ≡ refusal (flaw_text S.sorts (part_text Whole) h)) same is)
  untyped_by infer.Spent k line (h, z) other is = replied_above (InfersTerm S G L t) b c start (inferred_line S.sorts xs t) line h is
  untyped_by infer.Deep k line h other is = replied (InfersTerm S G L t) b c start (inferred_line S.sorts xs t) (stops by_limits) k line h is
  untyped_by infer.Memory k line h other is = absurd (other refl)

  pub untyped : {E : Type 0} (f : InferFault) (k : ℕ) (r : Result (List ℕ) E) → Refused xs (InfersTerm S G L t) f c k → OnOk r (f ≢ infer.Memory) → IfOk r (λ line. line ≡ refusal (infer_text S.sorts Whole f)) → IfOk r (λ line. AnswersWork (InfersTerm S G L t) b (inferred_line S.sorts xs t) line)
  untyped f k (Ok line) h other is = untyped_by f k line h other is
  untyped f k (Err e) h other is = tt

-- The line of a test.
pub tested_reply : (G : Globals) (L : Entries) (t u : Named) (b c k : ℕ) (line : List ℕ) → c ≡ b → IsTested (TestsTerms G L t u) c k line → AnswersWork (TestsTerms G L t u) b tested_line line
tested_reply G L t u b c k line start (o, h, is) = replied (TestsTerms G L t u) b c start tested_line o k line h is
