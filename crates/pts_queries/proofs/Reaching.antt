-- What the work on terms that are handed in comes to, from what it comes to where they are within limits.
use Rattle.std.proofs.Common.{◌≡◌, ℕ, List, sym, subst, ◌∙◌, arith, true, false, codes}
use Rattle.pts_names.specs.Name.{Name}
use Rattle.pts_terms.specs.Tree.{Named}
use Rattle.pts_terms.specs.Limits.{within}
use Rattle.pts_ctx.specs.System.{Specification}
use Rattle.pts_reduce_cost.specs.Costs.{Globals, Entries, form, too_large, Reduces, TestAnswer, yes_, no_, beyond, Tests, nesting}
use Rattle.pts_reduce_cost.specs.Laws.{WithinBudget, AboveBudget}
use Rattle.pts_infer_cost.specs.Typing.{Flaw, by_limits, Outcome, comes, stops, Infers, inference_nesting}
use Rattle.pts_reduce.specs.Answered.{Refused}
use Rattle.pts_reduce.specs.declared.fault.ReduceFault.{ReduceFault}
use Rattle.pts_reduce.specs.declared.fault.ReduceFault.TheVariants as reduce
use Rattle.pts_infer.specs.Answered.{Refused as NotInferred}
use Rattle.pts_infer.specs.Given.{EitherLarge, first_large, second_large}
use Rattle.pts_infer.specs.declared.answer.InferFault.{InferFault}
use Rattle.pts_infer.specs.declared.answer.InferFault.TheVariants as infer
use Rattle.pts_queries.specs.Replies.{difference_line}
use Rattle.pts_queries.specs.Queries.{Limited, beyond_limits, inside_limits, InfersTerm, ReducesTerm, TestsTerms}
use Rattle.pts_queries.specs.Inner.{IsTested}

not_large : {P : Type 0} (t : Named) → within t ≡ true → within t ≡ false → P
not_large t p q = let x : true ≡ false = sym p ∙ q in absurd (cc x)

module _ {O : Type 0} (t : Named) (big : O) (costs : O → ℕ → Type 0) (b : ℕ) where
  pub limited_large : within t ≡ false → WithinBudget (Limited t big costs) b big b
  limited_large w = (0, beyond_limits w, omega arith)

  -- the term is within limits
  module _ (w : within t ≡ true) where
    pub limited_within : (o : O) (k : ℕ) → WithinBudget costs b o k → WithinBudget (Limited t big costs) b o k
    limited_within o k (n, h, e) = (n, inside_limits w h, e)

    pub limited_above : AboveBudget costs b → AboveBudget (Limited t big costs) b
    limited_above a o n (beyond_limits v) = not_large t w v
    limited_above a o n (inside_limits v h) = a o n h

    pub limited_refused : (e : ReduceFault) (k : ℕ) → Refused costs big e b k → Refused (Limited t big costs) big e b k
    limited_refused reduce.Spent k (a, z) = (limited_above a, z)
    limited_refused reduce.Deep k h = limited_within big k h
    limited_refused reduce.Memory k h = tt

-- Inference.
module _ (S : Specification) (G : Globals) (L : Entries) (t : Named) (b : ℕ) where
  pub infer_large : within t ≡ false → WithinBudget (InfersTerm S G L t) b (stops by_limits) b
  infer_large w = limited_large t (stops by_limits) (Infers S G inference_nesting L t) b w

  module _ (w : within t ≡ true) (k : ℕ) where
    inferred_within : (o : Outcome Flaw Named) → WithinBudget (Infers S G inference_nesting L t) b o k → WithinBudget (InfersTerm S G L t) b o k
    inferred_within o h = limited_within t (stops by_limits) (Infers S G inference_nesting L t) b w o k h

    pub typed_within : (A T : Named) → WithinBudget (Infers S G inference_nesting L t) b (comes T) k → A ≡ T → WithinBudget (InfersTerm S G L t) b (comes A) k
    typed_within A T h e = subst (λ B. WithinBudget (InfersTerm S G L t) b (comes B) k) (sym e) (inferred_within (comes T) h)

    pub untyped_within : (xs : List Name) (e : InferFault) → NotInferred xs (Infers S G inference_nesting L t) e b k → NotInferred xs (InfersTerm S G L t) e b k
    untyped_within xs (infer.Flaw f) (g, same, h) = (g, same, inferred_within _ h)
    untyped_within xs infer.Spent (a, z) = (limited_above t (stops by_limits) (Infers S G inference_nesting L t) b w a, z)
    untyped_within xs infer.Deep h = inferred_within _ h
    untyped_within xs infer.Memory h = tt

-- Reduction.
module _ (G : Globals) (L : Entries) (t : Named) (b : ℕ) where
  pub form_large : within t ≡ false → WithinBudget (ReducesTerm G L t) b too_large b
  form_large w = limited_large t too_large (Reduces G L t) b w

  module _ (w : within t ≡ true) (k : ℕ) where
    pub form_within : (u v : Named) → WithinBudget (Reduces G L t) b (form v) k → u ≡ v → WithinBudget (ReducesTerm G L t) b (form u) k
    form_within u v h e = subst (λ s. WithinBudget (ReducesTerm G L t) b (form s) k) (sym e) (limited_within t too_large (Reduces G L t) b w (form v) k h)

    pub form_refused : (e : ReduceFault) → Refused (Reduces G L t) too_large e b k → Refused (ReducesTerm G L t) too_large e b k
    form_refused e h = limited_refused t too_large (Reduces G L t) b w e k h

-- The test of two terms.
module _ (G : Globals) (L : Entries) (t u : Named) (b : ℕ) where
  abbrev pub one : TestAnswer → ℕ → Type 0
  one = Limited u beyond (Tests G nesting L t u)

  pub test_large : EitherLarge t u → WithinBudget (TestsTerms G L t u) b beyond b
  test_large (first_large w) = limited_large t beyond one b w
  test_large (second_large w v) = limited_within t beyond one b w beyond b (limited_large u beyond (Tests G nesting L t u) b v)

  module _ (w : within t ≡ true) (v : within u ≡ true) (k : ℕ) where
    test_within : (o : TestAnswer) → WithinBudget (Tests G nesting L t u) b o k → WithinBudget (TestsTerms G L t u) b o k
    test_within o h = limited_within t beyond one b w o k (limited_within u beyond (Tests G nesting L t u) b v o k h)

    pub test_refused : (e : ReduceFault) → Refused (Tests G nesting L t u) beyond e b k → Refused (TestsTerms G L t u) beyond e b k
    test_refused e h = limited_refused t beyond one b w e k (limited_refused u beyond (Tests G nesting L t u) b v e k h)

    pub tested_yes : (line : List ℕ) → WithinBudget (Tests G nesting L t u) b yes_ k → line ≡ codes "yes" → IsTested (TestsTerms G L t u) b k line
    tested_yes line h is = (yes_, test_within yes_ h, is)

    pub tested_no : (place line : List ℕ) (x y : Named) → WithinBudget (Tests G nesting L t u) b (no_ place x y) k → line ≡ difference_line place → IsTested (TestsTerms G L t u) b k line
    tested_no place line x y h is = (no_ place x y, test_within (no_ place x y) h, is)
