-- Inference, the sort test and the fit have one outcome at most, and work on a budget is exact.
use Rattle.std.proofs.Common.{◌≡◌, ℕ, subst}
use Rattle.pts_terms.specs.Tree.{Named}
use Rattle.pts_ctx.specs.System.{Specification}
use Rattle.pts_reduce_cost.specs.Costs.{Globals, Entries}
use Rattle.pts_reduce_cost.specs.Run.{ends, fails, deep, spent}
use Rattle.pts_reduce_cost.specs.Laws.{WithinBudget, AboveBudget}
use Rattle.pts_infer_cost.specs.Typing.{Flaw, FitFlaw, by_flaw, by_limits, comes, stops, SortTest, Infers, Sorts, Fits}
use Rattle.pts_infer_cost.specs.Inference.{inferred, sort_tested, sorted, fitted}
use Rattle.pts_infer_cost.specs.Laws.{IsWork, HasOneOutcome}
use Rattle.pts_infer_cost.proofs.Right.{Right, right_exact, right_once}
use Rattle.pts_infer_cost.proofs.Parts.{sort_test_right, sorts_right, fits_right}
use Rattle.pts_infer_cost.proofs.Rows.{inferred_right}

pub sorted_right : (S : Specification) (G : Globals) (d : ℕ) (L : Entries) (t : Named) → Right (Sorts S G d L t) (sorted S G (inferred S G d) L t)
sorted_right S G d L t = sorts_right S G d (inferred S G d) (λ M u. inferred_right S G d M u) L t

pub fitted_right : (S : Specification) (G : Globals) (d : ℕ) (L : Entries) (T W : Named) → Right (Fits S G d L T W) (fitted S G (inferred S G d) L T W)
fitted_right S G d L T W = fits_right S G d (inferred S G d) (λ M u. inferred_right S G d M u) L T W

-- The laws.
pub inference_once : (S : Specification) (G : Globals) (d : ℕ) (L : Entries) (t : Named) → HasOneOutcome (Infers S G d L t)
inference_once S G d L t = right_once (Infers S G d L t) (inferred S G d L t) (inferred_right S G d L t)

pub sort_test_once : (S : Specification) (G : Globals) (L : Entries) (T : Named) → HasOneOutcome (SortTest S G L T)
sort_test_once S G L T = right_once (SortTest S G L T) (sort_tested S G L T) (sort_test_right S G L T)

pub sorts_once : (S : Specification) (G : Globals) (d : ℕ) (L : Entries) (t : Named) → HasOneOutcome (Sorts S G d L t)
sorts_once S G d L t = right_once (Sorts S G d L t) (sorted S G (inferred S G d) L t) (sorted_right S G d L t)

pub fit_once : (S : Specification) (G : Globals) (d : ℕ) (L : Entries) (T W : Named) → HasOneOutcome (Fits S G d L T W)
fit_once S G d L T W = right_once (Fits S G d L T W) (fitted S G (inferred S G d) L T W) (fitted_right S G d L T W)

pub inference_exact : (S : Specification) (G : Globals) (d : ℕ) (L : Entries) (t : Named) (b : ℕ) → IsWork (Infers S G d L t) b (inferred S G d L t b)
inference_exact S G d L t b = right_exact (Infers S G d L t) (inferred S G d L t) (inferred_right S G d L t) b

pub sort_test_exact : (S : Specification) (G : Globals) (L : Entries) (T : Named) (b : ℕ) → IsWork (SortTest S G L T) b (sort_tested S G L T b)
sort_test_exact S G L T b = right_exact (SortTest S G L T) (sort_tested S G L T) (sort_test_right S G L T) b

pub sorts_exact : (S : Specification) (G : Globals) (d : ℕ) (L : Entries) (t : Named) (b : ℕ) → IsWork (Sorts S G d L t) b (sorted S G (inferred S G d) L t b)
sorts_exact S G d L t b = right_exact (Sorts S G d L t) (sorted S G (inferred S G d) L t) (sorted_right S G d L t) b

pub fit_exact : (S : Specification) (G : Globals) (d : ℕ) (L : Entries) (T W : Named) (b : ℕ) → IsWork (Fits S G d L T W) b (fitted S G (inferred S G d) L T W b)
fit_exact S G d L T W b = right_exact (Fits S G d L T W) (fitted S G (inferred S G d) L T W) (fitted_right S G d L T W) b

-- The same, by what the work came to.
pub inference_within : (S : Specification) (G : Globals) (d : ℕ) (L : Entries) (t T : Named) (b k : ℕ) → inferred S G d L t b ≡ ends T k → WithinBudget (Infers S G d L t) b (comes T) k
inference_within S G d L t T b k e = subst (IsWork (Infers S G d L t) b) e (inference_exact S G d L t b)

pub inference_flawed : (S : Specification) (G : Globals) (d : ℕ) (L : Entries) (t : Named) (f : Flaw) (b k : ℕ) → inferred S G d L t b ≡ fails f k → WithinBudget (Infers S G d L t) b (stops (by_flaw f)) k
inference_flawed S G d L t f b k e = subst (IsWork (Infers S G d L t) b) e (inference_exact S G d L t b)

pub inference_beyond : (S : Specification) (G : Globals) (d : ℕ) (L : Entries) (t : Named) (b k : ℕ) → inferred S G d L t b ≡ deep k → WithinBudget (Infers S G d L t) b (stops by_limits) k
inference_beyond S G d L t b k e = subst (IsWork (Infers S G d L t) b) e (inference_exact S G d L t b)

pub inference_above : (S : Specification) (G : Globals) (d : ℕ) (L : Entries) (t : Named) (b : ℕ) → inferred S G d L t b ≡ spent → AboveBudget (Infers S G d L t) b
inference_above S G d L t b e = subst (IsWork (Infers S G d L t) b) e (inference_exact S G d L t b)

pub ruleset inferences_exact = (inference_within, inference_flawed, inference_beyond, inference_above)

pub sort_test_within : (S : Specification) (G : Globals) (L : Entries) (T : Named) (s b k : ℕ) → sort_tested S G L T b ≡ ends s k → WithinBudget (SortTest S G L T) b (comes s) k
sort_test_within S G L T s b k e = subst (IsWork (SortTest S G L T) b) e (sort_test_exact S G L T b)

pub sort_test_flawed : (S : Specification) (G : Globals) (L : Entries) (T : Named) (f : Flaw) (b k : ℕ) → sort_tested S G L T b ≡ fails f k → WithinBudget (SortTest S G L T) b (stops (by_flaw f)) k
sort_test_flawed S G L T f b k e = subst (IsWork (SortTest S G L T) b) e (sort_test_exact S G L T b)

pub sort_test_beyond : (S : Specification) (G : Globals) (L : Entries) (T : Named) (b k : ℕ) → sort_tested S G L T b ≡ deep k → WithinBudget (SortTest S G L T) b (stops by_limits) k
sort_test_beyond S G L T b k e = subst (IsWork (SortTest S G L T) b) e (sort_test_exact S G L T b)

pub sort_test_above : (S : Specification) (G : Globals) (L : Entries) (T : Named) (b : ℕ) → sort_tested S G L T b ≡ spent → AboveBudget (SortTest S G L T) b
sort_test_above S G L T b e = subst (IsWork (SortTest S G L T) b) e (sort_test_exact S G L T b)

pub ruleset sort_tests_exact = (sort_test_within, sort_test_flawed, sort_test_beyond, sort_test_above)

pub fit_within : (S : Specification) (G : Globals) (d : ℕ) (L : Entries) (T W : Named) (b k : ℕ) → fitted S G (inferred S G d) L T W b ≡ ends tt k → WithinBudget (Fits S G d L T W) b (comes tt) k
fit_within S G d L T W b k e = subst (IsWork (Fits S G d L T W) b) e (fit_exact S G d L T W b)

pub fit_flawed : (S : Specification) (G : Globals) (d : ℕ) (L : Entries) (T W : Named) (f : FitFlaw) (b k : ℕ) → fitted S G (inferred S G d) L T W b ≡ fails f k → WithinBudget (Fits S G d L T W) b (stops (by_flaw f)) k
fit_flawed S G d L T W f b k e = subst (IsWork (Fits S G d L T W) b) e (fit_exact S G d L T W b)

pub fit_beyond : (S : Specification) (G : Globals) (d : ℕ) (L : Entries) (T W : Named) (b k : ℕ) → fitted S G (inferred S G d) L T W b ≡ deep k → WithinBudget (Fits S G d L T W) b (stops by_limits) k
fit_beyond S G d L T W b k e = subst (IsWork (Fits S G d L T W) b) e (fit_exact S G d L T W b)

pub fit_above : (S : Specification) (G : Globals) (d : ℕ) (L : Entries) (T W : Named) (b : ℕ) → fitted S G (inferred S G d) L T W b ≡ spent → AboveBudget (Fits S G d L T W) b
fit_above S G d L T W b e = subst (IsWork (Fits S G d L T W) b) e (fit_exact S G d L T W b)

pub ruleset fits_exact = (fit_within, fit_flawed, fit_beyond, fit_above)
