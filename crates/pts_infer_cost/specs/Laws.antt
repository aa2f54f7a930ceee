-- The laws of inference at its cost.
use Rattle.std.specs.Prelude.{◌≡◌, ℕ, ◌+◌, length, map}
use Rattle.pts_terms.specs.Tree.{Named, Bare, bare, sort, Below}
use Rattle.pts_ctx.specs.System.{Specification}
use Rattle.pts_ctx.specs.Front.{bare_front}
use Rattle.pts_record.specs.Said.{bare_local}
use Rattle.pts_rules.specs.Derives.{Derives, Legal}
use Rattle.pts_rules.specs.WellFormed.{WellFormed}
use Rattle.pts_reduce_cost.specs.Costs.{Globals, Entries}
use Rattle.pts_reduce_cost.specs.Run.{Run, ends, fails, deep, spent}
use Rattle.pts_reduce_cost.specs.Laws.{WithinBudget, AboveBudget}
use Rattle.pts_infer_cost.specs.Typing.{Kind, not_a_sort, not_product, no_rule, no_axiom, not_convertible, Flaw, FitFlaw, wanted, judged, by_flaw, by_limits, Outcome, comes, stops, SortTest, Infers, Sorts, Fits}
use Rattle.pts_infer_cost.specs.Inference.{inferred, sort_tested, sorted, fitted}

-- There is one outcome at most, at one cost.
abbrev pub HasOneOutcome : {F A : Type 0} → (Outcome F A → ℕ → Type 0) → Type 0
HasOneOutcome {F} {A} costs = (o p : Outcome F A) (m n : ℕ) → costs o m → costs p n → (o ≡ p) × (m ≡ n)

abbrev pub InferenceHasOneOutcome : Type 0
InferenceHasOneOutcome = (S : Specification) (G : Globals) (d : ℕ) (L : Entries) (t : Named) → HasOneOutcome (Infers S G d L t)

abbrev pub SortsHaveOneOutcome : Type 0
SortsHaveOneOutcome = (S : Specification) (G : Globals) (d : ℕ) (L : Entries) (t : Named) → HasOneOutcome (Sorts S G d L t)

abbrev pub SortTestsHaveOneOutcome : Type 0
SortTestsHaveOneOutcome = (S : Specification) (G : Globals) (L : Entries) (T : Named) → HasOneOutcome (SortTest S G L T)

abbrev pub FitsHaveOneOutcome : Type 0
FitsHaveOneOutcome = (S : Specification) (G : Globals) (d : ℕ) (L : Entries) (T W : Named) → HasOneOutcome (Fits S G d L T W)

-- Work on b units is right for what has outcomes at costs: an outcome with its cost paid, or no outcome for b units.
abbrev pub IsWork : {F A : Type 0} → (Outcome F A → ℕ → Type 0) → ℕ → Run F A → Type 0
IsWork costs b (ends x k) = WithinBudget costs b (comes x) k
IsWork costs b (fails f k) = WithinBudget costs b (stops (by_flaw f)) k
IsWork costs b (deep k) = WithinBudget costs b (stops by_limits) k
IsWork costs b spent = AboveBudget costs b

-- Work on a budget comes to the outcome where its cost is within the budget, and is spent exactly otherwise.
abbrev pub InferenceIsExact : Type 0
InferenceIsExact = (S : Specification) (G : Globals) (d : ℕ) (L : Entries) (t : Named) (b : ℕ) → IsWork (Infers S G d L t) b (inferred S G d L t b)

abbrev pub SortsAreExact : Type 0
SortsAreExact = (S : Specification) (G : Globals) (d : ℕ) (L : Entries) (t : Named) (b : ℕ) → IsWork (Sorts S G d L t) b (sorted S G (inferred S G d) L t b)

abbrev pub SortTestsAreExact : Type 0
SortTestsAreExact = (S : Specification) (G : Globals) (L : Entries) (T : Named) (b : ℕ) → IsWork (SortTest S G L T) b (sort_tested S G L T b)

abbrev pub FitsAreExact : Type 0
FitsAreExact = (S : Specification) (G : Globals) (d : ℕ) (L : Entries) (T W : Named) (b : ℕ) → IsWork (Fits S G d L T W) b (fitted S G (inferred S G d) L T W b)

-- The term t has the type T; and the local context is well formed. Printed names don't count.
abbrev pub Has : Specification → Globals → Entries → Bare → Bare → Type 0
Has S G L t T = Derives S (bare_front G) (map bare_local L) t T

abbrev pub Formed : Specification → Globals → Entries → Type 0
Formed S G L = WellFormed S (bare_front G) (map bare_local L)

-- Over a legal front and in a well-formed context what is inferred is derivable, and so is what a sort test and a fit
-- make of a judgement.
abbrev pub InferenceIsSound : Type 0
InferenceIsSound = (S : Specification) (G : Globals) (d : ℕ) (L : Entries) (t T : Named) (n : ℕ) → Infers S G d L t (comes T) n → Legal S (bare_front G) → Formed S G L → Has S G L (bare t) (bare T)

abbrev pub SortsAreSound : Type 0
SortsAreSound = (S : Specification) (G : Globals) (d : ℕ) (L : Entries) (t : Named) (s n : ℕ) → Sorts S G d L t (comes s) n → Legal S (bare_front G) → Formed S G L → Has S G L (bare t) (sort s)

abbrev pub SortTestsAreSound : Type 0
SortTestsAreSound = (S : Specification) (G : Globals) (L : Entries) (t T : Named) (s n : ℕ) → SortTest S G L T (comes s) n → Legal S (bare_front G) → Formed S G L → Has S G L (bare t) (bare T) → Has S G L (bare t) (sort s)

abbrev pub FitsAreSound : Type 0
FitsAreSound = (S : Specification) (G : Globals) (d : ℕ) (L : Entries) (t T W : Named) (n : ℕ) → Fits S G d L T W (comes tt) n → Legal S (bare_front G) → Formed S G L → Has S G L (bare t) (bare T) → Has S G L (bare t) (bare W)

-- The free indices of the terms that a flaw shows are below the number of the binders that were passed to its place
-- and of the entries of the context, which are n.
abbrev pub KindBelow : ℕ → Kind → Type 0
KindBelow n (not_a_sort T) = Below n T
KindBelow n (not_product F) = Below n F
KindBelow n (no_rule s r) = Unit {0}
KindBelow n (no_axiom s) = Unit {0}
KindBelow n (not_convertible place T W) = Below n T × Below n W

abbrev pub FlawBelow : ℕ → Flaw → Type 0
FlawBelow n f = KindBelow (length f.names + n) f.kind

abbrev pub FitFlawBelow : ℕ → FitFlaw → Type 0
FitFlawBelow n (wanted f) = FlawBelow n f
FitFlawBelow n (judged f) = FlawBelow n f

abbrev pub FlawsAreScoped : Type 0
FlawsAreScoped = (S : Specification) (G : Globals) (d : ℕ) (L : Entries) (t : Named) (f : Flaw) (n : ℕ) → Infers S G d L t (stops (by_flaw f)) n → Legal S (bare_front G) → Formed S G L → FlawBelow (length L) f

abbrev pub FlawsOfSortsAreScoped : Type 0
FlawsOfSortsAreScoped = (S : Specification) (G : Globals) (d : ℕ) (L : Entries) (t : Named) (f : Flaw) (n : ℕ) → Sorts S G d L t (stops (by_flaw f)) n → Legal S (bare_front G) → Formed S G L → FlawBelow (length L) f

abbrev pub FlawsOfSortTestsAreScoped : Type 0
FlawsOfSortTestsAreScoped = (S : Specification) (G : Globals) (L : Entries) (t T : Named) (f : Flaw) (n : ℕ) → SortTest S G L T (stops (by_flaw f)) n → Has S G L (bare t) (bare T) → FlawBelow (length L) f

abbrev pub FlawsOfFitsAreScoped : Type 0
FlawsOfFitsAreScoped = (S : Specification) (G : Globals) (d : ℕ) (L : Entries) (t T W : Named) (f : FitFlaw) (n : ℕ) → Fits S G d L T W (stops (by_flaw f)) n → Legal S (bare_front G) → Formed S G L → Has S G L (bare t) (bare T) → FitFlawBelow (length L) f
