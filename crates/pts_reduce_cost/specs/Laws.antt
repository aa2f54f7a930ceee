-- The laws of costs.
use Rattle.std.specs.Prelude.{◌≡◌, ◌+◌, ◌<◌, ℕ, map}
use Rattle.pts_terms.specs.Tree.{Named, bare}
use Rattle.pts_ctx.specs.Front.{bare_front}
use Rattle.pts_record.specs.Said.{bare_local}
use Rattle.pts_rules.specs.Step.{Convertible}
use Rattle.pts_reduce_cost.specs.Costs.{Globals, Entries, Reduct, form, too_large, Reduces, TestAnswer, yes_, no_, beyond, Tests}
use Rattle.pts_reduce_cost.specs.Run.{Run, ends, fails, deep, spent}
use Rattle.pts_reduce_cost.specs.Work.{reduced, tested, Answer}

-- A term is reduced to one outcome at most, at one cost; and so is the test of two terms.
abbrev pub ReductionHasOneOutcome : Type 0
ReductionHasOneOutcome = (G : Globals) (L : Entries) (t : Named) (o p : Reduct) (m n : ℕ) → Reduces G L t o m → Reduces G L t p n → (o ≡ p) × (m ≡ n)

abbrev pub TestsHaveOneOutcome : Type 0
TestsHaveOneOutcome = (G : Globals) (d : ℕ) (L : Entries) (t u : Named) (o p : TestAnswer) (m n : ℕ) → Tests G d L t u o m → Tests G d L t u p n → (o ≡ p) × (m ≡ n)

-- Work on b units is right for what has outcomes at costs: an outcome with its cost paid, or no outcome for b units.
abbrev pub WithinBudget : {O : Type 0} → (O → ℕ → Type 0) → ℕ → O → ℕ → Type 0
WithinBudget costs b o k = (n : ℕ) × costs o n × (n + k ≡ b)

abbrev pub AboveBudget : {O : Type 0} → (O → ℕ → Type 0) → ℕ → Type 0
AboveBudget {O} costs b = (o : O) (n : ℕ) → costs o n → b < n

abbrev pub IsReduction : (Reduct → ℕ → Type 0) → ℕ → Run ⊥ Named → Type 0
IsReduction costs b (ends v k) = WithinBudget costs b (form v) k
IsReduction costs b (fails e k) = ⊥
IsReduction costs b (deep k) = WithinBudget costs b too_large k
IsReduction costs b spent = AboveBudget costs b

abbrev pub IsTest : (TestAnswer → ℕ → Type 0) → ℕ → Answer → Type 0
IsTest costs b (ends x k) = WithinBudget costs b yes_ k
IsTest costs b (fails d k) = WithinBudget costs b (no_ d.place d.left d.right) k
IsTest costs b (deep k) = WithinBudget costs b beyond k
IsTest costs b spent = AboveBudget costs b

-- Work on a budget comes to the outcome where its cost is within the budget, and is spent exactly otherwise.
abbrev pub ReductionIsExact : Type 0
ReductionIsExact = (G : Globals) (L : Entries) (t : Named) (b : ℕ) → IsReduction (Reduces G L t) b (reduced G L b t)

abbrev pub TestsAreExact : Type 0
TestsAreExact = (G : Globals) (d : ℕ) (L : Entries) (t u : Named) (b : ℕ) → IsTest (Tests G d L t u) b (tested G d L t u b)

-- A form is convertible with its term, and terms of which the test says yes are convertible.
abbrev pub FormsAreConvertible : Type 0
FormsAreConvertible = (G : Globals) (L : Entries) (t v : Named) (n : ℕ) → Reduces G L t (form v) n → Convertible (bare_front G) (map bare_local L) (bare t) (bare v)

abbrev pub TestsAreSound : Type 0
TestsAreSound = (G : Globals) (d : ℕ) (L : Entries) (t u : Named) (n : ℕ) → Tests G d L t u yes_ n → Convertible (bare_front G) (map bare_local L) (bare t) (bare u)
