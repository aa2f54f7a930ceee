-- Reduction and the conversion test as they are done on a budget.
use Rattle.std.specs.Prelude.{ℕ, zero, suc, List, [], ◌∷◌, Bool, true, false, Option, Some, None, if◌then◌else◌}
use Rattle.pts_terms.specs.Tree.{Named, bare, same_term}
use Rattle.pts_terms.specs.Limits.{within}
use Rattle.pts_rules.specs.Step.{head_step}
use Rattle.pts_reduce_cost.specs.Run.{Run, ends, fails, deep, spent, and_then, paid, turned, checked}
use Rattle.pts_reduce_cost.specs.Costs.{Globals, Entries, Pairing, leaves, parts, pairing}

-- A head step for its unit; where there is none it costs nothing.
unfoldable pub stepped : Option Named → ℕ → Run ⊥ (Option Named)
stepped None k = ends None k
stepped (Some u) k = paid k (λ k. checked (within u) (Some u) k)

-- What follows a step: the term itself where there was none, else the next.
unfoldable pub after_step : (Named → Run ⊥ Named) → Named → Run ⊥ (Option Named) → Run ⊥ Named
after_step next t (ends None k) = ends t k
after_step next t (ends (Some u) k) = next u
after_step next t (fails e k) = fails e k
after_step next t (deep k) = deep k
after_step next t spent = spent

-- Head steps until none is left.
unfoldable pub reduced : Globals → Entries → ℕ → Named → Run ⊥ Named
reduced G L zero t = after_step (λ u. spent) t (stepped (head_step G L t) zero)
reduced G L (suc b) t = after_step (reduced G L b) t (stepped (head_step G L t) (suc b))

-- The same in work that may fail.
unfoldable pub formed : {F : Type 0} → Globals → Entries → ℕ → Named → Run F Named
formed G L k t = turned (λ e. absurd e) (reduced G L k t)

-- Two forms that differ, and the numbers of the parts that lead to them.
pub record Difference : Type 0 where
  pub place : List ℕ
  pub left : Named
  pub right : Named

-- The same seen from the whole.
abbrev pub of_part : ℕ → Difference → Difference
of_part i d = record { place = i ∷ d.place; left = d.left; right = d.right }

abbrev pub Answer : Type 0
Answer = Run Difference (Unit {0})

abbrev pub Tester : Type 0
Tester = Entries → Named → Named → ℕ → Answer

unfoldable pub agree : Bool → Named → Named → ℕ → Answer
agree true v w k = ends tt k
agree false v w k = fails (record { place = []; left = v; right = w }) k

unfoldable pub both_parts : Answer → (ℕ → Answer) → Answer
both_parts p q = and_then (turned (of_part 0) p) (λ _ k. turned (of_part 1) (q k))

unfoldable pub compared_as : Tester → Entries → Named → Named → Pairing → ℕ → Answer
compared_as test L v w (leaves same) k = agree same v w k
compared_as test L v w (parts t u M a b) k = both_parts (test L t u k) (test M a b)

-- Two forms are compared.
unfoldable pub compared : Tester → Entries → Named → Named → ℕ → Answer
compared test L v w k = compared_as test L v w (pairing L v w) k

unfoldable pub forms_tested : Tester → Globals → Entries → Named → Named → ℕ → Answer
forms_tested test G L t u k = and_then (formed G L k t) (λ v k. and_then (formed G L k u) (λ w k. compared test L v w k))

-- The test, in which tests may be nested so deep.
unfoldable pub tested : Globals → ℕ → Tester
tested G zero L t u b = paid b deep
tested G (suc d) L t u b = paid b (λ k. if same_term (bare t) (bare u) then ends tt k else forms_tested (tested G d) G L t u k)
