-- Work on a budget, and how pieces of work are put together.
use Rattle.std.specs.Prelude.{ℕ, zero, suc, Bool, true, false}

-- Work ends with a value, or fails with a fault, or goes beyond the limits, each with the units that are then left; or
-- the budget is spent.
pub data Run (F A : Type 0) : Type 0 where
  ends : A → ℕ → Run F A
  fails : F → ℕ → Run F A
  deep : ℕ → Run F A
  spent : Run F A

-- What follows a value.
unfoldable pub and_then : {F A B : Type 0} → Run F A → (A → ℕ → Run F B) → Run F B
and_then (ends x k) next = next x k
and_then (fails f k) next = fails f k
and_then (deep k) next = deep k
and_then spent next = spent

-- One unit is paid first.
unfoldable pub paid : {F A : Type 0} → ℕ → (ℕ → Run F A) → Run F A
paid zero next = spent
paid (suc k) next = next k

-- Each fault is turned into another.
unfoldable pub turned : {E F A : Type 0} → (E → F) → Run E A → Run F A
turned f (ends x k) = ends x k
turned f (fails e k) = fails (f e) k
turned f (deep k) = deep k
turned f spent = spent

-- The value, if it is within limits.
unfoldable pub checked : {F A : Type 0} → Bool → A → ℕ → Run F A
checked true x k = ends x k
checked false x k = deep k
