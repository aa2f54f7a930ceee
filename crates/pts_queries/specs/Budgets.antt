-- What work comes to on a budget. Budgets are read here and nowhere else.
use Rattle.std.specs.Prelude.{ℕ}
use Rattle.pts_reduce_cost.specs.Laws.{WithinBudget, AboveBudget}

-- An outcome; or none, since none costs at most the budget.
pub data Worked (O : Type 0) : Type 0 where
  came_to : (o : O) → Worked O
  above : Worked O

-- Works costs b w: what has these outcomes at these costs comes to w on b units.
pub data Works {O : Type 0} (costs : O → ℕ → Type 0) (b : ℕ) : Worked O → Type 0 where
  is_within : {o : O} (left : ℕ) → WithinBudget costs b o left → Works costs b (came_to o)
  is_above : AboveBudget costs b → Works costs b above
