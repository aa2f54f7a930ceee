-- How pieces of work are put together. A piece is a relation of what it comes to and what that costs.
use Rattle.std.specs.Prelude.{ℕ, suc, ◌+◌}
use Rattle.pts_infer_cost.specs.Typing.{Stop, moved, Outcome, comes, stops}

-- One piece, and then the piece that its value leads to. Where the first one stops, so does the whole.
pub data After {F A B : Type 0} (R : Outcome F A → ℕ → Type 0) (Q : A → Outcome F B → ℕ → Type 0) : Outcome F B → ℕ → Type 0 where
  first_stops : {e : Stop F} {n : ℕ} → R (stops e) n → After R Q (stops e) n
  goes_on : {x : A} {o : Outcome F B} {m n : ℕ} → R (comes x) m → Q x o n → After R Q o (m + n)

-- The same piece, in which each flaw becomes another.
pub data Turned {E F A : Type 0} (g : E → F) (R : Outcome E A → ℕ → Type 0) : Outcome F A → ℕ → Type 0 where
  comes_too : {x : A} {n : ℕ} → R (comes x) n → Turned g R (comes x) n
  stops_too : {e : Stop E} {n : ℕ} → R (stops e) n → Turned g R (stops (moved g e)) n

-- This outcome, at no cost.
pub data Free {F A : Type 0} (o : Outcome F A) : Outcome F A → ℕ → Type 0 where
  at_once : Free o o 0

-- One unit, and then the piece.
pub data Paid {F A : Type 0} (R : Outcome F A → ℕ → Type 0) : Outcome F A → ℕ → Type 0 where
  unit_first : {o : Outcome F A} {n : ℕ} → R o n → Paid R o (suc n)
