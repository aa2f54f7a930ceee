-- What the statements of a module come to, in order and on one budget.
use Rattle.std.specs.Prelude.{ℕ, List, [], ◌∷◌, ◌++◌}
use Rattle.pts_names.specs.Name.{Name}
use Rattle.pts_ctx.specs.System.{Specification}
use Rattle.pts_ctx.specs.Front.{Global}
use Rattle.pts_reduce_cost.specs.Costs.{Globals}
use Rattle.pts_reduce_cost.specs.Laws.{WithinBudget, AboveBudget}
use Rattle.pts_infer_cost.specs.Typing.{Stop, comes, stops}
use Rattle.pts_statement.specs.Statements.{Statement}
use Rattle.pts_statement.specs.Declaring.{Reason, Declares}

-- All statements enter, and that is the front after them; or one is the first that is stopped, or for which the budget
-- is too small. It is named by the number of its line.
pub data Loaded : Type 0 where
  entered : Globals → Loaded
  stopped : (line : ℕ) → Stop Reason → Loaded
  spent : (line : ℕ) → Loaded

-- Loads S M G ds b o k: in the system S, the statements ds of the module M, each with the number of its line, come to o
-- over the front G; b units are there before them, and k are left after them. Each statement is declared over the front
-- with the entries of those before it.
pub data Loads (S : Specification) (M : Name) : Globals → List (ℕ × Statement) → ℕ → Loaded → ℕ → Type 0 where
  no_statement : {G : Globals} {b : ℕ} → Loads S M G [] b (entered G) b
  statement_enters : {G : Globals} {n b j k : ℕ} {d : Statement} {ds : List (ℕ × Statement)} {o : Loaded} (e : Global Name) → WithinBudget (Declares S M G d) b (comes e) j → Loads S M (G ++ e ∷ []) ds j o k → Loads S M G ((n, d) ∷ ds) b o k
  statement_stops : {G : Globals} {n b k : ℕ} {d : Statement} {ds : List (ℕ × Statement)} {e : Stop Reason} → WithinBudget (Declares S M G d) b (stops e) k → Loads S M G ((n, d) ∷ ds) b (stopped n e) k
  statement_is_too_dear : {G : Globals} {n b : ℕ} {d : Statement} {ds : List (ℕ × Statement)} → AboveBudget (Declares S M G d) b → Loads S M G ((n, d) ∷ ds) b (spent n) 0
