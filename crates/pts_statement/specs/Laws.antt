-- The law of statements.
use Rattle.std.specs.Prelude.{◌≡◌, ℕ}
use Rattle.pts_names.specs.Name.{Name}
use Rattle.pts_ctx.specs.System.{Specification}
use Rattle.pts_reduce_cost.specs.Costs.{Globals}
use Rattle.pts_statement.specs.Statements.{Statement}
use Rattle.pts_statement.specs.Declaring.{StatementOutcome, Declares}

-- There is one outcome at most, at one cost.
abbrev pub StatementsHaveOneOutcome : Type 0
StatementsHaveOneOutcome = (S : Specification) (M : Name) (G : Globals) (d : Statement) (o p : StatementOutcome) (m n : ℕ) → Declares S M G d o m → Declares S M G d p n → (o ≡ p) × (m ≡ n)
