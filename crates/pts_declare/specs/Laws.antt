-- The law of declarations.
use Rattle.std.specs.Prelude.{◌≡◌, ℕ}
use Rattle.pts_names.specs.Name.{Name}
use Rattle.pts_ctx.specs.System.{Specification}
use Rattle.pts_reduce_cost.specs.Costs.{Globals}
use Rattle.pts_declare.specs.Stated.{Stated}
use Rattle.pts_declare.specs.Checking.{DeclareOutcome, Checks}

-- There is one outcome at most, at one cost.
abbrev pub DeclarationsHaveOneOutcome : Type 0
DeclarationsHaveOneOutcome = (S : Specification) (G : Globals) (x : Name) (s : Stated) (o p : DeclareOutcome) (m n : ℕ) → Checks S G x s o m → Checks S G x s p n → (o ≡ p) × (m ≡ n)
