-- A pass that was lent to a port.
use Rattle.std.proofs.Common.{◌≡◌, subst}
use Rattle.atomic_table.specs.Seated.{TableId}
use Rattle.pts_ctx.specs.System.{Specification}
use Rattle.pts_share.specs.Passes.{IsPassOf, Pass}

pub pass_again : (t u : TableId) (S T : Specification) (p : Pass) → u ≡ t → T ≡ S → IsPassOf u T p → IsPassOf t S p
pass_again t u S T p table system is = subst (λ V. IsPassOf t V p) system (subst (λ v. IsPassOf v T p) table is)
