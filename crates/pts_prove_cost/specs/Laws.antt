-- The laws of the proof commands.
use Rattle.pts_names.specs.Name.{Name}
use Rattle.pts_terms.specs.Tree.{Named}
use Rattle.pts_ctx.specs.System.{Specification}
use Rattle.pts_reduce_cost.specs.Costs.{Globals}
use Rattle.pts_infer_cost.specs.Laws.{HasOneOutcome}
use Rattle.pts_prove_cost.specs.Refinement.{Sequent}
use Rattle.pts_prove_cost.specs.Commands.{intros, exacts, applies, cuts, unfolds, converts}

-- A command comes to one outcome at most for a goal, at one cost.
abbrev pub CommandsHaveOneOutcome : Type 0
CommandsHaveOneOutcome =
    (S : Specification) (G : Globals) (g : Sequent)
    → ((x : Name) → HasOneOutcome (intros S G g x))
    × ((t : Named) → HasOneOutcome (exacts S G g t))
    × ((t : Named) → HasOneOutcome (applies S G g t))
    × ((x : Name) (T : Named) → HasOneOutcome (cuts S G g x T))
    × ((c : Name) → HasOneOutcome (unfolds S G g c))
    × ((t : Named) → HasOneOutcome (converts S G g t))
