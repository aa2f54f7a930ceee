use Rattle.pts_check.specs.Entered.{declared_entries}
use Rattle.pts_core.specs.Obstacles.{NoClashBefore}
use Rattle.pts_core.proofs.obstacle.first_clash.Given as goal

abbrev pub invariant-loop-number : goal.invariant-loop-number
invariant-loop-number l =
    record {
      in_offer : NoClashBefore l.number l.examined.offer.front.entries (declared_entries l.examined.offer.declarations);
      in_context : NoClashBefore l.number l.context.entries (declared_entries l.examined.offer.declarations);
    }
