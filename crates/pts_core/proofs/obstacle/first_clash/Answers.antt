use Rattle.std.proofs.Common.{ap}
use Rattle.std.proofs.lemmas.List.{append-nil}
use Rattle.pts_check.specs.Entered.{declared_entries}
use Rattle.pts_core.specs.Replies.{clash_from, first_clash}
use Rattle.pts_core.proofs.obstacle.first_clash.Goals as goal

pub loop-number-init : goal.loop-number-init
unfolding first_clash
loop-number-init c =
    let es = declared_entries c.args.examined.now.offer.declarations in
    record {
      in_offer = ap (λ G. clash_from G 0 es) (append-nil c.args.examined.now.offer.front.entries);
      in_context = ap (λ G. clash_from G 0 es) (append-nil c.args.context.now.entries);
    }
