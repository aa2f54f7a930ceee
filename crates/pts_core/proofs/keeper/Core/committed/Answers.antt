use Rattle.std.proofs.Common.{◌++◌, length, ap, ◌∙◌}
use Rattle.pts_check.specs.Entered.{declared_entries}
use Rattle.pts_core.specs.Histories.{after, marks}
use Rattle.pts_core.specs.Cores.{front_of, labelled, submitted}
use Rattle.pts_core.specs.Ports.{handed_on}
use Rattle.pts_core.proofs.Entered.{free_hands_on}
use Rattle.pts_core.proofs.keeper.Core.committed.Goals as goal

pub returns : goal.returns
returns c =
    let x = c.args.examined.now in
    let F = labelled c.self.inside.context in
    let front = c.in_ok-front in
    let entered = c.in_ok-enter_copies.ensures in
    free_hands_on 0 F (labelled c.enter_copies.new.context) x (c.first_obstacle.ensures.free c.in_default.is)
    (entered.entries ∙ ap (λ G. G ++ declared_entries x.offer.declarations) front.ensures.entries)
    (entered.labels ∙ (ap (λ L. L ++ marks x.offer.label (length front.front.entries)) front.ensures.labels ∙ ap (λ G. F.labels ++ marks x.offer.label (length G)) front.ensures.entries))
    ∙ ap (λ w. handed_on (submitted 0 x (front_of w)).reply (after (front_of w) (submitted 0 x (front_of w)))) c.self.view_is
