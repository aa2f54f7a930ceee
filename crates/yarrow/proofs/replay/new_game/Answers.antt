use Rattle.std.proofs.Common.{◌∙◌, ap}
use Rattle.yarrow.proofs.ReplayStart.{started}
use Rattle.yarrow.proofs.replay.new_game.Goals as goal

pub returns : goal.returns
returns c =
    let e = c.in_ok-game.ensures in
    let core = c.new-core.ensures in
    started c.args.world.now.system c.in_ok-game.game
    (ap (λ t. t.core.system) e.core ∙ (core.system ∙ c.in_ok-copy.ensures))
    (ap (λ t. t.core.history) e.core ∙ core.history)
    (e.sessions ∙ c.in_ok-sessions.ensures)
    e.lines e.orders e.clear e.bare
