use Rattle.std.proofs.Common.{rules}
use Rattle.pts_lock.proofs.Ends.{opens}
use Rattle.pts_lock.proofs.turnstile.Turnstile.open.Goals as goal

pub new-requires : goal.new-requires
new-requires g c =
    rw (c.in_ok-push.ensures.items, c.new-slots.ensures.items, c.of.ensures, c.in_ok-from_slice.ensures.items)
    (opens g.T.Staged.history c.args.owners.now c.args.value c.stage-length.result c.stage-length.ensures (search rules) c.requires.differ c.requires.few)
