use Rattle.std.proofs.Common.{rules}
use Rattle.pts_lock.proofs.Moving.{joins}
use Rattle.pts_lock.proofs.turnstile.Turnstile.gather.Goals as goal

pub join_seat-requires : goal.join_seat-requires
join_seat-requires g c =
    (c.requires.own.0, c.requires.own.1, c.requires.other_idle.0, search rules, joins g.T.Staged.history _ _ _ _ _ _ c.requires.idle.1 c.requires.idle.2 c.requires.other_idle.1 c.requires.other_idle.2)
