use Rattle.std.proofs.Common.{rules}
use Rattle.pts_lock.proofs.Moving.{splits}
use Rattle.pts_lock.proofs.turnstile.Turnstile.hand_out.Goals as goal

pub split_seat-requires : goal.split_seat-requires
split_seat-requires g c = (c.requires.own, search rules, splits g.T.Staged.history _ _ _ _ c.requires.idle.1 c.requires.idle.2)
