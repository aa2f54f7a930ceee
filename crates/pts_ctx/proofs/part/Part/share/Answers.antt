use Rattle.std.proofs.Common.{refl}
use Rattle.pts_ctx.proofs.Hashed.{part-same}
use Rattle.pts_ctx.proofs.part.Part.share.Goals as goal

pub invariant_of-self : goal.invariant_of-self
invariant_of-self c =
    part-same c.self.inside.slots.items c.self.inside.index.hashes c.self.invariant c.share_last.new.slots.items c.self.inside.index.hashes c.share_last.ensures.items refl
