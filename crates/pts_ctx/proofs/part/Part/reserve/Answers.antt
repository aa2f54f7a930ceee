use Rattle.std.proofs.Common.{refl}
use Rattle.pts_ctx.proofs.Hashed.{part-same}
use Rattle.pts_ctx.proofs.part.Part.reserve.Goals as goal

pub invariant_of-self-2 : goal.invariant_of-self-2
invariant_of-self-2 c =
    part-same c.self.inside.slots.items c.self.inside.index.hashes c.self.invariant c.reserve.new.self.items c.reserve-2.new.self.hashes c.reserve.ensures.items c.reserve-2.ensures.hashes

pub invariant_of-self : goal.invariant_of-self
invariant_of-self c =
    part-same c.self.inside.slots.items c.self.inside.index.hashes c.self.invariant c.reserve.new.self.items c.self.inside.index.hashes c.reserve.ensures.items refl
