use Rattle.std.proofs.Common.{take}
use Rattle.pts_ctx.proofs.Hashed.{part-first, part-same}
use Rattle.pts_ctx.proofs.part.Part.truncate.Goals as goal

pub invariant_of-self : goal.invariant_of-self
invariant_of-self c =
    let n = c.args.entries in
    let G = c.self.inside.slots.items in
    let hashes = c.self.inside.index.hashes in
    part-same (take n G) (take n hashes) (part-first G hashes c.self.invariant n) c.truncate-2.new.self.items c.truncate.new.self.hashes c.truncate-2.ensures.items c.truncate.ensures.hashes
