use Rattle.std.proofs.Common.{sym, subst, [], ◌∷◌, ◌++◌}
use Rattle.pts_ctx.specs.Front.{Fresh}
use Rattle.pts_ctx.specs.Chunks.{SeenPart}
use Rattle.pts_ctx.proofs.Hashed.{part-push, part-same}
use Rattle.pts_ctx.proofs.part.Part.push.Goals as goal

pub invariant_of-self : goal.invariant_of-self
invariant_of-self c =
    let e = c.args.slot in
    let G = c.self.inside.slots.items in
    let hashes = c.self.inside.index.hashes in
    let fresh = subst (λ (s : SeenPart). Fresh e.name s.entries) (sym c.self.view_is) c.requires.fresh in
    part-same (G ++ e ∷ []) (hashes ++ c.args.hash ∷ []) (part-push G hashes c.self.invariant e c.args.hash c.requires.hash fresh) c.push_reserved.new.self.items c.push.new.self.hashes
    c.push_reserved.ensures.items c.push.ensures.hashes
