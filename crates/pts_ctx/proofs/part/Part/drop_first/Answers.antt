use Rattle.std.proofs.Common.{◌≡◌, ◌∙◌, ◌≤◌, sym, ap, subst, length, drop, arith}
use Rattle.pts_ctx.specs.Index.{hash_of}
use Rattle.pts_ctx.specs.Chunks.{SeenPart}
use Rattle.std.proofs.lemmas.List.{length-map}
use Rattle.pts_ctx.proofs.Hashed.{part-rest, part-same}
use Rattle.pts_ctx.proofs.part.Part.drop_first.Goals as goal

pub drop_first-requires : goal.drop_first-requires
drop_first-requires c =
    let G = c.self.inside.slots.items in
    let n = c.args.entries in
    let inside : n ≤ length G = subst (λ (s : SeenPart). n ≤ length s.entries) (sym c.self.view_is) c.requires in
    let count : length c.self.inside.index.hashes ≡ length G = ap length c.self.invariant.hashed ∙ length-map G (λ d. hash_of d.name) in
    omega (arith, count, inside)

pub invariant_of-self : goal.invariant_of-self
invariant_of-self c =
    let n = c.args.entries in
    let G = c.self.inside.slots.items in
    let hashes = c.self.inside.index.hashes in
    part-same (drop n G) (drop n hashes) (part-rest G hashes c.self.invariant n) _ c.drop_first.new.self.hashes (c.drop-drain.ensures.items ∙ c.drain.ensures.kept) c.drop_first.ensures.hashes
