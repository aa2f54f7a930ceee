use Rattle.std.proofs.Common.{◌∙◌, ap, take}
use Rattle.std.proofs.lemmas.List.{take-map}
use Rattle.std.specs.Arc.{arc_value}
use Rattle.pts_ctx.specs.Index.{hash_of, hashes_of}
use Rattle.pts_ctx.proofs.chunk.Chunk.hashes.Goals as goal

pub returns : goal.returns
returns c =
    let used = c.self.inside.used in
    let G = (arc_value c.self.inside.part).entries in
    c.split_at.ensures.front
    ∙ (ap (take used) (c.hashes.ensures ∙ ap (λ p. hashes_of p.entries) c.deref.ensures)
    ∙ (take-map (λ d. hash_of d.name) used G ∙ ap hashes_of c.self.view_is))
