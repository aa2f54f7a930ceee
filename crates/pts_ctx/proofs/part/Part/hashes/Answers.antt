use Rattle.std.proofs.Common.{◌∙◌, ap}
use Rattle.pts_ctx.specs.Index.{hashes_of}
use Rattle.pts_ctx.proofs.part.Part.hashes.Goals as goal

pub returns : goal.returns
returns c = c.hashes.ensures ∙ (c.self.invariant.hashed ∙ ap (λ s. hashes_of s.entries) c.self.view_is)
