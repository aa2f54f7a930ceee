use Rattle.std.proofs.Common.{◌∙◌, ◌++◌, sym, ap, subst}
use Rattle.pts_ctx.specs.Index.{hashes_of}
use Rattle.pts_ctx.specs.Seen.{NamesDiffer}
use Rattle.pts_ctx.specs.Chunks.{flat}
use Rattle.pts_ctx.proofs.Lookups.{differ-right}
use Rattle.pts_ctx.proofs.context.Context.copy.Goals as goal

pub add-requires-clause-differ : goal.add-requires-clause-differ
add-requires-clause-differ c =
    let differ = differ-right (flat c.self.inside.chunks.items) c.self.inside.last.entries c.self.invariant.1.names in
    subst NamesDiffer (λ j. sym c.new-last.ensures j ++ sym c.slots.ensures j) differ

pub add-requires-clause-hashes : goal.add-requires-clause-hashes
add-requires-clause-hashes c = c.hashes.ensures ∙ ap hashes_of (sym c.slots.ensures)
