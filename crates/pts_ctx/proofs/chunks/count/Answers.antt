use Rattle.std.proofs.Common.{refl, length, arith}
use Rattle.std.proofs.lemmas.Option.{slice_get_read}
use Rattle.pts_ctx.proofs.Flat.{length-next}
use Rattle.pts_ctx.proofs.chunks.count.Goals as goal

pub loop-chunk-preserved : goal.loop-chunk-preserved
loop-chunk-preserved c =
    let lists = c.args.chunks.now in
    let i = c.loop-chunk.chunk-index in
    let G = c.chunk-item.result in
    let at = slice_get_read lists (length lists) i G refl c.loop-chunk-test.true c.chunk-item.is in
    let longer = length-next lists i G at in
    omega (arith, c.saturating_add-entries.ensures, c.len.ensures, c.loop-chunk.invariant, longer)
