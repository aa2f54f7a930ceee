use Rattle.std.proofs.Common.{◌≡◌, ◌∙◌, ◌+◌, ◌-◌, ◌<◌, ◌++◌, sym, ap, refl, length, drop, slice_get, arith}
use Rattle.std.proofs.lemmas.List.{length-append}
use Rattle.std.proofs.lemmas.Option.{slice_get_read}
use Rattle.pts_ctx.specs.Chunks.{flat}
use Rattle.pts_ctx.proofs.Flat.{flat-rest, get-left, get-right}
use Rattle.pts_ctx.proofs.chunks.entry_at.Goals as goal

pub returns-then-left-len : goal.returns-then-left-len
returns-then-left-len c =
    let lists = c.args.chunks.now in
    let i = c.loop-chunk.chunk-index in
    let xs = c.chunk-item.result in
    let left = c.loop-chunk.left in
    let at = slice_get_read lists (length lists) i xs refl c.loop-chunk-test.true c.chunk-item.is in
    let rest = flat (drop (i + 1) lists) in
    let inside : left < length xs = omega arith in
    sym c.loop-chunk.invariant.at
    ∙ (ap (λ ys. slice_get ys left) (flat-rest lists i xs at) ∙ (get-left xs rest left inside ∙ c.entry.ensures))

pub loop-chunk-preserved : goal.loop-chunk-preserved
loop-chunk-preserved c =
    let lists = c.args.chunks.now in
    let i = c.loop-chunk.chunk-index in
    let xs = c.chunk-item.result in
    let left = c.loop-chunk.left in
    let at = slice_get_read lists (length lists) i xs refl c.loop-chunk-test.true c.chunk-item.is in
    let rest = flat (drop (i + 1) lists) in
    let step : flat (drop i lists) ≡ xs ++ rest = flat-rest lists i xs at in
    let place : left ≡ length xs + (left - length xs) = omega arith in
    record {
      at =
          ap (λ n. slice_get rest (left - n)) c.len-len.ensures
          ∙ (sym (get-right xs rest (left - length xs))
          ∙ (ap (slice_get (xs ++ rest)) (sym place) ∙ (ap (λ ys. slice_get ys left) (sym step) ∙ c.loop-chunk.invariant.at)));
      inside = let more = ap length step in omega (arith, length-append xs rest);
    }
