use Rattle.std.proofs.Common.{◌≡◌, ◌∙◌, ◌+◌, ◌-◌, ◌<◌, ◌≤◌, ◌++◌, sym, ap, refl, length, take, arith}
use Rattle.std.proofs.lemmas.List.{length-append}
use Rattle.std.proofs.lemmas.Option.{slice_get_read}
use Rattle.pts_ctx.specs.Chunks.{flat}
use Rattle.pts_ctx.proofs.Find.{some_same}
use Rattle.pts_ctx.proofs.Flat.{flat-some, flat-last, flat-set-last, cut-inside, cut-past}
use Rattle.pts_ctx.proofs.chunks.cut.Goals as goal

pub returns-then-left-len : goal.returns-then-left-len
returns-then-left-len c =
    let lists = c.loop-left.chunks.items in
    let left = c.loop-left.left in
    let n = c.len-last.result - 1 in
    let xs = c.index_mut.result.now in
    let some : 0 < length lists = flat-some lists (omega arith) in
    let last : n + 1 ≡ length lists = omega arith in
    let inside : n < length lists = omega arith in
    let at = slice_get_read lists (length lists) n xs refl inside c.index_mut.ensures.value in
    let first = slice_get_read lists (length lists) n c.index.result.now refl inside c.index.ensures in
    let same : c.index.result.now ≡ xs = some_same (sym first ∙ at) in
    let len : c.len-len.result ≡ length xs = c.len-len.ensures ∙ ap length same in
    let B = flat (take n lists) in
    let less : left ≤ length xs = omega (arith, len, c.if-left-len.true) in
    flat-set-last lists n c.truncate.new.self last
    ∙ (ap (λ ys. B ++ ys) (c.truncate.ensures ∙ ap (λ k. take (k - left) xs) len)
    ∙ (sym (cut-inside B xs left less)
    ∙ (ap (λ ys. take (length ys - left) ys) (sym (flat-last lists n xs last at)) ∙ c.loop-left.invariant.same)))

pub loop-left-preserved : goal.loop-left-preserved
loop-left-preserved c =
    let lists = c.loop-left.chunks.items in
    let left = c.loop-left.left in
    let n = c.len-last.result - 1 in
    let xs = c.index.result.now in
    let some : 0 < length lists = flat-some lists (omega arith) in
    let last : n + 1 ≡ length lists = omega arith in
    let inside : n < length lists = omega arith in
    let at = slice_get_read lists (length lists) n xs refl inside c.index.ensures in
    let B = flat (take n lists) in
    let whole : flat lists ≡ B ++ xs = flat-last lists n xs last at in
    let sum : length (flat lists) ≡ length B + length xs = ap length whole ∙ length-append B xs in
    let more : length xs ≤ left = omega (arith, c.len-len.ensures, c.if-left-len.false) in
    let kept = c.truncate-in-loop-left.ensures.items in
    let fewer : length (flat c.truncate-in-loop-left.new.self.items) ≡ length B = ap (λ ys. length (flat ys)) kept in
    record {
      inside = omega (arith, sum, fewer, c.len-len.ensures);
      same =
          ap (λ ys. take (length (flat ys) - (left - c.len-len.result)) (flat ys)) kept
          ∙ (ap (λ k. take (length B - (left - k)) B) c.len-len.ensures
          ∙ (sym (cut-past B xs left more)
          ∙ (ap (λ ys. take (length ys - left) ys) (sym whole) ∙ c.loop-left.invariant.same)));
    }
