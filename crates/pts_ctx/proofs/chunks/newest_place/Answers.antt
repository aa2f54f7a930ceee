use Rattle.std.proofs.Common.{◌≡◌, ◌∙◌, ◌+◌, ◌-◌, ◌<◌, sym, ap, refl, length, take, drop, Some, arith}
use Rattle.std.proofs.lemmas.Option.{slice_get_read}
use Rattle.pts_ctx.specs.Chunks.{flat}
use Rattle.pts_ctx.specs.Seen.{place_of}
use Rattle.pts_ctx.proofs.Flat.{length-next}
use Rattle.pts_ctx.proofs.Newest.{newest-here, newest-before}
use Rattle.pts_ctx.proofs.chunks.newest_place.Goals as goal

pub overflow_sub-start : goal.overflow_sub-start
overflow_sub-start c =
    let lists = c.args.chunks.now in
    let i = c.loop-before.before - 1 in
    let G = c.index-chunks-before.result in
    let inside : i < length lists = omega arith in
    let at = slice_get_read lists (length lists) i G refl inside c.index-chunks-before.is in
    let same : c.loop-before.before ≡ i + 1 = omega arith in
    let longer = ap (λ n. length (flat (take n lists))) same ∙ length-next lists i G at in
    omega (arith, longer)

pub returns-in-Some : goal.returns-in-Some
returns-in-Some c =
    let lists = c.args.chunks.now in
    let x = c.args.name.now in
    let i = c.loop-before.before - 1 in
    let G = c.index-chunks-before.result in
    let inside : i < length lists = omega arith in
    let at = slice_get_read lists (length lists) i G refl inside c.index-chunks-before.is in
    let same : c.loop-before.before ≡ i + 1 = omega arith in
    let longer = ap (λ n. length (flat (take n lists))) same ∙ length-next lists i G at in
    let none = ap (λ n. place_of x (flat (drop n lists))) (sym same) ∙ c.loop-before.invariant.behind in
    let sum : c.loop-before.start - c.len-start.result + c.in-Some.place ≡ length (flat (take i lists)) + c.in-Some.place = omega (arith, longer) in
    ap Some sum ∙ sym (newest-here x lists i G at none c.in-Some.place c.requires.differ (sym c.place_of.ensures ∙ c.in-Some.is))

pub loop-before-preserved : goal.loop-before-preserved
loop-before-preserved c =
    let lists = c.args.chunks.now in
    let x = c.args.name.now in
    let i = c.loop-before.before - 1 in
    let G = c.index-chunks-before.result in
    let inside : i < length lists = omega arith in
    let at = slice_get_read lists (length lists) i G refl inside c.index-chunks-before.is in
    let same : c.loop-before.before ≡ i + 1 = omega arith in
    let longer = ap (λ n. length (flat (take n lists))) same ∙ length-next lists i G at in
    let none = ap (λ n. place_of x (flat (drop n lists))) (sym same) ∙ c.loop-before.invariant.behind in
    record {
      bound = omega arith;
      start = omega (arith, longer);
      behind = newest-before x lists i G at none (sym c.place_of.ensures ∙ c.in_default.is);
    }
