use Rattle.std.proofs.Common.{◌≡◌, ◌∙◌, suc, ◌-◌, ◌<◌, length, get_or, vec_len, ap, refl, arith}
use Rattle.pts_ctx.specs.Index.{bucket_of}
use Rattle.pts_ctx.proofs.Chains.{unchained-at}
use Rattle.pts_ctx.proofs.index.unchain_from.Goals as goal

pub loop-place-preserved : goal.loop-place-preserved
loop-place-preserved c =
    let m = vec_len c.args.heads.now in
    let heads = c.loop-place.heads.items in
    let Hs = c.args.hashes.now in
    let B = c.args.before.now in
    let place = c.loop-place.place in
    let k = place - 1 in
    let b = c.bucket_of-bucket.result in
    let count : c.len.result ≡ m = c.len.ensures ∙ c.loop-place.invariant.heads in
    let same : b ≡ bucket_of m (get_or Hs k 0) = c.bucket_of-bucket.ensures.bucket ∙ ap (λ n. bucket_of n (get_or Hs k 0)) count in
    let len : c.len.result ≡ length heads = c.len.ensures ∙ c.loop-place.heads.ok.0 in
    let within : b < length heads = omega (arith, c.bucket_of-bucket.ensures.inside, len) in
    let here : place ≡ suc k = omega (arith, c.loop-place-test.true) in
    record {
      inside = omega (arith, c.loop-place.invariant.inside);
      kept = omega (arith, c.loop-place.invariant.kept, c.loop-place-test.true, here);
      chained = unchained-at m k heads Hs B b same place (get_or B k 0) c.loop-place.invariant.chained here refl within;
      heads = c.loop-place.invariant.heads;
    }
