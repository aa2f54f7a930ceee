use Rattle.std.proofs.Common.{◌≡◌, ◌∙◌, ℕ, suc, ◌-◌, ◌<◌, nat_eq, Bool, false, length, get_or, sym, ap, subst, arith}
use Rattle.std.proofs.lemmas.Grind.{get_or_default_zero}
use Rattle.pts_ctx.specs.Index.{SeenIndex, last_before, is_in, bucket_of, IsChained}
use Rattle.pts_ctx.proofs.Chains.{last-inside, last-twice, walk-on, walk-keeps}
use Rattle.pts_ctx.proofs.index.Index.walk.Goals as goal

pub loop-at-smaller : goal.loop-at-smaller
loop-at-smaller c =
    let S = c.args.self.now in
    let heads = c.self.inside.heads.items in
    let B = c.self.inside.before.items in
    let at = c.loop-at.at in
    let k = at - 1 in
    let q : ℕ → Bool = is_in S.buckets (bucket_of S.buckets c.args.hash) in
    let here : at ≡ suc k = omega (arith, c.loop-at-test.true) in
    let chained = subst (λ (s : SeenIndex). IsChained s.buckets (length s.hashes) heads s.hashes B) c.self.view_is c.self.invariant.chained in
    let same : length c.self.inside.hashes.items ≡ length S.hashes = ap (λ s. length s.hashes) c.self.view_is in
    let inside : k < length S.hashes = omega (arith, here, c.loop-at.invariant.inside) in
    let within : k < length B = omega (arith, inside, c.self.invariant.paired, same) in
    let read : c.index-in-loop-at.result.now ≡ get_or B k 0 = c.index-in-loop-at.ensures ∙ get_or_default_zero B k c.index-in-loop-at.result.now within in
    let next : c.index-in-loop-at.result.now ≡ last_before q S.hashes k = read ∙ walk-on S.buckets (length S.hashes) heads S.hashes B chained c.args.hash at k here inside c.loop-at.invariant.chain in
    let small = last-inside q S.hashes k in
    omega (arith, next, small, here)

pub loop-at-preserved : goal.loop-at-preserved
loop-at-preserved c =
    let S = c.args.self.now in
    let heads = c.self.inside.heads.items in
    let Hs = c.self.inside.hashes.items in
    let B = c.self.inside.before.items in
    let at = c.loop-at.at in
    let k = at - 1 in
    let q : ℕ → Bool = is_in S.buckets (bucket_of S.buckets c.args.hash) in
    let here : at ≡ suc k = omega (arith, c.loop-at-test.true) in
    let chained = subst (λ (s : SeenIndex). IsChained s.buckets (length s.hashes) heads s.hashes B) c.self.view_is c.self.invariant.chained in
    let same : length Hs ≡ length S.hashes = ap (λ s. length s.hashes) c.self.view_is in
    let inside : k < length S.hashes = omega (arith, here, c.loop-at.invariant.inside) in
    let among : k < length Hs = omega (arith, inside, same) in
    let within : k < length B = omega (arith, among, c.self.invariant.paired) in
    let read : c.index-in-loop-at.result.now ≡ get_or B k 0 = c.index-in-loop-at.ensures ∙ get_or_default_zero B k c.index-in-loop-at.result.now within in
    let next : c.index-in-loop-at.result.now ≡ last_before q S.hashes k = read ∙ walk-on S.buckets (length S.hashes) heads S.hashes B chained c.args.hash at k here inside c.loop-at.invariant.chain in
    let small = last-inside q S.hashes k in
    let hash : c.index.result.now ≡ get_or S.hashes k 0 = c.index.ensures ∙ (get_or_default_zero Hs k c.index.result.now among ∙ ap (λ s. get_or s.hashes k 0) c.self.view_is) in
    let differs : nat_eq c.args.hash c.index.result.now ≡ false = grind (arith, c.if-index-hash.true) in
    let other : nat_eq c.args.hash (get_or S.hashes k 0) ≡ false = ap (nat_eq c.args.hash) (sym hash) ∙ differs in
    record {
      inside = omega (arith, next, small, inside);
      chain = next ∙ (last-twice q S.hashes k ∙ ap (last_before q S.hashes) (sym next));
      same = walk-keeps S.buckets c.args.hash S.hashes at k c.index-in-loop-at.result.now here other next ∙ c.loop-at.invariant.same;
    }
