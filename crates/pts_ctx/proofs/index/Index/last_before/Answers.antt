use Rattle.std.proofs.Common.{◌≡◌, ◌∙◌, ℕ, ◌<◌, nat_eq, Bool, length, get_or, sym, ap, subst, arith}
use Rattle.std.proofs.lemmas.Grind.{get_or_default_zero}
use Rattle.pts_ctx.specs.Index.{SeenIndex, last_before, is_in, bucket_of, IsChained}
use Rattle.pts_ctx.proofs.Chains.{last-inside, last-twice, last-through, in-bucket}
use Rattle.pts_ctx.proofs.index.Index.last_before.Goals as goal

pub walk-requires-clause-inside : goal.walk-requires-clause-inside
walk-requires-clause-inside c =
    let S = c.args.self.now in
    let heads = c.self.inside.heads.items in
    let Hs = c.self.inside.hashes.items in
    let B = c.self.inside.before.items in
    let k = c.args.place in
    let h = c.index-2.result.now in
    let q : ℕ → Bool = is_in S.buckets (bucket_of S.buckets h) in
    let chained = subst (λ (s : SeenIndex). IsChained s.buckets (length s.hashes) heads s.hashes B) c.self.view_is c.self.invariant.chained in
    let same : length Hs ≡ length S.hashes = ap (λ s. length s.hashes) c.self.view_is in
    let inside : k < length S.hashes = c.requires in
    let among : k < length Hs = omega (arith, inside, same) in
    let within : k < length B = omega (arith, among, c.self.invariant.paired) in
    let read : c.index.result.now ≡ get_or B k 0 = c.index.ensures ∙ get_or_default_zero B k c.index.result.now within in
    let hash : h ≡ get_or S.hashes k 0 = c.index-2.ensures ∙ (get_or_default_zero Hs k h among ∙ ap (λ s. get_or s.hashes k 0) c.self.view_is) in
    let at : c.index.result.now ≡ last_before q S.hashes k = read ∙ (chained.earlier k inside ∙ ap (λ g. last_before (is_in S.buckets (bucket_of S.buckets g)) S.hashes k) (sym hash)) in
    let small = last-inside q S.hashes k in
    omega (arith, at, small, inside)

pub walk-requires-clause-bucket : goal.walk-requires-clause-bucket
walk-requires-clause-bucket c =
    let S = c.args.self.now in
    let heads = c.self.inside.heads.items in
    let Hs = c.self.inside.hashes.items in
    let B = c.self.inside.before.items in
    let k = c.args.place in
    let h = c.index-2.result.now in
    let q : ℕ → Bool = is_in S.buckets (bucket_of S.buckets h) in
    let chained = subst (λ (s : SeenIndex). IsChained s.buckets (length s.hashes) heads s.hashes B) c.self.view_is c.self.invariant.chained in
    let same : length Hs ≡ length S.hashes = ap (λ s. length s.hashes) c.self.view_is in
    let inside : k < length S.hashes = c.requires in
    let among : k < length Hs = omega (arith, inside, same) in
    let within : k < length B = omega (arith, among, c.self.invariant.paired) in
    let read : c.index.result.now ≡ get_or B k 0 = c.index.ensures ∙ get_or_default_zero B k c.index.result.now within in
    let hash : h ≡ get_or S.hashes k 0 = c.index-2.ensures ∙ (get_or_default_zero Hs k h among ∙ ap (λ s. get_or s.hashes k 0) c.self.view_is) in
    let at : c.index.result.now ≡ last_before q S.hashes k = read ∙ (chained.earlier k inside ∙ ap (λ g. last_before (is_in S.buckets (bucket_of S.buckets g)) S.hashes k) (sym hash)) in
    at ∙ (last-twice q S.hashes k ∙ ap (last_before q S.hashes) (sym at))

pub returns : goal.returns
returns c =
    let S = c.args.self.now in
    let heads = c.self.inside.heads.items in
    let Hs = c.self.inside.hashes.items in
    let B = c.self.inside.before.items in
    let k = c.args.place in
    let h = c.index-2.result.now in
    let q : ℕ → Bool = is_in S.buckets (bucket_of S.buckets h) in
    let chained = subst (λ (s : SeenIndex). IsChained s.buckets (length s.hashes) heads s.hashes B) c.self.view_is c.self.invariant.chained in
    let same : length Hs ≡ length S.hashes = ap (λ s. length s.hashes) c.self.view_is in
    let inside : k < length S.hashes = c.requires in
    let among : k < length Hs = omega (arith, inside, same) in
    let within : k < length B = omega (arith, among, c.self.invariant.paired) in
    let read : c.index.result.now ≡ get_or B k 0 = c.index.ensures ∙ get_or_default_zero B k c.index.result.now within in
    let hash : h ≡ get_or S.hashes k 0 = c.index-2.ensures ∙ (get_or_default_zero Hs k h among ∙ ap (λ s. get_or s.hashes k 0) c.self.view_is) in
    let at : c.index.result.now ≡ last_before q S.hashes k = read ∙ (chained.earlier k inside ∙ ap (λ g. last_before (is_in S.buckets (bucket_of S.buckets g)) S.hashes k) (sym hash)) in
    c.walk.ensures
    ∙ (ap (last_before (nat_eq h) S.hashes) at
    ∙ (last-through (nat_eq h) q (λ g e. in-bucket S.buckets h g e) S.hashes k ∙ ap (λ g. last_before (nat_eq g) S.hashes k) hash))
