use Rattle.std.proofs.Common.{◌≡◌, ◌∙◌, ℕ, ◌<◌, nat_eq, Bool, length, get_or, sym, ap, subst, arith}
use Rattle.std.proofs.lemmas.Grind.{get_or_default_zero}
use Rattle.pts_ctx.specs.Index.{SeenIndex, last_before, is_in, bucket_of, IsChained}
use Rattle.pts_ctx.proofs.Chains.{last-inside, last-twice, last-through, in-bucket, chain-start}
use Rattle.pts_ctx.proofs.index.Index.last.Goals as goal

pub walk-requires-clause-inside : goal.walk-requires-clause-inside
walk-requires-clause-inside c =
    let S = c.args.self.now in
    let heads = c.self.inside.heads.items in
    let B = c.self.inside.before.items in
    let b = c.bucket_of-bucket.result in
    let q : ℕ → Bool = is_in S.buckets (bucket_of S.buckets c.args.hash) in
    let n = length S.hashes in
    let chained = subst (λ (s : SeenIndex). IsChained s.buckets (length s.hashes) heads s.hashes B) c.self.view_is c.self.invariant.chained in
    let len : c.len.result ≡ length heads = c.len.ensures ∙ c.self.inside.heads.ok.0 in
    let count : c.len.result ≡ S.buckets = len ∙ ap (λ s. s.buckets) c.self.view_is in
    let within : b < length heads = omega (arith, c.bucket_of-bucket.ensures.inside, len) in
    let less : b < S.buckets = omega (arith, c.bucket_of-bucket.ensures.inside, count) in
    let read : c.index.result.now ≡ get_or heads b 0 = c.index.ensures ∙ get_or_default_zero heads b c.index.result.now within in
    let at : c.index.result.now ≡ last_before q S.hashes n = chain-start S.buckets n c.args.hash b c.index.result.now heads S.hashes B chained (c.bucket_of-bucket.ensures.bucket ∙ ap (λ m. bucket_of m c.args.hash) count) less read in
    let small = last-inside q S.hashes n in
    omega (arith, at, small)

pub walk-requires-clause-bucket : goal.walk-requires-clause-bucket
walk-requires-clause-bucket c =
    let S = c.args.self.now in
    let heads = c.self.inside.heads.items in
    let B = c.self.inside.before.items in
    let b = c.bucket_of-bucket.result in
    let q : ℕ → Bool = is_in S.buckets (bucket_of S.buckets c.args.hash) in
    let n = length S.hashes in
    let chained = subst (λ (s : SeenIndex). IsChained s.buckets (length s.hashes) heads s.hashes B) c.self.view_is c.self.invariant.chained in
    let len : c.len.result ≡ length heads = c.len.ensures ∙ c.self.inside.heads.ok.0 in
    let count : c.len.result ≡ S.buckets = len ∙ ap (λ s. s.buckets) c.self.view_is in
    let within : b < length heads = omega (arith, c.bucket_of-bucket.ensures.inside, len) in
    let less : b < S.buckets = omega (arith, c.bucket_of-bucket.ensures.inside, count) in
    let read : c.index.result.now ≡ get_or heads b 0 = c.index.ensures ∙ get_or_default_zero heads b c.index.result.now within in
    let at : c.index.result.now ≡ last_before q S.hashes n = chain-start S.buckets n c.args.hash b c.index.result.now heads S.hashes B chained (c.bucket_of-bucket.ensures.bucket ∙ ap (λ m. bucket_of m c.args.hash) count) less read in
    at ∙ (last-twice q S.hashes n ∙ ap (last_before q S.hashes) (sym at))

pub returns : goal.returns
returns c =
    let S = c.args.self.now in
    let heads = c.self.inside.heads.items in
    let B = c.self.inside.before.items in
    let b = c.bucket_of-bucket.result in
    let q : ℕ → Bool = is_in S.buckets (bucket_of S.buckets c.args.hash) in
    let n = length S.hashes in
    let chained = subst (λ (s : SeenIndex). IsChained s.buckets (length s.hashes) heads s.hashes B) c.self.view_is c.self.invariant.chained in
    let len : c.len.result ≡ length heads = c.len.ensures ∙ c.self.inside.heads.ok.0 in
    let count : c.len.result ≡ S.buckets = len ∙ ap (λ s. s.buckets) c.self.view_is in
    let within : b < length heads = omega (arith, c.bucket_of-bucket.ensures.inside, len) in
    let less : b < S.buckets = omega (arith, c.bucket_of-bucket.ensures.inside, count) in
    let read : c.index.result.now ≡ get_or heads b 0 = c.index.ensures ∙ get_or_default_zero heads b c.index.result.now within in
    let at : c.index.result.now ≡ last_before q S.hashes n = chain-start S.buckets n c.args.hash b c.index.result.now heads S.hashes B chained (c.bucket_of-bucket.ensures.bucket ∙ ap (λ m. bucket_of m c.args.hash) count) less read in
    c.walk.ensures
    ∙ (ap (last_before (nat_eq c.args.hash) S.hashes) at
    ∙ last-through (nat_eq c.args.hash) q (λ g e. in-bucket S.buckets c.args.hash g e) S.hashes n)
