use Rattle.std.proofs.Common.{◌∙◌, ℕ, List, length, vec_len, sym, subst}
use Rattle.pts_ctx.specs.Index.{IsChained}
use Rattle.std.proofs.Common.{min}
use Rattle.pts_ctx.proofs.Chains.{index-first}
use Rattle.pts_ctx.proofs.index.Index.truncate.Goals as goal

pub invariant_of-self : goal.invariant_of-self
invariant_of-self c =
    let k = c.args.hashes in
    let heads = c.self.inside.heads.items in
    let left = c.unchain_from.new.heads in
    let Hs = c.self.inside.hashes.items in
    let B = c.self.inside.before.items in
    let m = vec_len c.self.inside.heads in
    let chained =
    subst (λ (bs : List ℕ). IsChained m (min k (length Hs)) left.items Hs bs) c.deref-2.ensures.value
    (subst (λ (hs : List ℕ). IsChained m (min k (length hs)) left.items hs c.deref-2.result.now) c.deref.ensures.value c.unchain_from.ensures.chained) in
    index-first k m heads left.items Hs c.truncate.new.self.items B c.truncate-2.new.self.items c.self.invariant chained c.self.inside.heads.ok.0
    (sym left.ok.0 ∙ (c.unchain_from.ensures.heads ∙ c.self.inside.heads.ok.0)) c.truncate.ensures.items c.truncate-2.ensures.items
