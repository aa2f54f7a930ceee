use Rattle.std.proofs.Common.{◌∙◌, ◌≤◌, [], ◌∷◌, ◌++◌, length, vec_len, arith}
use Rattle.pts_ctx.proofs.Chains.{chained-more, chained-as}
use Rattle.pts_ctx.proofs.index.Index.push.Goals as goal

pub chain-requires-clause-chained : goal.chain-requires-clause-chained
chain-requires-clause-chained c =
    let heads = c.self.inside.heads.items in
    let Hs = c.self.inside.hashes.items in
    let B = c.self.inside.before.items in
    let sure = c.self.invariant in
    let within : length Hs ≤ length B = let paired = sure.paired in omega (arith, paired) in
    let longer = chained-more (length heads) (length Hs) heads Hs B sure.chained (c.args.hash ∷ []) (0 ∷ []) (omega arith) within in
    chained-as (length heads) (vec_len c.self.inside.heads) (length Hs) c.len-place.result heads (Hs ++ c.args.hash ∷ []) c.deref.result.now (B ++ 0 ∷ []) c.push_reserved-2.new.self.items longer
    c.self.inside.heads.ok.0 (c.len-place.ensures ∙ c.self.inside.hashes.ok.0) (c.deref.ensures.value ∙ c.push_reserved.ensures.items) c.push_reserved-2.ensures.items
