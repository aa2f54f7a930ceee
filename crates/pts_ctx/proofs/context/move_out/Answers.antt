use Rattle.std.proofs.Common.{◌≡◌, ◌∙◌, ◌-◌, ◌%◌, ◌≤◌, sym, ap, subst, [], ◌∷◌, ◌++◌, length, take, drop, arith}
use Rattle.std.proofs.lemmas.List.{take-map}
use Rattle.pts_ctx.specs.Index.{hash_of, hashes_of}
use Rattle.pts_ctx.specs.Seen.{NamesDiffer}
use Rattle.pts_ctx.specs.Chunks.{flat}
use Rattle.pts_ctx.proofs.Flat.{flat-parted, flat-moved, length-moved}
use Rattle.pts_ctx.proofs.Lookups.{differ-left, differ-right}
use Rattle.pts_ctx.proofs.context.move_out.Goals as goal

pub join-requires-clause-differ : goal.join-requires-clause-differ
join-requires-clause-differ c =
    let lists = c.args.chunks.now.items in
    let L = c.args.last.now.entries in
    let from = c.join_from-from.result in
    let n = c.len.result - c.len-2.result % 64 - 64 in
    let joined : c.split_at.result.1.now ≡ drop from lists = c.split_at.ensures.back ∙ ap (drop from) (c.deref-2.ensures.value ∙ c.reserve.ensures.items) in
    let oldest : c.split_at-2.result.0.now ≡ take n L = c.split_at-2.ensures.front ∙ ap (take n) c.slots.ensures in
    let all = subst NamesDiffer (flat-parted lists L from n) c.requires.differ in
    let here = differ-left (flat (drop from lists) ++ take n L) (drop n L) (differ-right (flat (take from lists)) ((flat (drop from lists) ++ take n L) ++ drop n L) all) in
    subst NamesDiffer (λ j. flat (sym joined j) ++ sym oldest j) here

pub join-requires-clause-hashes : goal.join-requires-clause-hashes
join-requires-clause-hashes c =
    let L = c.args.last.now.entries in
    let n = c.len.result - c.len-2.result % 64 - 64 in
    let oldest : c.split_at-2.result.0.now ≡ take n L = c.split_at-2.ensures.front ∙ ap (take n) c.slots.ensures in
    c.split_at-3.ensures.front ∙ (ap (take n) c.hashes.ensures ∙ (take-map (λ e. hash_of e.name) n L ∙ ap hashes_of (sym oldest)))

pub returns-clause-entries : goal.returns-clause-entries
returns-clause-entries c =
    let lists = c.args.chunks.now.items in
    let L = c.args.last.now.entries in
    let from = c.join_from-from.result in
    let n = c.len.result - c.len-2.result % 64 - 64 in
    let joined : c.split_at.result.1.now ≡ drop from lists = c.split_at.ensures.back ∙ ap (drop from) (c.deref-2.ensures.value ∙ c.reserve.ensures.items) in
    let oldest : c.split_at-2.result.0.now ≡ take n L = c.split_at-2.ensures.front ∙ ap (take n) c.slots.ensures in
    let chunk : c.in_ok-chunk.chunk ≡ flat (drop from lists) ++ take n L = c.in_ok-chunk.ensures ∙ (c.in_ok-join.ensures ∙ (λ j. flat (joined j) ++ oldest j)) in
    let kept : c.truncate.new.self.items ≡ take from lists = c.truncate.ensures.items ∙ ap (take from) c.reserve.ensures.items in
    let items : c.push.new.self.items ≡ take from lists ++ (flat (drop from lists) ++ take n L) ∷ [] = c.in-Ok.ensures.items ∙ (λ j. kept j ++ chunk j ∷ []) in
    (λ j. flat (items j) ++ c.drop_first.ensures.entries j) ∙ flat-moved lists L from n

pub returns-clause-moved : goal.returns-clause-moved
returns-clause-moved c =
    let L = c.args.last.now.entries in
    let n = c.len.result - c.len-2.result % 64 - 64 in
    let small : n ≤ length L = omega (arith, c.len.ensures) in
    let entries = returns-clause-entries c in
    length-moved (flat c.push.new.self.items) (flat c.args.chunks.now.items) L n small
    (ap (λ ys. flat c.push.new.self.items ++ ys) (sym c.drop_first.ensures.entries) ∙ entries)
