use Rattle.std.proofs.Common.{◌≡◌, ◌∙◌, ◌<◌, sym, ap, refl, subst, length, take, get_or, slice_get, Some, [], List, ◌++◌, arith}
use Rattle.std.proofs.lemmas.List.{append-nil}
use Rattle.std.proofs.lemmas.Option.{slice_get_read}
use Rattle.pts_names.specs.Name.{Name}
use Rattle.pts_ctx.specs.Front.{Global, Fresh}
use Rattle.pts_ctx.specs.Seen.{NamesDiffer}
use Rattle.pts_ctx.specs.Index.{hash_of}
use Rattle.pts_ctx.proofs.Hashed.{hash-at}
use Rattle.pts_ctx.proofs.Kept.{kept-by}
use Rattle.pts_ctx.proofs.Lookups.{fresh-before}
use Rattle.pts_ctx.proofs.part.Part.add.Goals as goal

pub push-requires-clause-fresh : goal.push-requires-clause-fresh
push-requires-clause-fresh c =
    let A = c.reserve.new.self.entries in
    let G = c.args.slots.now in
    let i = c.loop-place.place in
    let e = c.index-slots-place.result in
    let inside : i < length G = omega (arith, c.loop-place-test.true) in
    let at = slice_get_read G (length G) i e refl inside c.index-slots-place.is in
    let differ = subst (λ (H : List (Global Name)). NamesDiffer (H ++ G)) (sym c.reserve.ensures.entries) c.requires.differ in
    let fresh : Fresh e.name (A ++ take i G) = fresh-before A G i e at differ in
    subst (λ (H : List (Global Name)). Fresh c.in_ok-copy.field-0.name H) (sym c.loop-place.invariant.entries)
    (subst (λ (x : Name). Fresh x (A ++ take i G)) (sym (ap (λ d. d.name) c.in_ok-copy.ensures)) fresh)

pub push-requires-clause-hash : goal.push-requires-clause-hash
push-requires-clause-hash c =
    let G = c.args.slots.now in
    let i = c.loop-place.place in
    let e = c.index-slots-place.result in
    let inside : i < length G = omega (arith, c.loop-place-test.true) in
    let at : slice_get G i ≡ Some e = slice_get_read G (length G) i e refl inside c.index-slots-place.is in
    ap (λ hs. get_or hs i 0) c.requires.hashes ∙ (hash-at G i e at ∙ ap (λ d. hash_of d.name) (sym c.in_ok-copy.ensures))

pub returns-clause-kept : goal.returns-clause-kept
returns-clause-kept c =
    let more = take c.loop-place.place c.args.slots.now in
    kept-by c.args.self.now.entries c.loop-place.self.entries more (c.loop-place.invariant.entries ∙ ap (λ ys. ys ++ more) c.reserve.ensures.entries)

pub returns-in_err-copy-clause-kept : goal.returns-in_err-copy-clause-kept
returns-in_err-copy-clause-kept c =
    let more = take c.loop-place.place c.args.slots.now in
    kept-by c.args.self.now.entries c.loop-place.self.entries more (c.loop-place.invariant.entries ∙ ap (λ ys. ys ++ more) c.reserve.ensures.entries)

pub returns-in_err-reserve-clause-kept : goal.returns-in_err-reserve-clause-kept
returns-in_err-reserve-clause-kept c =
    kept-by c.args.self.now.entries c.reserve.new.self.entries [] (c.reserve.ensures.entries ∙ sym (append-nil c.args.self.now.entries))
