use Rattle.std.proofs.Common.{◌≡◌, ◌∙◌, ◌+◌, ◌-◌, ◌≤◌, ◌++◌, sym, ap, refl, subst, length, drop, List, arith}
use Rattle.std.proofs.lemmas.List.{drop-map}
use Rattle.std.proofs.lemmas.Option.{slice_get_read}
use Rattle.std.proofs.Math.Seq.{take-length}
use Rattle.pts_names.specs.Name.{Name}
use Rattle.pts_ctx.specs.Front.{Global}
use Rattle.pts_ctx.specs.Chunks.{flat}
use Rattle.pts_ctx.specs.Index.{hash_of, hashes_of}
use Rattle.pts_ctx.specs.Seen.{NamesDiffer}
use Rattle.pts_ctx.proofs.Kept.{kept-on, kept-more, skip-list, among-list, add-list, list-end, differ-added}
use Rattle.pts_ctx.proofs.chunks.add_from.Goals as goal

pub loop-chunk-init : goal.loop-chunk-init
loop-chunk-init c = record { rest = refl; kept = take-length c.args.part.now.entries }

pub loop-chunk-preserved-then-skipped-len : goal.loop-chunk-preserved-then-skipped-len
loop-chunk-preserved-then-skipped-len c =
    let lists = c.args.chunks.now in
    let i = c.loop-chunk.chunk-index in
    let G = c.chunk-item.result in
    let at = slice_get_read lists (length lists) i G refl c.loop-chunk-test.true c.chunk-item.is in
    let start = c.args.part.now.entries in
    let all = start ++ drop c.args.from (flat lists) in
    let have = c.loop-chunk.part.entries in
    let s = c.loop-chunk.skipped in
    let past : length G ≤ s = omega (arith, c.len-len.ensures, c.if-skipped-len.true) in
    record {
      rest =
          ap (λ n. have ++ drop (s - n) (flat (drop (i + 1) lists))) c.len-len.ensures ∙ skip-list lists i G at all have s c.loop-chunk.invariant.rest past;
      kept = c.loop-chunk.invariant.kept;
    }

pub loop-chunk-preserved : goal.loop-chunk-preserved
loop-chunk-preserved c =
    let lists = c.args.chunks.now in
    let i = c.loop-chunk.chunk-index in
    let G = c.chunk-item.result in
    let at = slice_get_read lists (length lists) i G refl c.loop-chunk-test.true c.chunk-item.is in
    let start = c.args.part.now.entries in
    let all = start ++ drop c.args.from (flat lists) in
    let have = c.loop-chunk.part.entries in
    let s = c.loop-chunk.skipped in
    let inside : s ≤ length G = omega (arith, c.len-len.ensures, c.if-skipped-len.false) in
    let slots : c.split_at.result.1.now ≡ drop s G = c.split_at.ensures.back ∙ ap (drop s) c.slots.ensures in
    let added : c.add.new.self.entries ≡ have ++ drop s G = c.in_ok-add.ensures.added ∙ ap (λ ys. have ++ ys) slots in
    record {
      rest = add-list lists i G at all have s c.loop-chunk.invariant.rest c.add.new.self.entries inside added;
      kept = kept-more start have c.add.new.self.entries (drop s G) c.loop-chunk.invariant.kept added;
    }

pub add-requires-clause-differ : goal.add-requires-clause-differ
add-requires-clause-differ c =
    let lists = c.args.chunks.now in
    let i = c.loop-chunk.chunk-index in
    let G = c.chunk-item.result in
    let at = slice_get_read lists (length lists) i G refl c.loop-chunk-test.true c.chunk-item.is in
    let start = c.args.part.now.entries in
    let all = start ++ drop c.args.from (flat lists) in
    let have = c.loop-chunk.part.entries in
    let s = c.loop-chunk.skipped in
    let inside : s ≤ length G = omega (arith, c.len-len.ensures, c.if-skipped-len.false) in
    let slots : c.split_at.result.1.now ≡ drop s G = c.split_at.ensures.back ∙ ap (drop s) c.slots.ensures in
    let differ = differ-added have (drop s G) (flat (drop (i + 1) lists)) all (among-list lists i G at all have s c.loop-chunk.invariant.rest inside) c.requires.differ in
    subst (λ (ys : List (Global Name)). NamesDiffer (have ++ ys)) (sym slots) differ

pub add-requires-clause-hashes : goal.add-requires-clause-hashes
add-requires-clause-hashes c =
    let lists = c.args.chunks.now in
    let i = c.loop-chunk.chunk-index in
    let G = c.chunk-item.result in
    let at = slice_get_read lists (length lists) i G refl c.loop-chunk-test.true c.chunk-item.is in
    let start = c.args.part.now.entries in
    let all = start ++ drop c.args.from (flat lists) in
    let have = c.loop-chunk.part.entries in
    let s = c.loop-chunk.skipped in
    let inside : s ≤ length G = omega (arith, c.len-len.ensures, c.if-skipped-len.false) in
    let slots : c.split_at.result.1.now ≡ drop s G = c.split_at.ensures.back ∙ ap (drop s) c.slots.ensures in
    c.split_at-in-loop-chunk.ensures.back ∙ (ap (drop s) c.hashes.ensures ∙ (drop-map (λ d. hash_of d.name) s G ∙ ap hashes_of (sym slots)))

pub returns-clause-added : goal.returns-clause-added
returns-clause-added c =
    let lists = c.args.chunks.now in
    list-end lists c.loop-chunk.chunk-index c.loop-chunk.skipped c.loop-chunk.part.entries (c.args.part.now.entries ++ drop c.args.from (flat lists)) (omega (arith, c.loop-chunk-test.false)) c.loop-chunk.invariant.rest

pub returns-in_err-add-clause-kept : goal.returns-in_err-add-clause-kept
returns-in_err-add-clause-kept c =
    kept-on c.args.part.now.entries c.loop-chunk.part.entries c.add.new.self.entries c.loop-chunk.invariant.kept c.add.ensures.kept
