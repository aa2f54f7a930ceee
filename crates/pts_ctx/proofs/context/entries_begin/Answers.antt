use Rattle.std.proofs.Common.{◌∙◌, ◌+◌, ◌<◌, ◌≤◌, ◌&&◌, sym, ap, length, drop, arith}
use Rattle.pts_ctx.specs.Entries.{global_of}
use Rattle.pts_ctx.specs.Prefix.{begins, same_global}
use Rattle.pts_ctx.proofs.Begins.{begins-short, begins-step}
use Rattle.pts_ctx.proofs.context.entries_begin.Goals as goal

pub returns-then-place-len : goal.returns-then-place-len
returns-then-place-len c =
    let xs = c.args.one.now.entries in
    let ys = c.args.other.now.entries in
    let i = c.loop-place.place in
    let inside : i < length xs = omega (arith, c.len-place-end.ensures, c.loop-place-test.true) in
    let past : length ys ≤ i = omega (arith, c.len.ensures, c.if-place-len.true) in
    sym (begins-short same_global xs ys i inside past) ∙ c.loop-place.invariant

pub returns-then-not-same : goal.returns-then-not-same
returns-then-not-same c =
    let xs = c.args.one.now.entries in
    let ys = c.args.other.now.entries in
    let i = c.loop-place.place in
    let x = global_of c.entry.result.now in
    let y = global_of c.entry-in-loop-place.result.now in
    let step = begins-step same_global xs ys i x y c.entry.ensures.entry c.entry-in-loop-place.ensures.entry in
    sym (step ∙ ap (λ b. b && begins same_global (drop (i + 1) xs) (drop (i + 1) ys)) (sym c.same.ensures ∙ c.if-not-same.true)) ∙ c.loop-place.invariant

pub loop-place-preserved : goal.loop-place-preserved
loop-place-preserved c =
    let xs = c.args.one.now.entries in
    let ys = c.args.other.now.entries in
    let i = c.loop-place.place in
    let x = global_of c.entry.result.now in
    let y = global_of c.entry-in-loop-place.result.now in
    let step = begins-step same_global xs ys i x y c.entry.ensures.entry c.entry-in-loop-place.ensures.entry in
    sym (step ∙ ap (λ b. b && begins same_global (drop (i + 1) xs) (drop (i + 1) ys)) (sym c.same.ensures ∙ c.if-not-same.false)) ∙ c.loop-place.invariant
