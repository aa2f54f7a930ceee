use Rattle.std.proofs.Common.{ap, length, arith}
use Rattle.std.proofs.lemmas.List.{length-append}
use Rattle.pts_names.specs.Name.{part_count}
use Rattle.pts_names.proofs.Parts.{one_part, cut_text, cut_utf8, cut_parts}
use Rattle.pts_names.proofs.name.part_count.Goals as goal

pub loop-behind-preserved : goal.loop-behind-preserved
loop-behind-preserved c =
    let utf8 = c.loop-behind.invariant.0 in
    let cut = c.in-Some.ensures.cases in
    let bytes = simp length-append at (ap length (cut_text _ _ _ cut)) in
    let all = ap length (cut_parts _ _ _ utf8 cut) in
    let bound = c.loop-behind.invariant.1 in
    let count = c.loop-behind.invariant.2 in
    ((cut_utf8 _ _ _ utf8 cut).1, omega arith, omega arith)

pub returns : goal.returns
unfolding part_count
returns c =
    let all = ap length (one_part c.loop-behind.rest.now c.loop-behind.invariant.0 c.in_default.ensures.cases) in
    let count = c.loop-behind.invariant.2 in
    omega arith
