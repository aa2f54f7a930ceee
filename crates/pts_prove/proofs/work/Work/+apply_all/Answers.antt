use Rattle.std.proofs.Common.{◌<◌, ◌+◌, ◌≤◌, ◌∙◌, length, refl, arith}
use Rattle.pts_prove.proofs.Running.{no_memory}
use Rattle.pts_prove.proofs.Working.{asked_later, grown_trans}
use Rattle.pts_prove.proofs.Applied.{found_later}
use Rattle.pts_prove.proofs.LinkChains.{all_arrived, all_elsewhere, next_stops, next_goes_on, chain_ends, chain_goes_on, count_more, part_found}
use Rattle.pts_prove.proofs.work.Work.+apply_all.Goals as goal

pub arrive-requires-clause-ty : goal.arrive-requires-clause-ty
arrive-requires-clause-ty t c = c.requires.chain.last

pub returns-in_err-arrive-clause-came : goal.returns-in_err-arrive-clause-came
returns-in_err-arrive-clause-came t c = all_elsewhere _ c.args.goal c.args.ty c.args.at c.args.parts.now c.args.earlier c.if-at-parts.true c.from_residual.ensures c.in_err-arrive.ensures.other

pub returns-then-at-parts-clause-came : goal.returns-then-at-parts-clause-came
returns-then-at-parts-clause-came t c = all_arrived _ c.args.goal c.args.ty c.args.at c.args.parts.now c.args.earlier c.if-at-parts.true c.in_ok-arrive.ensures.arrived

pub returns-then-at-parts-clause-count : goal.returns-then-at-parts-clause-count
returns-then-at-parts-clause-count t c = c.requires.count ∙ c.if-at-parts.true

pub returns-then-at-parts-clause-chain : goal.returns-then-at-parts-clause-chain
returns-then-at-parts-clause-chain t c = chain_ends c.requires.goal c.requires.chain c.in_ok-arrive.ensures.arrived

pub apply_next-requires-clause-ty : goal.apply_next-requires-clause-ty
apply_next-requires-clause-ty t c = c.requires.chain.last

pub apply_next-requires-clause-part : goal.apply_next-requires-clause-part
apply_next-requires-clause-part t c =
    let few = c.requires.at in
    let more = c.if-at-parts.false in
    let l : c.args.at < length c.args.parts.now = omega (arith, few, more) in
    part_found c.args.parts.now (length c.args.parts.now) c.args.at c.requires.parts l

pub returns-in_err-next-clause-came : goal.returns-in_err-next-clause-came
returns-in_err-next-clause-came t c =
    let few = c.requires.at in
    let more = c.if-at-parts.false in
    let l : c.args.at < length c.args.parts.now = omega (arith, few, more) in
    next_stops _ _ c.args.goal c.args.ty c.args.at c.args.parts.now c.args.earlier.items l c.from_residual-in_err-next.ensures c.in_err-next.ensures.came

pub returns-in_err-links-clause-came : goal.returns-in_err-links-clause-came
returns-in_err-links-clause-came t c = no_memory c.from_residual-in_err-links.ensures

pub apply_all-requires : goal.apply_all-requires
apply_all-requires t c =
    let few = c.requires.at in
    let more = c.if-at-parts.false in
    let n = c.in_ok-next.ensures in
    let l : c.args.at + 1 ≤ length c.args.parts.now = omega (arith, few, more) in
    (omega (arith, l), (asked_later n.grown c.requires.goal, (found_later n.grown c.requires.parts, (l, (count_more c.args.earlier.items _ c.in_ok-links.ensures c.requires.count, chain_goes_on n.grown c.requires.chain n.next c.in_ok-links.ensures)))))

pub returns-clause-came : goal.returns-clause-came
returns-clause-came t c =
    let few = c.requires.at in
    let more = c.if-at-parts.false in
    let n = c.in_ok-next.ensures in
    let l : c.args.at < length c.args.parts.now = omega (arith, few, more) in
    next_goes_on _ _ c.args.goal c.args.ty c.args.at c.args.parts.now c.args.earlier.items l refl n.grown c.requires.goal c.requires.parts c.requires.chain c.in_ok-links.ensures n.came c.apply_all.ensures.came

pub returns-clause-grown : goal.returns-clause-grown
returns-clause-grown t c = grown_trans c.in_ok-next.ensures.grown c.apply_all.ensures.grown
