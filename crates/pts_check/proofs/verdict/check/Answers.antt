use Rattle.std.proofs.Common.{◌≡◌, ◌<◌, ◌≤◌, ◌∙◌, sym, arith, length, suc, ◌+◌}
use Rattle.pts_ctx.specs.Front.{bare_front}
use Rattle.pts_check.proofs.Faulted.{rest_all, is_faulty, goes_on, is_valid}
use Rattle.pts_check.proofs.verdict.check.Goals as goal

pub loop-number-init : goal.loop-number-init
loop-number-init c = rest_all c.args.system.now (bare_front c.args.front.now.entries) c.args.proof.now

pub returns-in-Some : goal.returns-in-Some
returns-in-Some c =
    let h : c.loop-number.number < length c.args.proof.now.nodes = omega (arith, c.loop-number-test.true, c.nodes-number-end.ensures.number) in
    is_faulty c.args.system.now (bare_front c.args.front.now.entries) c.args.proof.now c.loop-number.number c.node-node.result c.in-Some.why c.loop-number.invariant h c.node-node.ensures.item c.node-node.ensures.links (sym c.in-Some.is ∙ c.node_fault.ensures)

pub loop-number-preserved : goal.loop-number-preserved
loop-number-preserved c =
    let h : c.loop-number.number < length c.args.proof.now.nodes = omega (arith, c.loop-number-test.true, c.nodes-number-end.ensures.number) in
    let next : c.loop-number.number + 1 ≡ suc c.loop-number.number = omega arith in
    goes_on c.args.system.now (bare_front c.args.front.now.entries) c.args.proof.now c.loop-number.number (c.loop-number.number + 1) c.node-node.result c.loop-number.invariant h c.node-node.ensures.item c.node-node.ensures.links (sym c.in_default.is ∙ c.node_fault.ensures) next

pub returns : goal.returns
returns c =
    let h : length c.args.proof.now.nodes ≤ c.loop-number.number = omega (arith, c.loop-number-test.false, c.nodes-number-end.ensures.number) in
    is_valid c.args.system.now (bare_front c.args.front.now.entries) c.args.proof.now c.loop-number.number c.loop-number.invariant h
