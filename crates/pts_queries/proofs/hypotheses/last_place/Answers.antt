use Rattle.std.proofs.Common.{sym, ◌∙◌, arith}
use Rattle.pts_parser.proofs.Places.{loop_finds, loop_passes, loop_begins, loop_ends}
use Rattle.pts_queries.proofs.hypotheses.last_place.Goals as goal

pub loop-left-init : goal.loop-left-init
loop-left-init c = record { inside = omega arith; same = loop_begins c.args.names.now c.args.name.now }

pub returns-then-same-clause-place : goal.returns-then-same-clause-place
returns-then-same-clause-place c = loop_finds c.args.names.now c.args.name.now c.loop-left.left c.index-names-left.result c.loop-left-test.true c.loop-left.invariant.inside c.index-names-left.is (sym c.same.ensures ∙ c.if-same.true) c.loop-left.invariant.same

pub loop-left-preserved : goal.loop-left-preserved
loop-left-preserved c = record {
  inside = omega (arith, c.loop-left.invariant.inside);
  same = loop_passes c.args.names.now c.args.name.now c.loop-left.left c.index-names-left.result c.loop-left-test.true c.loop-left.invariant.inside c.index-names-left.is (sym c.same.ensures ∙ c.if-same.false) c.loop-left.invariant.same;
}

pub returns-clause-place : goal.returns-clause-place
returns-clause-place c = loop_ends c.args.names.now c.args.name.now c.loop-left.left _ c.loop-left-test.false c.loop-left.invariant.same
