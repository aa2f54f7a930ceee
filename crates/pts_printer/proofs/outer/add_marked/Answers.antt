use Rattle.std.proofs.Common.{◌∙◌}
use Rattle.pts_printer.proofs.Marking.{skipped, added}
use Rattle.pts_printer.proofs.outer.add_marked.Goals as goal

pub loop-behind-preserved-then-not-marks-behind : goal.loop-behind-preserved-then-not-marks-behind
loop-behind-preserved-then-not-marks-behind c = record {
  variables = skipped c.args.names.now c.args.marks.now c.loop-behind.behind c.loop-behind.taken.variables _ c.loop-behind-test.true c.requires c.if-not-marks-behind.true c.loop-behind.invariant.variables;
  constants = c.loop-behind.invariant.constants;
}

pub loop-behind-preserved : goal.loop-behind-preserved
loop-behind-preserved c = record {
  variables = added c.args.names.now c.args.marks.now c.loop-behind.behind c.loop-behind.taken.variables _ c.index-names-names.result _ c.add_variable.new.self.variables c.loop-behind-test.true c.requires c.if-not-marks-behind.false c.index-names-names.is c.in_ok-copy.ensures c.in_ok-add_variable.ensures.variables c.loop-behind.invariant.variables;
  constants = c.in_ok-add_variable.ensures.constants ∙ c.loop-behind.invariant.constants;
}
