use Rattle.pts_rules.specs.Meter.{left}
use Rattle.pts_infer.proofs.Refusals.{test_judged, test_refused}
use Rattle.pts_infer.proofs.calls.sort_test.Goals as goal

pub returns-in-Ok-clause-judged : goal.returns-in-Ok-clause-judged
returns-in-Ok-clause-judged c =
    test_judged c.args.system.now c.args.front.now.entries c.args.proof.now c.sort_test_in.new.proof c.judged_at-ctx.result.0 c.args.node c.judged_at-ctx.result.1 c.judged_at-ctx.ensures.judged c.judged_at-ctx.ensures.node c.in-Ok.sorted.judged c.in-Ok.sorted.sort.0 (left c.args.meter.now) (left c.sort_test_in.new.meter) c.in-Ok.ensures.keeps c.judged_at-ctx.ensures.ctx.0 c.in-Ok.ensures.judges c.in-Ok.ensures.subject c.in-Ok.ensures.sort c.in-Ok.ensures.runs

pub returns-in-Err-clause-refused : goal.returns-in-Err-clause-refused
returns-in-Err-clause-refused c =
    test_refused c.args.system.now c.args.front.now.entries c.args.proof.now c.sort_test_in.new.proof c.judged_at-ctx.result.0 c.args.node c.judged_at-ctx.result.1 c.judged_at-ctx.ensures.judged c.judged_at-ctx.ensures.node c.sort_test_in.new.proof.shapes c.args.names.now c.in-Err.fault c.show_fault.result (left c.args.meter.now) (left c.sort_test_in.new.meter) c.show_fault.ensures c.in-Err.ensures.runs
