use Rattle.pts_record.specs.Table.{named_at}
use Rattle.pts_rules.specs.Meter.{left}
use Rattle.pts_reduce.specs.Chain.{entries_of}
use Rattle.pts_infer.proofs.Refusals.{sorted_judged, sorted_refused}
use Rattle.pts_infer.proofs.calls.infer_sorted.Goals as goal

pub returns-in-Ok-clause-judged : goal.returns-in-Ok-clause-judged
returns-in-Ok-clause-judged c =
    sorted_judged c.args.system.now c.args.front.now.entries (entries_of c.args.proof.now c.args.ctx) c.args.proof.now c.sorted_in.new.proof c.args.ctx c.args.term (left c.args.meter.now) (left c.sorted_in.new.meter) c.in-Ok.sorted.sort.0 c.in-Ok.sorted.judged c.in-Ok.ensures.keeps c.requires.ctx c.requires.term c.in-Ok.ensures.subject c.in-Ok.ensures.judges c.in-Ok.ensures.sort c.in-Ok.ensures.runs

pub returns-in-Err-clause-refused : goal.returns-in-Err-clause-refused
returns-in-Err-clause-refused c =
    sorted_refused c.args.system.now c.args.front.now.entries (entries_of c.args.proof.now c.args.ctx) (named_at c.args.proof.now.shapes c.args.term) c.sorted_in.new.proof.shapes c.args.names.now c.in-Err.fault c.show_fault.result (left c.args.meter.now) (left c.sorted_in.new.meter) c.show_fault.ensures c.in-Err.ensures.runs
