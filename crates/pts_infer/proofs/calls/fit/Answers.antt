use Rattle.std.proofs.Common.{ap, ◌∙◌}
use Rattle.pts_record.specs.Table.{named_at}
use Rattle.pts_rules.specs.Meter.{left}
use Rattle.pts_grow.proofs.Grow.{tree_stays}
use Rattle.pts_infer.proofs.Refusals.{fit_judged, fit_refused}
use Rattle.pts_infer.proofs.calls.fit.Goals as goal

pub returns-in-Ok-clause-judged : goal.returns-in-Ok-clause-judged
returns-in-Ok-clause-judged c =
    fit_judged c.args.system.now c.args.front.now.entries c.args.proof.now c.fit_in.new.proof c.judged_at-ctx.result.0 c.args.node c.judged_at-ctx.result.1 c.judged_at-ctx.ensures.judged c.judged_at-ctx.ensures.node (named_at c.args.proof.now.shapes c.args.want) c.in-Ok.fitted (left c.args.meter.now) (left c.fit_in.new.meter) c.in-Ok.ensures.keeps c.judged_at-ctx.ensures.ctx.0 c.in-Ok.ensures.judges c.in-Ok.ensures.pair.0 (ap (named_at c.fit_in.new.proof.shapes) c.in-Ok.ensures.pair.1 ∙ tree_stays c.args.proof.now c.fit_in.new.proof c.args.want c.in-Ok.ensures.keeps c.requires.want) c.in-Ok.ensures.runs

pub returns-in-Err-clause-refused : goal.returns-in-Err-clause-refused
returns-in-Err-clause-refused c =
    fit_refused c.args.system.now c.args.front.now.entries c.args.proof.now c.fit_in.new.proof c.judged_at-ctx.result.0 c.args.node c.judged_at-ctx.result.1 c.judged_at-ctx.ensures.judged c.judged_at-ctx.ensures.node (named_at c.args.proof.now.shapes c.args.want) c.fit_in.new.proof.shapes c.args.names.now c.in-Err.misfit c.show_misfit.result (left c.args.meter.now) (left c.fit_in.new.meter) c.show_misfit.ensures c.in-Err.ensures.runs
