use Rattle.pts_record.specs.Table.{named_at}
use Rattle.pts_reduce.specs.Chain.{entries_of}
use Rattle.pts_rules.specs.Meter.{left}
use Rattle.pts_grow.proofs.Grow.{stays}
use Rattle.pts_infer.proofs.Forms.{types_yes_at, types_deep_at, types_spent_at, types_no_at}
use Rattle.pts_infer.proofs.work.Work.compare.Goals as goal

pub convert-requires-clause-ctx : goal.convert-requires-clause-ctx
convert-requires-clause-ctx c = c.requires.at.there

pub convert-requires-clause-context : goal.convert-requires-clause-context
convert-requires-clause-context c = c.requires.at.typed.0

pub convert-requires-clause-left : goal.convert-requires-clause-left
convert-requires-clause-left c = c.requires.have.there

pub convert-requires-clause-right : goal.convert-requires-clause-right
convert-requires-clause-right c = c.requires.want.there

pub returns-in-Ok-Yes-clause-runs : goal.returns-in-Ok-Yes-clause-runs
returns-in-Ok-Yes-clause-runs c = λ s. record { gives = types_yes_at _ _ c.convert.new.proof c.args.at.ctx c.args.have c.args.want _ _ c.in-Ok-Yes.field-0 c.in-Ok-Yes.node s _ _ c.in-Ok-Yes.field-0-is c.in-Ok-Yes.ensures.answer }

pub returns-in-Ok-No-clause-runs : goal.returns-in-Ok-No-clause-runs
returns-in-Ok-No-clause-runs c =
    let k = c.in-Ok-No.ensures.keeps in
    let a = stays c.args.self.now.proof.now c.convert.new.proof c.args.have k c.requires.have.there in
    let b = stays c.args.self.now.proof.now c.convert.new.proof c.args.want k c.requires.want.there in
    λ s. record { gives = types_no_at c.args.self.now.front.now.entries (entries_of c.args.self.now.proof.now c.args.at.ctx) c.args.self.now.proof.now c.convert.new.proof c.args.at.ctx c.args.have c.args.want c.in-Ok-No.field-0 c.in-Ok-No.place c.in-Ok-No.field-0-1 c.in-Ok-No.field-0-2 c.misfit_here.result s (left c.args.self.now.meter.now) (left c.convert.new.meter) c.in-Ok-No.field-0-is k c.requires.have.there c.requires.want.there c.in-Ok-No.ensures.answer (c.misfit_here.ensures c.convert.new.proof.shapes (left c.convert.new.meter) (a, b)) }

pub returns-in-Err-Deep-clause-runs : goal.returns-in-Err-Deep-clause-runs
returns-in-Err-Deep-clause-runs c = λ s. record { gives = types_deep_at _ _ _ _ c.in-Err-Deep.field-0 s _ _ c.in-Err-Deep.field-0-is c.in-Err-Deep.ensures.refused }

pub returns-in-Err-Spent-clause-runs : goal.returns-in-Err-Spent-clause-runs
returns-in-Err-Spent-clause-runs c = λ s. record { gives = types_spent_at _ _ _ _ c.in-Err-Spent.field-0 s _ _ c.in-Err-Spent.field-0-is c.in-Err-Spent.ensures.refused }

pub returns-in-Err-Memory-clause-runs : goal.returns-in-Err-Memory-clause-runs
returns-in-Err-Memory-clause-runs c = λ s. record { gives = tt }
