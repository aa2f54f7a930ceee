use Rattle.pts_grow.proofs.Grow.{tree_stays}
use Rattle.pts_prove.proofs.OtherStatement.{agrees_yes, agrees_no, agrees_fault, unlike_before}
use Rattle.pts_prove.proofs.work.Work.agree.Goals as goal

pub convert-requires-clause-ctx : goal.convert-requires-clause-ctx
convert-requires-clause-ctx c = c.requires.goal.place.there

pub convert-requires-clause-context : goal.convert-requires-clause-context
convert-requires-clause-context c = c.requires.goal.place.typed.0

pub convert-requires-clause-left : goal.convert-requires-clause-left
convert-requires-clause-left c = c.requires.new.there

pub convert-requires-clause-right : goal.convert-requires-clause-right
convert-requires-clause-right c = c.requires.goal.statement.there

pub returns-in-Ok-Yes-clause-came : goal.returns-in-Ok-Yes-clause-came
returns-in-Ok-Yes-clause-came c = agrees_yes c.args.goal c.args.new c.args.goal.ctx c.args.new c.args.goal.statement c.in-Ok-Yes.field-0-is c.in-Ok-Yes.ensures.answer (tree_stays c.args.self.now.proof.now c.convert.new.proof c.args.new c.in-Ok-Yes.ensures.keeps c.requires.new.there)

pub returns-in-Ok-No-clause-came : goal.returns-in-Ok-No-clause-came
returns-in-Ok-No-clause-came c =
    let k = c.in-Ok-No.ensures.keeps in
    let x = tree_stays c.args.self.now.proof.now c.convert.new.proof c.args.new k c.requires.new.there in
    let y = tree_stays c.args.self.now.proof.now c.convert.new.proof c.args.goal.statement k c.requires.goal.statement.there in
    agrees_no c.args.goal c.args.new c.args.goal.ctx c.args.new c.args.goal.statement c.in-Ok-No.field-0-is c.in-Ok-No.ensures.answer (unlike_before _ _ _ _ _ _ _ x y c.refuse_unlike.ensures)

pub returns-in-Err-clause-came : goal.returns-in-Err-clause-came
returns-in-Err-clause-came c = agrees_fault c.args.goal c.args.new _ c.of_reduction.ensures c.in-Err.ensures.refused
