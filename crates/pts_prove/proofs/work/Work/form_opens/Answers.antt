use Rattle.std.proofs.Common.{sym}
use Rattle.pts_record.specs.Table.{named_at}
use Rattle.pts_prove.proofs.Openings.{form_product, form_other}
use Rattle.pts_prove.proofs.work.Work.form_opens.Goals as goal

pub returns-in-Some-clause-came : goal.returns-in-Some-clause-came
returns-in-Some-clause-came c = form_product (sym c.in-Some.ensures.parts)

pub returns-in-None-clause-came : goal.returns-in-None-clause-came
returns-in-None-clause-came c = form_other (named_at c.args.self.now.proof.now.shapes c.args.form.left) (sym c.in-None.ensures.parts) (c.refuse_form.ensures c.args.self.now.names.now)
