use Rattle.std.proofs.Common.{refl}
use Rattle.pts_terms.specs.Tree.{subst}
use Rattle.pts_record.specs.Table.{named_at}
use Rattle.pts_prove.proofs.Stages.{taken, untaken}
use Rattle.pts_prove.proofs.work.Work.instance.Goals as goal

pub returns-in-Ok-clause-came : goal.returns-in-Ok-clause-came
returns-in-Ok-clause-came c = taken refl c.in-Ok.ensures.term.1 c.in-Ok.ensures.within

pub returns-in-Err-clause-came : goal.returns-in-Err-clause-came
returns-in-Err-clause-came c =
    let r = c.args.self.now.proof.now.shapes in
    untaken _ (subst 0 (named_at r c.args.argument) (named_at r c.args.body)) refl c.of_making.ensures c.in-Err.ensures.refused
