use Rattle.pts_certificate.proofs.Few.{few}
use Rattle.pts_certificate.proofs.node.form_of.Goals as goal

pub returns-clause-few : goal.returns-clause-few
returns-clause-few c = rw c.row_of.ensures (few c.args.word.now)
