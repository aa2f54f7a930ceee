use Rattle.pts_goals.proofs.Views.{restored}
use Rattle.pts_goals.proofs.proof.Proof.restore.Goals as goal

pub invariant_of-self : goal.invariant_of-self
invariant_of-self c = (restored c.self.inside c.args.self.now c.self.view_is c.args.given c.requires.keeps c.self.invariant.0, c.self.invariant.1)
