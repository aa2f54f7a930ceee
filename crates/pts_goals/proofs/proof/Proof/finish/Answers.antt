use Rattle.pts_goals.proofs.Views.{grown_open}
use Rattle.pts_goals.proofs.proof.Proof.finish.Goals as goal

pub invariant_of-this : goal.invariant_of-this
invariant_of-this c = (grown_open c.this.inside c.args.self c.this.view_is c.requires.here c.conclude.new.scratch c.conclude.ensures.keeps c.this.invariant.0, c.this.invariant.1)
