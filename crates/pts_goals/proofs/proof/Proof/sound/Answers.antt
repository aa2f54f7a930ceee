use Rattle.std.proofs.Common.{subst}
use Rattle.pts_goals.specs.OpenGoals.{IsOpenProof}
use Rattle.pts_goals.proofs.Soundness.{open_proofs_sound}
use Rattle.pts_goals.proofs.proof.Proof.sound.Goals as goal

pub returns-clause-is_open : goal.returns-clause-is_open
returns-clause-is_open c = subst (λ o. IsOpenProof o.scratch o.root o.steps o.goals) c.self.view_is c.self.invariant.0

pub returns-clause-sound : goal.returns-clause-sound
returns-clause-sound c = open_proofs_sound c.args.self.now (subst (λ o. IsOpenProof o.scratch o.root o.steps o.goals) c.self.view_is c.self.invariant.0)
