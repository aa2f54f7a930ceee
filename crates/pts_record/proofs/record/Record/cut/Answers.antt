use Rattle.pts_record.proofs.Parts.{kept_cut}
use Rattle.pts_record.proofs.record.Record.cut.Goals as goal

pub invariant_of-self : goal.invariant_of-self
invariant_of-self c = kept_cut _ _ _ _ c.args.self.now c.args.terms _ _ c.self.invariant c.self.view_is c.requires.terms c.requires.nodes c.truncate.ensures.items c.truncate-2.ensures.items
