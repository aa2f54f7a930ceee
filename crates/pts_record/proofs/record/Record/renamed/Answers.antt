use Rattle.pts_record.proofs.RenamedTables.{kept_renamed}
use Rattle.pts_record.proofs.record.Record.renamed.Goals as goal

pub invariant_of-result : goal.invariant_of-result
invariant_of-result g c = kept_renamed (g.N.Names.new_name c.args.names.now) c.self.inside.shapes.items _ _ _ _ c.self.invariant c.in_ok-shapes.ensures
