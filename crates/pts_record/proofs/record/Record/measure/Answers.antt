use Rattle.std.proofs.Common.{arith}
use Rattle.pts_record.proofs.Lines.{measures_long, measure_is, measure_small}
use Rattle.pts_record.proofs.record.Record.measure.Goals as goal

pub index-requires : goal.index-requires
index-requires c = omega (arith, measures_long _ _ _ _ c.args.self.now c.self.invariant c.self.view_is, c.self.inside.measures.ok)

pub returns-clause-measure : goal.returns-clause-measure
returns-clause-measure c = measure_is _ _ _ _ c.args.self.now c.self.invariant c.self.view_is c.args.term c.index.result.now c.requires c.index.ensures

pub returns-clause-limits : goal.returns-clause-limits
returns-clause-limits c = measure_small _ _ _ _ c.args.self.now c.self.invariant c.self.view_is c.args.term c.index.result.now c.requires c.index.ensures
