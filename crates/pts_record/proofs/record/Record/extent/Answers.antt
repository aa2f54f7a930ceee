use Rattle.std.proofs.Common.{arith}
use Rattle.pts_record.proofs.Lines.{extents_long, extent_is, extent_small}
use Rattle.pts_record.proofs.record.Record.extent.Goals as goal

pub index-requires : goal.index-requires
index-requires c = omega (arith, extents_long _ _ _ _ c.args.self.now c.self.invariant c.self.view_is, c.self.inside.extents.ok)

pub returns-clause-extent : goal.returns-clause-extent
returns-clause-extent c = extent_is _ _ _ _ c.args.self.now c.self.invariant c.self.view_is c.args.number c.index.result.now c.requires c.index.ensures

pub returns-clause-limit : goal.returns-clause-limit
returns-clause-limit c = (extent_small _ _ _ _ c.args.self.now c.self.invariant c.self.view_is c.args.number c.index.result.now c.requires c.index.ensures).0

pub returns-clause-short : goal.returns-clause-short
returns-clause-short c = (extent_small _ _ _ _ c.args.self.now c.self.invariant c.self.view_is c.args.number c.index.result.now c.requires c.index.ensures).1
