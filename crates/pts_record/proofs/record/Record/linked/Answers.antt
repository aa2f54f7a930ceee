use Rattle.std.proofs.Common.{subst, length}
use Rattle.pts_record.specs.Table.{NodesLinked}
use Rattle.pts_record.proofs.record.Record.linked.Goals as goal

pub returns : goal.returns
returns c = subst (λ r. NodesLinked (length r.shapes) 0 r.nodes) c.self.view_is c.self.invariant.nodes
