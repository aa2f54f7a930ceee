use Rattle.std.proofs.Common.{subst}
use Rattle.pts_record.specs.Table.{ShapesLinked}
use Rattle.pts_record.proofs.record.Record.shapes_linked.Goals as goal

pub returns : goal.returns
returns c = subst (λ r. ShapesLinked 0 r.shapes) c.self.view_is c.self.invariant.shapes
