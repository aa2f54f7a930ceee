use Rattle.std.proofs.Common.{◌≡◌, subst, All, true}
use Rattle.pts_terms.specs.Limits.{within}
use Rattle.pts_record.specs.Table.{bare_trees}
use Rattle.pts_record.proofs.record.Record.shapes_limited.Goals as goal

pub returns : goal.returns
returns c = subst (λ r. All (λ t. within t ≡ true) (bare_trees r.shapes)) c.self.view_is c.self.invariant.limits
