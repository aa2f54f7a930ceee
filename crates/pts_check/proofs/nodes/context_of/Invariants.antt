use Rattle.std.proofs.Common.{◌≡◌, ◌<◌, length}
use Rattle.pts_record.specs.Said.{told, scope_of}
use Rattle.pts_check.proofs.nodes.context_of.Given as goal

abbrev pub invariant-walk : goal.invariant-walk
invariant-walk l = (l.at < length l.proof.nodes) × (scope_of (told l.proof l.at) ≡ scope_of (told l.proof l.number))

abbrev pub decreases-walk : goal.decreases-walk
decreases-walk l = l.at
