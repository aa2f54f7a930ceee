use Rattle.std.proofs.Common.{◌≡◌, ◌<◌, ◌≤◌, ◌+◌, length, nat_eq}
use Rattle.std.specs.Prelude.{position}
use Rattle.std.specs.Option.{option_map}
use Rattle.pts_record.specs.Said.{told, scope_of}
use Rattle.pts_rules.specs.Parts.{distance}
use Rattle.pts_check.proofs.contexts.distance.Given as goal

abbrev pub invariant-walk : goal.invariant-walk
invariant-walk l = record {
  stands : l.at < length l.proof.nodes;
  few : l.passed + l.at ≤ 4294967296;
  rest : option_map (λ n. l.passed + n) (position (nat_eq l.wanted) (scope_of (told l.proof l.at)).trail) ≡ distance (told l.proof l.ctx) (told l.proof l.premise);
}

abbrev pub decreases-walk : goal.decreases-walk
decreases-walk l = l.at
