use Rattle.std.proofs.Common.{◌≡◌}
use Rattle.toml.specs.View.{table_view}
use Rattle.pts_spec.specs.SpecFile.{least_other}
use Rattle.pts_spec.proofs.Least.{first_other}
use Rattle.pts_spec.proofs.keys.least_other.Given as goal

abbrev pub invariant-loop-key : goal.invariant-loop-key
invariant-loop-key l =
    (goal.iterator-loop-key).can_next l.key-iterator ×
    (goal.iterator-loop-key).is_finite l.key-iterator ×
    (first_other l.key-iterator ≡ least_other (table_view l.document))
