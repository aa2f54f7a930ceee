use Rattle.std.proofs.Common.{◌≡◌, ◌++◌, reverse, length}
use Rattle.pts_infer.proofs.show.show_names.Given as goal

abbrev pub invariant-names : goal.invariant-names
invariant-names l = l.names.items ++ reverse l.passed.items ≡ l.fn.given ++ reverse l.fn.passed.items

abbrev pub decreases-names : goal.decreases-names
decreases-names l = length l.passed.items
