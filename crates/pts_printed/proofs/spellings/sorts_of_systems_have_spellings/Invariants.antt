use Rattle.std.proofs.Common.{ℕ, ◌<◌, length, get_or, []}
use Rattle.pts_printed.specs.Laws.{IsSpelling}
use Rattle.pts_printed.proofs.spellings.sorts_of_systems_have_spellings.Given as goal

abbrev pub invariant-loop-number : goal.invariant-loop-number
invariant-loop-number l = (s : ℕ) → s < l.number → s < length l.system.sorts → IsSpelling (get_or l.system.sorts s [])
