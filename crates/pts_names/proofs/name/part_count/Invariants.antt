use Rattle.std.proofs.Common.{◌≡◌, ◌+◌, ◌≤◌, length}
use Rattle.std.specs.Prelude.{chars}
use denote.Text.{Utf8}
use denote.Shadow.{shadow}
use Rattle.pts_names.specs.Name.{parts}
use Rattle.pts_names.proofs.name.part_count.Given as goal

abbrev pub invariant-loop-behind : goal.invariant-loop-behind
invariant-loop-behind l =
    shadow (Utf8 l.rest)
    × (l.count + length l.rest ≤ length l.text + 1)
    × (l.count + length (parts (chars l.rest)) ≡ 1 + length (parts (chars l.text)))

abbrev pub decreases-loop-behind : goal.decreases-loop-behind
decreases-loop-behind l = length l.rest
