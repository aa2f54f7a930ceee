use Rattle.std.proofs.Common.{◌≡◌, ◌+◌, ◌≤◌, length}
use Rattle.std.specs.Prelude.{chars}
use denote.Text.{Utf8}
use denote.Shadow.{shadow}
use Rattle.pts_names.specs.Name as names
use Rattle.pts_names.proofs.name.parts_fault.Given as goal

abbrev pub invariant-loop-part : goal.invariant-loop-part
invariant-loop-part l =
    shadow (Utf8 l.rest)
    × (l.place + length l.rest ≤ 128)
    × (names.parts_fault l.place (names.parts (chars l.rest)) ≡ names.parts_fault 0 (names.parts (chars l.text)))

abbrev pub decreases-loop-part : goal.decreases-loop-part
decreases-loop-part l = length l.rest
