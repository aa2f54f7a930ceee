use Rattle.std.proofs.Common.{◌≡◌, ◌+◌, length}
use Rattle.std.specs.Prelude.{chars}
use denote.Text.{Utf8}
use denote.Shadow.{shadow}
use Rattle.pts_names.specs.Name.{width}
use Rattle.pts_tokens.specs.Tokens.{further, name}
use Rattle.pts_tokens.proofs.Words.{tail}
use Rattle.pts_tokens.proofs.length.name_length.Given as goal

abbrev pub invariant-loop-more : goal.invariant-loop-more
invariant-loop-more l =
    shadow (Utf8 l.rest)
    × (l.length + length l.rest ≡ length l.text)
    × (l.length + width (tail (further 0 (chars l.rest))) ≡ width (name (chars l.text)))

abbrev pub decreases-loop-more : goal.decreases-loop-more
decreases-loop-more l = length l.rest
