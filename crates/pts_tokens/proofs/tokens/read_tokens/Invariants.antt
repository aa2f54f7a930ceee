use Rattle.std.proofs.Common.{◌≡◌, ◌+◌, length, drop}
use Rattle.std.specs.Prelude.{chars}
use denote.Text.{Utf8}
use denote.Shadow.{shadow}
use Rattle.pts_tokens.specs.Tokens.{tokens_behind, tokens_of}
use Rattle.pts_tokens.proofs.Stepping.{prefixed}
use Rattle.pts_tokens.proofs.tokens.read_tokens.Given as goal

abbrev pub invariant-loop-first : goal.invariant-loop-first
invariant-loop-first l =
    shadow (Utf8 l.rest)
    × (l.place + length l.rest ≡ length l.text)
    × (prefixed l.found.items (tokens_behind 0 l.place (chars l.rest)) ≡ tokens_of l.from (chars (drop l.from l.text)))

abbrev pub decreases-loop-first : goal.decreases-loop-first
decreases-loop-first l = length l.rest
