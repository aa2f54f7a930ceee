use Rattle.std.proofs.Common.{◌≡◌, ◌++◌, drop}
use Rattle.std.specs.Prelude.{string_bytes}
use Rattle.pts_flaw_text.specs.FlawText.{dotted_text, place_text}
use Rattle.pts_flaw_text.proofs.flaw.place_text.Given as goal

abbrev pub invariant-loop-number : goal.invariant-loop-number
invariant-loop-number l = string_bytes l.text ++ dotted_text (drop l.number-index l.rest) ≡ place_text l.place
