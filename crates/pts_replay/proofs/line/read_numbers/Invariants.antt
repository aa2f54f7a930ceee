use Rattle.std.proofs.Common.{◌≡◌, ◌++◌, ◌∷◌, length, All}
use denote.Text.{Utf8}
use denote.Shadow.{shadow}
use Rattle.pts_play.specs.Rounds.{numbers_text}
use Rattle.pts_play.specs.Inputs.{IsSession}
use Rattle.pts_replay.proofs.line.read_numbers.Given as goal

abbrev pub invariant-loop-word : goal.invariant-loop-word
invariant-loop-word l = record {
  utf8 : shadow (Utf8 l.rest);
  all : All IsSession l.numbers.items;
  text : 32 ∷ l.text ≡ numbers_text l.numbers.items ++ 32 ∷ l.rest;
}

abbrev pub decreases-loop-word : goal.decreases-loop-word
decreases-loop-word l = length l.rest
