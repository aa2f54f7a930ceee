use Rattle.std.proofs.Common.{◌≡◌, ◌++◌, drop, string_bytes}
use Rattle.pts_play.specs.Rounds.{numbers_text, order_line}
use Rattle.pts_play.proofs.text.order_line.Given as goal

abbrev pub invariant-loop-number : goal.invariant-loop-number
invariant-loop-number l = string_bytes l.line ++ numbers_text (drop l.number-index l.order) ≡ order_line l.order
