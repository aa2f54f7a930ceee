use Rattle.std.proofs.Common.{◌≡◌, ◌≤◌, drop}
use Rattle.pts_bytes.specs.Digits.{value, value_after}
use Rattle.pts_bytes.proofs.digits.number_up_to.Given as goal

abbrev pub invariant-loop-digit : goal.invariant-loop-digit
invariant-loop-digit l = record {
  same : value_after l.value (drop l.digit-index l.word) ≡ value l.word;
  small : l.value ≤ l.limit;
}
