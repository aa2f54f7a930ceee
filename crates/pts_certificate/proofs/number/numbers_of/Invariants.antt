use Rattle.std.proofs.Common.{◌≡◌, ◌≤◌, [], true, length}
use Rattle.pts_bytes.specs.Digits.{is_digits, value}
use Rattle.pts_certificate.specs.Text.{is_number}
use Rattle.pts_certificate.proofs.Numbers.{behind}
use Rattle.pts_certificate.proofs.number.numbers_of.Given as goal

abbrev pub invariant-loop-word : goal.invariant-loop-word
invariant-loop-word l = record {
  few : length l.found ≤ l.count;
  same : behind is_digits is_number value l.found l.fit l.count l.words ≡ behind is_digits is_number value [] true l.count l.fn.words;
}

abbrev pub decreases-loop-word : goal.decreases-loop-word
decreases-loop-word l = length l.words
