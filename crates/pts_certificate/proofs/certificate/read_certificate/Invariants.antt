use Rattle.std.proofs.Common.{◌≡◌, ◌≤◌, ◌+◌, length}
use Rattle.pts_certificate.specs.Text.{lines}
use Rattle.pts_certificate.specs.Certificate.{read_lines, at_start}
use Rattle.pts_certificate.specs.Seen.{state_of}
use Rattle.pts_certificate.proofs.certificate.read_certificate.Given as goal

abbrev pub invariant-loop-line : goal.invariant-loop-line
invariant-loop-line l = record {
  same : read_lines (state_of l.state) (l.number + 1) (lines l.rest) ≡ read_lines at_start 1 (lines l.fn.bytes);
  few : l.number + length l.rest ≤ length l.fn.bytes;
}

abbrev pub decreases-loop-line : goal.decreases-loop-line
decreases-loop-line l = length l.rest
