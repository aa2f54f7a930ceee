use Rattle.std.proofs.Common.{◌+◌, ◌∙◌, sym, ap}
use Rattle.pts_certificate.specs.Text.{lines}
use Rattle.pts_certificate.specs.Certificate.{certificate_of, read_lines}
use Rattle.pts_certificate.specs.Seen.{state_of}
use Rattle.pts_certificate.proofs.Reading.{refused_at}
use Rattle.pts_certificate.proofs.certificate.read_certificate.Goals as goal

pub returns-in-Err-clause-refused : goal.returns-in-Err-clause-refused
unfolding certificate_of
returns-in-Err-clause-refused c =
    let first = ap (read_lines (state_of c.loop-line.state) (c.loop-line.number + 1)) (sym c.in-Some.ensures.line) in
    rw c.at_line.ensures (refused_at state_of c.in-Err.refusal (state_of c.loop-line.state) (c.loop-line.number + 1) c.in-Some.line.now (lines c.in-Some.behind.now) _ (first ∙ c.loop-line.invariant.same) c.in-Err.ensures)
