use Rattle.std.proofs.Common.{sym, subst, ◌∙◌, arith}
use Rattle.std.proofs.lemmas.List.{drop_all}
use Rattle.pts_io.specs.declared.faults.ReadFail.{ReadFail}
use Rattle.pts_io.specs.Lines.{IsAnswer}
use Rattle.pts_io.proofs.Feeds.{through-none, first_line-none, behind-answer}
use Rattle.pts_io.proofs.lines.LineReader.hand_out_last.Goals as goal

pub returns-clause-answer : goal.returns-clause-answer
returns-clause-answer c _ =
    let line = c.held-line.ensures ∙ sym (first_line-none _ c.requires.no_line) in
    subst (λ xs. IsAnswer xs c.in-Ok.answer) line c.in-Ok.ensures

pub returns-clause-held : goal.returns-clause-held
returns-clause-held c =
    let held = c.args.self.now.held in
    drop_all _ c.self.inside.bytes.items (omega (arith, c.len-self-inside.ensures, c.self.inside.bytes.ok.0)) ∙ sym (through-none held c.requires.no_line).1 ∙ sym (behind-answer ReadFail _ held c.in-Ok.answer c.in-Ok.ensures)
