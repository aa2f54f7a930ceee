use Rattle.std.proofs.Common.{◌≡◌, ◌+◌, take, drop, ap, sym, subst, ◌∙◌, add-one}
use Rattle.std.specs.Io.BufRead.{strip_last, drop_through}
use Rattle.std.proofs.lemmas.List.{drop-drop}
use Rattle.pts_io.specs.declared.faults.ReadFail.{ReadFail}
use Rattle.pts_io.specs.Lines.{IsAnswer}
use Rattle.pts_io.proofs.Feeds.{through-first, first_line-first, behind-answer}
use Rattle.pts_io.proofs.lines.LineReader.hand_out.Goals as goal

pub returns-clause-answer : goal.returns-clause-answer
returns-clause-answer c =
    let line = c.without_return-line.ensures ∙ ap (λ xs. strip_last 13 (take c.args.end xs)) c.held.ensures ∙ sym (first_line-first _ c.args.end c.requires.feed) in
    subst (λ xs. IsAnswer xs c.in-Ok.answer) line c.in-Ok.ensures

pub returns-clause-held : goal.returns-clause-held
returns-clause-held c =
    let held = c.args.self.now.held in
    let rest : drop (c.self.inside.start + (c.args.end + 1)) c.self.inside.bytes.items ≡ drop (c.args.end + 1) held =
    sym (drop-drop (c.args.end + 1) c.self.inside.start c.self.inside.bytes.items) ∙ ap (λ reading. drop (c.args.end + 1) reading.held) c.self.view_is in
    let through : drop (c.args.end + 1) held ≡ drop_through 10 held = rw add-one (sym (through-first held c.args.end c.requires.feed).1) in
    rest ∙ through ∙ sym (behind-answer ReadFail _ held c.in-Ok.answer c.in-Ok.ensures)
