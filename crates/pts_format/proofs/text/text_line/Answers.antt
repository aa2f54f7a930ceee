use Rattle.std.proofs.Common.{string_bytes}
use Rattle.std.proofs.lemmas.Str.{IsCharBoundary-start}
use Rattle.pts_format.proofs.Steps.{term_said, refusal_said}
use Rattle.pts_format.proofs.text.text_line.Goals as goal

pub read_term-requires : goal.read_term-requires
read_term-requires c = IsCharBoundary-start c.args.text.now c.utf8.text

pub returns-in-Ok : goal.returns-in-Ok
returns-in-Ok c = term_said string_bytes c.term_line.result _ _ _ c.in-Ok.ensures.term c.term_line.ensures

pub returns-in-Err : goal.returns-in-Err
returns-in-Err c = refusal_said string_bytes c.refusal_line.result _ _ _ c.in-Err.ensures.refused c.refusal_line.ensures.line c.refusal_line.ensures.refusal
