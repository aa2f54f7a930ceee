use Rattle.std.proofs.Common.{◌∙◌}
use Rattle.pts_grow.proofs.Grow.{line_term, line_keeps}
use Rattle.pts_grow.proofs.Lifted.{known_within}
use Rattle.pts_grow.proofs.build.add_line.Goals as goal

pub returns-in-Some-clause-within : goal.returns-in-Some-clause-within
returns-in-Some-clause-within c = known_within c.args.proof.now.shapes c.in-Some.number c.args.shape c.shape.result.now c.in-Some.ensures c.shape.ensures.item c.shape.ensures.named c.limits.ensures

pub returns-in-Ok-clause-term : goal.returns-in-Ok-clause-term
returns-in-Ok-clause-term c = line_term c.args.proof.now c.note_term.new.self c.args.shape c.in-Ok.number c.in-Ok.ensures.number (c.note_term.ensures ∙ c.in-Ok.ensures.added)

pub returns-in-Ok-clause-keeps : goal.returns-in-Ok-clause-keeps
returns-in-Ok-clause-keeps c = line_keeps c.args.proof.now c.note_term.new.self c.args.shape c.linked.ensures (c.note_term.ensures ∙ c.in-Ok.ensures.added)
