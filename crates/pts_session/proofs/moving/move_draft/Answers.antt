use Rattle.std.proofs.Common.{sym, ap, ◌∙◌, subst, Some}
use Rattle.pts_core.specs.Cores.{labelled}
use Rattle.pts_draft.specs.Drafts.{first_taken}
use Rattle.pts_draft.specs.Refusals.{IsTaken}
use Rattle.pts_session.proofs.Moved.{line_none, line_some, state_moved, state_stays}
use Rattle.pts_session.proofs.moving.move_draft.Goals as goal

pub returns-in-Ok-clause-line : goal.returns-in-Ok-clause-line
returns-in-Ok-clause-line c = sym (line_none c.args.draft.now c.move_to.new.self (labelled c.args.front) c.in-Ok.ensures.free)

pub returns-in-Ok-clause-state : goal.returns-in-Ok-clause-state
returns-in-Ok-clause-state c = state_moved c.args.draft.now c.move_to.new.self (labelled c.args.front) c.in-Ok.ensures.free c.in-Ok.ensures.entries c.in-Ok.ensures.labels c.in-Ok.ensures.declarations

pub returns-in_ok-taken_line-in-Err-Taken-clause-line : goal.returns-in_ok-taken_line-in-Err-Taken-clause-line
returns-in_ok-taken_line-in-Err-Taken-clause-line c =
    let t = subst (IsTaken (first_taken c.args.front.entries c.args.draft.now.declarations)) c.in-Err-Taken.field-0-is c.in-Err-Taken.ensures.taken in
    ap Some c.in_ok-taken_line-in-Err-Taken.ensures ∙ sym (line_some c.args.draft.now c.move_to.new.self (labelled c.args.front) c.in-Err-Taken.name c.in-Err-Taken.place t)

pub returns-in_ok-taken_line-in-Err-Taken-clause-state : goal.returns-in_ok-taken_line-in-Err-Taken-clause-state
returns-in_ok-taken_line-in-Err-Taken-clause-state c =
    let t = subst (IsTaken (first_taken c.args.front.entries c.args.draft.now.declarations)) c.in-Err-Taken.field-0-is c.in-Err-Taken.ensures.taken in
    state_stays c.args.draft.now c.move_to.new.self (labelled c.args.front) c.in-Err-Taken.name c.in-Err-Taken.place t c.in-Err-Taken.ensures.same
