use Rattle.std.proofs.Common.{refl, sym, subst, IfOk}
use Rattle.pts_lines.specs.Seen.{line_of}
use Rattle.pts_session.specs.Plain.{NamesArePlain}
use Rattle.pts_session.specs.Seen.{came_to}
use Rattle.pts_session.specs.Tested.{Tested}
use Rattle.pts_session.proofs.Plain.{said_plain}
use Rattle.pts_session.proofs.Doing.{line_read, line_unread}
use Rattle.pts_session.proofs.session.Session.run_local.Goals as goal

pub run_boxed-requires-clause-plain : goal.run_boxed-requires-clause-plain
run_boxed-requires-clause-plain c = subst (λ l. NamesArePlain (line_of l)) (sym c.in_ok-new-in-Ok.ensures) (said_plain c.args.text.now (line_of c.in-Ok.line) c.in-Ok.ensures.line)

pub returns-in_ok-new-in-Ok-clause-line : goal.returns-in_ok-new-in-Ok-clause-line
returns-in_ok-new-in-Ok-clause-line c =
    let S = c.args.world.now.system in
    let s = c.args.self.now.state in
    let t = c.run_boxed.new.self.state in
    line_read (λ l u. came_to l u) S s t c.run_boxed.result c.args.text.now c.in-Ok.line
    (record { says = c.in-Ok.ensures.line; depth = c.in-Ok.ensures.depth; parentheses = c.in-Ok.ensures.parentheses })
    (subst (λ L. IfOk c.run_boxed.result (λ l. Tested S s L (came_to l t))) c.in_ok-new-in-Ok.ensures c.run_boxed.ensures.line)

pub returns-in-Err-clause-line : goal.returns-in-Err-clause-line
returns-in-Err-clause-line c =
    line_unread (λ l u. came_to l u) c.args.world.now.system c.args.self.now.state c.args.self.now.state c.unread.result c.args.text.now c.in-Err.fault
    c.unread.ensures.refusal c.in-Err.ensures.refused refl c.unread.ensures.line
