use Rattle.std.proofs.Common.{sym, subst}
use Rattle.pts_check.specs.Entered.{declared_entries}
use Rattle.pts_core.specs.InnerNames.{NoneInner}
use Rattle.pts_session.proofs.session.Session.move_base.Goals as goal

pub invariant_of-self-in_err-push : goal.invariant_of-self-in_err-push
invariant_of-self-in_err-push c = subst (λ ds. NoneInner (declared_entries ds)) (sym c.move_draft.ensures.declarations) c.self.invariant

pub invariant_of-self-2 : goal.invariant_of-self-2
invariant_of-self-2 c = subst (λ ds. NoneInner (declared_entries ds)) (sym c.move_draft.ensures.declarations) c.self.invariant
