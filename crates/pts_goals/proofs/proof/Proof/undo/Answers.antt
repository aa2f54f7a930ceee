use Rattle.std.proofs.Common.{ap, ◌∙◌}
use Rattle.pts_goals.proofs.Views.{undo_open, undo_filled, last_enough}
use Rattle.pts_goals.proofs.proof.Proof.undo.Goals as goal

pub take_back-requires-clause-goals : goal.take_back-requires-clause-goals
take_back-requires-clause-goals c = last_enough c.self.inside c.self.invariant.0

pub invariant_of-self : goal.invariant_of-self
invariant_of-self c =
    let t = c.take_back in
    (undo_open c.self.inside c.self.invariant.0 t.new.steps.items t.new.goals.items t.result t.ensures.none t.ensures.undone, t.ensures.room)

pub returns-clause-undone : goal.returns-clause-undone
returns-clause-undone c = λ h. undo_filled c.self.inside c.self.invariant.0 c.take_back.new.steps.items c.take_back.new.goals.items c.args.self.now c.self.view_is (c.take_back.ensures.undone h)

pub returns-clause-here : goal.returns-clause-here
returns-clause-here c = ap (λ o. o.is_lent) c.self.view_is ∙ c.requires.here
