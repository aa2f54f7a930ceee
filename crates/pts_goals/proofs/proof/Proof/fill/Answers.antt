use Rattle.std.proofs.Common.{inl, inr, ◌≡◌, ℕ, ◌-◌, ◌+◌, ap, ◌∙◌, subst, length}
use Rattle.std.specs.Prelude.{max}
use Rattle.pts_terms.specs.Limits.{depth_of, size_of}
use Rattle.pts_goals.specs.OpenGoals.{skeleton, depth_after, size_after, last_step}
use Rattle.pts_goals.proofs.Views.{step_place, step_within, step_deep, step_large, filled_open, is_filled}
use Rattle.pts_goals.proofs.proof.Proof.fill.Goals as goal

pub measures_with-measures-requires-clause-place : goal.measures_with-measures-requires-clause-place
measures_with-measures-requires-clause-place c =
    let p = c.self.inside in
    let S = c.args.self.now in
    let i = ap (λ n. n - 1) (c.len-last.ensures ∙ p.goals.ok.0) in
    step_place p S c.self.view_is c.requires.here c.self.invariant.0 c.args.step c.requires.fits c.index-goal.result.now (c.len-last.result - 1) i c.index-goal.ensures

pub subgoals-requires-clause-place : goal.subgoals-requires-clause-place
subgoals-requires-clause-place c =
    let p = c.self.inside in
    let S = c.args.self.now in
    let i = ap (λ n. n - 1) (c.len-last.ensures ∙ p.goals.ok.0) in
    step_place p S c.self.view_is c.requires.here c.self.invariant.0 c.args.step c.requires.fits c.index-goal.result.now (c.len-last.result - 1) i c.index-goal.ensures

pub returns-then-measures-gt2000-clause-deep : goal.returns-then-measures-gt2000-clause-deep
returns-then-measures-gt2000-clause-deep c =
    let p = c.self.inside in
    let S = c.args.self.now in
    let i = ap (λ n. n - 1) (c.len-last.ensures ∙ p.goals.ok.0) in
    let m = c.measures_with-measures in
    let d = subst (λ ss. m.result.depth ≡ max (depth_after (last_step ss (length ss))) (c.index-goal.result.now.place + depth_of (skeleton p.scratch c.args.step))) c.deref.ensures.value m.ensures.depth in
    let z = subst (λ ss. m.result.size + 1 ≡ size_after (last_step ss (length ss)) + size_of (skeleton p.scratch c.args.step)) c.deref.ensures.value m.ensures.size in
    λ _. elim c.then-measures-gt2000.either [ inl h ↦ step_deep p S c.self.view_is c.requires.here c.self.invariant.0 c.args.step c.requires.fits c.index-goal.result.now (c.len-last.result - 1) i c.index-goal.ensures m.result.depth m.result.size d z h | inr h ↦ step_large p S c.self.view_is c.requires.here c.self.invariant.0 c.args.step c.requires.fits c.index-goal.result.now (c.len-last.result - 1) i c.index-goal.ensures m.result.depth m.result.size d z h.1 ]

pub returns-clause-within : goal.returns-clause-within
returns-clause-within c =
    let p = c.self.inside in
    let S = c.args.self.now in
    let i = ap (λ n. n - 1) (c.len-last.ensures ∙ p.goals.ok.0) in
    let m = c.measures_with-measures in
    let d = subst (λ ss. m.result.depth ≡ max (depth_after (last_step ss (length ss))) (c.index-goal.result.now.place + depth_of (skeleton p.scratch c.args.step))) c.deref.ensures.value m.ensures.depth in
    let z = subst (λ ss. m.result.size + 1 ≡ size_after (last_step ss (length ss)) + size_of (skeleton p.scratch c.args.step)) c.deref.ensures.value m.ensures.size in
    step_within p S c.self.view_is c.requires.here c.self.invariant.0 c.args.step c.requires.fits c.index-goal.result.now (c.len-last.result - 1) i c.index-goal.ensures m.result.depth m.result.size d z c.if-measures-gt2000.false c.if-measures-gt1000000.false

pub invariant_of-self-2 : goal.invariant_of-self-2
invariant_of-self-2 c =
    let p = c.self.inside in
    let S = c.args.self.now in
    let i = ap (λ n. n - 1) (c.len-last.ensures ∙ p.goals.ok.0) in
    let m = c.measures_with-measures in
    let d = subst (λ ss. m.result.depth ≡ max (depth_after (last_step ss (length ss))) (c.index-goal.result.now.place + depth_of (skeleton p.scratch c.args.step))) c.deref.ensures.value m.ensures.depth in
    let z = subst (λ ss. m.result.size + 1 ≡ size_after (last_step ss (length ss)) + size_of (skeleton p.scratch c.args.step)) c.deref.ensures.value m.ensures.size in
    (filled_open p S c.self.view_is c.requires.here c.self.invariant.0 c.args.step c.requires.fits c.index-goal.result.now (c.len-last.result - 1) i c.index-goal.ensures m.result.depth m.result.size d z c.put.new.steps.items c.reserve.new.self.items c.put.new.goals.items c.reserve-2.new.self.items c.in_ok-others.others.items c.in_ok-reserve.ensures.items c.in_ok-reserve-2.ensures.items c.in_ok-others.ensures.items c.put.ensures.goals c.put.ensures.steps c.if-measures-gt2000.false c.if-measures-gt1000000.false, c.put.ensures.room)

pub returns-clause-filled : goal.returns-clause-filled
returns-clause-filled c =
    let p = c.self.inside in
    let S = c.args.self.now in
    let i = ap (λ n. n - 1) (c.len-last.ensures ∙ p.goals.ok.0) in
    let m = c.measures_with-measures in
    let d = subst (λ ss. m.result.depth ≡ max (depth_after (last_step ss (length ss))) (c.index-goal.result.now.place + depth_of (skeleton p.scratch c.args.step))) c.deref.ensures.value m.ensures.depth in
    let z = subst (λ ss. m.result.size + 1 ≡ size_after (last_step ss (length ss)) + size_of (skeleton p.scratch c.args.step)) c.deref.ensures.value m.ensures.size in
    is_filled p S c.self.view_is c.requires.here c.self.invariant.0 c.args.step c.requires.fits c.index-goal.result.now (c.len-last.result - 1) i c.index-goal.ensures m.result.depth m.result.size d z c.put.new.steps.items c.reserve.new.self.items c.put.new.goals.items c.reserve-2.new.self.items c.in_ok-others.others.items c.in_ok-reserve.ensures.items c.in_ok-reserve-2.ensures.items c.in_ok-others.ensures.items c.put.ensures.goals c.put.ensures.steps
