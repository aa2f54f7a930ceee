use Rattle.std.proofs.Common.{◌≡◌, ◌<◌, sym, ap, ◌∙◌, subst, Some, None, length, arith, suc}
use Rattle.std.specs.Option.{option_map}
use Rattle.std.specs.Prelude.{IfSome}
use Rattle.pts_record.specs.Table.{named_at}
use Rattle.pts_rules.specs.Meter.{left}
use Rattle.pts_rules.specs.Step.{head_step}
use Rattle.pts_reduce_cost.specs.Run.{ends}
use Rattle.pts_reduce_cost.specs.Work.{stepped}
use Rattle.pts_reduce_cost.proofs.Steps.{was_made}
use Rattle.pts_grow.proofs.Grow.{keeps_trans, tree_stays}
use Rattle.pts_reduce.specs.Chain.{Walk, entries_of}
use Rattle.pts_reduce.proofs.Paid.{later_refl, later_trans}
use Rattle.pts_reduce.proofs.Walks.{walk_first, walk_next, walk_stops, entries_stay, still_chain}
use Rattle.pts_reduce.proofs.chain.reduce.Goals as goal

pub walk-init : goal.walk-init
walk-init c =
    (subst (λ ks. Walk c.args.front.now.entries c.args.proof.now c.args.ctx c.args.term (left c.args.meter.now) c.args.proof.now c.args.term ks (left c.args.meter.now)) (sym c.new-steps.ensures.items) (walk_first c.args.front.now.entries c.args.proof.now c.args.ctx c.args.term (left c.args.meter.now) c.requires.term), later_refl c.args.meter.now)

pub returns-in_err-next-clause-keeps : goal.returns-in_err-next-clause-keeps
returns-in_err-next-clause-keeps c = keeps_trans c.args.proof.now c.walk.proof c.step.new.proof c.walk.invariant.0.keeps c.in_err-next.ensures.keeps

pub returns-in_err-push-clause-keeps : goal.returns-in_err-push-clause-keeps
returns-in_err-push-clause-keeps c = keeps_trans c.args.proof.now c.walk.proof c.step.new.proof c.walk.invariant.0.keeps c.in_ok-next.ensures.keeps

pub walk-smaller : goal.walk-smaller
walk-smaller c =
    let e = c.in_ok-next.ensures.runs ∙ ap (λ o. ends (option_map (named_at c.step.new.proof.shapes) o) (left c.step.new.meter)) c.in-Some.is in
    let h : left c.walk.meter ≡ suc (left c.step.new.meter) = (was_made _ _ _ _ e).2 in
    let g : left c.step.new.meter < left c.walk.meter = omega (arith, h) in
    g

pub walk-preserved : goal.walk-preserved
walk-preserved c =
    let w = c.walk.invariant.0 in
    let G = c.args.front.now.entries in
    let a = c.args.proof.now in
    let b = c.walk.proof in
    let d = c.step.new.proof in
    let s = entries_stay G a c.args.ctx c.args.term (left c.args.meter.now) b c.walk.form c.walk.steps.items (left c.walk.meter) w c.requires.ctx in
    let e : stepped (head_step G (entries_of a c.args.ctx) (named_at b.shapes c.walk.form)) (left c.walk.meter) ≡ ends (Some (named_at d.shapes c.in-Some.next)) (left c.step.new.meter) =
    ap (λ L. stepped (head_step G L (named_at b.shapes c.walk.form)) (left c.walk.meter)) (sym s)
    ∙ c.in_ok-next.ensures.runs
    ∙ ap (λ o. ends (option_map (named_at d.shapes) o) (left c.step.new.meter)) c.in-Some.is in
    let h = subst (λ o. IfSome o (λ n. n < length d.shapes)) c.in-Some.is c.in_ok-next.ensures.stands in (
      subst (λ ks. Walk G a c.args.ctx c.args.term (left c.args.meter.now) d c.in-Some.next ks (left c.step.new.meter)) (sym c.in_ok-push.ensures.items)
          (walk_next G a c.args.ctx c.args.term (left c.args.meter.now) b c.walk.form c.walk.steps.items (left c.walk.meter) d c.in-Some.next (left c.step.new.meter) w e h c.in_ok-next.ensures.keeps c.in_ok-next.ensures.valid c.in_ok-next.ensures.nodes),
      later_trans c.args.meter.now c.walk.meter c.step.new.meter c.walk.invariant.1 c.in_ok-next.ensures.later,
    )

pub returns-clause-runs : goal.returns-clause-runs
returns-clause-runs c =
    let w = c.walk.invariant.0 in
    let G = c.args.front.now.entries in
    let a = c.args.proof.now in
    let b = c.walk.proof in
    let d = c.step.new.proof in
    let s = entries_stay G a c.args.ctx c.args.term (left c.args.meter.now) b c.walk.form c.walk.steps.items (left c.walk.meter) w c.requires.ctx in
    let e : stepped (head_step G (entries_of a c.args.ctx) (named_at b.shapes c.walk.form)) (left c.walk.meter) ≡ ends None (left c.step.new.meter) =
    ap (λ L. stepped (head_step G L (named_at b.shapes c.walk.form)) (left c.walk.meter)) (sym s)
    ∙ c.in_ok-next.ensures.runs
    ∙ ap (λ o. ends (option_map (named_at d.shapes) o) (left c.step.new.meter)) c.in_default.is in
    walk_stops G a c.args.ctx c.args.term (left c.args.meter.now) b c.walk.form c.walk.steps.items (left c.walk.meter) (left c.step.new.meter) w e
    ∙ ap (λ t. ends t (left c.step.new.meter)) (sym (tree_stays b d c.walk.form c.in_ok-next.ensures.keeps w.chain.form))

pub returns-clause-chain : goal.returns-clause-chain
returns-clause-chain c = still_chain c.args.front.now.entries (entries_of c.args.proof.now c.args.ctx) c.walk.proof c.step.new.proof c.args.term c.walk.steps.items c.walk.form c.in_ok-next.ensures.keeps c.walk.invariant.0.chain

pub returns-clause-keeps : goal.returns-clause-keeps
returns-clause-keeps c = keeps_trans c.args.proof.now c.walk.proof c.step.new.proof c.walk.invariant.0.keeps c.in_ok-next.ensures.keeps
