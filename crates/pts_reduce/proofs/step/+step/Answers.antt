use Rattle.std.proofs.Common.{◌≡◌, ◌<◌, ap, sym, subst, ◌∙◌, Some, length, arith}
use Rattle.std.specs.Option.{option_map}
use Rattle.pts_terms.specs.Tree.{app}
use Rattle.pts_record.specs.Table.{AllBelow, shape_links, named_at, named_trees, unfold_shape, the_name}
use Rattle.pts_record.specs.Said.{named_told, scope_of}
use Rattle.pts_rules.specs.Meter.{left}
use Rattle.pts_rules.specs.Step.{head_step}
use Rattle.pts_reduce_cost.specs.Run.{ends}
use Rattle.pts_reduce_cost.specs.Work.{stepped}
use Rattle.pts_reduce_cost.proofs.Steps.{none_step}
use Rattle.pts_grow.proofs.Grow.{tree_stays}
use Rattle.pts_reduce.proofs.Stepping.{made_in, steps_inside, has_no_step}
use Rattle.pts_reduce.proofs.step.+step.Goals as goal

pub returns-in_ok-apply-in-Some-2-clause-runs : goal.returns-in_ok-apply-in-Some-2-clause-runs
returns-in_ok-apply-in-Some-2-clause-runs t c =
    let G = c.args.front.now.entries in
    let L = (scope_of (named_told c.args.proof.now c.args.ctx)).entries in
    let old = c.args.proof.now in
    let mid = c.step.new.proof in
    let f = named_at old.shapes c.in-App.function in
    let a = named_at mid.shapes c.in-App.argument in
    let k = left c.args.meter.now in
    let j = left c.step.new.meter in
    let links = subst (λ s. AllBelow c.args.term (shape_links s)) c.in-App.is c.shape.ensures.links in
    let stands = c.requires.term in
    let there : c.in-App.argument < length old.shapes = omega (arith, links.1.0, stands) in
    let same : a ≡ named_at old.shapes c.in-App.argument = tree_stays old mid c.in-App.argument c.in_ok-next-in-App.ensures.keeps there in
    let whole : named_at old.shapes c.args.term ≡ app f a = c.shape.ensures.named ∙ ap (unfold_shape the_name (named_trees old.shapes)) c.in-App.is ∙ ap (app f) (sym same) in
    let runs : stepped (head_step G L f) k ≡ ends (Some (named_at mid.shapes c.in-Some-2.next)) j = c.in_ok-next-in-App.ensures.runs ∙ ap (λ o. ends (option_map (named_at mid.shapes) o) j) c.in-Some-2.is in
    ap (λ t. stepped (head_step G L t) k) whole
    ∙ ap (λ o. stepped o k) (steps_inside G L f a (sym c.in_default.ensures.body))
    ∙ made_in (head_step G L f) (named_at mid.shapes c.in-Some-2.next) a _ k j runs c.in_ok-apply-in-Some-2.ensures.term.1 c.in_ok-apply-in-Some-2.ensures.within

pub returns-in-Sort-clause-runs : goal.returns-in-Sort-clause-runs
returns-in-Sort-clause-runs t c = none_step _ (left c.args.meter.now) (has_no_step c.args.front.now.entries (scope_of (named_told c.args.proof.now c.args.ctx)).entries c.args.proof.now.shapes c.shape.result.now (named_at c.args.proof.now.shapes c.args.term) c.shape.ensures.named c.in-Sort.is)
