use Rattle.std.proofs.Common.{sym, ap, ◌∙◌}
use Rattle.pts_terms.specs.Tree.{sort}
use Rattle.pts_rules.specs.Meter.{left}
use Rattle.pts_infer_cost.specs.Typing.{here, no_axiom}
use Rattle.pts_infer_cost.proofs.Ends.{axiom_found, axiom_missing}
use Rattle.pts_infer.proofs.Outwards.{found}
use Rattle.pts_infer.proofs.Running.{ends_as}
use Rattle.pts_infer.proofs.work.Work.infer_sort.Goals as goal

pub judge_sort-requires-clause-axiom : goal.judge_sort-requires-clause-axiom
judge_sort-requires-clause-axiom c = sym c.in-Some.ensures.axiom

pub returns-in_ok-judge_sort-in-Some-clause-runs : goal.returns-in_ok-judge_sort-in-Some-clause-runs
returns-in_ok-judge_sort-in-Some-clause-runs c =
    let j = c.in_ok-judge_sort-in-Some.ensures in
    ends_as _ _ (axiom_found _ _ _ _ (sym c.in-Some.ensures.axiom)) (ap left j.meter) (j.sorted.sort ∙ ap (λ r. sort r.0) j.sort)

pub returns-in-None-clause-runs : goal.returns-in-None-clause-runs
returns-in-None-clause-runs c = record { gives = found _ (here (no_axiom c.args.sort.0)) _ _ _ (c.flaw_here.ensures _ tt) (axiom_missing _ _ _ (sym c.in-None.ensures.axiom)) }
