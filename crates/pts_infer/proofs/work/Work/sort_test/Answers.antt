use Rattle.std.proofs.Common.{sym, ap, ◌∙◌}
use Rattle.pts_record.specs.Table.{named_at}
use Rattle.pts_infer_cost.proofs.Tests.{sort_at_once}
use Rattle.pts_infer.proofs.Working.{grown_trans, place_later, term_later, number_later, judged_later, compared_later, going_on}
use Rattle.pts_infer.proofs.Testing.{is_sort, test_unformed, test_no_sort, test_no_axiom, test_reached}
use Rattle.pts_infer.proofs.work.Work.sort_test.Goals as goal

pub sort_of-requires : goal.sort_of-requires
sort_of-requires c = c.requires.judged.claim.there

pub returns-in-Some-clause-runs : goal.returns-in-Some-clause-runs
returns-in-Some-clause-runs c = record { gives = sort_at_once _ _ _ _ _ _ (sym c.in-Some.ensures) }

pub returns-in-Some-clause-sorted : goal.returns-in-Some-clause-sorted
returns-in-Some-clause-sorted c = record { judged = c.requires.judged; sort = is_sort _ _ c.in-Some.ensures }

pub form-requires-clause-at : goal.form-requires-clause-at
form-requires-clause-at c = c.requires.judged.place

pub form-requires-clause-term : goal.form-requires-clause-term
form-requires-clause-term c = c.requires.judged.claim

pub returns-in_err-form-clause-runs : goal.returns-in_err-form-clause-runs
returns-in_err-form-clause-runs c = test_unformed c.args.self.now c.form.new.self c.args.at c.args.judged.claim c.in_default.ensures _ c.from_residual.ensures c.in_err-form.ensures.stopped

pub sort_of-requires-2 : goal.sort_of-requires-2
sort_of-requires-2 c = c.in_ok-form.ensures.compared.right.there

pub returns-in_default-sort_of-clause-runs : goal.returns-in_default-sort_of-clause-runs
returns-in_default-sort_of-clause-runs c =
    let f = c.in_ok-form.ensures in
    test_no_sort c.args.self.now c.form.new.self c.args.at c.args.judged.claim c.in_default.ensures _ f.grown c.requires.judged.claim f.form c.in_default-sort_of.ensures (c.flaw_here.ensures _ (term_later f.grown c.requires.judged.claim).there)

pub returns-in_default-axiom-clause-runs : goal.returns-in_default-axiom-clause-runs
returns-in_default-axiom-clause-runs c =
    let f = c.in_ok-form.ensures in
    test_no_axiom c.args.self.now c.form.new.self c.args.at c.args.judged.claim c.in_default.ensures _ _ f.grown c.requires.judged.claim f.form c.in-Some-sort_of.ensures c.in_default-axiom.ensures.axiom (c.flaw_here-in_default-axiom.ensures _ (term_later f.grown c.requires.judged.claim).there)

pub judge_sort-requires-clause-at : goal.judge_sort-requires-clause-at
judge_sort-requires-clause-at c = place_later c.in_ok-form.ensures.grown c.requires.judged.place

pub judge_sort-requires-clause-term : goal.judge_sort-requires-clause-term
judge_sort-requires-clause-term c = record { term = c.in_ok-form.ensures.compared.right; is = is_sort _ _ c.in-Some-sort_of.ensures }

pub judge_sort-requires-clause-axiom : goal.judge_sort-requires-clause-axiom
judge_sort-requires-clause-axiom c = sym c.in-Some-axiom.ensures.axiom

pub returns-in_err-wanted-clause-grown : goal.returns-in_err-wanted-clause-grown
returns-in_err-wanted-clause-grown c = search going_on

pub judge_conversion-requires-clause-judged : goal.judge_conversion-requires-clause-judged
judge_conversion-requires-clause-judged c =
    let f = c.in_ok-form.ensures in
    let w = c.in_ok-wanted.ensures in
    judged_later w.grown (judged_later f.grown c.requires.judged)

pub judge_conversion-requires-clause-wanted : goal.judge_conversion-requires-clause-wanted
judge_conversion-requires-clause-wanted c = c.in_ok-wanted.ensures.sorted

pub judge_conversion-requires-clause-compared : goal.judge_conversion-requires-clause-compared
judge_conversion-requires-clause-compared c =
    let f = c.in_ok-form.ensures in
    let w = c.in_ok-wanted.ensures in
    compared_later w.grown f.compared

pub returns-in_err-judged-clause-grown : goal.returns-in_err-judged-clause-grown
returns-in_err-judged-clause-grown c = search going_on

pub returns-clause-grown : goal.returns-clause-grown
returns-clause-grown c = search going_on

pub returns-clause-runs : goal.returns-clause-runs
returns-clause-runs c =
    let f = c.in_ok-form.ensures in
    let w = c.in_ok-wanted.ensures in
    let j = c.in_ok-judged.ensures in
    test_reached c.args.self.now c.form.new.self c.args.at c.args.judged.claim c.in_default.ensures _ _ f.grown f.form c.in-Some-sort_of.ensures c.in-Some-axiom.ensures.axiom (j.meter ∙ w.meter)

pub returns-clause-sorted : goal.returns-clause-sorted
returns-clause-sorted c =
    let f = c.in_ok-form.ensures in
    let w = c.in_ok-wanted.ensures in
    let j = c.in_ok-judged.ensures in
    let n = number_later (grown_trans w.grown j.grown) (record { term = f.compared.right; is = is_sort _ _ c.in-Some-sort_of.ensures }) in
    record { judged = j.fitted.judged; sort = ap (named_at _) j.fitted.claim ∙ n.is }
