use Rattle.std.proofs.Common.{sym, subst, ◌∙◌, ◌∷◌}
use Rattle.pts_terms.specs.Tree.{app, lam, pi}
use Rattle.pts_ctx.specs.Front.{unknown}
use Rattle.pts_record.specs.Table.{named_at}
use Rattle.pts_rules.specs.Meter.{left}
use Rattle.pts_reduce_cost.specs.Work.{tested, forms_tested}
use Rattle.pts_reduce_cost.proofs.Tests.{tested_too_deep, compared_by_parts}
use Rattle.pts_grow.proofs.Grow.{keeps_trans, node_stays}
use Rattle.pts_reduce.specs.Given.{TestFault, Tested}
use Rattle.pts_reduce.specs.Chain.{entries_of}
use Rattle.pts_reduce.proofs.Faults.{first_faults, second_faults, both_agree, left_faults, handed_on}
use Rattle.pts_reduce.proofs.Converting.{made_left, made_right, tested_stays, leaves_agree, leaves_differ, equal_at_once, unequal_by_forms, chain_there, other_fails, forms_compared}
use Rattle.pts_reduce.proofs.testing.+testing.Goals as goal

pub convert_abstractions-add_clam-requires-clause-left_parts : goal.convert_abstractions-add_clam-requires-clause-left_parts
convert_abstractions-add_clam-requires-clause-left_parts t c =
    made_left c.args.proof.now c.convert_both.new.proof (λ A b. lam A b) c.args.left c.args.right c.args.parts c.in_ok-both.both (keeps_trans c.args.proof.now c.add_bare.new.proof c.convert_both.new.proof c.in_ok-inner.ensures.keeps c.in_ok-both.ensures.keeps) c.requires.left c.requires.parts c.requires.made c.in_ok-both.ensures.pairs

pub convert_abstractions-add_clam-requires-clause-right_parts : goal.convert_abstractions-add_clam-requires-clause-right_parts
convert_abstractions-add_clam-requires-clause-right_parts t c =
    made_right c.args.proof.now c.convert_both.new.proof (λ A b. lam A b) c.args.left c.args.right c.args.parts c.in_ok-both.both (keeps_trans c.args.proof.now c.add_bare.new.proof c.convert_both.new.proof c.in_ok-inner.ensures.keeps c.in_ok-both.ensures.keeps) c.requires.right c.requires.parts c.requires.made c.in_ok-both.ensures.pairs

pub convert_products-add_cpi-requires-clause-left_parts : goal.convert_products-add_cpi-requires-clause-left_parts
convert_products-add_cpi-requires-clause-left_parts t c =
    made_left c.args.proof.now c.convert_both.new.proof (λ A b. pi A b) c.args.left c.args.right c.args.parts c.in_ok-both.both (keeps_trans c.args.proof.now c.add_bare.new.proof c.convert_both.new.proof c.in_ok-inner.ensures.keeps c.in_ok-both.ensures.keeps) c.requires.left c.requires.parts c.requires.made c.in_ok-both.ensures.pairs

pub convert_products-add_cpi-requires-clause-right_parts : goal.convert_products-add_cpi-requires-clause-right_parts
convert_products-add_cpi-requires-clause-right_parts t c =
    made_right c.args.proof.now c.convert_both.new.proof (λ A b. pi A b) c.args.left c.args.right c.args.parts c.in_ok-both.both (keeps_trans c.args.proof.now c.add_bare.new.proof c.convert_both.new.proof c.in_ok-inner.ensures.keeps c.in_ok-both.ensures.keeps) c.requires.right c.requires.parts c.requires.made c.in_ok-both.ensures.pairs

pub convert_applications-add_capp-requires-clause-left_parts : goal.convert_applications-add_capp-requires-clause-left_parts
convert_applications-add_capp-requires-clause-left_parts t c =
    made_left c.args.proof.now c.convert_both.new.proof app c.args.left c.args.right c.args.parts c.in_ok-both.both c.in_ok-both.ensures.keeps c.requires.left c.requires.parts c.requires.made c.in_ok-both.ensures.pairs

pub convert_applications-add_capp-requires-clause-right_parts : goal.convert_applications-add_capp-requires-clause-right_parts
convert_applications-add_capp-requires-clause-right_parts t c =
    made_right c.args.proof.now c.convert_both.new.proof app c.args.left c.args.right c.args.parts c.in_ok-both.both c.in_ok-both.ensures.keeps c.requires.right c.requires.parts c.requires.made c.in_ok-both.ensures.pairs

pub convert_both-returns-in-Err-clause-runs : goal.convert_both-returns-in-Err-clause-runs
convert_both-returns-in-Err-clause-runs t c =
    let p = tested c.args.front.now.entries c.args.allowed (entries_of c.args.proof.now c.args.ctx) (named_at c.args.proof.now.shapes c.args.parts.left_first) (named_at c.args.proof.now.shapes c.args.parts.right_first) (left c.args.meter.now) in
    let q = tested c.args.front.now.entries c.args.allowed (entries_of c.args.proof.now c.args.inner) (named_at c.args.proof.now.shapes c.args.parts.left_second) (named_at c.args.proof.now.shapes c.args.parts.right_second) in
    first_faults c.convert_in.new.proof.shapes c.in_part.result (left c.convert_in.new.meter) p q (c.in_part.ensures c.convert_in.new.proof.shapes (left c.convert_in.new.meter) p c.in-Err.ensures.runs)

pub convert_both-returns-in-Ok-convert_in-clause-runs : goal.convert_both-returns-in-Ok-convert_in-clause-runs
convert_both-returns-in-Ok-convert_in-clause-runs t c =
    let p = tested c.args.front.now.entries c.args.allowed (entries_of c.args.proof.now c.args.ctx) (named_at c.args.proof.now.shapes c.args.parts.left_first) (named_at c.args.proof.now.shapes c.args.parts.right_first) (left c.args.meter.now) in
    let q = tested c.args.front.now.entries c.args.allowed (entries_of c.args.proof.now c.args.inner) (named_at c.args.proof.now.shapes c.args.parts.left_second) (named_at c.args.proof.now.shapes c.args.parts.right_second) in
    let s = tested_stays c.args.front.now.entries c.args.allowed c.args.proof.now c.convert_in.new.proof c.args.inner c.args.parts.left_second c.args.parts.right_second (left c.convert_in.new.meter) c.in-Ok.ensures.keeps c.requires.inner c.requires.parts.2 c.requires.parts.3 in
    both_agree (left c.convert_in.new.meter) (left c.convert_in-2.new.meter) p q c.in-Ok.ensures.runs (sym s ∙ c.in-Ok-convert_in.ensures.runs)

pub convert_both-returns-in-Ok-convert_in-clause-keeps : goal.convert_both-returns-in-Ok-convert_in-clause-keeps
convert_both-returns-in-Ok-convert_in-clause-keeps t c =
    keeps_trans c.args.proof.now c.convert_in.new.proof c.convert_in-2.new.proof c.in-Ok.ensures.keeps c.in-Ok-convert_in.ensures.keeps

pub convert_both-returns-in-Err-convert_in-clause-runs : goal.convert_both-returns-in-Err-convert_in-clause-runs
convert_both-returns-in-Err-convert_in-clause-runs t c =
    let p = tested c.args.front.now.entries c.args.allowed (entries_of c.args.proof.now c.args.ctx) (named_at c.args.proof.now.shapes c.args.parts.left_first) (named_at c.args.proof.now.shapes c.args.parts.right_first) (left c.args.meter.now) in
    let q = tested c.args.front.now.entries c.args.allowed (entries_of c.args.proof.now c.args.inner) (named_at c.args.proof.now.shapes c.args.parts.left_second) (named_at c.args.proof.now.shapes c.args.parts.right_second) in
    let s = tested_stays c.args.front.now.entries c.args.allowed c.args.proof.now c.convert_in.new.proof c.args.inner c.args.parts.left_second c.args.parts.right_second (left c.convert_in.new.meter) c.in-Ok.ensures.keeps c.requires.inner c.requires.parts.2 c.requires.parts.3 in
    let ss = c.convert_in-2.new.proof.shapes in
    let k = left c.convert_in.new.meter in
    let j = left c.convert_in-2.new.meter in
    second_faults ss c.in_part-in-Err-convert_in.result k j p q c.in-Ok.ensures.runs (c.in_part-in-Err-convert_in.ensures ss j (q k) (subst (TestFault ss c.in-Err-convert_in.fault j) s c.in-Err-convert_in.ensures.runs))

pub convert_both-returns-in-Err-convert_in-clause-keeps : goal.convert_both-returns-in-Err-convert_in-clause-keeps
convert_both-returns-in-Err-convert_in-clause-keeps t c =
    keeps_trans c.args.proof.now c.convert_in.new.proof c.convert_in-2.new.proof c.in-Ok.ensures.keeps c.in-Err-convert_in.ensures.keeps

pub convert_forms-returns-in_ok-add_same-in-Leaves-true-clause-runs : goal.convert_forms-returns-in_ok-add_same-in-Leaves-true-clause-runs
convert_forms-returns-in_ok-add_same-in-Leaves-true-clause-runs t c =
    leaves_agree (tested c.args.front.now.entries c.args.allowed) (entries_of c.args.proof.now c.args.ctx) (named_at c.args.proof.now.shapes c.args.left) (named_at c.args.proof.now.shapes c.args.right) c.in-Leaves-true.field-0 (left c.args.meter.now) (c.in-Leaves-true.ensures.0 (entries_of c.args.proof.now c.args.ctx)) c.in-Leaves-true.field-0-test

pub convert_forms-returns-in-Leaves-false-clause-runs : goal.convert_forms-returns-in-Leaves-false-clause-runs
convert_forms-returns-in-Leaves-false-clause-runs t c =
    subst (TestFault c.args.proof.now.shapes c.differ_here.result (left c.args.meter.now)) (sym (leaves_differ (tested c.args.front.now.entries c.args.allowed) (entries_of c.args.proof.now c.args.ctx) (named_at c.args.proof.now.shapes c.args.left) (named_at c.args.proof.now.shapes c.args.right) c.in-Leaves-false.field-0 (left c.args.meter.now) (c.in-Leaves-false.ensures.0 (entries_of c.args.proof.now c.args.ctx)) c.in-Leaves-false.field-0-test)) (c.differ_here.ensures c.args.proof.now.shapes (left c.args.meter.now) c.requires.left c.requires.right)

pub convert_forms-returns-in-Applications-clause-runs : goal.convert_forms-returns-in-Applications-clause-runs
convert_forms-returns-in-Applications-clause-runs t c =
    let d = c.in-Applications.parts in
    subst (Tested c.convert_applications.new.proof.shapes c.convert_applications.result (left c.convert_applications.new.meter)) (sym (compared_by_parts (tested c.args.front.now.entries c.args.allowed) (entries_of c.args.proof.now c.args.ctx) (entries_of c.args.proof.now c.args.ctx) (named_at c.args.proof.now.shapes c.args.left) (named_at c.args.proof.now.shapes c.args.right) (named_at c.args.proof.now.shapes d.left_first) (named_at c.args.proof.now.shapes d.right_first) (named_at c.args.proof.now.shapes d.left_second) (named_at c.args.proof.now.shapes d.right_second) (left c.args.meter.now) (c.in-Applications.ensures.2 (entries_of c.args.proof.now c.args.ctx)))) c.convert_applications.ensures.runs

pub convert_forms-returns-in-Abstractions-clause-runs : goal.convert_forms-returns-in-Abstractions-clause-runs
convert_forms-returns-in-Abstractions-clause-runs t c =
    let d = c.in-Abstractions.parts in
    subst (Tested c.convert_abstractions.new.proof.shapes c.convert_abstractions.result (left c.convert_abstractions.new.meter)) (sym (compared_by_parts (tested c.args.front.now.entries c.args.allowed) (entries_of c.args.proof.now c.args.ctx) (unknown ∷ entries_of c.args.proof.now c.args.ctx) (named_at c.args.proof.now.shapes c.args.left) (named_at c.args.proof.now.shapes c.args.right) (named_at c.args.proof.now.shapes d.left_first) (named_at c.args.proof.now.shapes d.right_first) (named_at c.args.proof.now.shapes d.left_second) (named_at c.args.proof.now.shapes d.right_second) (left c.args.meter.now) (c.in-Abstractions.ensures.2 (entries_of c.args.proof.now c.args.ctx)))) c.convert_abstractions.ensures.runs

pub convert_forms-returns-in-Products-clause-runs : goal.convert_forms-returns-in-Products-clause-runs
convert_forms-returns-in-Products-clause-runs t c =
    let d = c.in-Products.parts in
    subst (Tested c.convert_products.new.proof.shapes c.convert_products.result (left c.convert_products.new.meter)) (sym (compared_by_parts (tested c.args.front.now.entries c.args.allowed) (entries_of c.args.proof.now c.args.ctx) (unknown ∷ entries_of c.args.proof.now c.args.ctx) (named_at c.args.proof.now.shapes c.args.left) (named_at c.args.proof.now.shapes c.args.right) (named_at c.args.proof.now.shapes d.left_first) (named_at c.args.proof.now.shapes d.right_first) (named_at c.args.proof.now.shapes d.left_second) (named_at c.args.proof.now.shapes d.right_second) (left c.args.meter.now) (c.in-Products.ensures.2 (entries_of c.args.proof.now c.args.ctx)))) c.convert_products.ensures.runs

pub convert_in-returns-then-allowed-eq0-clause-runs : goal.convert_in-returns-then-allowed-eq0-clause-runs
convert_in-returns-then-allowed-eq0-clause-runs t c =
    tested_too_deep c.args.front.now.entries c.args.allowed (entries_of c.args.proof.now c.args.ctx) (named_at c.args.proof.now.shapes c.args.left) (named_at c.args.proof.now.shapes c.args.right) (left c.args.meter.now) (left c.pay.new.meter) c.if-allowed-eq0.true c.in_ok-pay.ensures.paid

pub convert_in-returns-then-equal-clause-runs : goal.convert_in-returns-then-equal-clause-runs
convert_in-returns-then-equal-clause-runs t c =
    equal_at_once c.args.front.now.entries c.args.allowed (entries_of c.args.proof.now c.args.ctx) c.args.proof.now.shapes c.args.left c.args.right (left c.args.meter.now) (left c.pay.new.meter) c.equal.result c.if-allowed-eq0.false c.in_ok-pay.ensures.paid c.equal.ensures c.if-equal.true

pub convert_in-returns-clause-runs : goal.convert_in-returns-clause-runs
convert_in-returns-clause-runs t c =
    subst (Tested c.convert_unequal.new.proof.shapes c.convert_unequal.result (left c.convert_unequal.new.meter)) (sym (unequal_by_forms c.args.front.now.entries c.args.allowed (entries_of c.args.proof.now c.args.ctx) c.args.proof.now.shapes c.args.left c.args.right (left c.args.meter.now) (left c.pay.new.meter) c.equal.result c.if-allowed-eq0.false c.in_ok-pay.ensures.paid c.equal.ensures c.if-equal.false)) c.convert_unequal.ensures.runs

pub convert_unequal-join_right-requires-clause-chain : goal.convert_unequal-join_right-requires-clause-chain
convert_unequal-join_right-requires-clause-chain t c =
    let w = chain_there c.args.front.now.entries c.reduce.new.proof c.reduce-2.new.proof c.convert_forms.new.proof c.args.ctx c.args.right c.in_ok-other.other.steps.items c.in_ok-other.other.form (keeps_trans c.reduce.new.proof c.reduce-2.new.proof c.convert_forms.new.proof c.in_ok-other.ensures.keeps c.in_ok-forms.ensures.keeps) c.in_ok-forms.ensures.keeps (node_stays c.args.proof.now c.reduce.new.proof c.args.ctx c.in_ok-one.ensures.keeps c.requires.ctx) c.in_ok-other.ensures.chain in
    w

pub convert_unequal-returns-in_err-joined-clause-keeps : goal.convert_unequal-returns-in_err-joined-clause-keeps
convert_unequal-returns-in_err-joined-clause-keeps t c =
    keeps_trans c.args.proof.now c.convert_forms.new.proof c.join_right.new.proof (keeps_trans c.args.proof.now c.reduce-2.new.proof c.convert_forms.new.proof (keeps_trans c.args.proof.now c.reduce.new.proof c.reduce-2.new.proof c.in_ok-one.ensures.keeps c.in_ok-other.ensures.keeps) c.in_ok-forms.ensures.keeps) c.in_err-joined.ensures.keeps

pub convert_unequal-join_left-requires-clause-chain : goal.convert_unequal-join_left-requires-clause-chain
convert_unequal-join_left-requires-clause-chain t c =
    chain_there c.args.front.now.entries c.args.proof.now c.reduce.new.proof c.join_right.new.proof c.args.ctx c.args.left c.in_ok-one.one.steps.items c.in_ok-one.one.form (keeps_trans c.args.proof.now c.convert_forms.new.proof c.join_right.new.proof (keeps_trans c.args.proof.now c.reduce-2.new.proof c.convert_forms.new.proof (keeps_trans c.args.proof.now c.reduce.new.proof c.reduce-2.new.proof c.in_ok-one.ensures.keeps c.in_ok-other.ensures.keeps) c.in_ok-forms.ensures.keeps) c.in_ok-joined.ensures.keeps) (keeps_trans c.reduce.new.proof c.convert_forms.new.proof c.join_right.new.proof (keeps_trans c.reduce.new.proof c.reduce-2.new.proof c.convert_forms.new.proof c.in_ok-other.ensures.keeps c.in_ok-forms.ensures.keeps) c.in_ok-joined.ensures.keeps) c.requires.ctx c.in_ok-one.ensures.chain

pub convert_unequal-returns-in_err-join_left-clause-keeps : goal.convert_unequal-returns-in_err-join_left-clause-keeps
convert_unequal-returns-in_err-join_left-clause-keeps t c =
    keeps_trans c.args.proof.now c.join_right.new.proof c.join_left.new.proof (keeps_trans c.args.proof.now c.convert_forms.new.proof c.join_right.new.proof (keeps_trans c.args.proof.now c.reduce-2.new.proof c.convert_forms.new.proof (keeps_trans c.args.proof.now c.reduce.new.proof c.reduce-2.new.proof c.in_ok-one.ensures.keeps c.in_ok-other.ensures.keeps) c.in_ok-forms.ensures.keeps) c.in_ok-joined.ensures.keeps) c.in_err-join_left.ensures.keeps

pub convert_unequal-returns-clause-keeps : goal.convert_unequal-returns-clause-keeps
convert_unequal-returns-clause-keeps t c =
    keeps_trans c.args.proof.now c.join_right.new.proof c.join_left.new.proof (keeps_trans c.args.proof.now c.convert_forms.new.proof c.join_right.new.proof (keeps_trans c.args.proof.now c.reduce-2.new.proof c.convert_forms.new.proof (keeps_trans c.args.proof.now c.reduce.new.proof c.reduce-2.new.proof c.in_ok-one.ensures.keeps c.in_ok-other.ensures.keeps) c.in_ok-forms.ensures.keeps) c.in_ok-joined.ensures.keeps) c.in_ok-join_left.ensures.keeps

pub convert_unequal-returns-clause-runs : goal.convert_unequal-returns-clause-runs
convert_unequal-returns-clause-runs t c =
    forms_compared c.args.front.now.entries (tested c.args.front.now.entries c.args.allowed) c.args.proof.now c.reduce.new.proof c.reduce-2.new.proof c.args.ctx c.args.left c.args.right c.in_ok-one.ensures.keeps c.requires.ctx c.requires.right (left c.args.meter.now) (left c.reduce.new.meter) (left c.reduce-2.new.meter) c.in_ok-one.one.form c.in_ok-other.other.form c.in_ok-other.ensures.keeps c.in_ok-one.ensures.chain.form c.in_ok-one.ensures.runs c.in_ok-other.ensures.runs
    ∙ c.in_ok-forms.ensures.runs

pub convert_unequal-returns-in_err-one-clause-runs : goal.convert_unequal-returns-in_err-one-clause-runs
convert_unequal-returns-in_err-one-clause-runs t c =
    handed_on c.reduce.new.proof.shapes c.from_residual.result c.in_err-one.field-0.0 (left c.reduce.new.meter) (forms_tested (tested c.args.front.now.entries c.args.allowed) c.args.front.now.entries (entries_of c.args.proof.now c.args.ctx) (named_at c.args.proof.now.shapes c.args.left) (named_at c.args.proof.now.shapes c.args.right) (left c.args.meter.now)) c.from_residual.ensures.0 c.from_residual.ensures.1
    (left_faults c.reduce.new.proof.shapes c.in_err-one.field-0.0 (tested c.args.front.now.entries c.args.allowed) c.args.front.now.entries (entries_of c.args.proof.now c.args.ctx) (named_at c.args.proof.now.shapes c.args.left) (named_at c.args.proof.now.shapes c.args.right) (left c.args.meter.now) (left c.reduce.new.meter) c.in_err-one.ensures.runs)

pub convert_unequal-returns-in_err-other-clause-runs : goal.convert_unequal-returns-in_err-other-clause-runs
convert_unequal-returns-in_err-other-clause-runs t c =
    handed_on c.reduce-2.new.proof.shapes c.from_residual-in_err-other.result c.in_err-other.field-0.0 (left c.reduce-2.new.meter) (forms_tested (tested c.args.front.now.entries c.args.allowed) c.args.front.now.entries (entries_of c.args.proof.now c.args.ctx) (named_at c.args.proof.now.shapes c.args.left) (named_at c.args.proof.now.shapes c.args.right) (left c.args.meter.now)) c.from_residual-in_err-other.ensures.0 c.from_residual-in_err-other.ensures.1
    (other_fails c.args.front.now.entries (tested c.args.front.now.entries c.args.allowed) c.args.proof.now c.reduce.new.proof c.reduce-2.new.proof c.args.ctx c.args.left c.args.right c.in_ok-one.ensures.keeps c.requires.ctx c.requires.right c.reduce-2.new.proof.shapes c.in_err-other.field-0.0 (left c.args.meter.now) (left c.reduce.new.meter) (left c.reduce-2.new.meter) c.in_ok-one.one.form c.in_ok-one.ensures.runs c.in_err-other.ensures.runs)

pub convert_unequal-returns-in_err-forms-clause-runs : goal.convert_unequal-returns-in_err-forms-clause-runs
convert_unequal-returns-in_err-forms-clause-runs t c =
    handed_on c.convert_forms.new.proof.shapes c.from_residual-in_err-forms.result c.in_err-forms.field-0.0 (left c.convert_forms.new.meter) (forms_tested (tested c.args.front.now.entries c.args.allowed) c.args.front.now.entries (entries_of c.args.proof.now c.args.ctx) (named_at c.args.proof.now.shapes c.args.left) (named_at c.args.proof.now.shapes c.args.right) (left c.args.meter.now)) c.from_residual-in_err-forms.ensures.0 c.from_residual-in_err-forms.ensures.1
    (subst (TestFault c.convert_forms.new.proof.shapes c.in_err-forms.field-0.0 (left c.convert_forms.new.meter)) (sym (forms_compared c.args.front.now.entries (tested c.args.front.now.entries c.args.allowed) c.args.proof.now c.reduce.new.proof c.reduce-2.new.proof c.args.ctx c.args.left c.args.right c.in_ok-one.ensures.keeps c.requires.ctx c.requires.right (left c.args.meter.now) (left c.reduce.new.meter) (left c.reduce-2.new.meter) c.in_ok-one.one.form c.in_ok-other.other.form c.in_ok-other.ensures.keeps c.in_ok-one.ensures.chain.form c.in_ok-one.ensures.runs c.in_ok-other.ensures.runs)) c.in_err-forms.ensures.runs)
