use Rattle.std.proofs.Common.{refl, ap}
use Rattle.pts_record.specs.Table.{bare_at}
use Rattle.pts_infer.proofs.Atoms.{sort_there}
use Rattle.pts_infer.proofs.Working.{grown_trans, adds, made_later, judged_later, sorted_later, assumption_later, sorted_itself, subject_there, made_by, judged_new}
use Rattle.pts_infer.proofs.Running.{hands, claims}
use Rattle.pts_infer.proofs.work.Work.judge_abstraction.Goals as goal

pub product_line-requires-clause-domain : goal.product_line-requires-clause-domain
product_line-requires-clause-domain c = subject_there c.requires.over.sorted.judged

pub returns-in_err-claim-clause-runs : goal.returns-in_err-claim-clause-runs
returns-in_err-claim-clause-runs c = hands c.from_residual.ensures c.in_err-claim.ensures.runs

pub judge_product-requires-clause-term : goal.judge_product-requires-clause-term
judge_product-requires-clause-term c = made_by refl c.requires.sorted.judged.subject c.in_ok-claim.ensures.made

pub judge_product-requires-clause-over : goal.judge_product-requires-clause-over
judge_product-requires-clause-over c = assumption_later c.in_ok-claim.ensures.grown c.requires.over

pub judge_product-requires-clause-body : goal.judge_product-requires-clause-body
judge_product-requires-clause-body c = sorted_itself (sorted_later c.in_ok-claim.ensures.grown c.requires.sorted)

pub judge_product-requires-clause-rule : goal.judge_product-requires-clause-rule
judge_product-requires-clause-rule c =
    let e = c.in_ok-claim.ensures.grown.system in
    rw e c.requires.rule

pub add_lam-requires-clause-ctx : goal.add_lam-requires-clause-ctx
add_lam-requires-clause-ctx c =
    let l = c.in_ok-claim.ensures in
    let s = c.in_ok-sorted.ensures in
    let o = assumption_later s.grown (assumption_later l.grown c.requires.over) in
    o.sorted.judged.place.there

pub add_lam-requires-clause-typed : goal.add_lam-requires-clause-typed
add_lam-requires-clause-typed c =
    let l = c.in_ok-claim.ensures in
    let s = c.in_ok-sorted.ensures in
    let o = assumption_later s.grown (assumption_later l.grown c.requires.over) in
    o.sorted.judged.place.typed

pub add_lam-requires-clause-subject : goal.add_lam-requires-clause-subject
add_lam-requires-clause-subject c =
    let l = c.in_ok-claim.ensures in
    let s = c.in_ok-sorted.ensures in
    let m = made_later s.grown (made_later l.grown c.requires.term) in
    m.term.there

pub add_lam-requires-clause-claim : goal.add_lam-requires-clause-claim
add_lam-requires-clause-claim c =
    let l = c.in_ok-claim.ensures in
    let s = c.in_ok-sorted.ensures in
    let n = made_later s.grown l.made in
    n.term.there

pub add_lam-requires-clause-inner : goal.add_lam-requires-clause-inner
add_lam-requires-clause-inner c =
    let l = c.in_ok-claim.ensures in
    let s = c.in_ok-sorted.ensures in
    let o = assumption_later s.grown (assumption_later l.grown c.requires.over) in
    o.assumed

pub add_lam-requires-clause-body : goal.add_lam-requires-clause-body
add_lam-requires-clause-body c =
    let l = c.in_ok-claim.ensures in
    let s = c.in_ok-sorted.ensures in
    let b = judged_later s.grown (judged_later l.grown c.requires.body) in
    b.judges

pub add_lam-requires-clause-product : goal.add_lam-requires-clause-product
add_lam-requires-clause-product c = c.in_ok-sorted.ensures.sorted.judged.judges

pub add_lam-requires-clause-parts : goal.add_lam-requires-clause-parts
add_lam-requires-clause-parts c =
    let l = c.in_ok-claim.ensures in
    let s = c.in_ok-sorted.ensures in
    let m = made_later s.grown (made_later l.grown c.requires.term) in
    m.parts

pub add_lam-requires-clause-ty : goal.add_lam-requires-clause-ty
add_lam-requires-clause-ty c =
    let l = c.in_ok-claim.ensures in
    let s = c.in_ok-sorted.ensures in
    let n = made_later s.grown l.made in
    n.parts

pub add_lam-requires-clause-sorted : goal.add_lam-requires-clause-sorted
add_lam-requires-clause-sorted c = ap (bare_at _) c.in_ok-sorted.ensures.sorted.judged.subject

pub add_lam-requires-clause-sort : goal.add_lam-requires-clause-sort
add_lam-requires-clause-sort c = sort_there c.judge_product.new.self.proof.now _ _ c.in_ok-sorted.ensures.sorted.sort

pub returns-in_err-add_lam-clause-grown : goal.returns-in_err-add_lam-clause-grown
returns-in_err-add_lam-clause-grown c =
    let l = c.in_ok-claim.ensures in
    let s = c.in_ok-sorted.ensures in
    grown_trans (grown_trans l.grown s.grown) (adds refl refl refl refl c.in_err-add_lam.ensures.keeps c.in_err-add_lam.ensures.valid)

pub returns-clause-grown : goal.returns-clause-grown
returns-clause-grown c =
    let l = c.in_ok-claim.ensures in
    let s = c.in_ok-sorted.ensures in
    grown_trans (grown_trans l.grown s.grown) (adds refl refl refl refl c.in_ok-add_lam.ensures.keeps c.in_ok-add_lam.ensures.valid)

pub returns-clause-judged : goal.returns-clause-judged
returns-clause-judged c =
    let l = c.in_ok-claim.ensures in
    let s = c.in_ok-sorted.ensures in
    let a = c.in_ok-add_lam.ensures in
    judged_new (grown_trans (grown_trans l.grown s.grown) (adds refl refl refl refl a.keeps a.valid)) c.requires.over.sorted.judged.place a.pair.0 a.judges

pub returns-clause-runs : goal.returns-clause-runs
returns-clause-runs c =
    let l = c.in_ok-claim.ensures in
    let s = c.in_ok-sorted.ensures in
    let a = c.in_ok-add_lam.ensures in
    claims (grown_trans s.grown (adds refl refl refl refl a.keeps a.valid)) l.made.term a.pair.1 s.meter l.runs

pub returns-in_err-sorted-clause-grown : goal.returns-in_err-sorted-clause-grown
returns-in_err-sorted-clause-grown c = grown_trans c.in_ok-claim.ensures.grown c.in_err-sorted.ensures.grown
