use Rattle.std.proofs.Common.{refl, ap}
use Rattle.pts_record.specs.Table.{bare_at}
use Rattle.pts_infer.proofs.Atoms.{sort_there}
use Rattle.pts_infer.proofs.Working.{grown_trans, adds, let_later, judged_later, sorted_later, definition_later, sorted_itself, subject_there, let_by, judged_new}
use Rattle.pts_infer.proofs.Running.{hands, claims}
use Rattle.pts_infer.proofs.work.Work.judge_introduction.Goals as goal

pub let_line-requires-clause-value : goal.let_line-requires-clause-value
let_line-requires-clause-value c = subject_there c.requires.over.judged

pub let_line-requires-clause-ty : goal.let_line-requires-clause-ty
let_line-requires-clause-ty c = c.requires.over.judged.claim

pub returns-in_err-claim-clause-runs : goal.returns-in_err-claim-clause-runs
returns-in_err-claim-clause-runs c = hands c.from_residual.ensures c.in_err-claim.ensures.runs

pub judge_formation-requires-clause-term : goal.judge_formation-requires-clause-term
judge_formation-requires-clause-term c = let_by refl refl c.requires.sorted.judged.subject c.in_ok-claim.ensures.made

pub judge_formation-requires-clause-over : goal.judge_formation-requires-clause-over
judge_formation-requires-clause-over c = definition_later c.in_ok-claim.ensures.grown c.requires.over

pub judge_formation-requires-clause-body : goal.judge_formation-requires-clause-body
judge_formation-requires-clause-body c = sorted_itself (sorted_later c.in_ok-claim.ensures.grown c.requires.sorted)

pub add_let-requires-clause-ctx : goal.add_let-requires-clause-ctx
add_let-requires-clause-ctx c =
    let l = c.in_ok-claim.ensures in
    let s = c.in_ok-sorted.ensures in
    let o = definition_later s.grown (definition_later l.grown c.requires.over) in
    o.judged.place.there

pub add_let-requires-clause-typed : goal.add_let-requires-clause-typed
add_let-requires-clause-typed c =
    let l = c.in_ok-claim.ensures in
    let s = c.in_ok-sorted.ensures in
    let o = definition_later s.grown (definition_later l.grown c.requires.over) in
    o.judged.place.typed

pub add_let-requires-clause-subject : goal.add_let-requires-clause-subject
add_let-requires-clause-subject c =
    let l = c.in_ok-claim.ensures in
    let s = c.in_ok-sorted.ensures in
    let m = let_later s.grown (let_later l.grown c.requires.term) in
    m.term.there

pub add_let-requires-clause-claim : goal.add_let-requires-clause-claim
add_let-requires-clause-claim c =
    let l = c.in_ok-claim.ensures in
    let s = c.in_ok-sorted.ensures in
    let n = let_later s.grown l.made in
    n.term.there

pub add_let-requires-clause-inner : goal.add_let-requires-clause-inner
add_let-requires-clause-inner c =
    let l = c.in_ok-claim.ensures in
    let s = c.in_ok-sorted.ensures in
    let o = definition_later s.grown (definition_later l.grown c.requires.over) in
    o.defined

pub add_let-requires-clause-body : goal.add_let-requires-clause-body
add_let-requires-clause-body c =
    let l = c.in_ok-claim.ensures in
    let s = c.in_ok-sorted.ensures in
    let b = judged_later s.grown (judged_later l.grown c.requires.body) in
    b.judges

pub add_let-requires-clause-sorted : goal.add_let-requires-clause-sorted
add_let-requires-clause-sorted c = c.in_ok-sorted.ensures.sorted.judged.judges

pub add_let-requires-clause-parts : goal.add_let-requires-clause-parts
add_let-requires-clause-parts c =
    let l = c.in_ok-claim.ensures in
    let s = c.in_ok-sorted.ensures in
    let m = let_later s.grown (let_later l.grown c.requires.term) in
    m.parts

pub add_let-requires-clause-ty : goal.add_let-requires-clause-ty
add_let-requires-clause-ty c =
    let l = c.in_ok-claim.ensures in
    let s = c.in_ok-sorted.ensures in
    let n = let_later s.grown l.made in
    n.parts

pub add_let-requires-clause-same : goal.add_let-requires-clause-same
add_let-requires-clause-same c = ap (bare_at _) c.in_ok-sorted.ensures.sorted.judged.subject

pub add_let-requires-clause-sort : goal.add_let-requires-clause-sort
add_let-requires-clause-sort c = sort_there c.judge_formation.new.self.proof.now _ _ c.in_ok-sorted.ensures.sorted.sort

pub returns-in_err-add_let-clause-grown : goal.returns-in_err-add_let-clause-grown
returns-in_err-add_let-clause-grown c =
    let l = c.in_ok-claim.ensures in
    let s = c.in_ok-sorted.ensures in
    grown_trans (grown_trans l.grown s.grown) (adds refl refl refl refl c.in_err-add_let.ensures.keeps c.in_err-add_let.ensures.valid)

pub returns-clause-grown : goal.returns-clause-grown
returns-clause-grown c =
    let l = c.in_ok-claim.ensures in
    let s = c.in_ok-sorted.ensures in
    grown_trans (grown_trans l.grown s.grown) (adds refl refl refl refl c.in_ok-add_let.ensures.keeps c.in_ok-add_let.ensures.valid)

pub returns-clause-judged : goal.returns-clause-judged
returns-clause-judged c =
    let l = c.in_ok-claim.ensures in
    let s = c.in_ok-sorted.ensures in
    let a = c.in_ok-add_let.ensures in
    judged_new (grown_trans (grown_trans l.grown s.grown) (adds refl refl refl refl a.keeps a.valid)) c.requires.over.judged.place a.pair.0 a.judges

pub returns-clause-runs : goal.returns-clause-runs
returns-clause-runs c =
    let l = c.in_ok-claim.ensures in
    let s = c.in_ok-sorted.ensures in
    let a = c.in_ok-add_let.ensures in
    claims (grown_trans s.grown (adds refl refl refl refl a.keeps a.valid)) l.made.term a.pair.1 s.meter l.runs

pub returns-in_err-sorted-clause-grown : goal.returns-in_err-sorted-clause-grown
returns-in_err-sorted-clause-grown c = grown_trans c.in_ok-claim.ensures.grown c.in_err-sorted.ensures.grown
