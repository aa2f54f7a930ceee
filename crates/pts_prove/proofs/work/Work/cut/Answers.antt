use Rattle.pts_terms.specs.Seen.{named}
use Rattle.pts_prove.proofs.Working.{grown_trans}
use Rattle.pts_prove.proofs.NewVariable.{taken_first}
use Rattle.pts_prove.proofs.LemmaFirst.{cut_untaken, cut_unsorted, cut_open, cut_goes_on}
use Rattle.pts_prove.proofs.work.Work.cut.Goals as goal

pub returns-in_err-check_fresh-clause-came : goal.returns-in_err-check_fresh-clause-came
returns-in_err-check_fresh-clause-came c = taken_first _ c.args.name.now _ _ c.from_residual.ensures c.in_err-check_fresh.ensures.taken

pub returns-in_err-ty-clause-came : goal.returns-in_err-ty-clause-came
returns-in_err-ty-clause-came c = cut_untaken c.args.name.now (named c.args.ty.now) c.in_ok-check_fresh.ensures.fresh c.requires.goal c.from_residual-in_err-ty.ensures c.in_err-ty.ensures.came

pub returns-in_err-lemma-clause-came : goal.returns-in_err-lemma-clause-came
returns-in_err-lemma-clause-came c =
    let t = c.in_ok-ty.ensures in
    cut_unsorted c.args.name.now (named c.args.ty.now) c.in_ok-check_fresh.ensures.fresh c.requires.goal t.grown t.came c.from_residual-in_err-lemma.ensures c.in_err-lemma.ensures.came

pub returns-in_err-parts-clause-came : goal.returns-in_err-parts-clause-came
returns-in_err-parts-clause-came c =
    let t = c.in_ok-ty.ensures in
    let l = c.in_ok-lemma.ensures in
    cut_open c.args.name.now (named c.args.ty.now) c.in_ok-check_fresh.ensures.fresh c.requires.goal t.grown t.came l.grown l.came l.sorted.judged.subject t.term.term c.from_residual-in_err-parts.ensures c.in_err-parts.ensures.came

pub returns-clause-came : goal.returns-clause-came
returns-clause-came c =
    let t = c.in_ok-ty.ensures in
    let l = c.in_ok-lemma.ensures in
    let p = c.in_ok-parts.ensures in
    cut_goes_on c.args.name.now (named c.args.ty.now) c.in_ok-check_fresh.ensures.fresh c.requires.goal t.grown t.came l.grown l.came l.sorted.judged.subject t.term.term p.grown p.lemma p.came c.cut_in.ensures.came

pub returns-in_err-parts-clause-grown : goal.returns-in_err-parts-clause-grown
returns-in_err-parts-clause-grown c = grown_trans (grown_trans c.in_ok-ty.ensures.grown c.in_ok-lemma.ensures.grown) c.in_err-parts.ensures.grown

pub returns-clause-grown : goal.returns-clause-grown
returns-clause-grown c = grown_trans (grown_trans (grown_trans c.in_ok-ty.ensures.grown c.in_ok-lemma.ensures.grown) c.in_ok-parts.ensures.grown) c.cut_in.ensures.grown
