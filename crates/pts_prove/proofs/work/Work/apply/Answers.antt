use Rattle.pts_terms.specs.Seen.{named}
use Rattle.pts_prove.proofs.Running.{stops}
use Rattle.pts_prove.proofs.Working.{term_later, asked_later, judged_later, grown_trans}
use Rattle.pts_prove.proofs.LinkChains.{apply_uninferred, apply_unmatched, apply_refused, apply_comes, first_pattern, apply_fits}
use Rattle.pts_prove.proofs.work.Work.apply.Goals as goal

pub returns-in_err-term-clause-came : goal.returns-in_err-term-clause-came
returns-in_err-term-clause-came c = stops _ c.from_residual.ensures c.in_err-term.ensures.came

pub returns-in_err-function-clause-came : goal.returns-in_err-function-clause-came
returns-in_err-function-clause-came c =
    let t = c.in_ok-term.ensures in
    apply_uninferred (named c.args.term.now) c.requires.goal t.grown t.came c.from_residual-in_err-function.ensures c.in_err-function.ensures.came

pub returns-in_err-parts-clause-came : goal.returns-in_err-parts-clause-came
returns-in_err-parts-clause-came c =
    let t = c.in_ok-term.ensures in
    let f = c.in_ok-function.ensures in
    apply_unmatched (named c.args.term.now) c.requires.goal t.grown t.came f.grown f.came c.from_residual-in_err-parts.ensures c.in_err-parts.ensures.came

pub returns-in_err-links-clause-came : goal.returns-in_err-links-clause-came
returns-in_err-links-clause-came c =
    let t = c.in_ok-term.ensures in
    let f = c.in_ok-function.ensures in
    let s = c.in_ok-parts.ensures in
    apply_refused (named c.args.term.now) c.requires.goal t.grown t.came f.grown f.came s.grown f.judged.claim s.came c.from_residual-in_err-links.ensures c.in_err-links.ensures.came

pub search-requires-clause-at : goal.search-requires-clause-at
search-requires-clause-at c =
    let t = c.in_ok-term.ensures in
    let f = c.in_ok-function.ensures in
    first_pattern (asked_later f.grown (asked_later t.grown c.requires.goal)) f.judged.claim

pub apply_found-requires-clause-ty : goal.apply_found-requires-clause-ty
apply_found-requires-clause-ty c = term_later c.in_ok-parts.ensures.grown c.in_ok-function.ensures.judged.claim

pub returns-clause-came : goal.returns-clause-came
returns-clause-came c =
    let t = c.in_ok-term.ensures in
    let f = c.in_ok-function.ensures in
    let s = c.in_ok-parts.ensures in
    let l = c.in_ok-links.ensures in
    apply_comes (named c.args.term.now) c.requires.goal t.grown t.came f.grown f.came s.grown f.judged.claim s.came l.grown f.judged.subject t.term.term c.of.ensures l.came

pub returns-clause-fits : goal.returns-clause-fits
returns-clause-fits c =
    let f = c.in_ok-function.ensures in
    let s = c.in_ok-parts.ensures in
    let l = c.in_ok-links.ensures in
    apply_fits _ c.of.ensures (judged_later l.grown (judged_later s.grown f.judged)) l.count s.few l.chain

pub returns-in_err-links-clause-grown : goal.returns-in_err-links-clause-grown
returns-in_err-links-clause-grown c =
    grown_trans (grown_trans (grown_trans c.in_ok-term.ensures.grown c.in_ok-function.ensures.grown) c.in_ok-parts.ensures.grown) c.in_err-links.ensures.grown

pub returns-clause-grown : goal.returns-clause-grown
returns-clause-grown c =
    grown_trans (grown_trans (grown_trans c.in_ok-term.ensures.grown c.in_ok-function.ensures.grown) c.in_ok-parts.ensures.grown) c.in_ok-links.ensures.grown
