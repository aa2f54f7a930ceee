use Rattle.std.proofs.Common.{◌∙◌}
use Rattle.pts_terms.specs.Seen.{named}
use Rattle.pts_prove.proofs.Running.{stops}
use Rattle.pts_prove.proofs.TermGiven.{exact_uninferred, exact_unfitted, exact_comes}
use Rattle.pts_prove.proofs.work.Work.exact.Goals as goal

pub returns-in_err-term-clause-came : goal.returns-in_err-term-clause-came
returns-in_err-term-clause-came c = stops _ c.from_residual.ensures c.in_err-term.ensures.came

pub returns-in_err-judged-clause-came : goal.returns-in_err-judged-clause-came
returns-in_err-judged-clause-came c =
    let t = c.in_ok-term.ensures in
    exact_uninferred (named c.args.term.now) c.requires.goal t.grown t.came c.from_residual-in_err-judged.ensures c.in_err-judged.ensures.came

pub returns-in_err-node-clause-came : goal.returns-in_err-node-clause-came
returns-in_err-node-clause-came c =
    let t = c.in_ok-term.ensures in
    let j = c.in_ok-judged.ensures in
    exact_unfitted (named c.args.term.now) c.requires.goal t.grown t.came j.grown j.came c.from_residual-in_err-node.ensures c.in_err-node.ensures.came

pub returns-clause-came : goal.returns-clause-came
returns-clause-came c =
    let t = c.in_ok-term.ensures in
    let j = c.in_ok-judged.ensures in
    let f = c.in_ok-node.ensures in
    exact_comes (named c.args.term.now) c.requires.goal t.grown t.came j.grown j.came f.grown t.term (f.fitted.judged.subject ∙ j.judged.subject) f.came
