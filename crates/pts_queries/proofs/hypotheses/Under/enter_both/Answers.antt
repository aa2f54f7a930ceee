use Rattle.pts_terms.specs.Seen.{named}
use Rattle.pts_queries.proofs.Growing.{both_grown, stands_later}
use Rattle.pts_queries.proofs.hypotheses.Under.enter_both.Goals as goal

pub returns-in_err-right-clause-grown : goal.returns-in_err-right-clause-grown
returns-in_err-right-clause-grown c = both_grown c.in_ok-left.ensures.grown c.in_err-right.ensures.grown

pub returns-clause-left : goal.returns-clause-left
returns-clause-left c = stands_later c.in_ok-left.left (named c.args.left.now) c.in_ok-right.ensures.grown c.in_ok-left.ensures.term c.in_ok-left.ensures.is

pub returns-clause-grown : goal.returns-clause-grown
returns-clause-grown c = both_grown c.in_ok-left.ensures.grown c.in_ok-right.ensures.grown
