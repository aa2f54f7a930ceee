use Rattle.pts_prove.proofs.work.Work.step.Goals as goal

pub returns-in-Intro-clause-came : goal.returns-in-Intro-clause-came
returns-in-Intro-clause-came c = rw c.in-Intro.is c.intro.ensures.came

pub returns-in-Exact-clause-came : goal.returns-in-Exact-clause-came
returns-in-Exact-clause-came c = rw c.in-Exact.is c.exact.ensures.came

pub returns-in-Apply-clause-came : goal.returns-in-Apply-clause-came
returns-in-Apply-clause-came c = rw c.in-Apply.is c.apply.ensures.came

pub returns-in-Cut-clause-came : goal.returns-in-Cut-clause-came
returns-in-Cut-clause-came c = rw c.in-Cut.is c.cut.ensures.came

pub returns-in-Unfold-clause-came : goal.returns-in-Unfold-clause-came
returns-in-Unfold-clause-came c = rw c.in-Unfold.is c.unfold.ensures.came

pub returns-in-Convert-clause-came : goal.returns-in-Convert-clause-came
returns-in-Convert-clause-came c = rw c.in-Convert.is c.convert.ensures.came
