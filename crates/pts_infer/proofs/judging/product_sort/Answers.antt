use Rattle.pts_infer.proofs.judging.product_sort.Goals as goal

pub returns-in-None-clause-flaw : goal.returns-in-None-clause-flaw
returns-in-None-clause-flaw c = λ ss. c.flaw_here.ensures ss tt
