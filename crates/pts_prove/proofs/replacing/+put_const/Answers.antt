use Rattle.pts_grow.proofs.Grow.{keeps_trans}
use Rattle.pts_prove.proofs.replacing.+put_const.Goals as goal

pub returns-in_ok-b-in-Let-clause-keeps : goal.returns-in_ok-b-in-Let-clause-keeps
returns-in_ok-b-in-Let-clause-keeps t c = keeps_trans _ _ _ c.in_ok-d-in-Let.ensures.keeps (keeps_trans _ _ _ c.in_ok-t-in-Let.ensures.keeps (keeps_trans _ _ _ c.in_ok-b-in-Let.ensures.keeps c.add_line-in-Let.ensures.keeps))
