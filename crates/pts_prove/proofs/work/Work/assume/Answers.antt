use Rattle.std.proofs.Common.{refl}
use Rattle.pts_grow.proofs.Grow.{keeps_trans, valid_trans}
use Rattle.pts_prove.proofs.Working.{adds}
use Rattle.pts_prove.proofs.OtherStatement.{is_sort}
use Rattle.pts_prove.proofs.LemmaFirst.{is_under}
use Rattle.pts_prove.proofs.work.Work.assume.Goals as goal

pub add_assume-requires-clause-sort : goal.add_assume-requires-clause-sort
add_assume-requires-clause-sort c = is_sort c.requires.lemma

pub returns-clause-under : goal.returns-clause-under
returns-clause-under c =
    let i = c.in_ok-ctx.ensures in
    let t = c.in_ok-statement.ensures in
    is_under c.add_assume.new.proof _ _ (adds refl refl refl refl refl (keeps_trans _ _ _ i.keeps t.keeps) (valid_trans _ _ _ i.valid t.valid)) c.requires.goal c.requires.lemma i.keeps t.keeps i.assume i.typed t.term
