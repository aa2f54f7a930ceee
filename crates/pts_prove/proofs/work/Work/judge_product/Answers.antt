use Rattle.std.proofs.Common.{refl, ap, ◌∙◌}
use Rattle.pts_record.specs.Table.{named_at}
use Rattle.pts_grow.proofs.Grow.{keeps_trans, tree_stays}
use Rattle.pts_prove.proofs.Working.{adds_here}
use Rattle.pts_prove.proofs.LemmaFirst.{is_cut}
use Rattle.pts_prove.proofs.work.Work.judge_product.Goals as goal

pub returns-clause-cut : goal.returns-clause-cut
returns-clause-cut c =
    let s = c.in_ok-claim.ensures in
    let j = c.in_ok-judged.ensures in
    let m = c.sort_line.new.proof in
    let b = c.add_pi.new.proof in
    let t = ap (named_at b.shapes) j.pair.1 ∙ tree_stays m b c.in_ok-claim.claim j.keeps s.term.0 ∙ s.term.1 in
    is_cut (adds_here refl refl refl refl refl (keeps_trans _ _ _ s.keeps j.keeps) (λ v. j.valid _ (s.valid _ _ v))) c.requires.parts c.requires.line j.judges j.pair.0 t
