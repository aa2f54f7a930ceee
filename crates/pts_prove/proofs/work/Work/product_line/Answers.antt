use Rattle.std.proofs.Common.{refl}
use Rattle.pts_prove.proofs.Working.{adds}
use Rattle.pts_prove.proofs.LemmaFirst.{line_taken, line_untaken, is_pi}
use Rattle.pts_prove.proofs.work.Work.product_line.Goals as goal

pub returns-in-Ok-clause-came : goal.returns-in-Ok-clause-came
returns-in-Ok-clause-came c = line_taken c.args.domain c.args.body c.args.name.now c.in_ok-name.name c.in_ok-name.ensures refl c.in-Ok.ensures.term c.in-Ok.ensures.within

pub returns-in-Ok-clause-line : goal.returns-in-Ok-clause-line
returns-in-Ok-clause-line c = is_pi c.in_ok-name.name (adds refl refl refl refl refl c.in-Ok.ensures.keeps c.in-Ok.ensures.valid) c.requires.domain c.requires.body c.in-Ok.ensures.term

pub returns-in-Err-clause-came : goal.returns-in-Err-clause-came
returns-in-Err-clause-came c = line_untaken c.args.domain c.args.body c.args.name.now c.in_ok-name.name _ c.in_ok-name.ensures refl c.of_making.ensures c.in-Err.ensures.refused
