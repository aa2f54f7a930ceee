use Rattle.std.proofs.Common.{refl}
use Rattle.pts_prove.proofs.Openings.{product_value, product_fault}
use Rattle.pts_prove.proofs.work.Work.sort_product.Goals as goal

pub returns-in-Ok-clause-came : goal.returns-in-Ok-clause-came
returns-in-Ok-clause-came c =
    let j = c.in-Ok.ensures.judged in
    product_value c.args.goal.ctx c.args.opening j.0 j.1 j.2 c.in-Ok.ensures.formed c.requires.opening.parts c.in-Ok.ensures.parts

pub returns-in-Err-clause-came : goal.returns-in-Err-clause-came
returns-in-Err-clause-came c = product_fault c.args.goal.ctx c.args.opening _ refl c.put_in.ensures c.in-Err.ensures.refused
