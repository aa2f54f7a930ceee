use Rattle.std.proofs.Common.{refl}
use Rattle.pts_prove.proofs.Working.{adds}
use Rattle.pts_prove.proofs.Searches.{is_under, pattern_under}
use Rattle.pts_prove.proofs.work.Work.under_product.Goals as goal

pub returns-clause-under : goal.returns-clause-under
returns-clause-under c = is_under c.args.at c.args.body c.in_ok-ctx.ensures.bare

pub returns-clause-pattern : goal.returns-clause-pattern
returns-clause-pattern c =
    let i = c.in_ok-ctx.ensures in
    pattern_under c.args.at (adds refl refl refl refl refl i.keeps i.valid) c.requires.body c.requires.few i.bare
