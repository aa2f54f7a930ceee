use Rattle.std.proofs.Common.{nat_eq}
use Rattle.std.specs.Cmp.Lexicographic.{pointwise}
use Rattle.pts_ctx.proofs.Equal.{decides, text_equal, text_itself}
use Rattle.pts_ctx.proofs.system.same_spellings.Goals as goal

pub returns : goal.returns
returns c = decides (pointwise nat_eq) text_equal text_itself c.args.one.now c.args.other.now c.eq.result c.eq.ensures
