use Rattle.std.specs.Option.{option_eq}
use Rattle.pts_ctx.proofs.Equal.{decides, same_sort, entry_equal, entry_itself}
use Rattle.pts_ctx.proofs.system.same_tables.Goals as goal

pub returns : goal.returns
returns c = decides (option_eq same_sort) entry_equal entry_itself c.args.one.now c.args.other.now c.eq.result c.eq.ensures
