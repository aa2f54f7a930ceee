use Rattle.std.proofs.Common.{ap, ◌∙◌}
use Rattle.pts_ctx.specs.Front.{find}
use Rattle.pts_image_tests.proofs.Worked.{fresh_in_none}
use Rattle.pts_image_tests.proofs.makers.front.Goals as goal

pub push-requires-clause-fresh : goal.push-requires-clause-fresh
push-requires-clause-fresh c = fresh_in_none c.args.name c.reserve.new.self.entries (c.reserve.ensures.entries ∙ c.new-front.ensures.entries)
