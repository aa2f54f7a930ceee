use Rattle.std.proofs.Common.{ap, ◌∙◌}
use Rattle.pts_ctx.specs.Seen.{global_within}
use Rattle.pts_check.specs.Entered.{declared}
use Rattle.pts_image.proofs.RenamedTerms.{entry_within_renamed}
use Rattle.pts_draft.proofs.NewNames.{declared_renamed}
use Rattle.pts_draft.proofs.renaming.add_renamed.Goals as goal

pub extend-requires-clause-within : goal.extend-requires-clause-within
extend-requires-clause-within g c =
    let f = g.N.Names.new_name c.args.names.now in
    let d = c.args.declaration.now in
    let h = c.in_ok-later.ensures in
    ap global_within (declared_renamed f d c.in_ok-later.later h.name h.body h.ty) ∙ (entry_within_renamed f (declared d) ∙ c.requires.within)
