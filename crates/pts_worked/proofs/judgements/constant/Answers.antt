use Rattle.std.proofs.Common.{sym, ap, ◌∙◌}
use Rattle.pts_record.specs.Table.{bare_at, bare_trees, no_name, unfold_shape}
use Rattle.pts_ctx.specs.Entries.{global_of}
use Rattle.pts_worked.proofs.Constants.{entry_found}
use Rattle.pts_worked.proofs.judgements.constant.Goals as goal

pub add_const-requires-clause-entry : goal.add_const-requires-clause-entry
add_const-requires-clause-entry c =
    let shapes = c.args.record.now.shapes in
    let name = c.shape.ensures.tree ∙ ap (unfold_shape no_name (bare_trees shapes)) c.in-Const.is in
    let same = sym c.is_term.ensures ∙ c.if-not-is_term.false in
    entry_found c.args.front.now.entries (bare_at shapes c.args.subject) (bare_at shapes c.args.claim) c.in-Const.name (global_of c.in_ok-entry.entry.now) name (sym c.in_ok-entry.ensures.entry) same
