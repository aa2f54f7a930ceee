use Rattle.std.proofs.Common.{◌++◌, ◌∷◌, [], ap, ◌∙◌, arith}
use Rattle.pts_ctx.specs.Entries.{global_of}
use Rattle.pts_queries.specs.Replies.{shown_line}
use Rattle.pts_session.proofs.Listed.{shown_next}
use Rattle.pts_session.proofs.session.shown_lines.Goals as goal

pub loop-place-preserved : goal.loop-place-preserved
loop-place-preserved c =
    let i = c.loop-place.invariant in (
      omega (arith, i.0),
      shown_next (shown_line c.args.system.now.sorts) c.args.from c.loop-place.place c.args.scope.now.entries (global_of c.entry.result.now) c.loop-place.lines.items c.push.new.self.items
          i.0 c.entry.ensures.entry i.1 (c.in_ok-push.ensures.items ∙ ap (λ x. c.loop-place.lines.items ++ x ∷ []) c.in_ok-shown_line.ensures),
    )
