use Rattle.std.proofs.Common.{sym, subst}
use Rattle.pts_ctx.specs.Front.{bare_front}
use Rattle.pts_rules.specs.Derives.{Legal, legal_empty}
use Rattle.pts_session.proofs.session.Session.new.Goals as goal

pub new-requires-2 : goal.new-requires-2
new-requires-2 c = record { legal = subst (λ G. Legal c.args.world.now.system (bare_front G)) (sym c.new.ensures.entries) legal_empty }
