use Rattle.std.proofs.Common.{sym, subst}
use Rattle.pts_ctx.specs.Front.{bare_front}
use Rattle.pts_rules.specs.Derives.{Legal, legal_empty}
use Rattle.pts_prove_tests.proofs.scene.begun.Goals as goal

pub new-requires : goal.new-requires
new-requires c = record { legal = subst (λ G. Legal c.args.system.now (bare_front G)) (sym c.new-front.ensures.entries) legal_empty }
