use Rattle.std.proofs.Common.{sym, subst}
use Rattle.pts_ctx.specs.Front.{bare_front}
use Rattle.pts_rules.specs.Derives.{Legal}
use Rattle.pts_core.specs.Cores.{labelled}
use Rattle.pts_draft.proofs.Keeping.{kept_new}
use Rattle.pts_draft.proofs.draft.Draft.new.Goals as goal

pub invariant_of-result : goal.invariant_of-result
invariant_of-result c =
    kept_new c.of.result.value (labelled c.args.front) (labelled c.in_ok-scope.scope) c.new.result.items
    (subst (λ S. Legal S (bare_front c.args.front.entries)) (sym c.of.ensures) c.requires.legal)
    c.new.ensures.items c.in_ok-scope.ensures.entries c.in_ok-scope.ensures.labels
