use Rattle.std.proofs.Common.{◌≡◌, true, sym, ap, ◌∙◌, subst}
use Rattle.pts_ctx.specs.Seen.{globals_within}
use Rattle.pts_check.specs.Entered.{declared_entries}
use Rattle.pts_core.specs.Cores.{labelled}
use Rattle.pts_draft.proofs.Keeping.{kept_within}
use Rattle.pts_draft.proofs.draft.Draft.examined.Goals as goal

pub examine_sound-examined-requires-clause-within : goal.examine_sound-examined-requires-clause-within
examine_sound-examined-requires-clause-within c =
    let v = c.self.inside in
    let same = c.of.ensures ∙ ap (λ d. d.items) c.replace-declarations.ensures.value in
    subst (λ ds. globals_within (declared_entries ds) ≡ true) (sym same)
    (kept_within v.system.value (labelled v.front) (labelled v.scope) v.declarations.items c.self.invariant c.is_orderly.ensures.within)
