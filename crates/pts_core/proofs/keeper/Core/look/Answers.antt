use Rattle.std.proofs.Common.{length, ◌<◌, refl, ap, sym, subst, ◌∙◌, ◌++◌, ◌∷◌, []}
use mathlib.Core.Logic.{inl}
use Rattle.pts_core.specs.Replies.{LabelledFront}
use Rattle.pts_core.specs.Histories.{look}
use Rattle.pts_core.specs.Cores.{IsLegalCore}
use Rattle.pts_core.proofs.Histories.{legal_still, look_kept}
use Rattle.pts_core.proofs.keeper.Core.look.Goals as goal

pub invariant_of-self : goal.invariant_of-self
invariant_of-self c =
    let x = c.self.inside in
    let F : LabelledFront = record { entries = x.context.entries; labels = x.context.labels } in
    subst (IsLegalCore x.system F) (sym (c.in-Ok.ensures.items ∙ ap (λ p. x.history.items ++ p ∷ []) (look_kept c.args.session c.len-front.result c.args.asked.value F c.requires.asked c.len-front.ensures)))
    (legal_still x.system F x.history.items (look c.args.session F) c.self.invariant (inl refl) refl (subst (λ h. length h < 4000000) (sym (ap (λ w. w.history) c.self.view_is)) c.requires.few))
