use Rattle.std.proofs.Common.{length, ◌<◌, ap, sym, subst, ◌∙◌, ◌++◌, ◌∷◌, []}
use Rattle.pts_core.specs.Cores.{IsLegalCore, IsOver, front_of, labelled}
use Rattle.pts_core.proofs.Histories.{submission_kept, submitted_legal}
use Rattle.pts_core.proofs.keeper.Core.submit.Goals as goal

pub invariant_of-self : goal.invariant_of-self
invariant_of-self c =
    let v = c.self.inside in
    let x = c.args.examined in
    let F = labelled v.context in
    let G = labelled c.answer-replies.new.context in
    let r = c.answer-replies.result.kept in
    subst (IsLegalCore v.system G)
    (sym (c.in-Ok.ensures.items ∙ ap (λ p. v.history.items ++ p ∷ []) (submission_kept c.args.session c.front_len-front.result c.args.asked.value r x F c.requires.asked c.front_len-front.ensures c.answer-replies.ensures.kept)))
    (submitted_legal v.system F G v.history.items c.args.session x r (subst (λ h. length h < 4000000) (sym (ap (λ w. w.history) c.self.view_is)) c.requires.few) c.self.invariant c.answer-replies.ensures.kept c.answer-replies.ensures.front
    (c.requires.may.0 ∙ sym (ap (λ w. w.system) c.self.view_is)) (subst (IsOver x) (sym (ap front_of c.self.view_is)) c.requires.may.1)
    c.is_examined.ensures.finding c.is_examined.ensures.names c.answer-replies.ensures.free)
