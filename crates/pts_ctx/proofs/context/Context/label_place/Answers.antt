use Rattle.std.proofs.Common.{◌≡◌, ◌∙◌, sym, subst, ap, length, ◌≤◌, ℕ, Option, IfSome}
use Rattle.pts_ctx.specs.Seen.{SeenContext, label_place, LabelsInside}
use Rattle.pts_ctx.proofs.Labels.{lookup-label, label-inside}
use Rattle.pts_ctx.proofs.context.Context.label_place.Goals as goal

pub returns-clause-place : goal.returns-clause-place
returns-clause-place c =
    let x = c.args.label.now in
    c.copied.ensures ∙ (c.get.ensures.value ∙ (lookup-label x c.self.inside.labels.entries ∙ ap (λ s. label_place x s.labels) c.self.view_is))

pub returns-clause-inside : goal.returns-clause-inside
returns-clause-inside c =
    let x = c.args.label.now in
    let at : c.copied.result ≡ label_place x c.args.self.now.labels =
    c.copied.ensures ∙ (c.get.ensures.value ∙ (lookup-label x c.self.inside.labels.entries ∙ ap (λ s. label_place x s.labels) c.self.view_is)) in
    let inside = subst (λ (s : SeenContext). LabelsInside (length s.entries) s.labels) c.self.view_is c.self.invariant.1.labels in
    subst (λ (r : Option ℕ). IfSome r (λ n. n ≤ length c.args.self.now.entries)) (sym at) (label-inside (length c.args.self.now.entries) x c.args.self.now.labels inside)
