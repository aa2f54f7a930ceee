use Rattle.std.proofs.Common.{◌≡◌, ◌∙◌, ◌+◌, sym, subst, ap, nat_eq, length, [], ◌∷◌, ◌++◌, arith}
use Rattle.std.proofs.lemmas.List.{length-append}
use Rattle.std.specs.Cmp.Lexicographic.{pointwise}
use Rattle.indexmap.proofs.CallerLemmas.{insert_entry-new}
use Rattle.pts_ctx.specs.Seen.{label_place}
use Rattle.pts_ctx.specs.Chunks.{flat, IsOrderly}
use Rattle.pts_ctx.proofs.Labels.{lookup-label}
use Rattle.pts_ctx.proofs.Orderly.{orderly-mark}
use Rattle.pts_ctx.proofs.context.Context.mark.Goals as goal

pub invariant_of-self : goal.invariant_of-self
invariant_of-self c =
    let F = flat c.self.inside.chunks.items in
    let L = c.self.inside.last.entries in
    let ls = c.self.inside.labels.entries in
    let fresh = lookup-label c.args.label ls ∙ (ap (λ s. label_place c.args.label s.labels) c.self.view_is ∙ c.requires.fresh) in
    let place : c.self.inside.older + c.len.result ≡ length (F ++ L) = omega (arith, length-append F L, c.self.invariant.0) in
    let longer = c.in-Ok.ensures.entries ∙ (insert_entry-new (pointwise nat_eq) c.self.inside.labels c.args.label (c.self.inside.older + c.len.result) fresh ∙ ap (λ n. ls ++ (c.args.label, n) ∷ []) place) in
    (c.self.invariant.0, subst (IsOrderly (F ++ L)) (sym longer) (orderly-mark (F ++ L) ls c.self.invariant.1 c.args.label))

pub returns-clause-labels : goal.returns-clause-labels
returns-clause-labels c =
    let F = flat c.self.inside.chunks.items in
    let L = c.self.inside.last.entries in
    let ls = c.self.inside.labels.entries in
    let fresh = lookup-label c.args.label ls ∙ (ap (λ s. label_place c.args.label s.labels) c.self.view_is ∙ c.requires.fresh) in
    let place : c.self.inside.older + c.len.result ≡ length (F ++ L) = omega (arith, length-append F L, c.self.invariant.0) in
    c.in-Ok.ensures.entries
    ∙ (insert_entry-new (pointwise nat_eq) c.self.inside.labels c.args.label (c.self.inside.older + c.len.result) fresh
    ∙ (ap (λ n. ls ++ (c.args.label, n) ∷ []) place ∙ ap (λ s. s.labels ++ (c.args.label, length s.entries) ∷ []) c.self.view_is))
