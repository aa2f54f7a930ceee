use Rattle.std.proofs.Common.{◌≡◌, ◌∙◌, ◌-◌, ◌≤◌, sym, ap, subst, List, ◌++◌, length, take, arith}
use Rattle.std.proofs.lemmas.List.{append-nil, length-take-le}
use Rattle.pts_names.specs.Name.{Name}
use Rattle.pts_ctx.specs.Front.{Global}
use Rattle.pts_ctx.specs.Seen.{SeenContext, LabelsInside}
use Rattle.pts_ctx.specs.Chunks.{flat, IsOrderly}
use Rattle.pts_ctx.proofs.Flat.{cut-inside, cut-past, minus-le}
use Rattle.pts_ctx.proofs.Orderly.{orderly-cut}
use Rattle.pts_ctx.proofs.context.Context.cut.Goals as goal

pub invariant_of-self : goal.invariant_of-self
invariant_of-self c =
    let k = c.args.entries in
    let F = flat c.self.inside.chunks.items in
    let L = c.self.inside.last.entries in
    let ls = c.self.inside.labels.entries in
    let n = length (F ++ L) - k in
    let less : k ≤ length L = omega (arith, c.len-own.ensures, c.if-entries-own.true) in
    let kept : F ++ c.truncate.new.self.entries ≡ take n (F ++ L) =
    ap (λ ys. F ++ ys) (c.truncate.ensures.entries ∙ ap (λ m. take (m - k) L) c.len-own.ensures) ∙ sym (cut-inside F L k less) in
    let marked = subst (λ (s : SeenContext). LabelsInside (length s.entries - k) s.labels) (sym c.self.view_is) c.requires.labels in (
      c.self.invariant.0,
      subst (λ (G : List (Global Name)). IsOrderly G ls) (sym kept) (orderly-cut (F ++ L) ls c.self.invariant.1 n (minus-le (length (F ++ L)) k) marked),
    )

pub invariant_of-self-else-entries-own : goal.invariant_of-self-else-entries-own
invariant_of-self-else-entries-own c =
    let k = c.args.entries in
    let own = c.len-own.result in
    let F = flat c.self.inside.chunks.items in
    let L = c.self.inside.last.entries in
    let ls = c.self.inside.labels.entries in
    let n = length (F ++ L) - k in
    let m = length F - (k - own) in
    let more : length L ≤ k = omega (arith, c.len-own.ensures, c.if-entries-own.false) in
    let rest = c.truncate-else-entries-own.ensures.entries in
    let kept : flat c.cut.new.chunks.items ++ c.truncate-else-entries-own.new.self.entries ≡ take n (F ++ L) =
    (λ j. c.cut.ensures j ++ rest j)
    ∙ (append-nil (take m F) ∙ (ap (λ l. take (length F - (k - l)) F) c.len-own.ensures ∙ sym (cut-past F L k more))) in
    let marked = subst (λ (s : SeenContext). LabelsInside (length s.entries - k) s.labels) (sym c.self.view_is) c.requires.labels in (
      ap (λ l. l - (k - own)) c.self.invariant.0
          ∙ (sym (length-take-le m F (minus-le (length F) (k - own))) ∙ sym (ap length c.cut.ensures)),
      subst (λ (G : List (Global Name)). IsOrderly G ls) (sym kept) (orderly-cut (F ++ L) ls c.self.invariant.1 n (minus-le (length (F ++ L)) k) marked),
    )

pub returns-then-entries-own-clause-entries : goal.returns-then-entries-own-clause-entries
returns-then-entries-own-clause-entries c =
    let k = c.args.entries in
    let F = flat c.self.inside.chunks.items in
    let L = c.self.inside.last.entries in
    let less : k ≤ length L = omega (arith, c.len-own.ensures, c.if-entries-own.true) in
    ap (λ ys. F ++ ys) (c.truncate.ensures.entries ∙ ap (λ m. take (m - k) L) c.len-own.ensures)
    ∙ (sym (cut-inside F L k less) ∙ ap (λ s. take (length s.entries - k) s.entries) c.self.view_is)
