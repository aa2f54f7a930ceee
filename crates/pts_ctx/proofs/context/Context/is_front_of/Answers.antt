use Rattle.std.proofs.Common.{◌≡◌, ◌∙◌, sym, true}
use Rattle.pts_ctx.specs.Prefix.{begins, same_global, same_label}
use Rattle.pts_ctx.proofs.Begins.{prefix_from_begins, begins_from_prefix, same_global-true, same_global-self, same_label-true, same_label-self}
use Rattle.pts_ctx.proofs.context.Context.is_front_of.Goals as goal

pub returns-then-entries_begin : goal.returns-then-entries_begin
returns-then-entries_begin c =
    let S = c.args.self.now in
    let T = c.args.other.now in
    let entries : begins same_global S.entries T.entries ≡ true = sym c.entries_begin.ensures ∙ c.if-entries_begin.true in
    let labels : c.labels_begin.result ≡ begins same_label S.labels T.labels = c.labels_begin.ensures ∙ (λ j. begins same_label (c.self.view_is j).labels (c.other.view_is j).labels) in (
      λ h. (
        prefix_from_begins same_global same_global-true same_global-self S.entries T.entries entries,
        prefix_from_begins same_label same_label-true same_label-self S.labels T.labels (sym labels ∙ h),
      ),
      λ f. labels ∙ begins_from_prefix same_label same_label-true same_label-self S.labels T.labels f.1,
    )

pub returns-else-entries_begin : goal.returns-else-entries_begin
returns-else-entries_begin c =
    let S = c.args.self.now in
    let T = c.args.other.now in (
      λ h. absurd (cc (h, c.if-entries_begin.false)),
      λ f. c.entries_begin.ensures ∙ begins_from_prefix same_global same_global-true same_global-self S.entries T.entries f.0,
    )
