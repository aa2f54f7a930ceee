use Rattle.std.proofs.Common.{◌≡◌, sym, ◌∙◌, ap, subst, take}
use Rattle.std.specs.Prelude.{chars, IsCharBoundary}
use lib.Utf8.{encodes}
use Rattle.pts_names.specs.Name.{is_sort_spelling}
use Rattle.pts_tokens.specs.Tokens.{sort_text}
use Rattle.pts_tokens.proofs.Cuts.{cut}
use Rattle.pts_tokens.proofs.Worded.{sort_cut, sort_ok, sort_bad}
use Rattle.pts_tokens.proofs.word.sort_token.Goals as goal

pub split_at-requires : goal.split_at-requires
split_at-requires c =
    let (v, e) = sort_cut c.args.first (chars c.args.behind.now) in
    subst (IsCharBoundary c.args.text.now) (sym c.sort_length-length.ensures) (cut c.args.text.now _ v c.utf8.text (c.requires.behind ∙ e)).boundary

pub returns-in-Ok : goal.returns-in-Ok
returns-in-Ok c =
    let (v, e) = sort_cut c.args.first (chars c.args.behind.now) in
    let off = cut c.args.text.now _ v c.utf8.text (c.requires.behind ∙ e) in
    let spelled : c.split_at.result.0.now ≡ encodes (sort_text c.args.first (chars c.args.behind.now)) = c.split_at.ensures.front ∙ (ap (λ n. take n c.args.text.now) c.sort_length-length.ensures ∙ off.front) in
    sort_ok c.args.first (chars c.args.behind.now) _ _ (c.in-Ok.ensures.text ∙ spelled) c.sort_length-length.ensures (ap is_sort_spelling c.in-Ok.ensures.text ∙ c.in-Ok.ensures.spelling)

pub returns-in-Err-BadSpelling : goal.returns-in-Err-BadSpelling
returns-in-Err-BadSpelling c =
    let (v, e) = sort_cut c.args.first (chars c.args.behind.now) in
    let off = cut c.args.text.now _ v c.utf8.text (c.requires.behind ∙ e) in
    let spelled : c.split_at.result.0.now ≡ encodes (sort_text c.args.first (chars c.args.behind.now)) = c.split_at.ensures.front ∙ (ap (λ n. take n c.args.text.now) c.sort_length-length.ensures ∙ off.front) in
    sort_bad c.args.first (chars c.args.behind.now) _ _ spelled (rw c.in-Err-BadSpelling.field-0-is at c.in-Err-BadSpelling.ensures.refused)
