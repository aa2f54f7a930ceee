use Rattle.std.proofs.Common.{◌≡◌, sym, ◌∙◌, ap, subst, take, Some}
use Rattle.std.specs.Prelude.{chars, IsCharBoundary}
use lib.Utf8.{encodes}
use Rattle.std.proofs.lemmas.Str.{scalars-chars}
use Rattle.pts_names.specs.Name.{name_fault}
use Rattle.pts_tokens.specs.Tokens.{name}
use Rattle.pts_tokens.proofs.Cuts.{cut}
use Rattle.pts_tokens.proofs.Words.{name_cut}
use Rattle.pts_tokens.proofs.Worded.{named_ok, named_long, unless}
use Rattle.pts_tokens.proofs.word.name_token.Goals as goal

pub split_at-requires : goal.split_at-requires
split_at-requires c =
    let (v, e) = name_cut (chars c.args.text.now) in
    subst (IsCharBoundary c.args.text.now) (sym c.name_length-length.ensures) (cut c.args.text.now _ v c.utf8.text (sym e)).boundary

pub returns-in-Ok : goal.returns-in-Ok
returns-in-Ok c =
    let (v, e) = name_cut (chars c.args.text.now) in
    let off = cut c.args.text.now _ v c.utf8.text (sym e) in
    let spelled : c.split_at.result.0.now ≡ encodes (name (chars c.args.text.now)) = c.split_at.ensures.front ∙ (ap (λ n. take n c.args.text.now) c.name_length-length.ensures ∙ off.front) in
    named_ok (chars c.args.text.now) _ _ (c.in-Ok.ensures.text ∙ spelled) c.name_length-length.ensures (ap name_fault c.in-Ok.ensures.text ∙ c.in-Ok.ensures.name)

pub returns-in_default : goal.returns-in_default
returns-in_default c =
    let (v, e) = name_cut (chars c.args.text.now) in
    let off = cut c.args.text.now _ v c.utf8.text (sym e) in
    let spelled : c.split_at.result.0.now ≡ encodes (name (chars c.args.text.now)) = c.split_at.ensures.front ∙ (ap (λ n. take n c.args.text.now) c.name_length-length.ensures ∙ off.front) in
    let bad : name_fault c.split_at.result.0.now ≡ Some c.in-Err.fault = unless c.in-Err.fault _ c.in_default.not-Memory c.in-Err.ensures.refused in
    named_long (chars c.args.text.now) c.in-Err.fault _ (scalars-chars c.args.text.now c.utf8.text) c.requires (ap name_fault (sym spelled) ∙ bad)
