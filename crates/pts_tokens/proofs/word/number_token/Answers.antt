use Rattle.std.proofs.Common.{◌≡◌, sym, ◌∙◌, ap, subst, take, Some}
use Rattle.std.specs.Prelude.{chars, IsCharBoundary, take_while}
use Rattle.std.specs.Char.{is_ascii_digit}
use lib.Utf8.{encodes}
use Rattle.pts_tokens.specs.declared.token.Token.TheVariants.{Number}
use Rattle.pts_tokens.proofs.Cuts.{cut}
use Rattle.pts_tokens.proofs.Words.{run_cut}
use Rattle.pts_tokens.proofs.word.number_token.Goals as goal

pub split_at-requires : goal.split_at-requires
split_at-requires c = subst (IsCharBoundary c.args.text.now) (sym c.digits_length-length.ensures) (cut c.args.text.now _ _ c.utf8.text (sym (run_cut is_ascii_digit (chars c.args.text.now)))).boundary

pub returns : goal.returns
returns c =
    let ds = take_while is_ascii_digit (chars c.args.text.now) in
    let off = cut c.args.text.now _ _ c.utf8.text (sym (run_cut is_ascii_digit (chars c.args.text.now))) in
    let spelled : c.split_at.result.0.now ≡ encodes ds = c.split_at.ensures.front ∙ (ap (λ n. take n c.args.text.now) c.digits_length-length.ensures ∙ off.front) in
    ap (λ n. Some (Number (encodes ds), n)) (sym c.digits_length-length.ensures)
    ∙ ap (λ w. Some (Number w, c.digits_length-length.result)) (sym (c.of.ensures ∙ (c.in_ok-digits.ensures.ok ∙ spelled)))
