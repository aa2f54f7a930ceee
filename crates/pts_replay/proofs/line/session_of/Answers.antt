use Rattle.std.proofs.Common.{ℕ, ◌≡◌, ◌≢◌, ◌++◌, sym, subst, MatchOption, Some, None, codes, lit<}
use Rattle.std.specs.Fmt.{decimal}
use Rattle.std.proofs.lemmas.Str.Pattern.{strip_prefix_char}
use Rattle.pts_play.specs.Inputs.{IsSession}
use Rattle.pts_replay.proofs.Forms.{after_sign}
use Rattle.pts_replay.proofs.line.session_of.Goals as goal

pub returns-in_err-digits : goal.returns-in_err-digits
returns-in_err-digits c =
    subst (λ o. MatchOption o ((n : ℕ) → IsSession n → c.args.word.now ≢ codes "@" ++ decimal n) (λ n. IsSession n × (c.args.word.now ≡ codes "@" ++ decimal n))) (sym c.from_residual.ensures)
    (λ n s e. strip_prefix_char 64 c.args.word.now None c.in_err-digits.ensures.cases (lit< tt) (decimal n) e)

pub returns : goal.returns
returns c = after_sign c.args.word.now c.in_ok-digits.digits.now c.session_in.result (strip_prefix_char 64 c.args.word.now (Some c.in_ok-digits.digits) c.in_ok-digits.ensures.cases (lit< tt)) c.session_in.ensures
