use Rattle.std.proofs.Common.{◌≡◌, ◌∙◌, sym, subst, arith}
use Rattle.pts_replay.specs.Lines.{SessionIn}
use Rattle.pts_replay.proofs.Numbers.{is_session, is_read}
use Rattle.pts_replay.proofs.line.session_in.Goals as goal

pub returns-then-not-is_digits : goal.returns-then-not-is_digits
returns-then-not-is_digits c n s e =
    let r = is_read c.as_bytes-digits.result.now n s (c.as_bytes-digits.ensures.value ∙ e) in
    absurd (cc (r.0, c.is_digits.ensures, c.if-not-is_digits.true))

pub returns-in_err-number : goal.returns-in_err-number
returns-in_err-number c =
    subst (SessionIn c.args.word.now) (sym c.from_residual.ensures)
    (λ n s e. let r = is_read c.as_bytes-digits.result.now n s (c.as_bytes-digits.ensures.value ∙ e) in absurd (cc (c.in_err-number.ensures.number ∙ r.1)))

pub returns-then-number-eq0 : goal.returns-then-number-eq0
returns-then-number-eq0 c n s e =
    let r = is_read c.as_bytes-digits.result.now n s (c.as_bytes-digits.ensures.value ∙ e) in
    let same : c.in_ok-number.number ≡ n = cc (c.in_ok-number.ensures.number ∙ r.1) in
    let none = c.if-number-eq0.true in
    let low = s.0 in
    absurd (omega (arith, same, none, low))

pub returns : goal.returns
returns c =
    let digits = sym c.is_digits.ensures ∙ c.if-not-is_digits.false in
    let r = is_session c.as_bytes-digits.result.now c.in_ok-number.number digits (sym c.in_ok-number.ensures.number) c.if-number-eq0.false in
    (r.0, sym c.as_bytes-digits.ensures.value ∙ r.1)
