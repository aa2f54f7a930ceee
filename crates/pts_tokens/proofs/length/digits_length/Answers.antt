use Rattle.std.proofs.Common.{sym, ◌∙◌, ap, length, arith}
use Rattle.std.proofs.lemmas.Str.{IsUtf8-past_char, length-encode}
use Rattle.std.proofs.lemmas.List.{length-append}
use Rattle.std.specs.Char.{is_ascii_digit}
use Rattle.pts_tokens.proofs.Runs.{run_ends, run_goes, run_empty}
use Rattle.pts_tokens.proofs.length.digits_length.Goals as goal

pub returns-then-not-is_ascii_digit : goal.returns-then-not-is_ascii_digit
returns-then-not-is_ascii_digit c =
    let step = c.in-Some.ensures.steps in
    let invariant = c.run.invariant in
    let none = run_ends is_ascii_digit _ _ _ invariant.utf8 step.1 (sym c.is_ascii_digit.ensures.value ∙ c.if-not-is_ascii_digit.true) in
    let whole = invariant.whole in
    omega (arith, none, step.0)

pub run-preserved : goal.run-preserved
run-preserved c =
    let step = c.in-Some.ensures.steps in
    let invariant = c.run.invariant in
    let wide = length-encode c.in-Some.ch in
    let more = run_goes is_ascii_digit _ _ _ invariant.utf8 step.1 (sym c.is_ascii_digit.ensures.value ∙ c.if-not-is_ascii_digit.false) in
    record {
      utf8 = IsUtf8-past_char _ _ _ invariant.utf8 step.1;
      span = omega (arith, simp length-append at (ap length step.1));
      whole = omega (arith, more, invariant.whole, step.2);
    }

pub returns : goal.returns
returns c =
    let invariant = c.run.invariant in
    let empty = c.in-None.ensures.steps.0 in
    let none = run_empty is_ascii_digit _ empty in
    omega (arith, none, invariant.whole, invariant.span, empty)
