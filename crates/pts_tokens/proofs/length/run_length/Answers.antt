use Rattle.std.proofs.Common.{sym, ◌∙◌, ap, length, arith}
use Rattle.std.proofs.lemmas.Str.{IsUtf8-past_char, length-encode}
use Rattle.std.proofs.lemmas.List.{length-append}
use Rattle.pts_names.specs.Name.{continues_identifier}
use Rattle.pts_tokens.proofs.Runs.{run_ends, run_goes, run_empty}
use Rattle.pts_tokens.proofs.length.run_length.Goals as goal

pub returns-then-not-continues_identifier : goal.returns-then-not-continues_identifier
returns-then-not-continues_identifier c =
    let step = c.in-Some.ensures.steps in
    let invariant = c.run.invariant in
    let none = run_ends continues_identifier _ _ _ invariant.utf8 step.1 (sym c.continues_identifier.ensures ∙ c.if-not-continues_identifier.true) in
    let whole = invariant.whole in
    omega (arith, none, step.0)

pub run-preserved : goal.run-preserved
run-preserved c =
    let step = c.in-Some.ensures.steps in
    let invariant = c.run.invariant in
    let wide = length-encode c.in-Some.ch in
    let more = run_goes continues_identifier _ _ _ invariant.utf8 step.1 (sym c.continues_identifier.ensures ∙ c.if-not-continues_identifier.false) in
    record {
      utf8 = IsUtf8-past_char _ _ _ invariant.utf8 step.1;
      span = omega (arith, simp length-append at (ap length step.1));
      whole = omega (arith, more, invariant.whole, step.2);
    }

pub returns : goal.returns
returns c =
    let invariant = c.run.invariant in
    let empty = c.in-None.ensures.steps.0 in
    let none = run_empty continues_identifier _ empty in
    omega (arith, none, invariant.whole, invariant.span, empty)
