use Rattle.std.proofs.Common.{◌≡◌, ◌+◌, ◌++◌, true, sym, ◌∙◌, ap}
use Rattle.std.specs.Prelude.{decimal}
use Rattle.pts_printed.specs.Choice.{is_among}
use Rattle.pts_printer.specs.Calls.{forbidden}
use Rattle.pts_printer.proofs.Names.{number_passed}
use Rattle.pts_printer.proofs.taken.Taken.numbered.Goals as goal

pub loop-number-preserved : goal.loop-number-preserved
loop-number-preserved c =
    let F = forbidden c.args.self.now in
    let n = c.loop-number.number-counter in
    let e = c.len.result + c.len-2.result + 1 in
    let text = c.as_str.ensures.value ∙ c.in_ok-text.ensures.ok in
    let taken : is_among (c.args.name.now ++ decimal n) F ≡ true = ap (λ t. is_among t F) (sym text) ∙ (sym c.has.ensures ∙ c.if-not-has.false) in
    record {
      count = c.loop-number.invariant.count;
      same = sym (number_passed n e c.args.name.now F c.loop-number-test.true taken) ∙ c.loop-number.invariant.same;
    }
