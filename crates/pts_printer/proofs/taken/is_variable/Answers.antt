use Rattle.std.proofs.Common.{sym, ◌∙◌, ap, nat_eq}
use Rattle.std.specs.Cmp.Lexicographic.{pointwise}
use Rattle.pts_printer.proofs.Names.{among_found, among_passed}
use Rattle.pts_printer.proofs.taken.is_variable.Goals as goal

pub returns-then-eq : goal.returns-then-eq
returns-then-eq c =
    among_found c.args.name.now c.args.names.now c.loop-known.known-index c.known-item.result c.loop-known-test.true c.known-item.is
    (ap (pointwise nat_eq c.args.name.now) (sym c.text.ensures) ∙ (sym c.eq.ensures ∙ c.if-eq.true)) c.loop-known.invariant

pub loop-known-preserved : goal.loop-known-preserved
loop-known-preserved c =
    among_passed c.args.name.now c.args.names.now c.loop-known.known-index c.known-item.result c.loop-known-test.true c.known-item.is
    (ap (pointwise nat_eq c.args.name.now) (sym c.text.ensures) ∙ (sym c.eq.ensures ∙ c.if-eq.false)) c.loop-known.invariant
