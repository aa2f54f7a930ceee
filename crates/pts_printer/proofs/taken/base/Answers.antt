use Rattle.std.proofs.Common.{sym, ◌∙◌, ap, nat_eq}
use Rattle.std.specs.Cmp.Lexicographic.{pointwise}
use Rattle.pts_names.specs.Name.{underscore}
use Rattle.pts_printer.proofs.Names.{base_unused, base_plain}
use Rattle.pts_printer.proofs.taken.base.Goals as goal

pub returns-then-not-used-clause-base : goal.returns-then-not-used-clause-base
returns-then-not-used-clause-base c = c.text.ensures.text ∙ base_unused c.args.name.now c.args.used (c.parts.ensures.one.0 c.if-parts-ne1.false) c.if-not-used.true

pub returns-clause-base : goal.returns-clause-base
returns-clause-base c =
    c.text-3.ensures.text
    ∙ base_plain c.args.name.now c.args.used (c.parts.ensures.one.0 c.if-parts-ne1.false)
    (ap (λ t. pointwise nat_eq t underscore) (sym c.text-2.ensures.text) ∙ (sym c.eq.ensures ∙ c.if-eq.false))
