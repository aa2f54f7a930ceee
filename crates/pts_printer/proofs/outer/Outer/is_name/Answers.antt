use Rattle.std.proofs.Common.{◌≡◌, sym, ◌∙◌, ap, length, arith}
use Rattle.std.proofs.lemmas.List.{length-reverse}
use Rattle.pts_printer.proofs.Names.{outer_is}
use Rattle.pts_printer.proofs.outer.Outer.is_name.Goals as goal

pub returns : goal.returns
returns c =
    let same : length c.args.self.now ≡ length c.self.inside.names.items = ap length (sym c.self.view_is) ∙ length-reverse c.self.inside.names.items in
    c.eq.ensures
    ∙ outer_is c.args.name.now c.args.self.now c.args.first c.args.index c.name.result.now c.if-index-first.false
    (omega (arith, same, c.if-behind-len.false, c.len.ensures, c.self.inside.names.ok.0)) c.name.ensures
