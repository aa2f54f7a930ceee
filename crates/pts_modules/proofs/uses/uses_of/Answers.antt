use Rattle.std.proofs.Common.{sym, ap, ◌∙◌}
use Rattle.pts_module_file.specs.File.{module_file_of}
use Rattle.pts_modules.specs.Orders.{is_in}
use Rattle.pts_modules.specs.Stacks.{names_open}
use Rattle.pts_modules.proofs.Steps.{opens_by}
use Rattle.pts_modules.proofs.uses.uses_of.Goals as goal

pub returns-in_ok-names_used-in-Ok-clause-goes : goal.returns-in_ok-names_used-in-Ok-clause-goes
returns-in_ok-names_used-in-Ok-clause-goes c =
    let m = c.args.name.now in (
      module_file_of c.in-Ok.file,
      opens_by c.args.shelf.now.modules (names_open c.args.opened.now) c.args.done.now m c.in-Some.bytes.now (module_file_of c.in-Ok.file) (sym c.is_among.ensures ∙ c.if-is_among.false) (sym c.is_opened.ensures ∙ c.if-is_opened.false) c.in-Some.ensures c.in-Ok.ensures.module,
      c.in_ok-names_used-in-Ok.ensures,
    )
