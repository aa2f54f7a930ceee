use Rattle.std.proofs.Common.{sym, ap, ◌∙◌}
use Rattle.pts_rules.specs.Meter.{left}
use Rattle.pts_ctx.proofs.Lookups.{find-none}
use Rattle.pts_declare.specs.Stated.{stated_of}
use Rattle.pts_draft.specs.Drafts.{scope}
use Rattle.pts_draft.proofs.Declaring.{declared_over}
use Rattle.pts_draft.proofs.draft.Draft.declare.Goals as goal

pub returns-clause-declared : goal.returns-clause-declared
returns-clause-declared c =
    let G = c.self.inside.scope.entries in
    declared_over c.args.self.now c.args.name (stated_of c.args.stated) (left c.args.meter.now) (left c.check.new.meter) c.args.system.now G c.in_ok-declaration.declaration c.enter.new.self.declarations
    c.requires.system (c.self.invariant.scope_entries ∙ ap scope c.self.view_is) (find-none c.args.name G (sym c.place_of.ensures.place ∙ c.in_default.is))
    c.in_ok-declaration.ensures.declared c.in_ok-enter.ensures.declarations
