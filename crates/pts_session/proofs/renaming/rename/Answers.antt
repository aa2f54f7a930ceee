use Rattle.std.proofs.Common.{ap, ◌∙◌, subst, ◌∷◌, []}
use Rattle.pts_draft.specs.Renaming.{IsRenamed, RefusesRenaming}
use Rattle.pts_session.proofs.Renamed.{renamed_is, refused_all}
use Rattle.pts_session.proofs.renaming.rename.Goals as goal

pub returns-in-Ok-clause-renames : goal.returns-in-Ok-clause-renames
returns-in-Ok-clause-renames c =
    renamed_is c.args.draft.now c.rename.new.self c.args.old.now c.args.new.now c.in_ok-lines.lines.items
    (subst (λ y. IsRenamed c.args.draft.now c.args.old.now y c.rename.new.self.declarations) c.in_ok-copy.ensures c.in-Ok.ensures.renamed)
    c.rename.ensures.entries c.rename.ensures.labels
    (c.in_ok-lines.ensures ∙ ap (λ l. l ∷ []) c.in_ok-name_line.ensures)

pub returns-in-Err-clause-renames : goal.returns-in-Err-clause-renames
returns-in-Err-clause-renames c =
    refused_all (λ v. v.items) c.args.draft.now c.rename.new.self c.args.old.now c.args.new.now c.refused.result c.in-Err.fault
    (subst (λ y. RefusesRenaming c.args.draft.now c.args.old.now y c.in-Err.fault) c.in_ok-copy.ensures c.in-Err.ensures.refused)
    c.in-Err.ensures.same c.refused.ensures.refusal c.refused.ensures.lines
