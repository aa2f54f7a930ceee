use Rattle.std.proofs.Common.{◌≡◌, ◌++◌, map, drop, true}
use Rattle.pts_ctx.specs.Seen.{globals_within}
use Rattle.pts_record.specs.Renaming.{renamed_record}
use Rattle.pts_check.specs.Entered.{declared_entries}
use Rattle.pts_image.specs.Renaming.{renamed_entry}
use Rattle.pts_draft.specs.Renaming.{proofs_of}
use Rattle.pts_draft.proofs.renaming.extend_renamed.Given as goal

abbrev pub invariant-loop-declaration : goal.invariant-loop-declaration
invariant-loop-declaration g l =
    let f = g.N.Names.new_name l.names in
    let rest = drop l.declaration-index l.declarations in
    record {
      entries : l.scope.entries ++ map (renamed_entry f) (declared_entries rest) ≡ l.fn.scope.entries ++ map (renamed_entry f) (declared_entries l.declarations);
      labels : l.scope.labels ≡ l.fn.scope.labels;
      within : globals_within (declared_entries rest) ≡ true;
      renamed : declared_entries l.renamed.items ++ map (renamed_entry f) (declared_entries rest) ≡ map (renamed_entry f) (declared_entries l.declarations);
      proofs : proofs_of l.renamed.items ++ map (renamed_record f) (proofs_of rest) ≡ map (renamed_record f) (proofs_of l.declarations);
    }
