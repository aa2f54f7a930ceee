-- Declarations under a new name.
use Rattle.std.specs.Prelude.{◌≡◌, List, [], ◌∷◌, ◌||◌, map, Bool, true, false, Some}
use Rattle.pts_names.specs.Name.{Name, same_name}
use Rattle.pts_ctx.specs.Front.{Fresh}
use Rattle.pts_ctx.specs.Seen.{place_of}
use Rattle.pts_record.specs.Table.{Tables}
use Rattle.pts_record.specs.Renaming.{renamed_record}
use Rattle.pts_record.specs.declared.declaration.Declaration.{Declaration}
use Rattle.pts_check.specs.Entered.{declared_entries}
use Rattle.pts_image.specs.Renaming.{new_name, renamed_entry}
use Rattle.pts_draft.specs.declared.fault.RenameFault.{RenameFault}
use Rattle.pts_draft.specs.declared.fault.RenameFault.TheVariants.{NotThere, Taken, Memory}
use Rattle.pts_draft.specs.Drafts.{SeenDraft, scope}

-- Whether one of the declarations has the name.
abbrev pub declares : List Declaration → Name → Bool
declares [] x = false
declares (d ∷ ds) x = same_name x d.name || declares ds x

-- The records of declarations.
abbrev pub proofs_of : List Declaration → List Tables
proofs_of ds = map (λ d. d.proof) ds

-- The later declarations are the earlier ones with new names: each has its entry and its record with them.
pub record AreRenamed (g : Name → Name) (earlier later : List Declaration) : Type 0 where
  pub entries : declared_entries later ≡ map (renamed_entry g) (declared_entries earlier)
  pub proofs : proofs_of later ≡ map (renamed_record g) (proofs_of earlier)

-- One of the declarations of d has the old name, the new one is free, and the later declarations are those of d with the new name
-- in the place of the old one.
pub record IsRenamed (d : SeenDraft) (old new : Name) (later : List Declaration) : Type 0 where
  pub there : declares d.declarations old ≡ true
  pub free : Fresh new (scope d)
  pub renamed : AreRenamed (new_name old new) d.declarations later

-- No declaration of d has the old name; or one has it, and the new name exists in the scope, at that place. Out of memory is free.
abbrev pub RefusesRenaming : SeenDraft → (old new : Name) → RenameFault → Type 0
RefusesRenaming d old new (NotThere x) = (x ≡ old) × (declares d.declarations old ≡ false)
RefusesRenaming d old new (Taken x place) = (x ≡ new) × (declares d.declarations old ≡ true) × (place_of new (scope d) ≡ Some place)
RefusesRenaming d old new Memory = Unit {0}
