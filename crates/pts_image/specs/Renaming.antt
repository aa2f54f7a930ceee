-- New names in terms, fronts and records.
use Rattle.std.specs.Prelude.{◌≡◌, map, true, Some, if◌then◌else◌}
use Rattle.pts_names.specs.Name.{Name, same_name}
use Rattle.pts_terms.specs.Tree.{Tree, const}
use Rattle.pts_terms.specs.Replaced.{replaced}
use Rattle.pts_ctx.specs.System.{Specification}
use Rattle.pts_ctx.specs.Front.{Global, Front, Fresh, find}
use Rattle.pts_record.specs.Table.{Tables}
use Rattle.pts_record.specs.Renaming.{renamed_record}
use Rattle.pts_rules.specs.Valid.{IsValid, concludes}
use Rattle.pts_image.specs.Image.{entry_image}

-- One name gets a new one, every other name stays.
abbrev pub new_name : (old new : Name) → Name → Name
new_name old new c = if same_name old c then new else c

-- A term with the new names of its constants. The printed names of binders stay.
abbrev pub renamed_term : {B : Type 0} → (Name → Name) → Tree B → Tree B
renamed_term g t = replaced (λ c. const (g c)) t

-- An entry with its new name, and with those of the constants in its terms. Printed names stay.
abbrev pub renamed_entry : {B : Type 0} → (Name → Name) → Global B → Global B
renamed_entry g e = entry_image (λ c. const (g c)) (g e.name) e

-- The second front has each entry of the first under its new name, with new names in it.
abbrev pub Renames : (Name → Name) → Front → Front → Type 0
Renames g F H = (x : Name) (e : Global (Unit {0})) → find x F ≡ Some e → find (g x) H ≡ Some (renamed_entry g e)

-- A valid record with new names is valid over every front that has the entries under their new names.
abbrev pub RenamedRecordsAreValid : Type 0
RenamedRecordsAreValid = (S : Specification) (F H : Front) (g : Name → Name) (r : Tables) → Renames g F H → IsValid S F r → IsValid S H (renamed_record g r)

-- It concludes what it concluded, with new names.
abbrev pub RenamedRecordsConclude : Type 0
RenamedRecordsConclude = (g : Name → Name) (r : Tables) (e : Global (Unit {0})) → concludes r e ≡ true → concludes (renamed_record g r) (renamed_entry g e) ≡ true

-- A name may be renamed throughout a front to one that the front does not have.
abbrev pub FrontsAreRenamed : Type 0
FrontsAreRenamed = (G : Front) (old new : Name) → Fresh new G → Renames (new_name old new) G (map (renamed_entry (new_name old new)) G)
