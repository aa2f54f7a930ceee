-- Interpretations while fronts grow: entry by entry, and argument by argument.
use Rattle.std.specs.Prelude.{◌≡◌, ◌<◌, ◌+◌, ℕ, pred, true, if◌then◌else◌, List, [], ◌∷◌, ◌++◌, length, map, Some}
use Rattle.pts_names.specs.Name.{Name, same_name}
use Rattle.pts_terms.specs.Tree.{Bare, const}
use Rattle.pts_terms.specs.Replaced.{replaced}
use Rattle.pts_ctx.specs.System.{Specification}
use Rattle.pts_ctx.specs.Front.{Global, Front, Fresh, find, HasEntries, assumption, definition}
use Rattle.pts_record.specs.Table.{Tables, at, bare_trees}
use Rattle.pts_record.specs.Said.{context, told}
use Rattle.pts_record.specs.Renaming.{renamed_record}
use Rattle.pts_rules.specs.Derives.{Derives, Legal}
use Rattle.pts_rules.specs.Valid.{IsValid, concludes}
use Rattle.pts_image.specs.declared.replacement.Replacement.{Replacement}
use Rattle.pts_image.specs.declared.replacement.Replacement.TheVariants.{Constant, Argument}
use Rattle.pts_image.specs.Image.{entry_image, empty_scope, Closed}
use Rattle.pts_image.specs.Appending.{IsLinked, IsAmong, term_for, image_after}
use Rattle.pts_image.specs.Graft.{same_constant}
use Rattle.pts_image.specs.Interpretation.{Interpretation, Interprets}
use Rattle.pts_image.specs.Renaming.{renamed_entry, Renames}

-- The constants of a front stay.
abbrev pub Fixes : (Name → Bare) → Front → Type 0
Fixes f G = (x : Name) (e : Global (Unit {0})) → find x G ≡ Some e → f x ≡ const x

-- Where the constants of a front stay, so do what is derivable over it and, if it is legal, its entries.
abbrev pub JudgementsAreFixed : Type 0
JudgementsAreFixed = (S : Specification) (G : Front) (t T : Bare) (f : Name → Bare) → Closed f → Fixes f G → Derives S G [] t T → (replaced f t ≡ t) × (replaced f T ≡ T)

abbrev pub EntriesAreFixed : Type 0
EntriesAreFixed = (S : Specification) (G : Front) (f : Name → Bare) → Closed f → Legal S G → Fixes f G → (x : Name) (e : Global (Unit {0})) → find x G ≡ Some e → entry_image f x e ≡ e

-- A legal front whose constants stay is interpreted in each front that has its entries.
abbrev pub BasesAreInterpreted : Type 0
BasesAreInterpreted = (S : Specification) (G H : Front) (a : Tables) (e : ℕ) (w : Name → Replacement) → Legal S G → HasEntries G H → IsLinked a → told a e ≡ context (empty_scope e) → ((c : Name) → IsAmong (length a.shapes) (w c)) → Closed (term_for (bare_trees a.shapes) w) → ((x : Name) (i : Global (Unit {0})) → find x G ≡ Some i → w x ≡ Constant x) → Interpretation H a e w G

-- An entry may follow the one front, and its image under a fresh name the other.
abbrev pub EntriesAreInterpreted : Type 0
EntriesAreInterpreted = (F H : Front) (a : Tables) (e : ℕ) (w : Name → Replacement) (i : Global (Unit {0})) (y : Name) → Interpretation H a e w F → Fresh i.name F → Fresh y H → w i.name ≡ Constant y → Interpretation (H ++ entry_image (term_for (bare_trees a.shapes) w) y i ∷ []) a e w (F ++ i ∷ [])

-- An assumption that an argument replaces may follow the one front alone.
abbrev pub AssumptionsAreInterpreted : Type 0
AssumptionsAreInterpreted = (F H : Front) (a : Tables) (e : ℕ) (w : Name → Replacement) (i : Global (Unit {0})) → Interpretation H a e w F → Fresh i.name F → Interprets H a e (term_for (bare_trees a.shapes) w) i (w i.name) → Interpretation H a e w (F ++ i ∷ [])

-- One argument more: the record b after the earlier ones, and its last node for the assumption p.
abbrev pub with_argument : Tables → ℕ → Tables → Tables
with_argument a e b = image_after a same_constant e b

abbrev pub replace_also : Name → (term node : ℕ) → (Name → Replacement) → Name → Replacement
replace_also p t n w c = if same_name p c then Argument t n else w c

abbrev pub replace_next : Tables → ℕ → Tables → Name → ℕ → (Name → Replacement) → Name → Replacement
replace_next a e b p t w = replace_also p (length a.shapes + t) (pred (length (with_argument a e b).nodes)) w

-- The argument u is the term t of a record b that concludes u to have the type A of the assumption p with the earlier
-- arguments in it. Then the arguments together are a valid record, and one assumption more is interpreted.
abbrev pub ArgumentsAreInterpreted : Type 0
ArgumentsAreInterpreted =
    (S : Specification) (F H : Front) (a b : Tables) (e : ℕ) (w : Name → Replacement) (p : Name) (A u : Bare) (t : ℕ) (x : Name) → Legal S H → Legal S (F ++ assumption p A ∷ []) → Interpretation H a e w F → IsValid S H a
    → IsLinked b → IsValid S H b → concludes b (definition x u (replaced (term_for (bare_trees a.shapes) w) A)) ≡ true → t < length b.shapes → at (bare_trees b.shapes) t ≡ u → IsLinked (with_argument a e b)
    → IsValid S H (with_argument a e b) × Interpretation H (with_argument a e b) e (replace_next a e b p t w) (F ++ assumption p A ∷ [])

-- Entries with their records may follow a front, in order: each name is fresh, and each record is valid over what is
-- before it and concludes its entry.
abbrev pub Follow : Specification → Front → List (Global (Unit {0}) × Tables) → Type 0
Follow S G [] = Unit {0}
Follow S G (d ∷ ds) = (Fresh d.0.name G × IsValid S G d.1 × (concludes d.1 d.0 ≡ true)) × Follow S (G ++ d.0 ∷ []) ds

-- The names of entries are fresh, one after another.
abbrev pub AreFresh : Front → List (Global (Unit {0}) × Tables) → Type 0
AreFresh H [] = Unit {0}
AreFresh H (d ∷ ds) = Fresh d.0.name H × AreFresh (H ++ d.0 ∷ []) ds

-- An entry and its record as an instance: with the names y and the replacements w.
abbrev pub instance_pair : Tables → ℕ → (Name → Replacement) → (Name → Name) → Global (Unit {0}) × Tables → Global (Unit {0}) × Tables
instance_pair a e w y d = (entry_image (term_for (bare_trees a.shapes) w) (y d.0.name) d.0, image_after a w e d.1)

abbrev pub AreNamed : (Name → Replacement) → (Name → Name) → List (Global (Unit {0}) × Tables) → Type 0
AreNamed w y [] = Unit {0}
AreNamed w y (d ∷ ds) = ((w d.0.name ≡ Constant (y d.0.name)) × IsLinked d.1) × AreNamed w y ds

-- The instances of what may follow a front may follow each front in which that front is interpreted, if their names are
-- fresh.
abbrev pub InstancesFollow : Type 0
InstancesFollow = (S : Specification) (F H : Front) (a : Tables) (e : ℕ) (w : Name → Replacement) (y : Name → Name) (ds : List (Global (Unit {0}) × Tables)) → Interpretation H a e w F → IsValid S H a → AreNamed w y ds → Follow S F ds → AreFresh H (map (instance_pair a e w y) ds) → Follow S H (map (instance_pair a e w y) ds)

-- The same with new names alone.
abbrev pub renamed_pair : (Name → Name) → Global (Unit {0}) × Tables → Global (Unit {0}) × Tables
renamed_pair g d = (renamed_entry g d.0, renamed_record g d.1)

abbrev pub RenamedFollow : Type 0
RenamedFollow = (S : Specification) (F H : Front) (g : Name → Name) (ds : List (Global (Unit {0}) × Tables)) → Renames g F H → Follow S F ds → AreFresh H (map (renamed_pair g) ds) → Follow S H (map (renamed_pair g) ds)

-- A legal front no name of which changes is renamed to each front that has its entries.
abbrev pub BasesAreRenamed : Type 0
BasesAreRenamed = (S : Specification) (G H : Front) (g : Name → Name) → Legal S G → HasEntries G H → ((x : Name) (e : Global (Unit {0})) → find x G ≡ Some e → g x ≡ x) → Renames g G H
