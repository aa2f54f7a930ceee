-- One constant, which is an assumption, replaced in records by a closed term that has its type.
use Rattle.std.specs.Prelude.{◌≡◌, ℕ, pred, ◌∷◌, ◌++◌, length, map, slice_index_or, Bool, true, false, if◌then◌else◌}
use Rattle.std.specs.Option.{option_map}
use Rattle.pts_names.specs.Name.{Name, same_name}
use Rattle.pts_terms.specs.Tree.{Bare, subst_const}
use Rattle.pts_ctx.specs.System.{Specification}
use Rattle.pts_ctx.specs.Front.{Global, Front, assumption, definition}
use Rattle.pts_record.specs.declared.shape.Form.TheVariants.{Empty}
use Rattle.pts_record.specs.declared.shape.Node.{Node}
use Rattle.pts_record.specs.Table.{Tables, bare_trees}
use Rattle.pts_record.specs.Said.{judgement, subject_of}
use Rattle.pts_rules.specs.Conditions.{Link}
use Rattle.pts_rules.specs.Derives.{Legal}
use Rattle.pts_rules.specs.Valid.{IsValid, is_empty, concludes, last_said}
use Rattle.pts_image.specs.declared.replacement.Replacement.{Replacement}
use Rattle.pts_image.specs.declared.replacement.Replacement.TheVariants.{Constant, Argument}
use Rattle.pts_image.specs.Appending.{IsLinked, all_within, image_after}

-- A judgement in an empty local context.
abbrev pub is_closed_judgement : Link → Bool
is_closed_judgement (judgement c s t T) = is_empty s.entries
is_closed_judgement _ = false

-- The last node of a record. Where it has none, some node.
abbrev pub last_node : Tables → Node
last_node a = slice_index_or a.nodes (pred (length a.nodes)) (record { form = Empty; ctx = 0; subject = 0; claim = 0; first = 0; second = 0; third = 0 })

-- The constant p is replaced by a judged term, every other constant stays.
abbrev pub replace_one : Name → (term node : ℕ) → Name → Replacement
replace_one p t n c = if same_name p c then Argument t n else Constant c

-- The record r with the constant p replaced by the subject of the last node of a, after the lines of a.
abbrev pub by_argument : Tables → Name → Name → Replacement
by_argument a p = replace_one p (last_node a).subject (pred (length a.nodes))

abbrev pub subst_record : Tables → Name → Tables → Tables
subst_record a p r = image_after a (by_argument a p) (last_node a).ctx r

-- Every term of r is within limits with the constant p replaced.
abbrev pub is_subst_within : Tables → Name → Tables → Bool
is_subst_within a p r = all_within (map (subst_const p (subject_of (last_said a))) (bare_trees r.shapes))

-- An entry with the constant p replaced by u.
abbrev pub subst_entry : Name → Bare → Global (Unit {0}) → Global (Unit {0})
subst_entry p u d = record { name = d.name; body = option_map (subst_const p u) d.body; type = subst_const p u d.type }

-- Let G, p : A, H be a legal front, r a record that is valid over it, and a a record that is valid over G and concludes
-- that u has the type A. Then r with u for p is valid over G and H with u for p.
abbrev pub SubstitutedRecordsAreValid : Type 0
SubstitutedRecordsAreValid = (S : Specification) (G H : Front) (p x : Name) (u A : Bare) (a r : Tables) → Legal S (G ++ assumption p A ∷ H) → IsLinked a → IsLinked r → IsValid S G a → concludes a (definition x u A) ≡ true → IsValid S (G ++ assumption p A ∷ H) r → IsValid S (G ++ map (subst_entry p u) H) (subst_record a p r)

-- And it concludes what r concludes, with u for p.
abbrev pub SubstitutedRecordsConclude : Type 0
SubstitutedRecordsConclude = (S : Specification) (G H : Front) (p x : Name) (u A : Bare) (a r : Tables) → Legal S (G ++ assumption p A ∷ H) → IsLinked a → IsLinked r → IsValid S G a → concludes a (definition x u A) ≡ true → IsValid S (G ++ assumption p A ∷ H) r → (i : Global (Unit {0})) → concludes r i ≡ true → concludes (subst_record a p r) (subst_entry p u i) ≡ true
