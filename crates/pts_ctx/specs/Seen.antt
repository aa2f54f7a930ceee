-- A context as contracts see it.
use Rattle.std.specs.Prelude.{◌++◌, ◌≤◌, ℕ, List, [], ◌∷◌, position, Bool, true, ◌&&◌, Option, Some, None, if◌then◌else◌, ◌≡◌}
use Rattle.std.specs.List.{AllByRecursion}
use Rattle.pts_names.specs.Name.{Name, same_name}
use Rattle.pts_terms.specs.Tree.{Tree}
use Rattle.pts_terms.specs.Limits.{within}
use Rattle.pts_ctx.specs.Front.{Global, Fresh}

-- The entries, the oldest first; the labels, each with the number of entries that stood there when it was marked; and
-- how many more of each it takes without memory.
pub record SeenContext : Type 0 where
  pub entries : List (Global Name)
  pub labels : List (Name × ℕ)
  pub spare_entries : ℕ
  pub spare_labels : ℕ

-- The place of the first entry of a name.
abbrev pub place_of : {B : Type 0} → Name → List (Global B) → Option ℕ
place_of x G = position (λ e. same_name x e.name) G

-- The number of entries at a label.
abbrev pub label_place : Name → List (Name × ℕ) → Option ℕ
label_place x [] = None
label_place x (l ∷ ls) = if same_name x l.0 then Some l.1 else label_place x ls

-- No two entries have one name.
abbrev pub NamesDiffer : {B : Type 0} → List (Global B) → Type 0
NamesDiffer [] = Unit {0}
NamesDiffer (e ∷ G) = Fresh e.name G × NamesDiffer G

-- The terms of an entry, and of all of them, are within limits.
abbrev pub body_within : {B : Type 0} → Option (Tree B) → Bool
body_within None = true
body_within (Some a) = within a

abbrev pub global_within : {B : Type 0} → Global B → Bool
global_within e = body_within e.body && within e.type

abbrev pub globals_within : {B : Type 0} → List (Global B) → Bool
globals_within [] = true
globals_within (e ∷ G) = global_within e && globals_within G

-- Each label stands at no more entries than there are.
abbrev pub LabelsInside : ℕ → List (Name × ℕ) → Type 0
LabelsInside n labels = AllByRecursion (λ l. l.1 ≤ n) labels

-- The first list is a prefix of the second.
abbrev pub IsPrefix : {A : Type 0} → List A → List A → Type 0
IsPrefix {A} xs ys = (rest : List A) × (xs ++ rest ≡ ys)

-- Both lists of the first context are prefixes of those of the second.
abbrev pub IsFrontOf : SeenContext → SeenContext → Type 0
IsFrontOf S T = IsPrefix S.entries T.entries × IsPrefix S.labels T.labels
