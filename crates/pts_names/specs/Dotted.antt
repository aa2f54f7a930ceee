-- What a name is, said without places: identifiers that are joined by dots.
use Rattle.std.specs.Prelude.{◌≡◌, ◌↔◌, ◌<◌, ◌≤◌, ℕ, List, [], ◌∷◌, ◌++◌, None, IsTrue, IsUtf8, length, codes}
use Rattle.std.specs.List.{AllByRecursion}
use Rattle.pts_names.specs.Name.{name_fault, is_identifier}

-- The texts with a dot between each and the next.
abbrev pub dotted : List (List ℕ) → List ℕ
dotted [] = []
dotted (word ∷ []) = word
dotted (word ∷ next ∷ later) = word ++ (codes "." ++ dotted (next ∷ later))

-- A text is one or more identifiers with dots between them, in at most 128 bytes.
abbrev pub IsDotted : List ℕ → Type 0
IsDotted text = (words : List (List ℕ)) × (0 < length words) × AllByRecursion (λ word. IsTrue (is_identifier word)) words × (dotted words ≡ text) × (length text ≤ 128)

-- Exactly those texts are names.
abbrev pub NamesAreDottedIdentifiers : Type 0
NamesAreDottedIdentifiers = (text : List ℕ) → IsUtf8 text → (name_fault text ≡ None) ↔ IsDotted text
