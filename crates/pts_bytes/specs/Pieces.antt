-- Bytes as pieces between bytes, and as lines.
use Rattle.std.specs.Prelude.{ℕ, ◌-◌, ◌==◌, if◌then◌else◌, List, [], ◌∷◌, length, take, slice_index}
use Rattle.pts_names.specs.Name.{with_first}

-- What comes before, between and after the bytes b of a text.
abbrev pub pieces : ℕ → List ℕ → List (List ℕ)
pieces b [] = [] ∷ []
pieces b (c ∷ cs) = if c == b then [] ∷ pieces b cs else with_first c (pieces b cs)

-- A line without the carriage return at its end, where it has one.
abbrev pub without_return : List ℕ → List ℕ
without_return line = if slice_index line (length line - 1) == 13 then take (length line - 1) line else line

-- The lines among the pieces between line feeds. A carriage return is dropped where a line feed follows. What a format
-- takes for a line of the last piece, after which no line feed comes, is `last`.
abbrev pub lines_among : (last : List ℕ → List (List ℕ)) → List (List ℕ) → List (List ℕ)
lines_among last [] = []
lines_among last (piece ∷ []) = last piece
lines_among last (line ∷ next ∷ rest) = without_return line ∷ lines_among last (next ∷ rest)
