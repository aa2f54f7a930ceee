-- A file as its lines.
use Rattle.std.specs.Prelude.{ℕ, ◌==◌, Bool, false, List, [], ◌∷◌}
use Rattle.pts_bytes.specs.Pieces.{pieces, lines_among}

abbrev pub begins_with : ℕ → List ℕ → Bool
begins_with c [] = false
begins_with c (d ∷ ds) = d == c

-- What comes after the last line feed is a line if it is not empty.
abbrev pub unless_empty : List ℕ → List (List ℕ)
unless_empty [] = []
unless_empty (b ∷ bs) = (b ∷ bs) ∷ []

-- The lines of a file.
abbrev pub lines_of : List ℕ → List (List ℕ)
lines_of text = lines_among unless_empty (pieces 10 text)
