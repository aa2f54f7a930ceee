-- A text as lines, a line as words, and a word as a number.
use Rattle.std.specs.Prelude.{ℕ, ◌==◌, ◌&&◌, not, Bool, if◌then◌else◌, List, [], ◌∷◌, length, map, codes, Result, Ok, Err}
use Rattle.std.specs.List.{list_all}
use Rattle.pts_names.specs.Name.{same_name}
use Rattle.pts_bytes.specs.Pieces.{pieces, lines_among}
use Rattle.pts_bytes.specs.Digits.{is_digits, is_number_up_to, value}
use Rattle.pts_certificate.specs.declared.fault.LineFault.{LineFault}
use Rattle.pts_certificate.specs.declared.fault.LineFault.TheVariants.{BadLine, BadNumber}

-- What comes after the last line feed is a line only where it is `end`, exactly.
abbrev pub only_end : List ℕ → List (List ℕ)
only_end last = if same_name last (codes "end") then last ∷ [] else []

-- The lines of a text.
abbrev pub lines : List ℕ → List (List ℕ)
lines text = lines_among only_end (pieces 10 text)

-- The words of a line: single spaces are between them.
abbrev pub words : List ℕ → List (List ℕ)
words line = pieces 32 line

-- Whether digits are a number of a certificate: one without a leading zero, and below 2^32.
abbrev pub is_number : List ℕ → Bool
is_number digits = is_number_up_to 4294967295 digits

-- The numbers of a line's fields, which must be as many as `count`. Whether they are digits is asked of all fields
-- before the numbers are looked at.
unfoldable pub numbers : ℕ → List (List ℕ) → Result (List ℕ) LineFault
numbers count fields =
    if not ((length fields == count) && list_all is_digits fields) then Err BadLine
    else if list_all is_number fields then Ok (map value fields)
    else Err BadNumber
