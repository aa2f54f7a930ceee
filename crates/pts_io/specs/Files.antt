-- Files by their names, and what a library's answers say of them.
use Rattle.std.specs.Prelude.{◌≡◌, ℕ, ◌<◌, ◌≤◌, List, length, nat_eq, vec_len, Option, Some, None, Result, Ok, Err, IsSomeAnd}
use Rattle.std.specs.Cmp.Lexicographic.{pointwise}
use Rattle.std.specs.Map.{lookup}
use Rattle.pts_io.specs.declared.libraries.Found.{Found}
use Rattle.pts_io.specs.declared.libraries.Found.TheVariants.{Bytes, NoFile, TooLong}
use Rattle.pts_io.specs.Counts.{raised}

-- the bytes of the first file of this name
abbrev pub file_of : List (List ℕ × List ℕ) → List ℕ → Option (List ℕ)
file_of files name = lookup (pointwise nat_eq name) files

-- what was found has at most as many bytes as a file may have
abbrev pub IsWithin : Found → Type 0
IsWithin (Bytes bytes) = vec_len bytes ≤ 16777216
IsWithin NoFile = Unit {0}
IsWithin TooLong = Unit {0}

-- what was found is what the file holds, if there is one
abbrev pub Holds : Option (List ℕ) → Found → Type 0
Holds file (Bytes bytes) = file ≡ Some bytes.items
Holds file NoFile = file ≡ None
Holds file TooLong = IsSomeAnd file (λ bytes. 16777216 < length bytes)

-- the count of the answers NoFile after one more answer
abbrev pub missing_after : {E : Type 0} → ℕ → Result Found E → ℕ
missing_after count (Ok (Bytes bytes)) = count
missing_after count (Ok NoFile) = raised count 1
missing_after count (Ok TooLong) = count
missing_after count (Err fail) = count

-- the count of the answers TooLong after one more answer
abbrev pub too_long_after : {E : Type 0} → ℕ → Result Found E → ℕ
too_long_after count (Ok (Bytes bytes)) = count
too_long_after count (Ok NoFile) = count
too_long_after count (Ok TooLong) = raised count 1
too_long_after count (Err fail) = count
