-- The system that a command works in, and why there is none.
use Rattle.std.specs.Prelude.{◌≡◌, ℕ, ◌<◌, List, [], ◌++◌, length, codes, Option, None, Some, Ok, Err, IfSome, IsSomeAnd}
use Rattle.pts_ctx.specs.System.{Specification}
use Rattle.pts_io.specs.Counts.{raised, Rose}
use Rattle.pts_io.specs.Files.{file_of}
use Rattle.pts_io.specs.States.{LibraryState}
use Rattle.pts_spec.specs.FaultText.{specification_text}
use Rattle.pts_spec.specs.SpecFile.{system_of}
use Rattle.yarrow.specs.declared.system.Unready.{Unready}
use Rattle.yarrow.specs.declared.system.Unready.TheVariants.{LibraryFailed, NoFile, TooLong, Refused, NoMemory}

-- The file of this name holds these bytes, as far as the library shows.
abbrev pub HasFile : LibraryState → (name bytes : List ℕ) → Type 0
HasFile library name bytes = IfSome library.files (λ files. file_of files name ≡ Some bytes)

-- The file of this name was read, and nothing was counted.
abbrev pub IsRead : (old new : LibraryState) → (name bytes : List ℕ) → Type 0
IsRead old new name bytes = (new.faults ≡ old.faults) × (new.missing ≡ old.missing) × (new.too_long ≡ old.too_long) × HasFile old name bytes

-- The specification of this name was read, and writes this system.
abbrev pub IsReady : (old new : LibraryState) → (name : List ℕ) → Specification → Type 0
IsReady old new name S = (new.faults ≡ old.faults) × ((bytes : List ℕ) × HasFile old name bytes × (system_of bytes ≡ Ok S))

-- The file of this name was not read, for this reason. The library fails only where its count of faults rises.
abbrev pub IsUnread : (old new : LibraryState) → (name : List ℕ) → Unready → Type 0
IsUnread old new name LibraryFailed = Rose old.faults new.faults
IsUnread old new name NoFile =
    (new.faults ≡ old.faults) × (new.missing ≡ raised old.missing 1) × IfSome old.files (λ files. file_of files name ≡ None)
IsUnread old new name TooLong =
    (new.faults ≡ old.faults) × (new.too_long ≡ raised old.too_long 1)
    × IfSome old.files (λ files. IsSomeAnd (file_of files name) (λ bytes. 16777216 < length bytes))
IsUnread old new name (Refused e) = ⊥
IsUnread old new name NoMemory = Unit {0}

-- There is no system for this reason: the file was not read, or it writes none.
abbrev pub IsUnready : (old new : LibraryState) → (name : List ℕ) → Unready → Type 0
IsUnready old new name (Refused e) = (new.faults ≡ old.faults) × ((bytes : List ℕ) × HasFile old name bytes × (system_of bytes ≡ Err e))
IsUnready old new name LibraryFailed = IsUnread old new name LibraryFailed
IsUnready old new name NoFile = IsUnread old new name NoFile
IsUnready old new name TooLong = IsUnread old new name TooLong
IsUnready old new name NoMemory = IsUnread old new name NoMemory

-- A file writes no system for this reason.
abbrev pub RefusesFile : List ℕ → Unready → Type 0
RefusesFile bytes LibraryFailed = ⊥
RefusesFile bytes NoFile = ⊥
RefusesFile bytes TooLong = ⊥
RefusesFile bytes (Refused e) = system_of bytes ≡ Err e
RefusesFile bytes NoMemory = Unit {0}

-- What is printed where there is no system, and the status.
abbrev pub unready_line : List ℕ → Unready → List ℕ
unready_line name LibraryFailed = codes "library failed " ++ (name ++ codes "\n")
unready_line name NoFile = codes "no file " ++ (name ++ codes "\n")
unready_line name TooLong = codes "too long " ++ (name ++ codes "\n")
unready_line name (Refused e) = codes "refused system " ++ (specification_text e ++ codes "\n")
unready_line name NoMemory = []

abbrev pub unready_status : Unready → ℕ
unready_status LibraryFailed = 6
unready_status NoFile = 6
unready_status TooLong = 8
unready_status (Refused e) = 3
unready_status NoMemory = 7

-- The status and the text where a file, or the system that it specifies, is not there.
pub data UnreadyPrints (name : List ℕ) (why : Unready) : (status : ℕ) → (out : List ℕ) → Type 0 where
  shown : UnreadyPrints name why (unready_status why) (unready_line name why)
  no_memory_to_show : UnreadyPrints name why 7 []
