-- Lines of the input, one after another.
use Rattle.std.specs.Prelude.{◌≡◌, ◌≢◌, ℕ, ◌+◌, ◌-◌, ◌<◌, ◌≤◌, ◌⊎◌, Bool, true, false, List, [], ◌++◌, length, take, slice_index, Contains, string_bytes, Option, Result, Ok, Err, IfOk}
use Rattle.std.specs.Str.{IsUtf8}
use Rattle.std.specs.Io.BufRead.{first_line, drop_through}
use Rattle.std.specs.Io.KnownBytes.{prepend_known}
use Rattle.pts_io.specs.declared.faults.ReadFail.{ReadFail}
use Rattle.pts_io.specs.declared.lines.Input.{Input}
use Rattle.pts_io.specs.declared.lines.Input.TheVariants.{Text, Bad, TooMuch, End}

-- What a reader of lines has.
pub record Reading : Type 0 where
  -- the bytes that it took and has not answered
  pub held : List ℕ
  -- how many bytes it took in all
  pub taken : ℕ
  -- how many it may take
  pub limit : ℕ
  -- whether the source came to its end, and nothing is held
  pub ended : Bool

-- how many of the bytes that are held, or left in the source, are within the limit
abbrev pub within : Reading → ℕ
within reading = (reading.limit + length reading.held) - reading.taken

-- a line feed stands within so many bytes, or the bytes are a last line within them
abbrev pub HasLine : ℕ → List ℕ → Type 0
HasLine most bytes = Contains (take most bytes) 10 ⊎ ((0 < length bytes) × (length bytes ≤ most))

-- a line is not too long, and is text
abbrev pub IsText : List ℕ → Type 0
IsText line = (length line ≤ 65536) × IsUtf8 line

-- the answer to a line
abbrev pub IsAnswer : List ℕ → Input → Type 0
IsAnswer line (Text text) = IsText line × (string_bytes text ≡ line)
IsAnswer line Bad = ¬ IsText line
IsAnswer line TooMuch = ⊥
IsAnswer line End = ⊥

-- the answer where these bytes lie ahead and so many of them are within the limit
abbrev pub IsNext : ℕ → List ℕ → Input → Type 0
IsNext most bytes (Text text) = HasLine most bytes × IsAnswer (first_line bytes) (Text text)
IsNext most bytes Bad = HasLine most bytes × IsAnswer (first_line bytes) Bad
IsNext most bytes TooMuch = (most < length bytes) × ¬ Contains (take most bytes) 10
IsNext most bytes End = bytes ≡ []

-- the bytes after the answer
abbrev pub behind : {E : Type 0} → Result Input E → List ℕ → List ℕ
behind (Ok (Text text)) bytes = drop_through 10 bytes
behind (Ok Bad) bytes = drop_through 10 bytes
behind (Ok TooMuch) bytes = bytes
behind (Ok End) bytes = bytes
behind (Err fail) bytes = bytes

-- What a call did that took these bytes: the reader was `old`, and is `new`. It answers by the bytes that it held and took
-- alone, whether the source shows them or not.
pub record Took (old new : Reading) (result : Result Input ReadFail) (taken : List ℕ) : Type 0 where
  pub count : new.taken ≡ old.taken + length taken
  pub rest : new.held ≡ behind result (old.held ++ taken)
  pub answer : old.taken ≤ old.limit → IfOk result (IsNext (within old) (old.held ++ taken))
  -- a line that no line feed ends is the last one
  pub fed : new.ended ≡ false → Contains (old.held ++ taken) 10 ⊎ (behind result (old.held ++ taken) ≡ old.held ++ taken)
  pub empty : new.ended ≡ true → new.held ≡ []

-- Bytes that were left were taken, and are held after the others.
abbrev pub Gets : (held held_after : List ℕ) → (left left_after : Option (List ℕ)) → Type 0
Gets held held_after left left_after = (taken : List ℕ) × (held_after ≡ held ++ taken) × (left ≡ prepend_known taken left_after)

-- no byte is a line feed
abbrev pub NoFeed : List ℕ → Type 0
NoFeed bytes = (k : ℕ) → k < length bytes → slice_index bytes k ≢ 10

-- the first line feed stands at this index
pub record IsFirstFeed (bytes : List ℕ) (end : ℕ) : Type 0 where
  pub inside : end < length bytes
  pub here : slice_index bytes end ≡ 10
  pub before : (k : ℕ) → k < end → slice_index bytes k ≢ 10
