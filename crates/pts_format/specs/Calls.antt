-- What is answered to a reader of lines.
use Rattle.std.specs.Prelude.{◌≡◌, ℕ, List, string_bytes}
use Rattle.pts_io.specs.declared.lines.Input.{Input}
use Rattle.pts_io.specs.declared.lines.Input.TheVariants.{Text, Bad, TooMuch, End}
use Rattle.pts_io.specs.declared.ended.Ended.{Ended}
use Rattle.pts_io.specs.declared.ended.Ended.TheVariants as ended
use Rattle.pts_format.specs.Words.{bad_line}
use Rattle.pts_format.specs.Lines.{TextSays}

-- The line with the number k is answered by this line.
abbrev pub Replies : List (List ℕ) → ℕ → Input → List ℕ → Type 0
Replies sorts k (Text text) line = TextSays sorts (string_bytes text) line
Replies sorts k Bad line = line ≡ bad_line k
Replies sorts k TooMuch line = ⊥
Replies sorts k End line = ⊥

-- The lines end so where no line is printed.
abbrev pub EndsBy : Input → Ended → Type 0
EndsBy (Text text) e = e ≡ ended.NoMemory
EndsBy Bad e = e ≡ ended.NoMemory
EndsBy TooMuch e = e ≡ ended.TooMuch
EndsBy End e = e ≡ ended.Whole
