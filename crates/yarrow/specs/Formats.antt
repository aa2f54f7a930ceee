-- What a run of `format` does.
use Rattle.std.specs.Prelude.{◌≡◌, ℕ, ◌<◌, ◌≤◌, List, ◌++◌, length, take, codes, IfSome}
use Rattle.std.specs.Io.KnownBytes.{IsAtEnd}
use Rattle.pts_ctx.specs.System.{Specification}
use Rattle.pts_io.specs.Counts.{raised, Rose}
use Rattle.pts_io.specs.States.{SourceState, SinkState, LibraryState}
use Rattle.pts_format.specs.Lines.{AnswersSome, AnswersAll, AnswersFirst}
use Rattle.yarrow.specs.declared.system.Unready.{Unready}
use Rattle.yarrow.specs.Runs.{Takes, Writes}
use Rattle.yarrow.specs.Systems.{IsReady, IsUnready, unready_line, unready_status}

-- The text that is printed for the lines of the source, where the sink does not fail, and the status that a run then
-- ends with. The bytes are all that the source has: those that it shows, and where it shows none, some.
pub data LinesPrint (sorts : List (List ℕ)) (old new : SourceState) : (status : ℕ) → (text : List ℕ) → Type 0 where
  -- 0: the source was read to its end, and each line was answered
  answered : (bytes out : List ℕ) → length bytes ≤ 16777216 → Takes old new (length bytes)
      → IfSome old.left (λ all. bytes ≡ all) → IsAtEnd new.left
      → AnswersAll sorts bytes out
      → LinesPrint sorts old new 0 out
  -- 4: the source failed, as its count shows, when each line that it had given whole was answered
  read_failed : (n : ℕ) (bytes out : List ℕ) → n ≤ 16777216 → n ≤ length bytes → new.given ≡ raised old.given n → Rose old.faults new.faults
      → IfSome old.left (λ all. bytes ≡ all)
      → AnswersFirst sorts (take n bytes) out
      → LinesPrint sorts old new 4 (out ++ codes "read failed\n")
  -- 8: byte 16,777,217 was taken, when each line that ends before it was answered
  too_long : (bytes out : List ℕ) → 16777216 < length bytes → Takes old new 16777217
      → IfSome old.left (λ all. bytes ≡ all)
      → AnswersFirst sorts (take 16777216 bytes) out
      → LinesPrint sorts old new 8 (out ++ codes "input too long\n")
  -- 7: there was no memory for more, when some of the first lines were answered, all from what was taken
  no_memory : (n : ℕ) (bytes out : List ℕ) → n ≤ 16777216 → n ≤ length bytes → Takes old new n
      → IfSome old.left (λ all. bytes ≡ all)
      → AnswersSome sorts n bytes out
      → LinesPrint sorts old new 7 out

-- The same of a run, given the name of the specification. Where there is no system the status is 3, 6, 7 or 8, and nothing
-- is taken from the source.
pub data FormatPrints (name : List ℕ) (library library_after : LibraryState) (source source_after : SourceState) : (status : ℕ) → (text : List ℕ) → Type 0 where
  no_system : (why : Unready) → IsUnready library library_after name why → Takes source source_after 0
      → FormatPrints name library library_after source source_after (unready_status why) (unready_line name why)
  lines : {status : ℕ} {text : List ℕ} (S : Specification) → IsReady library library_after name S
      → LinesPrint S.sorts source source_after status text
      → FormatPrints name library library_after source source_after status text

-- A run of `format`.
abbrev pub IsFormatRun : (name : List ℕ) → (library library_after : LibraryState) → (source source_after : SourceState) → (sink sink_after : SinkState) → (status : ℕ) → Type 0
IsFormatRun name library library_after source source_after sink sink_after status =
    Writes (FormatPrints name library library_after source source_after) sink sink_after status
