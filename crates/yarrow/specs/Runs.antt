-- What a run shows of its source and its sink, and what a run of `check` does.
use Rattle.std.specs.Prelude.{◌≡◌, ℕ, ◌<◌, ◌≤◌, ◌⊎◌, List, [], length, take, codes, IfSome}
use Rattle.std.specs.Io.KnownBytes.{append_known, IsAtEnd}
use Rattle.pts_io.specs.Counts.{raised, Rose}
use Rattle.pts_io.specs.States.{SourceState, SinkState}
use Rattle.pts_names.specs.Name.{Name}
use Rattle.pts_ctx.specs.System.{Specification}
use Rattle.pts_ctx.specs.Front.{Global, bare_front}
use Rattle.pts_rules.specs.Derives.{Legal}
use Rattle.pts_certificate.specs.Certificate.{certificate_of}
use Rattle.yarrow.specs.Answers.{answer_to, IsLegalBy}

-- So many bytes were taken from the source, and it did not fail.
abbrev pub Takes : (old new : SourceState) → ℕ → Type 0
Takes old new n = (new.given ≡ raised old.given n) × (new.faults ≡ old.faults)

-- Nothing was taken from the source, and it did not fail.
abbrev pub TakesNothing : (old new : SourceState) → Type 0
TakesNothing old new = (new.given ≡ old.given) × (new.faults ≡ old.faults)

-- The text was printed, and nothing else, and the sink did not fail.
abbrev pub Prints : (old new : SinkState) → List ℕ → Type 0
Prints old new text = (new.written ≡ append_known old.written text) × (new.faults ≡ old.faults)

-- The sink failed, as its count shows, when a front part of the text was printed, and nothing else.
abbrev pub PrintsPart : (old new : SinkState) → List ℕ → Type 0
PrintsPart old new text = Rose old.faults new.faults × ((n : ℕ) × (n ≤ length text) × (new.written ≡ append_known old.written (take n text)))

-- A run that prints this line has the wanted status, or 5 where the sink failed.
abbrev pub PrintsLine : (wanted : ℕ) → (line : List ℕ) → (old new : SinkState) → (status : ℕ) → Type 0
PrintsLine wanted line old new status = ((status ≡ wanted) × Prints old new line) ⊎ ((status ≡ 5) × PrintsPart old new line)

-- A run with a status whose text and status are among those of P: the text was printed; or the sink failed, when a front
-- part of such a text was printed, and the status is 5.
abbrev pub Writes : (ℕ → List ℕ → Type 0) → (old new : SinkState) → (status : ℕ) → Type 0
Writes P old new status =
    ((text : List ℕ) × P status text × Prints old new text)
    ⊎ ((status ≡ 5) × ((wanted : ℕ) × (text : List ℕ) × P wanted text × PrintsPart old new text))

-- The status, the text, and the entries and the labels of the context of a run of `check`, where the sink does not fail.
-- There are no labels.
pub data CheckPrints (old new : SourceState) : (status : ℕ) → (text : List ℕ) → (entries : List (Global Name)) → (labels : List (Name × ℕ)) → Type 0 where
  -- 0 and 1: the source was read to its end, and these are the answer to its bytes, which were at most 16 MiB
  answered : (bytes : List ℕ) → length bytes ≤ 16777216 → Takes old new (length bytes)
      → IfSome old.left (λ all. bytes ≡ all) → IsAtEnd new.left
      → CheckPrints old new (answer_to bytes).status (answer_to bytes).line (answer_to bytes).entries []
  -- 4: the source failed, as its count shows
  read_failed : (n : ℕ) → n ≤ 16777216 → new.given ≡ raised old.given n → Rose old.faults new.faults
      → CheckPrints old new 4 (codes "read failed\n") [] []
  -- 8: byte 16,777,217 was taken
  too_long : Takes old new 16777217 → IfSome old.left (λ all. 16777216 < length all)
      → CheckPrints old new 8 (codes "input too long\n") [] []
  -- 7: there was no memory for the bytes or for the answer
  no_memory : (n : ℕ) → n ≤ 16777216 → new.given ≡ raised old.given n → CheckPrints old new 7 [] [] []

-- A run of `check` with a status, and the entries and the labels of the context that it hands back.
pub record IsCheckRun (source source_after : SourceState) (sink sink_after : SinkState) (status : ℕ) (entries : List (Global Name)) (labels : List (Name × ℕ)) : Type 0 where
  pub prints : Writes (λ st out. CheckPrints source source_after st out entries labels) sink sink_after status
  -- the context is legal, by the certificate's system where the source shows its bytes
  pub legal : (S : Specification) × Legal S (bare_front entries)
  pub chosen : IfSome source.left (λ text. IsLegalBy (certificate_of text) entries)

-- A run whose words have no form: nothing is taken from the source.
abbrev pub IsUsageRun : (source source_after : SourceState) → (sink sink_after : SinkState) → (status : ℕ) → (entries : List (Global Name)) → (labels : List (Name × ℕ)) → Type 0
IsUsageRun source source_after sink sink_after status entries labels =
    PrintsLine 2 (codes "usage\n") sink sink_after status × TakesNothing source source_after × (entries ≡ []) × (labels ≡ [])
