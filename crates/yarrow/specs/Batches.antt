-- What a run of `batch` does.
use Rattle.std.specs.Prelude.{◌≡◌, ℕ, List, [], ◌∷◌, ◌++◌, length, take, codes, if◌then◌else◌, Result, Ok, Err, IfSome}
use Rattle.std.specs.Fmt.{decimal}
use Rattle.pts_names.specs.Name.{Name}
use Rattle.pts_ctx.specs.System.{Specification}
use Rattle.pts_ctx.specs.Front.{Global, bare_front}
use Rattle.pts_rules.specs.Derives.{Legal}
use Rattle.pts_io.specs.Files.{file_of}
use Rattle.pts_io.specs.States.{SinkState, LibraryState}
use Rattle.pts_spec.specs.declared.fault.SpecFault.{SpecFault}
use Rattle.pts_spec.specs.SpecFile.{system_of}
use Rattle.pts_batch.specs.Batches.{BatchAnswer, BatchAnswers}
use Rattle.yarrow.specs.declared.system.Unready.{Unready}
use Rattle.yarrow.specs.declared.system.Unready.TheVariants.{Refused}
use Rattle.yarrow.specs.Runs.{Writes}
use Rattle.yarrow.specs.Systems.{HasFile, IsUnread, UnreadyPrints}

-- The name of a module's file.
abbrev pub file_name : List ℕ → List ℕ
file_name M = M ++ codes ".yar"

-- Lines, each with a line feed after it.
abbrev pub text_of : List (List ℕ) → List ℕ
text_of [] = []
text_of (line ∷ lines) = (line ++ codes "\n") ++ text_of lines

-- After the lines of a module that is not refused comes the number of its entries.
abbrev pub done_line : ℕ → List ℕ
done_line n = codes "done " ++ (decimal n ++ codes "\n")

abbrev pub answer_text : BatchAnswer → List ℕ
answer_text a = text_of a.lines ++ (if a.refused then [] else done_line (length a.entries))

abbrev pub answer_status : BatchAnswer → ℕ
answer_status a = if a.refused then 1 else 0

-- The status and the text of an answer: that of a refusal is 1. When memory runs out, some of its first lines may be all.
pub data AnswerPrints (a : BatchAnswer) : (status : ℕ) → (text : List ℕ) → Type 0 where
  whole : AnswerPrints a (answer_status a) (answer_text a)
  no_memory : (n : ℕ) → AnswerPrints a 7 (text_of (take n a.lines))

-- The status, the text, the entries and the labels for the bytes of the module M in a system: the answer on a budget of
-- 1,000,000 units; or there was no memory for one.
pub data ModulePrints (S : Specification) (M bytes : List ℕ) : (status : ℕ) → (out : List ℕ) → (entries : List (Global Name)) → (labels : List (Name × ℕ)) → Type 0 where
  answered : {status : ℕ} {out : List ℕ} (a : BatchAnswer) (units : ℕ) → BatchAnswers S M bytes 1000000 a units → AnswerPrints a status out → ModulePrints S M bytes status out a.entries a.labels
  no_answer : ModulePrints S M bytes 7 [] [] []

-- The same where both files were read, given the name and the text of the specification: 3 where the text is none.
pub data FilesPrint (name M text bytes : List ℕ) : (status : ℕ) → (out : List ℕ) → (entries : List (Global Name)) → (labels : List (Name × ℕ)) → Type 0 where
  no_system : {status : ℕ} {out : List ℕ} (e : SpecFault) → system_of text ≡ Err e → UnreadyPrints name (Refused e) status out → FilesPrint name M text bytes status out [] []
  in_system : {status : ℕ} {out : List ℕ} {entries : List (Global Name)} {labels : List (Name × ℕ)} (S : Specification) → system_of text ≡ Ok S → ModulePrints S M bytes status out entries labels → FilesPrint name M text bytes status out entries labels
  no_memory_for_it : FilesPrint name M text bytes 7 [] [] []

-- The same of a run. The file of the specification is read first, and then that of the module; where one is not read the
-- status is 6, 7 or 8.
pub data BatchPrints (name M : List ℕ) (old new : LibraryState) : (status : ℕ) → (out : List ℕ) → (entries : List (Global Name)) → (labels : List (Name × ℕ)) → Type 0 where
  no_specification : {status : ℕ} {out : List ℕ} (why : Unready) → IsUnread old new name why
      → UnreadyPrints name why status out → BatchPrints name M old new status out [] []
  no_file : {status : ℕ} {out : List ℕ} (why : Unready) (text : List ℕ) → HasFile old name text → IsUnread old new (file_name M) why
      → UnreadyPrints (file_name M) why status out → BatchPrints name M old new status out [] []
  both_read : {status : ℕ} {out : List ℕ} {entries : List (Global Name)} {labels : List (Name × ℕ)} (text bytes : List ℕ)
      → HasFile old name text → HasFile old (file_name M) bytes → new.faults ≡ old.faults
      → FilesPrint name M text bytes status out entries labels → BatchPrints name M old new status out entries labels
  no_memory_at_all : BatchPrints name M old new 7 [] [] []

-- The entries are legal by the system of a specification, and there are none where it is refused.
abbrev pub IsLegalIn : Result Specification SpecFault → List (Global Name) → Type 0
IsLegalIn (Ok S) entries = Legal S (bare_front entries)
IsLegalIn (Err e) entries = entries ≡ []

-- A run of `batch` with a status, and the entries and the labels of the context that it hands back.
pub record IsBatchRun (name M : List ℕ) (library library_after : LibraryState) (sink sink_after : SinkState) (status : ℕ) (entries : List (Global Name)) (labels : List (Name × ℕ)) : Type 0 where
  pub prints : Writes (λ st out. BatchPrints name M library library_after st out entries labels) sink sink_after status
  -- the context is legal, by the system of the specification where the library shows its files
  pub legal : (S : Specification) × Legal S (bare_front entries)
  pub chosen : IfSome library.files (λ files. IfSome (file_of files name) (λ text. IsLegalIn (system_of text) entries))
