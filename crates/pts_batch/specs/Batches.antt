-- What `batch` answers to the file of a module.
use Rattle.std.specs.Prelude.{◌≡◌, ℕ, ◌+◌, List, [], ◌∷◌, ◌++◌, map, length, nat_le, if◌then◌else◌, Bool, true, false, Option, Some, None, Ok, Err, codes}
use Rattle.std.specs.Fmt.{decimal}
use Rattle.pts_names.specs.Name.{Name}
use Rattle.pts_ctx.specs.System.{Specification}
use Rattle.pts_ctx.specs.Front.{Global}
use Rattle.pts_lines.specs.declared.command.Declaring.{Declaring}
use Rattle.pts_lines.specs.Lines.{Line, of_type, definition}
use Rattle.pts_module_file.specs.declared.fault.FileWhy.{FileWhy}
use Rattle.pts_module_file.specs.File.{File, module_of}
use Rattle.pts_printed.specs.Locals.{printed}
use Rattle.pts_reduce_cost.specs.Costs.{Globals}
use Rattle.pts_statement.specs.Statements.{Statement, assumes, defines}
use Rattle.pts_module_file.specs.FaultText.{file_why_text}
use Rattle.pts_flaw_text.specs.InferText.{spent_text}
use Rattle.pts_statement.specs.Words.{stop_text}
use Rattle.pts_batch.specs.Loading.{Loaded, entered, stopped, spent, Loads}

-- The statements of a file, each with the number of its line.
abbrev pub with_statement : ℕ → Line → List (ℕ × Statement) → List (ℕ × Statement)
with_statement n (of_type c x T) ds = (n, assumes x T) ∷ ds
with_statement n (definition x A T) ds = (n, defines x A T) ∷ ds
with_statement n L ds = ds

abbrev pub statements_of : List (ℕ × (Declaring × Line)) → List (ℕ × Statement)
statements_of [] = []
statements_of (r ∷ rs) = with_statement r.0 r.1.1 (statements_of rs)

-- The first line of a file that uses a module, or else the first with a parameter.
abbrev pub first_line : {A : Type 0} → List (ℕ × A) → Option ℕ → Option ℕ
first_line [] later = later
first_line (r ∷ rs) later = Some r.0

abbrev pub unbuilt_line : File → Option ℕ
unbuilt_line f = first_line f.used (first_line f.assumed None)

-- What becomes of a file: it breaks the format at a line; a line of it is of a kind that is not built; or its statements
-- come to something.
pub data BatchOutcome : Type 0 where
  bad_file : (line : ℕ) → FileWhy → BatchOutcome
  not_built : (line : ℕ) → BatchOutcome
  loaded : Loaded → BatchOutcome

-- Batches S M bytes b o k: the bytes as the file of the module M, over the empty front, come to o with b units before
-- and k after.
pub data Batches (S : Specification) (M : Name) (bytes : List ℕ) (b : ℕ) : BatchOutcome → ℕ → Type 0 where
  file_is_bad : {n : ℕ} {w : FileWhy} → module_of M bytes ≡ Err (n, w) → Batches S M bytes b (bad_file n w) b
  line_is_not_built : {f : File} {n : ℕ} → module_of M bytes ≡ Ok f → unbuilt_line f ≡ Some n → Batches S M bytes b (not_built n) b
  file_is_loaded : {f : File} {o : Loaded} {k : ℕ} → module_of M bytes ≡ Ok f → unbuilt_line f ≡ None → Loads S M [] (statements_of f.stated) b o k → Batches S M bytes b (loaded o) k

-- What is answered: lines, the entries that enter, the labels, and whether it is a refusal.
pub record BatchAnswer : Type 0 where
  pub lines : List (List ℕ)
  pub entries : Globals
  pub labels : List (Name × ℕ)
  pub refused : Bool

-- A refusal of the module M is one line, and nothing enters.
abbrev pub refusal_line : Name → List ℕ → List ℕ
refusal_line M text = codes "refused " ++ (M ++ (codes " " ++ text))

abbrev pub refusal : Name → List ℕ → BatchAnswer
refusal M text = record { lines = refusal_line M text ∷ []; entries = []; labels = []; refused = true }

-- The refusal of a line that breaks the format.
abbrev pub bad_line : ℕ → FileWhy → List ℕ
bad_line n w = codes "BadFile " ++ (decimal n ++ (codes " " ++ file_why_text w))

-- An entry with its type.
abbrev pub entry_line : List (List ℕ) → Global Name → List ℕ
entry_line sorts e = e.name ++ (codes " : " ++ printed sorts [] e.type)

abbrev pub at_line : ℕ → List ℕ → List ℕ
at_line n text = codes "Declaration " ++ (decimal n ++ (codes " " ++ text))

-- All statements have passed. The label of the module stands before its entries. A front has at most 200,000.
abbrev pub with_entries : List (List ℕ) → Name → Globals → BatchAnswer
with_entries sorts M G =
    if nat_le (length G) 200000 then record { lines = map (entry_line sorts) G; entries = G; labels = (M, 0) ∷ []; refused = false }
    else refusal M (codes "ContextFull 0")

abbrev pub answer_loaded : List (List ℕ) → Name → Loaded → BatchAnswer
answer_loaded sorts M (entered G) = with_entries sorts M G
answer_loaded sorts M (stopped n e) = refusal M (at_line n (stop_text sorts e))
answer_loaded sorts M (spent n) = refusal M (at_line n spent_text)

abbrev pub answer_of : List (List ℕ) → Name → BatchOutcome → BatchAnswer
answer_of sorts M (bad_file n w) = refusal M (bad_line n w)
answer_of sorts M (not_built n) = refusal M (codes "NotBuilt " ++ decimal n)
answer_of sorts M (loaded o) = answer_loaded sorts M o

-- The module is answered so, its budget being b, and so many units were spent.
abbrev pub BatchAnswers : Specification → Name → List ℕ → ℕ → BatchAnswer → ℕ → Type 0
BatchAnswers S M bytes b a units = (o : BatchOutcome) × ((k : ℕ) × Batches S M bytes b o k × (units + k ≡ b)) × (a ≡ answer_of S.sorts M o)
