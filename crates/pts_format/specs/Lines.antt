-- What is printed for lines of terms.
use Rattle.std.specs.Prelude.{◌≡◌, ◌≢◌, ℕ, suc, ◌+◌, ◌<◌, ◌≤◌, ◌⊎◌, List, [], ◌∷◌, ◌++◌, length, Contains, codes, Option, None, Ok}
use Rattle.std.specs.Io.BufRead.{first_line, drop_through}
use Rattle.pts_names.specs.Name.{Name}
use Rattle.pts_terms.specs.Tree.{Named}
use Rattle.pts_parser.specs.declared.fault.ReadFault.{ReadFault}
use Rattle.pts_parser.specs.declared.fault.ReadFault.TheVariants.{Memory}
use Rattle.pts_parser.specs.Reading.{Means, RefusesTerm}
use Rattle.pts_printed.specs.Locals.{printed}
use Rattle.pts_io.specs.Lines.{IsText}
use Rattle.pts_format.specs.Words.{refusal_line, bad_line}

-- No name is a constant.
abbrev pub no_constants : Name → Option Name
no_constants = λ x. None

-- A term over no locals, as a line.
abbrev pub term_line : List (List ℕ) → Named → List ℕ
term_line sorts t = printed sorts [] t ++ codes "\n"

-- What is printed for a text: the closed term that it says, over no constants, or the refusal of it.
pub data TextSays (sorts : List (List ℕ)) (text : List ℕ) : List ℕ → Type 0 where
  a_term : {line : List ℕ} (t : Named) → Means text 0 sorts no_constants [] (Ok t) → line ≡ term_line sorts t → TextSays sorts text line
  refused : {line : List ℕ} (e : ReadFault) → e ≢ Memory → RefusesTerm text 0 sorts no_constants [] e → line ≡ refusal_line e → TextSays sorts text line

-- What is printed for the line with the number k. A line that is too long, or that isn't UTF-8, is no text.
pub data LineSays (sorts : List (List ℕ)) (k : ℕ) (bytes : List ℕ) : List ℕ → Type 0 where
  a_text : {line : List ℕ} → IsText bytes → TextSays sorts bytes line → LineSays sorts k bytes line
  no_text : {line : List ℕ} → ¬ IsText bytes → line ≡ bad_line k → LineSays sorts k bytes line

-- The first k lines of the bytes are answered by what is printed, and these bytes are left.
pub data Answered (sorts : List (List ℕ)) (bytes : List ℕ) : (k : ℕ) → (left printed : List ℕ) → Type 0 where
  none_yet : Answered sorts bytes 0 bytes []
  one_more : {k : ℕ} {left out line : List ℕ} → Answered sorts bytes k left out → 0 < length left → LineSays sorts (suc k) (first_line left) line → Answered sorts bytes (suc k) (drop_through 10 left) (out ++ line)

-- Some lines, from the first on, are answered, and they are within the first n bytes.
abbrev pub AnswersSome : List (List ℕ) → ℕ → List ℕ → List ℕ → Type 0
AnswersSome sorts n bytes out = (k : ℕ) × (left : List ℕ) × Answered sorts bytes k left out × (length bytes ≤ n + length left)

-- Each line is answered.
abbrev pub AnswersAll : List (List ℕ) → List ℕ → List ℕ → Type 0
AnswersAll sorts bytes out = (k : ℕ) × Answered sorts bytes k [] out

-- The bytes are none, or end by a line feed.
abbrev pub IsFed : List ℕ → Type 0
IsFed bytes = (bytes ≡ []) ⊎ ((front : List ℕ) × (bytes ≡ front ++ 10 ∷ []))

-- Each line is answered that a line feed ends, and what comes after the last line feed is not.
abbrev pub AnswersFirst : List (List ℕ) → List ℕ → List ℕ → Type 0
AnswersFirst sorts bytes out =
    (whole : List ℕ) × (rest : List ℕ) × (bytes ≡ whole ++ rest) × IsFed whole × ¬ Contains rest 10 × AnswersAll sorts whole out
