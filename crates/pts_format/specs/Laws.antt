-- The laws of lines of terms.
use Rattle.std.specs.Prelude.{◌≡◌, ℕ, List, [], Ok, IsTrue}
use Rattle.pts_terms.specs.Tree.{Named}
use Rattle.pts_terms.specs.Limits.{within}
use Rattle.pts_parser.specs.Reading.{Means}
use Rattle.pts_printed.specs.Laws.{HasNames, SpellSorts, MeansEqual}
use Rattle.pts_printed.specs.Locals.{printed}
use Rattle.pts_format.specs.Lines.{no_constants, LineSays, AnswersAll}

-- A line has one answer at most.
abbrev pub LinesHaveOneAnswer : Type 0
LinesHaveOneAnswer = (sorts : List (List ℕ)) (k : ℕ) (bytes a b : List ℕ) → LineSays sorts k bytes a → LineSays sorts k bytes b → a ≡ b

-- And so have all lines of a text.
abbrev pub TextsHaveOneAnswer : Type 0
TextsHaveOneAnswer = (sorts : List (List ℕ)) (bytes a b : List ℕ) → AnswersAll sorts bytes a → AnswersAll sorts bytes b → a ≡ b

-- What is printed for a term is read back, in the same way, as a term that is equal apart from printed names.
abbrev pub PrintedLinesAreReadBack : Type 0
PrintedLinesAreReadBack =
    (sorts : List (List ℕ)) (text : List ℕ) (t : Named) → SpellSorts sorts → IsTrue (within t) → HasNames t
    → Means text 0 sorts no_constants [] (Ok t) → MeansEqual sorts no_constants [] (printed sorts [] t) t
