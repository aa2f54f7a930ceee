-- What the reader's calls take and answer.
use Rattle.std.specs.Prelude.{◌≡◌, ℕ, List, [], Option, Some, None, Result, Ok, Err}
use denote.Ref.{Bor}
use Rattle.pts_certificate.specs.declared.fault.LineFault.{LineFault}
use Rattle.pts_certificate.specs.declared.fault.LineFault.TheVariants.{BadLine, BadNumber, TooLarge, System, Memory}
use Rattle.pts_certificate.specs.Text.{words}

-- The words of what is left of a line, which may be nothing.
abbrev pub words_of : Option (Bor (List ℕ)) → List (List ℕ)
words_of None = []
words_of (Some rest) = words rest.now

-- A call answers what is to be said of a line, its value being seen so, unless memory is wanting.
abbrev pub AnswersAs : {A B : Type 0} → (A → B) → Result A LineFault → Result B LineFault → Type 0
AnswersAs seen (Ok a) said = said ≡ Ok (seen a)
AnswersAs seen (Err Memory) said = Unit {0}
AnswersAs seen (Err BadLine) said = said ≡ Err BadLine
AnswersAs seen (Err BadNumber) said = said ≡ Err BadNumber
AnswersAs seen (Err TooLarge) said = said ≡ Err TooLarge
AnswersAs seen (Err (System e)) said = said ≡ Err (System e)

abbrev pub Answers : {A : Type 0} → Result A LineFault → Result A LineFault → Type 0
Answers result said = AnswersAs (λ a. a) result said
