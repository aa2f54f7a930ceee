-- What was printed where the lines came to their end.
use Rattle.std.specs.Prelude.{◌≡◌, ℕ, ◌≤◌, List, length, take, Option}
use Rattle.std.specs.Io.KnownBytes.{append_known}
use Rattle.pts_io.specs.declared.ended.Ended.{Ended}
use Rattle.pts_io.specs.declared.ended.Ended.TheVariants.{Whole, ReadFailed, TooMuch, WriteFailed, NoMemory}
use Rattle.pts_format.specs.Lines.{AnswersSome, AnswersAll, AnswersFirst}

-- The text was printed, or a front part of it where the sink failed.
abbrev pub Shows : Ended → Option (List ℕ) → Option (List ℕ) → List ℕ → Type 0
Shows Whole old new out = new ≡ append_known old out
Shows ReadFailed old new out = new ≡ append_known old out
Shows TooMuch old new out = new ≡ append_known old out
Shows WriteFailed old new out = (n : ℕ) × (n ≤ length out) × (new ≡ append_known old (take n out))
Shows NoMemory old new out = new ≡ append_known old out

-- What the text answers of the bytes, of which n were taken.
abbrev pub EndAnswers : List (List ℕ) → ℕ → Ended → ℕ → List ℕ → List ℕ → Type 0
EndAnswers sorts limit Whole n bytes out = (n ≡ length bytes) × AnswersAll sorts bytes out
EndAnswers sorts limit ReadFailed n bytes out = AnswersFirst sorts (take n bytes) out
EndAnswers sorts limit TooMuch n bytes out = AnswersFirst sorts (take limit bytes) out
EndAnswers sorts limit WriteFailed n bytes out = AnswersSome sorts n bytes out
EndAnswers sorts limit NoMemory n bytes out = AnswersSome sorts n bytes out
