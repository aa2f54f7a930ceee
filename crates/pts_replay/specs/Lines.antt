-- The lines of the input as they are read.
use Rattle.std.specs.Prelude.{ℕ, ◌≡◌, ◌≢◌, ◌<◌, Bool, List, length, get_or, Option, MatchOption}
use Rattle.std.specs.Fmt.{decimal}
use Rattle.pts_play.specs.Inputs.{Input, of_session, go, end_, unknown_, IsSession, Asks}
use Rattle.pts_replay.specs.declared.line.Asked.{Asked}
use Rattle.pts_replay.specs.declared.line.Asked.TheVariants as asked

-- What the program takes a line for.
abbrev pub input_of : Asked → Input
input_of (asked.Line n text) = of_session n text
input_of (asked.Go numbers) = go numbers.items
input_of asked.End = end_
input_of asked.Unknown = unknown_

-- The line has the form of what it is taken for, and no form where it is unknown.
abbrev pub HasForm : (numbered : Bool) → (line : List ℕ) → Input → Type 0
HasForm numbered line (of_session n text) = Asks numbered line (of_session n text)
HasForm numbered line (go numbers) = Asks numbered line (go numbers)
HasForm numbered line end_ = Asks numbered line end_
HasForm numbered line unknown_ = (i : Input) → ¬ Asks numbered line i

-- No byte is a blank.
abbrev pub NoBlank : List ℕ → Type 0
NoBlank bytes = (k : ℕ) → k < length bytes → get_or bytes k 0 ≢ 32

-- The number of a session that a word is, if it is one.
abbrev pub SessionIn : (word : List ℕ) → Option ℕ → Type 0
SessionIn word o = MatchOption o ((n : ℕ) → IsSession n → word ≢ decimal n) (λ n. IsSession n × (word ≡ decimal n))
