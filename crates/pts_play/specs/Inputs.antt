-- The lines of the input of a play.
use Rattle.std.specs.Prelude.{ℕ, ◌≤◌, ◌≡◌, ◌≢◌, Bool, true, List, [], ◌++◌, All, codes}
use Rattle.std.specs.Fmt.{decimal}
use Rattle.pts_play.specs.Rounds.{numbers_text}

-- What a line asks for: that a session has a text as a line of the round; that the round runs, with the numbers after `go`;
-- that the run ends; or nothing that is known.
pub data Input : Type 0 where
  of_session : ℕ → (text : List ℕ) → Input
  go : (numbers : List ℕ) → Input
  end_ : Input
  unknown_ : Input

-- Sessions are numbered from 1 to 64.
abbrev pub IsSession : ℕ → Type 0
IsSession n = (1 ≤ n) × (n ≤ 64)

-- The line has the form of this input. `go` may be followed by numbers where these are taken.
pub data Asks (numbered : Bool) (line : List ℕ) : Input → Type 0 where
  a_line : {text : List ℕ} (n : ℕ) → IsSession n → line ≡ codes "@" ++ (decimal n ++ (codes " " ++ text)) → Asks numbered line (of_session n text)
  plain_go : line ≡ codes "go" → Asks numbered line (go [])
  numbered_go : {ns : List ℕ} → numbered ≡ true → All IsSession ns → line ≡ codes "go" ++ numbers_text ns → Asks numbered line (go ns)
  an_end : line ≡ codes "end" → Asks numbered line end_

-- The line, as it was read, is this input. A line that has no form, or that is no text, is unknown.
module _ (IsText : List ℕ → Type 0) where
  pub data Says (numbered : Bool) (line : List ℕ) : Input → Type 0 where
    has_form : {i : Input} → IsText line → Asks numbered line i → Says numbered line i
    no_form : ((i : Input) → ¬ Asks numbered line i) → Says numbered line unknown_
    no_text : ¬ IsText line → Says numbered line unknown_
