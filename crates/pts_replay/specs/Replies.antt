-- What a line of the input, or its end, leads to.
use Rattle.std.specs.Prelude.{ℕ, ◌≡◌, Bool, true, false, List, [], ◌∷◌, ◌++◌, string_bytes}
use Rattle.pts_io.specs.Lines.{IsText}
use Rattle.pts_io.specs.declared.lines.Input.{Input}
use Rattle.pts_io.specs.declared.lines.Input.TheVariants.{Text, Bad, TooMuch, End}
use Rattle.pts_io.specs.declared.ended.Ended.{Ended}
use Rattle.pts_io.specs.declared.ended.Ended.TheVariants as ended
use Rattle.pts_play.specs.Inputs.{end_, Says}
use Rattle.pts_play.specs.Play.{Playing, PlaysLine, PlaysRest}

-- Texts, one after another.
abbrev pub joined : List (List ℕ) → List ℕ
joined [] = []
joined (text ∷ texts) = text ++ joined texts

module _ {Core State : Type 0} (Round : Playing Core State → (numbers : List ℕ) → (out : List (List ℕ)) → Playing Core State → Type 0) (numbered : Bool) where
  -- The line with the number k is played; or it ends the run, and then the round that has not run is played.
  pub data LineLeads (k : ℕ) (line : List ℕ) (p : Playing Core State) : (is_last : Bool) → (out : List (List ℕ)) → Playing Core State → Type 0 where
    goes_on : {out : List (List ℕ)} {q : Playing Core State} → PlaysLine Round IsText numbered k line p out q → LineLeads k line p false out q
    ends_run : {out : List (List ℕ)} {q : Playing Core State} → Says IsText numbered line end_ → PlaysRest Round IsText numbered p out q → LineLeads k line p true out q

  -- What the answer of the reader of lines leads to: a line that is text, one that is none, or the end of the input.
  abbrev pub InputLeads : ℕ → Input → Playing Core State → (is_last : Bool) → (out : List (List ℕ)) → Playing Core State → Type 0
  InputLeads k (Text text) p is_last out q = IsText (string_bytes text) → LineLeads k (string_bytes text) p is_last out q
  InputLeads k Bad p is_last out q = (line : List ℕ) → ¬ IsText line → LineLeads k line p is_last out q
  InputLeads k TooMuch p is_last out q = ⊥
  InputLeads k End p is_last out q = (is_last ≡ true) × PlaysRest Round IsText numbered p out q

-- The play ends so where nothing is printed for what the reader answered.
abbrev pub EndsBy : Input → Ended → Type 0
EndsBy (Text text) e = e ≡ ended.NoMemory
EndsBy Bad e = e ≡ ended.NoMemory
EndsBy TooMuch e = e ≡ ended.TooMuch
EndsBy End e = e ≡ ended.NoMemory
