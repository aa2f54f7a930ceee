-- How the play of an input comes to its end.
use Rattle.std.specs.Prelude.{ℕ, ◌≡◌, ◌+◌, ◌≤◌, ◌⊎◌, Bool, List, [], ◌∷◌, ◌++◌, length, take, Contains, Option}
use Rattle.std.specs.Io.BufRead.{drop_through}
use Rattle.std.specs.Io.KnownBytes.{append_known}
use Rattle.pts_io.specs.Lines.{IsText}
use Rattle.pts_io.specs.declared.ended.Ended.{Ended}
use Rattle.pts_io.specs.declared.ended.Ended.TheVariants.{Whole, ReadFailed, TooMuch, WriteFailed, NoMemory}
use Rattle.pts_play.specs.Play.{Playing, Played, PlaysAll}

-- The bytes are none, or end by a line feed.
abbrev pub IsFed : List ℕ → Type 0
IsFed bytes = (bytes ≡ []) ⊎ ((front : List ℕ) × (bytes ≡ front ++ 10 ∷ []))

module _ {Core State : Type 0} (Round : Playing Core State → (numbers : List ℕ) → (out : List (List ℕ)) → Playing Core State → Type 0) (numbered : Bool) where
  -- The whole input is played, and its lines are within the first n bytes, up to the one that ends the run, if one does.
  abbrev pub PlaysWhole : (n : ℕ) → (bytes : List ℕ) → Playing Core State → (printed : List ℕ) → Playing Core State → Type 0
  PlaysWhole n bytes p printed q =
      (plays : PlaysAll Round IsText numbered bytes p printed q) × (length bytes ≤ n + length (drop_through 10 plays.left))

  -- Some lines of the bytes, from the first on, are played, or the whole input is, and they are within the first n bytes.
  pub data PlaysSome (n : ℕ) (bytes : List ℕ) (p : Playing Core State) : (printed : List ℕ) → Playing Core State → Type 0 where
    first_lines : {printed : List ℕ} {q : Playing Core State} (k : ℕ) (left : List ℕ) → Played Round IsText numbered bytes p k left printed q → length bytes ≤ n + length left → PlaysSome n bytes p printed q
    all_lines : {printed : List ℕ} {q : Playing Core State} → PlaysWhole n bytes p printed q → PlaysSome n bytes p printed q

  -- Each line is played that a line feed ends, and what comes after the last line feed is not. A round that has not run
  -- then does not run.
  abbrev pub PlaysFirst : (bytes : List ℕ) → Playing Core State → (printed : List ℕ) → Playing Core State → Type 0
  PlaysFirst bytes p printed q =
      (whole : List ℕ) × (rest : List ℕ) × (bytes ≡ whole ++ rest) × IsFed whole × ¬ Contains rest 10 × ((k : ℕ) × Played Round IsText numbered whole p k [] printed q)

  -- What was played of the bytes, of which n were taken, where the play came to this end: all; or, where the source failed
  -- or has more bytes than the limit, the lines that were taken whole; or some.
  abbrev pub EndPlays : (limit : ℕ) → Ended → (n : ℕ) → (bytes : List ℕ) → Playing Core State → (printed : List ℕ) → Playing Core State → Type 0
  EndPlays limit Whole n bytes p out q = PlaysWhole n bytes p out q
  EndPlays limit ReadFailed n bytes p out q = PlaysFirst (take n bytes) p out q
  EndPlays limit TooMuch n bytes p out q = PlaysFirst (take limit bytes) p out q
  EndPlays limit WriteFailed n bytes p out q = PlaysSome n bytes p out q
  EndPlays limit NoMemory n bytes p out q = PlaysSome n bytes p out q

-- The text was printed, or a front part of it where the sink failed.
abbrev pub Shows : Ended → Option (List ℕ) → Option (List ℕ) → List ℕ → Type 0
Shows Whole old new out = new ≡ append_known old out
Shows ReadFailed old new out = new ≡ append_known old out
Shows TooMuch old new out = new ≡ append_known old out
Shows WriteFailed old new out = (n : ℕ) × (n ≤ length out) × (new ≡ append_known old (take n out))
Shows NoMemory old new out = new ≡ append_known old out

-- The play is left at what was played. Where memory ran out it may have gone on within a round, of which nothing was
-- printed; then it has the orders of the rounds that were played, and no other.
abbrev pub LeftAt : {Core State : Type 0} → Ended → (played now : Playing Core State) → Type 0
LeftAt Whole q now = now ≡ q
LeftAt ReadFailed q now = now ≡ q
LeftAt TooMuch q now = now ≡ q
LeftAt WriteFailed q now = now ≡ q
LeftAt NoMemory q now = now.orders ≡ q.orders
