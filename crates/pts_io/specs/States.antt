-- What a source, a sink and a library show of themselves at a moment. What stands in memory shows all of its bytes, and what
-- belongs to the system shows none.
use Rattle.std.specs.Prelude.{ℕ, List, Option}

pub record SourceState : Type 0 where
  -- the bytes that are left, where they are shown
  pub left : Option (List ℕ)
  -- how many bytes were given
  pub given : ℕ
  -- how many faults there were
  pub faults : ℕ

pub record SinkState : Type 0 where
  -- the bytes that were written, where they are shown
  pub written : Option (List ℕ)
  -- how many faults there were
  pub faults : ℕ

pub record LibraryState : Type 0 where
  -- the files, where they are shown: names with bytes, where the first of a name counts
  pub files : Option (List (List ℕ × List ℕ))
  -- how many answers were NoFile, and how many TooLong
  pub missing : ℕ
  pub too_long : ℕ
  -- how many faults there were
  pub faults : ℕ
