-- What the source, the sink and the library in memory are seen as.
use Rattle.std.specs.Prelude.{ℕ, List}
use Rattle.pts_io.specs.Calls.{Calls}

pub record Stock : Type 0 where
  -- the bytes that the source has yet to give
  pub left : List ℕ
  -- how many it gave
  pub given : ℕ
  -- how many it gives in a call, at most
  pub piece : ℕ
  pub calls : Calls

pub record Store : Type 0 where
  -- the bytes that the sink was given
  pub written : List ℕ
  -- how many more it has room for
  pub room : ℕ
  pub calls : Calls

pub record Folder : Type 0 where
  -- names with bytes, where the first of a name counts
  pub files : List (List ℕ × List ℕ)
  -- how many answers were NoFile, and how many TooLong
  pub missing : ℕ
  pub too_long : ℕ
  pub calls : Calls
