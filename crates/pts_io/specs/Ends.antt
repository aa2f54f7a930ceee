-- How many bytes were taken where the lines of a source came to their end.
use Rattle.std.specs.Prelude.{◌≡◌, ℕ, suc, ◌≤◌}
use Rattle.pts_io.specs.declared.ended.Ended.{Ended}
use Rattle.pts_io.specs.declared.ended.Ended.TheVariants.{Whole, ReadFailed, TooMuch, WriteFailed, NoMemory}

abbrev pub IsCount : ℕ → Ended → ℕ → Type 0
IsCount limit Whole n = n ≤ limit
IsCount limit ReadFailed n = n ≤ limit
IsCount limit TooMuch n = n ≡ suc limit
IsCount limit WriteFailed n = n ≤ limit
IsCount limit NoMemory n = n ≤ limit
