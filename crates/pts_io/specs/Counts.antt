-- Counts that an object of the outside keeps, and what a sink's 0 means.
use Rattle.std.specs.Prelude.{◌≡◌, ℕ, ◌+◌, ◌-◌, ◌^◌, ◌<◌, ◌≤◌, min, max, List, length}

-- the count after so many more; counting stops at the greatest number of 64 bits
abbrev pub raised : ℕ → ℕ → ℕ
raised count more = max count (min (count + more) (2 ^ 64 - 1))

-- the count rose, or it stood at the greatest number of 64 bits
abbrev pub Rose : ℕ → ℕ → Type 0
Rose old new = raised old 1 ≤ new

-- nothing of a piece that isn't empty was accepted
abbrev pub IsStuck : ℕ → List ℕ → Type 0
IsStuck accepted piece = (accepted ≡ 0) × (0 < length piece)
