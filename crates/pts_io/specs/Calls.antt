-- The calls that an object in memory has answered, and those at which it fails.
use Rattle.std.specs.Prelude.{ℕ, ◌+◌, ◌==◌, ◌&&◌, nat_lt, length, true, Ok, Err, Bool, List, Contains, Result, if◌then◌else◌}
use Rattle.std.specs.Result.{result_unwrap_or}
use Rattle.pts_io.specs.Counts.{raised}

pub record Calls : Type 0 where
  -- how many calls there were
  pub made : ℕ
  -- how many of them raised the count of faults
  pub faults : ℕ
  -- the calls at which it fails, counted from 1
  pub fail_at : List ℕ

-- the next call is one of those at which it fails
abbrev pub FailsNext : Calls → Type 0
FailsNext calls = Contains calls.fail_at (calls.made + 1)

-- with one more fault, if there was one
abbrev pub faulted : Calls → Bool → Calls
faulted calls fault = record calls { faults = (if fault then raised calls.faults 1 else calls.faults) }

-- after one more call, which was a fault or was none
abbrev pub counted : Calls → Bool → Calls
counted calls fault = faulted (record calls { made = raised calls.made 1 }) fault

-- how many bytes a call moved: none where it failed
abbrev pub moved : {E : Type 0} → Result ℕ E → ℕ
moved answer = result_unwrap_or answer 0

-- the call of a sink raised its count of faults: it failed, or accepted nothing of a piece that isn't empty
abbrev pub is_fault : {E : Type 0} → Result ℕ E → List ℕ → Bool
is_fault (Ok accepted) piece = (accepted == 0) && nat_lt 0 (length piece)
is_fault (Err fail) piece = true
