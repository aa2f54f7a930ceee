-- What is told of the sessions with which rounds are tried: whether they wait for an answer.
use Rattle.std.specs.Prelude.{◌≡◌, List, length, Bool, true, false}
use Rattle.std.specs.List.{AllByRecursion}
use Rattle.pts_play.specs.Machines.{Outcome, done, asks}
use Rattle.pts_play.specs.Turns.{AllClear, players}
use Rattle.pts_play.specs.declared.seat.Seat.{Seat}

-- After a line that is done a session doesn't wait, and after one that asks it does.
abbrev pub Comes : {S Q : Type 0} → (waits : S → Bool) → Outcome S S Q → Type 0
Comes waits (done replies s) = waits s ≡ false
Comes waits (asks q s) = waits s ≡ true

-- Two seats at which nothing has run, of sessions that wait for nothing.
abbrev pub AreReady : {P Q : Type 0} → (waits : P → Bool) → List (Seat P Q) → Type 0
AreReady waits seats = (length seats ≡ 2) × AllClear seats × AllByRecursion (λ s. waits s ≡ false) (players seats)
