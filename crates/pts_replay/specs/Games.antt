-- A play on one thread.
use Rattle.std.specs.Prelude.{◌≡◌, length, All}
use Rattle.std.specs.List.{AllByRecursion}
use Rattle.pts_play.specs.Inputs.{IsSession}
use Rattle.pts_play.specs.Play.{Playing}
use Rattle.pts_play.specs.Turns.{AllClear, AllFit, NoLines, players}
use Rattle.pts_replay.specs.declared.replay.Replay.{Replay}

-- The state of the play.
abbrev pub state_of : {P Q C : Type 0} → Replay P Q C → Playing C P
state_of g = record { core = g.core; sessions = players g.seats.items; lines = g.lines.items; orders = g.orders.items }

module _ {P Q C : Type 0} (Free : P → Type 0) (Fits : P → C → Type 0) where
  -- It has 64 sessions that wait for nothing and may play with the core, at clear seats, and its lines are of sessions.
  pub record MayGoOn (g : Replay P Q C) : Type 0 where
    pub sessions : length g.seats.items ≡ 64
    pub numbers : All (λ l. IsSession l.0) g.lines.items
    pub clear : AllClear g.seats.items
    pub bare : NoLines g.seats.items
    pub free : AllByRecursion Free (players g.seats.items)
    pub fits : AllFit Fits g.core g.seats.items
