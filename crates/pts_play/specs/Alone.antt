-- A session that runs all its lines, over a core of its own or one that others use too.
use Rattle.std.specs.Prelude.{ℕ, List, []}
use Rattle.pts_play.specs.Machines.{Outcome, Call, Position, ready, Runs}
use Rattle.pts_play.specs.Ports.{Makes}
use Rattle.pts_play.specs.declared.seat.Seat.{Seat}
use Rattle.pts_play.specs.Seats.{position_of}

module _ {P Q A C : Type 0} (Local : P → List ℕ → Outcome P P Q → Type 0) (Resume : P → A → List (List ℕ) → P → Type 0) (Step : C → ℕ → Q → A → C → Type 0) where
  -- It has run so far, and its calls lead from the one core to the other.
  pub record RunsThrough (n : ℕ) (core : C) (s : Seat P Q) (core' : C) (t : Seat P Q) : Type 0 where
    pub calls : List (Call Q A)
    pub runs : Runs Local Resume s.player s.lines.items calls t.replies.items (position_of t)
    pub makes : Makes Step n core calls core'

  -- It has run its lines to the end, and its calls lead from the one core to the other.
  pub record RanThrough (n : ℕ) (core : C) (s : Seat P Q) (core' : C) (t : Seat P Q) : Type 0 where
    pub calls : List (Call Q A)
    pub runs : Runs Local Resume s.player s.lines.items calls t.replies.items (ready t.player [])
    pub makes : Makes Step n core calls core'
