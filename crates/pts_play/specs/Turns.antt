-- Turns of the sessions of a round, as the loops of the code go through them.
use Rattle.std.specs.Prelude.{ℕ, zero, suc, ◌+◌, ◌≡◌, ◌≤◌, ◌<◌, List, [], ◌∷◌, ◌++◌, map, length, slice_set, slice_get, All, Bool, true, false, Option, Some, None, is_some}
use Rattle.std.specs.List.{AllByRecursion}
use Rattle.pts_play.specs.Machines.{Outcome, Call, Event, Runs, Happens}
use Rattle.pts_play.specs.Rounds.{lines_of, calls_of, order_of, OrderFrom, Rising, reply_line, EachRuns}
use Rattle.pts_play.specs.declared.seat.Seat.{Seat}
use Rattle.pts_play.specs.Seats.{position_of, Rests, RunsOn, Turn, rank}

-- The sessions of seats.
abbrev pub players : {P Q : Type 0} → List (Seat P Q) → List P
players seats = map (λ s. s.player) seats

-- The lines of the seats, whose numbers are n, n + 1 and so on, are those of the round.
abbrev pub HaveLines : {P Q : Type 0} → ℕ → List (ℕ × List ℕ) → List (Seat P Q) → Type 0
HaveLines n lines [] = Unit {0}
HaveLines n lines (s ∷ ss) = (s.lines.items ≡ lines_of n lines) × HaveLines (suc n) lines ss

-- No seat has a line.
abbrev pub NoLines : {P Q : Type 0} → List (Seat P Q) → Type 0
NoLines [] = Unit {0}
NoLines (s ∷ ss) = (s.lines.items ≡ []) × NoLines ss

-- Nothing has run at the seat.
abbrev pub IsClear : {P Q : Type 0} → Seat P Q → Type 0
IsClear s = (s.asked ≡ None) × (s.next ≡ 0) × (s.replies.items ≡ [])

abbrev pub AllClear : {P Q : Type 0} → List (Seat P Q) → Type 0
AllClear [] = Unit {0}
AllClear (s ∷ ss) = IsClear s × AllClear ss

-- Nor does its session wait.
abbrev pub IsFresh : {P Q : Type 0} (free : P → Type 0) → Seat P Q → Type 0
IsFresh free s = (s.asked ≡ None) × free s.player × (s.next ≡ 0) × (s.replies.items ≡ [])

abbrev pub AllFresh : {P Q : Type 0} (free : P → Type 0) → List (Seat P Q) → Type 0
AllFresh free [] = Unit {0}
AllFresh free (s ∷ ss) = IsFresh free s × AllFresh free ss

-- No seat waits for an answer.
abbrev pub NoneWaits : {P Q : Type 0} → List (Seat P Q) → Type 0
NoneWaits [] = Unit {0}
NoneWaits (s ∷ ss) = (s.asked ≡ None) × NoneWaits ss

-- The replies at the seats, whose numbers are n, n + 1 and so on, each after its number.
abbrev pub replies_of : {P Q : Type 0} → ℕ → List (Seat P Q) → List (List ℕ)
replies_of n [] = []
replies_of n (s ∷ ss) = map (reply_line n) s.replies.items ++ replies_of (suc n) ss

-- Each session may play with the core.
abbrev pub AllFit : {P Q C : Type 0} (fits : P → C → Type 0) → C → List (Seat P Q) → Type 0
AllFit fits core seats = AllByRecursion (λ p. fits p core) (players seats)

-- Each seat rests.
abbrev pub AllRest : {P Q : Type 0} (free : P → Type 0) (awaits : P → Q → Type 0) → List (Seat P Q) → Type 0
AllRest free awaits [] = Unit {0}
AllRest free awaits (s ∷ ss) = Rests free awaits s × AllRest free awaits ss

-- Whether the seat with this number waits. They are numbered from 1.
abbrev pub waits_in : {P Q : Type 0} → Option (Seat P Q) → Bool
waits_in None = false
waits_in (Some s) = is_some s.asked

abbrev pub is_waiting_at : {P Q : Type 0} → List (Seat P Q) → ℕ → Bool
is_waiting_at seats zero = false
is_waiting_at seats (suc i) = waits_in (slice_get seats i)

-- How much is ahead of the seat at an index.
abbrev pub rank_in : {P Q : Type 0} → Option (Seat P Q) → ℕ
rank_in None = 0
rank_in (Some s) = rank s

abbrev pub rank_at : {P Q : Type 0} → List (Seat P Q) → ℕ → ℕ
rank_at seats i = rank_in (slice_get seats i)

-- The order so far, followed by any order of waiting seats that goes on as it should, is made from the numbers.
abbrev pub Promises : {P Q : Type 0} (numbers : List ℕ) (should : List ℕ → Type 0) → List (Seat P Q) → (order : List ℕ) → Type 0
Promises numbers should seats order = (rest : List ℕ) → All (λ n. is_waiting_at seats n ≡ true) rest → should rest → OrderFrom numbers (order ++ rest)

-- An order that rises, from a number on.
abbrev pub RisesFrom : ℕ → List ℕ → Type 0
RisesFrom n rest = Rising rest × All (λ m. n ≤ m) rest

-- Seats that have run to their first request or to their end.
abbrev pub StartedAll : {P Q A C : Type 0} (Local : P → List ℕ → Outcome P P Q → Type 0) (Resume : P → A → List (List ℕ) → P → Type 0) (free : P → Type 0) (awaits : P → Q → Type 0) (fits : P → C → Type 0) → List (Seat P Q) → List (Seat P Q) → Type 0
StartedAll Local Resume free awaits fits [] [] = Unit {0}
StartedAll Local Resume free awaits fits [] (t ∷ ts) = ⊥
StartedAll Local Resume free awaits fits (s ∷ ss) [] = ⊥
StartedAll {C = C} Local Resume free awaits fits (s ∷ ss) (t ∷ ts) = RunsOn Local Resume s t × Rests free awaits t × ((core : C) → fits s.player core → fits t.player core) × StartedAll Local Resume free awaits fits ss ts

module _ {P Q A : Type 0} (Local : P → List ℕ → Outcome P P Q → Type 0) (Resume : P → A → List (List ℕ) → P → Type 0) where
  -- The seats, whose numbers are n, n + 1 and so on, have run so far, and their calls are events.
  pub data RunSoFar (events : List (Event Q A)) : ℕ → (starts seats : List (Seat P Q)) → Type 0 where
    none_runs : {n : ℕ} → RunSoFar events n [] []
    one_runs : {n : ℕ} {s t : Seat P Q} {ss ts : List (Seat P Q)} → Runs Local Resume s.player s.lines.items (calls_of n events) t.replies.items (position_of t) → RunSoFar events (suc n) ss ts → RunSoFar events n (s ∷ ss) (t ∷ ts)

  module _ {C : Type 0} (Step : C → ℕ → Q → A → C → Type 0) where
    -- A round that began with this core and these seats, so far.
    pub record InRound (core : C) (starts : List (Seat P Q)) (core' : C) (seats : List (Seat P Q)) (order : List ℕ) : Type 0 where
      pub events : List (Event Q A)
      pub ordered : order ≡ order_of events
      pub steps : Happens Step core events core'
      pub runs : RunSoFar events 1 starts seats
      pub known : All (λ n. (1 ≤ n) × (n ≤ length seats)) order

    -- A round of these lines was played with these numbers.
    pub record PlayedRound (lines : List (ℕ × List ℕ)) (numbers : List ℕ) (core : C) (starts : List (Seat P Q)) (core' : C) (seats : List (Seat P Q)) (order : List ℕ) : Type 0 where
      pub events : List (Event Q A)
      pub ordered : order ≡ order_of events
      pub known : All (λ n. (1 ≤ n) × (n ≤ length starts)) order
      pub made_from : OrderFrom numbers order
      pub steps : Happens Step core events core'
      pub runs : EachRuns Local Resume lines events 1 (players starts) (replies_of 1 seats) (players seats)
      pub long : length seats ≡ length starts

    module _ (free : P → Type 0) (awaits : P → Q → Type 0) (fits : P → C → Type 0) where
      -- The turn of the seat at this index, whose number is one more: whether it was taken, and what it left.
      pub data TurnAt (i : ℕ) (core : C) (seats : List (Seat P Q)) : Bool → C → List (Seat P Q) → Type 0 where
        passed_at : is_waiting_at seats (suc i) ≡ false → TurnAt i core seats false core seats
        taken_at : {core' : C} {t : Seat P Q} (s : Seat P Q) → slice_get seats i ≡ Some s → Turn Local Resume Step free awaits fits (suc i) core s true core' t → TurnAt i core seats true core' (slice_set seats i t)

      -- What turns leave of a round.
      pub record Turned (core : C) (seats : List (Seat P Q)) (order : List ℕ) (core' : C) (seats' : List (Seat P Q)) (order' : List ℕ) : Type 0 where
        pub plays : (start : C) (starts : List (Seat P Q)) → InRound start starts core seats order → InRound start starts core' seats' order'
        pub long : length seats' ≡ length seats
        pub rests : AllRest free awaits seats'
        pub fit : AllFit fits core' seats'
        pub ended : (n : ℕ) → is_waiting_at seats n ≡ false → is_waiting_at seats' n ≡ false
