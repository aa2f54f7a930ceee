-- A round said step by step, one turn after another.
use Rattle.std.specs.Prelude.{ℕ, suc, ◌≡◌, ◌≢◌, List, [], ◌∷◌, ◌++◌, map, length, All}
use Rattle.pts_play.specs.Machines.{Outcome, done, asks}
use Rattle.pts_names.specs.Lists.{In, AllDiffer}
use Rattle.pts_play.specs.Rounds.{lines_of, reply_line, order_line, done_line}
use Rattle.pts_play.specs.Ports.{Job, Finish, job, finish, numbers_of, RoundOf}
use Rattle.pts_play.specs.Play.{Playing, PlaysRound}

-- How far a session goes by itself, with its replies so far: to its end, or to a request with the lines after the one that asks.
pub data Stop (State Waiting Request : Type 0) : Type 0 where
  at_rest : State → (said : List (List ℕ)) → Stop State Waiting Request
  at_port : Request → Waiting → (left said : List (List ℕ)) → Stop State Waiting Request

-- Where the sessions of a round are, each with its number.
abbrev pub Rows : (State Waiting Request : Type 0) → Type 0
Rows State Waiting Request = List (ℕ × Stop State Waiting Request)

module _ {State Waiting Request Answer : Type 0} (Local : State → List ℕ → Outcome State Waiting Request → Type 0) (Resume : Waiting → Answer → List (List ℕ) → State → Type 0) where
  -- A session runs its lines by itself up to its first request or its end.
  pub data Goes : State → (left said : List (List ℕ)) → Stop State Waiting Request → Type 0 where
    is_over : {s : State} {said : List (List ℕ)} → Goes s [] said (at_rest s said)
    runs_line : {s t : State} {text : List ℕ} {left said more : List (List ℕ)} {stop : Stop State Waiting Request} → Local s text (done more t) → Goes t left (said ++ more) stop → Goes s (text ∷ left) said stop
    asks_port : {s : State} {text : List ℕ} {left said : List (List ℕ)} {r : Request} {w : Waiting} → Local s text (asks r w) → Goes s (text ∷ left) said (at_port r w left said)

  -- Each job has run to its first request or its end.
  pub data Started : List (Job State) → Rows State Waiting Request → Type 0 where
    none_starts : Started [] []
    one_starts : {n : ℕ} {s : State} {lines : List (List ℕ)} {stop : Stop State Waiting Request} {jobs : List (Job State)} {rows : Rows State Waiting Request} → Goes s lines [] stop → Started jobs rows → Started (job n s lines ∷ jobs) ((n, stop) ∷ rows)

  -- Each session is at its end.
  pub data Ended : Rows State Waiting Request → List (Finish State) → Type 0 where
    none_ends : Ended [] []
    one_ends : {n : ℕ} {t : State} {said : List (List ℕ)} {rows : Rows State Waiting Request} {finishes : List (Finish State)} → Ended rows finishes → Ended ((n, at_rest t said) ∷ rows) (finish t said ∷ finishes)

  module _ {Core : Type 0} (Step : Core → ℕ → Request → Answer → Core → Type 0) where
    -- The request of the session n is the core's next event, and that session goes on.
    pub data Turn : Core → Rows State Waiting Request → ℕ → Core → Rows State Waiting Request → Type 0 where
      here : {C D : Core} {n : ℕ} {r : Request} {w : Waiting} {left said more : List (List ℕ)} {s : State} {stop : Stop State Waiting Request} {rows : Rows State Waiting Request} (a : Answer) → Step C n r a D → Resume w a more s → Goes s left (said ++ more) stop → Turn C ((n, at_port r w left said) ∷ rows) n D ((n, stop) ∷ rows)
      there : {C D : Core} {n m : ℕ} {stop : Stop State Waiting Request} {rows new : Rows State Waiting Request} → m ≢ n → Turn C rows n D new → Turn C ((m, stop) ∷ rows) n D ((m, stop) ∷ new)

    -- Turns of the sessions of an order.
    pub data Turns : Core → Rows State Waiting Request → List ℕ → Core → Rows State Waiting Request → Type 0 where
      none_is_left : {C : Core} {rows : Rows State Waiting Request} → Turns C rows [] C rows
      one_turn : {C D E : Core} {n : ℕ} {order : List ℕ} {rows new last : Rows State Waiting Request} → Turn C rows n D new → Turns D new order E last → Turns C rows (n ∷ order) E last

    -- A round under an order: each number is a session that waits then, and no session waits at the end.
    pub record RoundByTurns (C : Core) (jobs : List (Job State)) (order : List ℕ) (D : Core) (finishes : List (Finish State)) : Type 0 where
      pub first : Rows State Waiting Request
      pub last : Rows State Waiting Request
      pub started : Started jobs first
      pub turns : Turns C first order D last
      pub ended : Ended last finishes

    -- The two ways to say a round agree where the numbers of the sessions differ.
    abbrev pub RoundsAreTurns : Type 0
    RoundsAreTurns = (C D : Core) (jobs : List (Job State)) (order : List ℕ) (finishes : List (Finish State)) → AllDiffer (numbers_of jobs) → All (λ n. In n (numbers_of jobs)) order → RoundOf Local Resume Step C jobs order D finishes → RoundByTurns C jobs order D finishes

    abbrev pub TurnsAreRounds : Type 0
    TurnsAreRounds = (C D : Core) (jobs : List (Job State)) (order : List ℕ) (finishes : List (Finish State)) → AllDiffer (numbers_of jobs) → RoundByTurns C jobs order D finishes → RoundOf Local Resume Step C jobs order D finishes

-- What the sessions, whose numbers are n, n + 1 and so on, have to do in a round of these lines.
abbrev pub jobs_from : {State : Type 0} → ℕ → (lines : List (ℕ × List ℕ)) → List State → List (Job State)
jobs_from n lines [] = []
jobs_from n lines (s ∷ ss) = job n s (lines_of n lines) ∷ jobs_from (suc n) lines ss

-- The replies of such sessions, each after its number.
abbrev pub replies_from : {State : Type 0} → ℕ → List (Finish State) → List (List ℕ)
replies_from n [] = []
replies_from n (f ∷ fs) = map (reply_line n) f.replies ++ replies_from (suc n) fs

module _ {Core State Waiting Request Answer : Type 0} (Step : Core → ℕ → Request → Answer → Core → Type 0) (Local : State → List ℕ → Outcome State Waiting Request → Type 0) (Resume : Waiting → Answer → List (List ℕ) → State → Type 0) (chosen : (numbers order : List ℕ) → Type 0) where
  -- A round of a play, said step by step: all sessions take turns, in an order that is chosen for the numbers after `go`.
  pub record PlaysByTurns (p : Playing Core State) (numbers : List ℕ) (out : List (List ℕ)) (q : Playing Core State) : Type 0 where
    pub order : List ℕ
    pub finishes : List (Finish State)
    pub allowed : chosen numbers order
    pub turns : RoundByTurns Local Resume Step p.core (jobs_from 1 p.lines p.sessions) order q.core finishes
    pub ends : q.sessions ≡ map (λ f. f.state) finishes
    pub printed : out ≡ replies_from 1 finishes ++ order_line order ∷ done_line (suc (length p.orders)) ∷ []
    pub emptied : q.lines ≡ []
    pub recorded : q.orders ≡ p.orders ++ order ∷ []

  -- This is the round by its events.
  abbrev pub PlayedRoundsAreTurns : Type 0
  PlayedRoundsAreTurns = (p q : Playing Core State) (numbers : List ℕ) (out : List (List ℕ)) → PlaysRound Step Local Resume chosen p numbers out q → PlaysByTurns p numbers out q

  abbrev pub TurnsArePlayedRounds : Type 0
  TurnsArePlayedRounds = (p q : Playing Core State) (numbers : List ℕ) (out : List (List ℕ)) → PlaysByTurns p numbers out q → PlaysRound Step Local Resume chosen p numbers out q
