-- Sessions of the program run as the states do that they are seen as.
use Rattle.std.proofs.Common.{ℕ, suc, ◌≡◌, List, [], ◌∷◌, ◌++◌, map}
use Rattle.pts_play.specs.Machines.{Outcome, done, asks, Call, Event, Position, ready, waits, Runs, begins, line_is_done, line_asks, is_answered}
use Rattle.pts_play.specs.Rounds.{EachRuns, no_session, one_session}

module _ {P State Waiting Q : Type 0} (state : P → State) (waiting : P → Waiting) where
  abbrev pub outcome_of : Outcome P P Q → Outcome State Waiting Q
  outcome_of (done replies p) = done replies (state p)
  outcome_of (asks q p) = asks q (waiting p)

  abbrev pub position_of : Position P P Q → Position State Waiting Q
  position_of (ready p left) = ready (state p) left
  position_of (waits q p left) = waits q (waiting p) left

  module _ {A : Type 0} (Line : P → List ℕ → Outcome P P Q → Type 0) (Hears : P → A → List (List ℕ) → P → Type 0) (Local : State → List ℕ → Outcome State Waiting Q → Type 0) (Resume : Waiting → A → List (List ℕ) → State → Type 0) (does : (p : P) (text : List ℕ) (o : Outcome P P Q) → Line p text o → Local (state p) text (outcome_of o)) (hears : (p q : P) (a : A) (out : List (List ℕ)) → Hears p a out q → Resume (waiting p) a out (state q)) where
    pub runs : {s : P} {lines : List (List ℕ)} {calls : List (Call Q A)} {out : List (List ℕ)} {stand : Position P P Q} → Runs Line Hears s lines calls out stand → Runs Local Resume (state s) lines calls out (position_of stand)
    runs begins = begins
    runs (line_is_done {more = more} {text = text} {u = u} {v = v} r d) = line_is_done (runs r) (does u text (done more v) d)
    runs (line_asks {text = text} {u = u} {r = q} {w = w} r d) = line_asks (runs r) (does u text (asks q w) d)
    runs (is_answered {more = more} {w = w} {v = v} a r h) = is_answered a (runs r) (hears w v a more h)

    pub each_runs : {lines : List (ℕ × List ℕ)} {events : List (Event Q A)} {n : ℕ} {ss ts : List P} {out : List (List ℕ)} → EachRuns Line Hears lines events n ss out ts → EachRuns Local Resume lines events n (map state ss) out (map state ts)
    each_runs no_session = no_session
    each_runs (one_session r rest) = one_session (runs r) (each_runs rest)
