-- The play of a whole input, line by line, by one thread.
use Rattle.std.specs.Prelude.{ℕ, suc, ◌≤◌, ◌<◌, ◌≡◌, ◌≢◌, Bool, List, [], ◌∷◌, ◌++◌, length, All, codes}
use Rattle.std.specs.Fmt.{decimal}
use Rattle.std.specs.Io.BufRead.{first_line, drop_through}
use Rattle.pts_play.specs.Machines.{Outcome, Event, Happens}
use Rattle.pts_play.specs.Rounds.{order_of, order_line, done_line, EachRuns}
use Rattle.pts_play.specs.Inputs.{of_session, go, end_, unknown_, Says}

-- The state of a play: the core; the sessions, numbered from 1; the lines of the round that has not run, each with the number
-- of its session; and the order of the events of each round that has run.
pub record Playing (Core State : Type 0) : Type 0 where
  pub core : Core
  pub sessions : List State
  pub lines : List (ℕ × List ℕ)
  pub orders : List (List ℕ)

-- What is printed for the line with the number k where it asks for nothing that is known.
abbrev pub refused_line : ℕ → List ℕ
refused_line k = codes "refused line " ++ decimal k

-- A line as it is printed, with a line feed; and lines, one after another.
abbrev pub full_line : List ℕ → List ℕ
full_line line = line ++ codes "\n"

abbrev pub text_of : List (List ℕ) → List ℕ
text_of [] = []
text_of (line ∷ lines) = full_line line ++ text_of lines

-- Without numbers any order is taken.
abbrev pub AnyOrder : (numbers order : List ℕ) → Type 0
AnyOrder numbers order = numbers ≡ []

module _ {Core State Waiting Request Answer : Type 0} (Step : Core → ℕ → Request → Answer → Core → Type 0) (Local : State → List ℕ → Outcome State Waiting Request → Type 0) (Resume : Waiting → Answer → List (List ℕ) → State → Type 0) (chosen : (numbers order : List ℕ) → Type 0) where
  -- A round with these numbers leads from p to q and prints the lines of out. Its order is one that is chosen for the numbers.
  pub record PlaysRound (p : Playing Core State) (numbers : List ℕ) (out : List (List ℕ)) (q : Playing Core State) : Type 0 where
    pub events : List (Event Request Answer)
    pub replies : List (List ℕ)
    pub known : All (λ n. (1 ≤ n) × (n ≤ length p.sessions)) (order_of events)
    pub order : chosen numbers (order_of events)
    pub steps : Happens Step p.core events q.core
    pub runs : EachRuns Local Resume p.lines events 1 p.sessions replies q.sessions
    pub printed : out ≡ replies ++ order_line (order_of events) ∷ done_line (suc (length p.orders)) ∷ []
    pub emptied : q.lines ≡ []
    pub recorded : q.orders ≡ p.orders ++ order_of events ∷ []

-- The play of an input, where a relation says what a round does.
module _ {Core State : Type 0} (Round : Playing Core State → (numbers : List ℕ) → (out : List (List ℕ)) → Playing Core State → Type 0) (IsText : List ℕ → Type 0) (numbered : Bool) where
  -- The line with the number k, which doesn't end the run, leads from p to the next state and prints the lines of out. A line
  -- of a session is one of the sessions of the play.
  pub data PlaysLine (k : ℕ) (line : List ℕ) (p : Playing Core State) : (out : List (List ℕ)) → Playing Core State → Type 0 where
    is_added : {n : ℕ} {text : List ℕ} → n ≤ length p.sessions → Says IsText numbered line (of_session n text) → PlaysLine k line p [] (record p { lines = p.lines ++ (n, text) ∷ [] })
    runs_round : {numbers : List ℕ} {out : List (List ℕ)} {q : Playing Core State} → Says IsText numbered line (go numbers) → Round p numbers out q → PlaysLine k line p out q
    is_refused : Says IsText numbered line unknown_ → PlaysLine k line p (refused_line k ∷ []) p

  -- The first k lines of the bytes are played; these bytes are left, and this was printed.
  pub data Played (bytes : List ℕ) (start : Playing Core State) : (k : ℕ) → (left printed : List ℕ) → Playing Core State → Type 0 where
    none_yet : Played bytes start 0 bytes [] start
    one_more : {k : ℕ} {left printed : List ℕ} {out : List (List ℕ)} {p q : Playing Core State} → Played bytes start k left printed p → 0 < length left → PlaysLine (suc k) (first_line left) p out q → Played bytes start (suc k) (drop_through 10 left) (printed ++ text_of out) q

  -- No line is played after this: no byte is left, or the next line ends the run.
  pub data IsEnd (left : List ℕ) : Type 0 where
    no_byte : left ≡ [] → IsEnd left
    end_line : 0 < length left → Says IsText numbered (first_line left) end_ → IsEnd left

  -- At the end the round that has not run does so if it has a line.
  pub data PlaysRest (p : Playing Core State) : (out : List (List ℕ)) → Playing Core State → Type 0 where
    no_rest : p.lines ≡ [] → PlaysRest p [] p
    last_round : {out : List (List ℕ)} {q : Playing Core State} → p.lines ≢ [] → Round p [] out q → PlaysRest p out q

  -- The play of the whole input leads from p to q and prints these bytes.
  pub record PlaysAll (bytes : List ℕ) (p : Playing Core State) (printed : List ℕ) (q : Playing Core State) : Type 0 where
    pub count : ℕ
    pub left : List ℕ
    pub before : List ℕ
    pub last : Playing Core State
    pub out : List (List ℕ)
    pub played : Played bytes p count left before last
    pub ends : IsEnd left
    pub rest : PlaysRest last out q
    pub whole : printed ≡ before ++ text_of out
