-- Sessions and a core as rounds see them: what a line of a session comes to, and what the core answers, are given relations.
use Rattle.std.specs.Prelude.{ℕ, List, [], ◌∷◌, ◌++◌}

-- What a line comes to by itself: it is done, with replies and the next state; or it asks the core, and the session waits.
pub data Outcome (State Waiting Request : Type 0) : Type 0 where
  done : (replies : List (List ℕ)) → State → Outcome State Waiting Request
  asks : Request → Waiting → Outcome State Waiting Request

-- A request and its answer.
pub record Call (Request Answer : Type 0) : Type 0 where
  pub request : Request
  pub answer : Answer

-- Where a session is among its lines: ready for those that are left, or waiting for the answer to a request before them.
pub data Position (State Waiting Request : Type 0) : Type 0 where
  ready : State → (left : List (List ℕ)) → Position State Waiting Request
  waits : Request → Waiting → (left : List (List ℕ)) → Position State Waiting Request

-- An event of the core is a call of the session with this number.
pub record Event (Request Answer : Type 0) : Type 0 where
  pub session : ℕ
  pub call : Call Request Answer

module _ {State Waiting Request Answer : Type 0} (Local : State → List ℕ → Outcome State Waiting Request → Type 0) (Resume : Waiting → Answer → List (List ℕ) → State → Type 0) where
  -- A session began in the state s with these lines; so far it has made these calls and given these replies, and is here.
  pub data Runs (s : State) (lines : List (List ℕ)) : List (Call Request Answer) → (replies : List (List ℕ)) → Position State Waiting Request → Type 0 where
    begins : Runs s lines [] [] (ready s lines)
    line_is_done : {calls : List (Call Request Answer)} {out more left : List (List ℕ)} {text : List ℕ} {u v : State} → Runs s lines calls out (ready u (text ∷ left)) → Local u text (done more v) → Runs s lines calls (out ++ more) (ready v left)
    line_asks : {calls : List (Call Request Answer)} {out left : List (List ℕ)} {text : List ℕ} {u : State} {r : Request} {w : Waiting} → Runs s lines calls out (ready u (text ∷ left)) → Local u text (asks r w) → Runs s lines calls out (waits r w left)
    is_answered : {calls : List (Call Request Answer)} {out more left : List (List ℕ)} {r : Request} {w : Waiting} {v : State} (a : Answer) → Runs s lines calls out (waits r w left) → Resume w a more v → Runs s lines (calls ++ record { request = r; answer = a } ∷ []) (out ++ more) (ready v left)

module _ {Core Request Answer : Type 0} (Step : Core → ℕ → Request → Answer → Core → Type 0) where
  -- The events, one after another, lead from the core C to D.
  pub data Happens (C : Core) : List (Event Request Answer) → Core → Type 0 where
    nothing : Happens C [] C
    one_more : {events : List (Event Request Answer)} {D E : Core} (n : ℕ) (c : Call Request Answer) → Happens C events D → Step D n c.request c.answer E → Happens C (events ++ record { session = n; call = c } ∷ []) E
