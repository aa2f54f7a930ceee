-- Sessions that share a core: what each does by its own calls, and the round that all of them make together.
use Rattle.std.specs.Prelude.{ℕ, ◌≡◌, ◌≢◌, ◌⊎◌, List, [], ◌∷◌, ◌++◌, map}
use Rattle.std.specs.List.{AllByRecursion}
use Rattle.pts_names.specs.Lists.{In, AllDiffer}
use Rattle.pts_play.specs.Machines.{Outcome, Call, ready, Event, Runs, Happens}
use Rattle.pts_play.specs.Rounds.{calls_of, order_of}

-- The history of a core: its entries in order, each with its session. An entry need not tell the request.
abbrev pub History : Type 0 → Type 0
History Entry = List (ℕ × Entry)

-- The sessions of the entries, in order.
abbrev pub owners : {Entry : Type 0} → History Entry → List ℕ
owners h = map (λ e. e.0) h

-- No entry is of the session n.
abbrev pub NoneOf : {Entry : Type 0} → ℕ → History Entry → Type 0
NoneOf n h = AllByRecursion (λ e. e.0 ≢ n) h

-- The history begins with what the session n has seen of it, and no entry after that is of the session.
abbrev pub SawItsOwn : {Entry : Type 0} → ℕ → (seen now : History Entry) → Type 0
SawItsOwn {Entry} n seen now = (rest : History Entry) × (seen ++ rest ≡ now) × NoneOf n rest

-- The steps of a core that is given by functions.
abbrev pub Steps : {Core Request Answer : Type 0} → (answer : Core → ℕ → Request → Answer) → (after : Core → ℕ → Request → Core) → Core → ℕ → Request → Answer → Core → Type 0
Steps answer after C n r a D = (a ≡ answer C n r) × (D ≡ after C n r)

-- A step of that core is one more entry of its history.
abbrev pub Grows : {Core Request Entry : Type 0} → (at : History Entry → Core) → (entry : Core → ℕ → Request → Entry) → (after : Core → ℕ → Request → Core) → Type 0
Grows {Request = Request} {Entry = Entry} at entry after = (h : History Entry) (n : ℕ) (r : Request) → after (at h) n r ≡ at (h ++ (n, entry (at h) n r) ∷ [])

-- What a worker has to do: a session by its number and state, and lines.
pub record Job (State : Type 0) : Type 0 where
  pub number : ℕ
  pub state : State
  pub lines : List (List ℕ)

-- What it came to: the state after the lines, and the replies.
pub record Finish (State : Type 0) : Type 0 where
  pub state : State
  pub replies : List (List ℕ)

abbrev pub job : {State : Type 0} → ℕ → State → List (List ℕ) → Job State
job n s lines = record { number = n; state = s; lines = lines }

abbrev pub finish : {State : Type 0} → State → List (List ℕ) → Finish State
finish t replies = record { state = t; replies = replies }

abbrev pub numbers_of : {State : Type 0} → List (Job State) → List ℕ
numbers_of jobs = map (λ j. j.number) jobs

module _ {Core Request Answer : Type 0} (Step : Core → ℕ → Request → Answer → Core → Type 0) where
  -- The calls of the session n, one after another, lead from the core C to D.
  pub data Makes (n : ℕ) (C : Core) : List (Call Request Answer) → Core → Type 0 where
    no_call : Makes n C [] C
    one_call : {calls : List (Call Request Answer)} {D E : Core} (c : Call Request Answer) → Makes n C calls D → Step D n c.request c.answer E → Makes n C (calls ++ c ∷ []) E

module _ {Core Request Answer Entry : Type 0} (Step : Core → ℕ → Request → Answer → Core → Type 0) (at : History Entry → Core) where
  -- A call on the shared core, between two histories that its session has seen: entries of others may come first, then the
  -- call is the core's next step, and adds one entry of the session.
  abbrev pub PortStep : History Entry → ℕ → Request → Answer → History Entry → Type 0
  PortStep h n r a g = (between : History Entry) × (e : Entry) × NoneOf n between × (g ≡ (h ++ between) ++ (n, e) ∷ []) × Step (at (h ++ between)) n r a (at g)

  -- These are all calls of the session n between the opening and the closing history.
  pub record HasCalled (n : ℕ) (opening closing : History Entry) (calls : List (Call Request Answer)) : Type 0 where
    pub seen : History Entry
    pub called : Makes PortStep n opening calls seen
    pub saw : SawItsOwn n seen closing

module _ {State Waiting Request Answer : Type 0} (Local : State → List ℕ → Outcome State Waiting Request → Type 0) (Resume : Waiting → Answer → List (List ℕ) → State → Type 0) where
  -- Each job is run to its end; its calls are its own among the events.
  pub data EachJob (events : List (Event Request Answer)) : List (Job State) → List (Finish State) → Type 0 where
    no_job : EachJob events [] []
    one_job : {n : ℕ} {s t : State} {lines replies : List (List ℕ)} {jobs : List (Job State)} {finishes : List (Finish State)} → Runs Local Resume s lines (calls_of n events) replies (ready t []) → EachJob events jobs finishes → EachJob events (job n s lines ∷ jobs) (finish t replies ∷ finishes)

  module _ {Core : Type 0} (Step : Core → ℕ → Request → Answer → Core → Type 0) where
    -- A round of the jobs over one core, with events in this order.
    pub record RoundOf (C : Core) (jobs : List (Job State)) (order : List ℕ) (D : Core) (finishes : List (Finish State)) : Type 0 where
      pub events : List (Event Request Answer)
      pub ordered : order_of events ≡ order
      pub steps : Happens Step C events D
      pub runs : EachJob events jobs finishes

    module _ {Entry : Type 0} (at : History Entry → Core) where
      -- Each job was run to its end by a worker of its own, whose calls these are between the opening and the closing history.
      pub data Joined (opening closing : History Entry) : List (Job State) → List (Finish State) → Type 0 where
        no_worker : Joined opening closing [] []
        one_worker : {n : ℕ} {s t : State} {lines replies : List (List ℕ)} {jobs : List (Job State)} {finishes : List (Finish State)} (calls : List (Call Request Answer)) → Runs Local Resume s lines calls replies (ready t []) → HasCalled Step at n opening closing calls → Joined opening closing jobs finishes → Joined opening closing (job n s lines ∷ jobs) (finish t replies ∷ finishes)
