-- A play whose sessions run beside each other in each round.
use Rattle.std.specs.Prelude.{ℕ, suc, ◌≡◌, false, List, [], ◌∷◌, ◌++◌, map, length}
use Rattle.std.specs.List.{AllByRecursion}
use Rattle.pts_play.specs.Machines.{Outcome}
use Rattle.pts_play.specs.Rounds.{lines_of, reply_line, order_line, done_line, OrderFrom}
use Rattle.pts_names.specs.Lists.{In}
use Rattle.pts_play.specs.Ports.{History, owners, Job, Finish, job, finish, numbers_of, Joined}
use Rattle.pts_play.specs.Play.{Playing, AnyOrder, PlaysRound, PlaysAll}

module _ {State : Type 0} (lines : List (ℕ × List ℕ)) where
  -- Of the sessions, whose numbers are n, n + 1 and so on, those that have lines are the jobs, in order, and come to what
  -- these finish with; the others stay as they are.
  pub data Staffed : ℕ → List State → List (Job State) → List (Finish State) → (replies : List (List ℕ)) → List State → Type 0 where
    no_session : {n : ℕ} → Staffed n [] [] [] [] []
    is_idle : {n : ℕ} {s : State} {ss ts : List State} {jobs : List (Job State)} {finishes : List (Finish State)} {out : List (List ℕ)} → lines_of n lines ≡ [] → Staffed (suc n) ss jobs finishes out ts → Staffed n (s ∷ ss) jobs finishes out (s ∷ ts)
    works : {n : ℕ} {s t : State} {ss ts : List State} {jobs : List (Job State)} {finishes : List (Finish State)} {replies out : List (List ℕ)} → Staffed (suc n) ss jobs finishes out ts → Staffed n (s ∷ ss) (job n s (lines_of n lines) ∷ jobs) (finish t replies ∷ finishes) (map (reply_line n) replies ++ out) (t ∷ ts)

module _ {Core State Waiting Request Answer : Type 0} (Step : Core → ℕ → Request → Answer → Core → Type 0) (Local : State → List ℕ → Outcome State Waiting Request → Type 0) (Resume : Waiting → Answer → List (List ℕ) → State → Type 0) {Entry : Type 0} (at : History Entry → Core) where
  -- A round by workers over one history, which begins at the core of p and ends at that of q.
  pub record ServesRound (p : Playing Core State) (numbers : List ℕ) (out : List (List ℕ)) (q : Playing Core State) : Type 0 where
    pub opening : History Entry
    pub rest : History Entry
    pub jobs : List (Job State)
    pub finishes : List (Finish State)
    pub replies : List (List ℕ)
    pub no_numbers : numbers ≡ []
    pub begins_at : at opening ≡ p.core
    pub ends_at : at (opening ++ rest) ≡ q.core
    pub staffed : Staffed p.lines 1 p.sessions jobs finishes replies q.sessions
    pub by_them : AllByRecursion (λ e. In e.0 (numbers_of jobs)) rest
    pub joined : Joined Local Resume Step at opening (opening ++ rest) jobs finishes
    pub printed : out ≡ replies ++ order_line (owners rest) ∷ done_line (suc (length p.orders)) ∷ []
    pub emptied : q.lines ≡ []
    pub recorded : q.orders ≡ p.orders ++ owners rest ∷ []

  -- What is served is played, round by round and as a whole.
  abbrev pub ServedRoundsArePlayed : Type 0
  ServedRoundsArePlayed = (p q : Playing Core State) (numbers : List ℕ) (out : List (List ℕ)) → ServesRound p numbers out q → PlaysRound Step Local Resume AnyOrder p numbers out q

  abbrev pub ServedInputsArePlayed : (IsText : List ℕ → Type 0) → Type 0
  ServedInputsArePlayed IsText = (bytes printed : List ℕ) (p q : Playing Core State) → PlaysAll ServesRound IsText false bytes p printed q → PlaysAll (PlaysRound Step Local Resume AnyOrder) IsText false bytes p printed q

-- A round that was played in some order is played again under the order that was printed.
abbrev pub OrdersAreReplayed : {Core State Waiting Request Answer : Type 0} (Step : Core → ℕ → Request → Answer → Core → Type 0) (Local : State → List ℕ → Outcome State Waiting Request → Type 0) (Resume : Waiting → Answer → List (List ℕ) → State → Type 0) → Type 0
OrdersAreReplayed {Core} {State} Step Local Resume = (p q : Playing Core State) (order : List ℕ) (out : List (List ℕ)) → q.orders ≡ p.orders ++ order ∷ [] → PlaysRound Step Local Resume AnyOrder p [] out q → PlaysRound Step Local Resume OrderFrom p order out q
