-- What sessions do that run their lines beside each other, over one core.
use Rattle.std.specs.Prelude.{ℕ, ◌≡◌, List, [], ◌++◌}
use Rattle.std.specs.List.{AllByRecursion}
use Rattle.pts_names.specs.Lists.{In}
use Rattle.pts_core.specs.Histories.{Past}
use Rattle.pts_play.specs.Machines.{Outcome, Call, ready, Runs}
use Rattle.pts_play.specs.Ports.{Makes, PortStep, Job, Finish, numbers_of, Joined}
use Rattle.pts_serve.specs.Events.{events, owned}

module _ {State Request Answer : Type 0} (Local : State → List ℕ → Outcome State State Request → Type 0) (Resume : State → Answer → List (List ℕ) → State → Type 0) (Step : List Past → ℕ → Request → Answer → List Past → Type 0) where
  -- The session n, which had seen the history h, ran these lines to the end, with these replies, and has now seen the history k.
  pub record RanLines (n : ℕ) (h : List Past) (s : State) (lines : List (List ℕ)) (k : List Past) (t : State) (replies : List (List ℕ)) : Type 0 where
    pub calls : List (Call Request Answer)
    pub runs : Runs Local Resume s lines calls replies (ready t [])
    pub makes : Makes (PortStep Step events) n (owned h) calls (owned k)

  -- Workers ran these jobs, and all events between the two histories are theirs.
  pub record ServedBeside (opening closing : List Past) (jobs : List (Job State)) (finishes : List (Finish State)) : Type 0 where
    pub rest : List Past
    pub whole : opening ++ rest ≡ closing
    pub by_them : AllByRecursion (λ e. In e.session (numbers_of jobs)) rest
    pub joined : Joined Local Resume Step events (owned opening) (owned closing) jobs finishes
