-- The laws of lines and of workers, whatever the sessions and the core are.
use Rattle.std.specs.Prelude.{◌≡◌, ℕ, Bool, List, ◌++◌}
use Rattle.std.specs.List.{AllByRecursion}
use Rattle.pts_play.specs.Machines.{Outcome}
use Rattle.pts_names.specs.Lists.{In, AllDiffer}
use Rattle.pts_play.specs.Ports.{History, owners, Job, Finish, numbers_of, RoundOf, Joined}
use Rattle.pts_play.specs.Inputs.{Input, Says}

-- A line of the input is one thing at most.
abbrev pub LinesSayOneThing : (IsText : List ℕ → Type 0) → Type 0
LinesSayOneThing IsText = (numbered : Bool) (line : List ℕ) (i j : Input) → Says IsText numbered line i → Says IsText numbered line j → i ≡ j

module _ {State Waiting Request Answer : Type 0} (Local : State → List ℕ → Outcome State Waiting Request → Type 0) (Resume : Waiting → Answer → List (List ℕ) → State → Type 0) {Core : Type 0} (Step : Core → ℕ → Request → Answer → Core → Type 0) {Entry : Type 0} (at : History Entry → Core) where
  -- What the workers did together is a round of one thread, in the order of the history.
  abbrev pub RoundsAreMerged : Type 0
  RoundsAreMerged = (opening rest : History Entry) (jobs : List (Job State)) (finishes : List (Finish State)) → AllDiffer (numbers_of jobs) → AllByRecursion (λ e. In e.0 (numbers_of jobs)) rest
      → Joined Local Resume Step at opening (opening ++ rest) jobs finishes → RoundOf Local Resume Step (at opening) jobs (owners rest) (at (opening ++ rest)) finishes
