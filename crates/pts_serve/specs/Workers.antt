-- Workers before and after their round.
use Rattle.std.specs.Prelude.{ℕ, ◌≡◌, true, List, [], ◌∷◌, ◌++◌}
use Rattle.pts_ctx.specs.System.{Specification}
use Rattle.pts_core.specs.Histories.{Past}
use Rattle.pts_play.specs.Machines.{Outcome}
use Rattle.pts_play.specs.Ports.{Job, Finish, job, finish}
use Rattle.pts_share.specs.Passes.{IsPassOf, history_of}
use Rattle.pts_share.specs.Sharing.{system_of, table_of}
use Rattle.pts_serve.specs.declared.worker.SessionWorker.{SessionWorker}
use Rattle.pts_serve.specs.declared.round.Staff.{Staff}
use Rattle.pts_serve.specs.Served.{RanLines}

-- The pass is one of the shared core, over which the session may play on.
pub record IsReady {W C : Type 0} (fits : W → C → Specification → List Past → Type 0) (v : SessionWorker W C) : Type 0 where
  pub pass : IsPassOf (table_of v.shared.now) (system_of v.shared.now) v.pass
  pub fits_core : fits v.world.now v.session (system_of v.shared.now) (history_of v.pass)

module _ {W C Request Answer : Type 0} (local : W → C → List ℕ → Outcome C C Request → Type 0) (resumes : W → C → Answer → List (List ℕ) → C → Type 0) (steps : List Past → ℕ → Request → Answer → List Past → Type 0) (fits : W → C → Specification → List Past → Type 0) where
  -- The worker v has run and is w. It has the same pass, and its lines have ended unless memory ran out.
  pub record HasRun (v w : SessionWorker W C) : Type 0 where
    pub pass : IsPassOf (table_of v.shared.now) (system_of v.shared.now) w.pass
    pub number : w.pass.owner ≡ v.pass.owner
    pub ran : w.ended ≡ true → RanLines (local v.world.now) (resumes v.world.now) steps v.pass.owner (history_of v.pass) v.session v.lines.items (history_of w.pass) w.session w.replies.items
    pub fits_core : w.ended ≡ true → fits v.world.now w.session (system_of v.shared.now) (history_of w.pass)

-- What a worker has to do, and what it came to.
abbrev pub job_with : {W C : Type 0} → SessionWorker W C → Job C
job_with v = job v.pass.owner v.session v.lines.items

abbrev pub finish_with : {W C : Type 0} → SessionWorker W C → Finish C
finish_with w = finish w.session w.replies.items

-- The same of a session that has lines.
abbrev pub job_of : {C : Type 0} → Staff C → Job C
job_of s = job s.number s.session s.lines.items

abbrev pub finish_of : {C : Type 0} → Staff C → Finish C
finish_of s = finish s.session s.replies.items

-- A list from its end.
abbrev pub turned : {X : Type 0} → List X → List X
turned [] = []
turned (x ∷ xs) = turned xs ++ x ∷ []
