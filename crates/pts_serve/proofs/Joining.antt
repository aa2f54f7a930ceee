-- Workers that have run, and the round that they are together.
use Rattle.std.proofs.Common.{◌≡◌, ℕ, true, List, [], ◌∷◌, ◌++◌, map, refl, sym, ap, ◌∙◌, subst}
use Rattle.std.specs.List.{AllByRecursion}
use Rattle.std.proofs.lemmas.List.{map-append}
use Rattle.pts_names.specs.Lists.{In}
use Rattle.pts_ctx.specs.System.{Specification}
use Rattle.pts_core.specs.Histories.{Past}
use Rattle.pts_core.specs.Ports.{OfOthers}
use Rattle.pts_play.specs.Machines.{Outcome, Call, ready, Runs}
use Rattle.pts_play.specs.Ports.{NoneOf, SawItsOwn, Makes, PortStep, HasCalled, Job, Finish, job, finish, numbers_of, Joined, no_worker, one_worker}
use Rattle.pts_rounds.specs.Workers.{EachRan}
use Rattle.pts_share.specs.Passes.{AddedTo, GoesOn, IsPassOf, history_of}
use Rattle.pts_share.specs.Sharing.{system_of, table_of}
use Rattle.pts_share.specs.declared.shared.Shared.{Shared}
use Rattle.pts_serve.specs.Events.{events, owned}
use Rattle.pts_serve.specs.Served.{RanLines, ServedBeside}
use Rattle.pts_serve.specs.Workers.{IsReady, HasRun, job_with, finish_with, turned}
use Rattle.pts_serve.specs.declared.worker.SessionWorker.{SessionWorker}

owned_none : (n : ℕ) (h : List Past) → OfOthers n h → NoneOf n (owned h)
owned_none n [] o = tt
owned_none n (e ∷ h) o = (o.0, owned_none n h o.1)

-- What a pass has seen, said of entries.
saw : (n : ℕ) (h k : List Past) → GoesOn n h k → SawItsOwn n (owned h) (owned k)
saw n h k (rest, whole, others) = (owned rest, sym (map-append (λ e. (e.session, e)) h rest) ∙ ap owned whole, owned_none n rest others)

-- Workers that are to run.
pub ready_all : {W C : Type 0} (fits : W → C → Specification → List Past → Type 0) (shared : Shared) (world : W) (h : List Past) (vs : List (SessionWorker W C)) → AllByRecursion (λ v. v.shared.now ≡ shared) vs → AllByRecursion (λ v. v.world.now ≡ world) vs → AllByRecursion (λ v. IsPassOf (table_of shared) (system_of shared) v.pass × (history_of v.pass ≡ h)) vs → AllByRecursion (λ v. fits world v.session (system_of shared) h) vs → AllByRecursion (IsReady fits) vs
ready_all fits shared world h [] s w p f = tt
ready_all fits shared world h (v ∷ vs) s w p f = (
  record {
    pass = subst (λ x. IsPassOf (table_of x) (system_of x) v.pass) (sym s.0) p.0.0;
    fits_core = subst (λ x. fits x v.session (system_of v.shared.now) (history_of v.pass)) (sym w.0) (subst (λ x. fits world v.session (system_of x) (history_of v.pass)) (sym s.0) (subst (fits world v.session (system_of shared)) (sym p.0.1) f.0));
  },
  ready_all fits shared world h vs s.1 w.1 p.1 f.1,
)

module _ {W C Request Answer : Type 0} (local : W → C → List ℕ → Outcome C C Request → Type 0) (resumes : W → C → Answer → List (List ℕ) → C → Type 0) (steps : List Past → ℕ → Request → Answer → List Past → Type 0) (fits : W → C → Specification → List Past → Type 0) where
  -- Workers that have run.
  abbrev Ran : List (SessionWorker W C) → List (SessionWorker W C) → Type 0
  Ran vs ws = EachRan (HasRun local resumes steps fits) vs ws

  pub passes_after : (shared : Shared) (vs ws : List (SessionWorker W C)) → Ran vs ws → AllByRecursion (λ v. v.shared.now ≡ shared) vs → AllByRecursion (λ w. IsPassOf (table_of shared) (system_of shared) w.pass) ws
  passes_after shared [] [] r s = tt
  passes_after shared [] (w ∷ ws) r s = absurd r
  passes_after shared (v ∷ vs) [] r s = absurd r
  passes_after shared (v ∷ vs) (w ∷ ws) r s = (subst (λ x. IsPassOf (table_of x) (system_of x) w.pass) s.0 r.0.pass, passes_after shared vs ws r.1 s.1)

  pub numbers_after : (vs ws : List (SessionWorker W C)) → Ran vs ws → map (λ w. w.pass.owner) ws ≡ map (λ v. v.pass.owner) vs
  numbers_after [] [] r = refl
  numbers_after [] (w ∷ ws) r = absurd r
  numbers_after (v ∷ vs) [] r = absurd r
  numbers_after (v ∷ vs) (w ∷ ws) r = ap (λ n. n ∷ map (λ w. w.pass.owner) ws) r.0.number ∙ ap (λ ns. v.pass.owner ∷ ns) (numbers_after vs ws r.1)

  module _ (world : W) (h k : List Past) where
    abbrev Together : List (Job C) → List (Finish C) → Type 0
    Together jobs finishes = Joined (local world) (resumes world) steps events (owned h) (owned k) jobs finishes

    joined_back : {n : ℕ} {s t : C} {lines replies : List (List ℕ)} (calls : List (Call Request Answer)) → Runs (local world) (resumes world) s lines calls replies (ready t []) → HasCalled steps events n (owned h) (owned k) calls → {jobs : List (Job C)} {finishes : List (Finish C)} → Together jobs finishes → Together (jobs ++ job n s lines ∷ []) (finishes ++ finish t replies ∷ [])
    joined_back calls r c no_worker = one_worker calls r c no_worker
    joined_back calls r c (one_worker more r' c' j) = one_worker more r' c' (joined_back calls r c j)

    one_joined : (v w : SessionWorker W C) → HasRun local resumes steps fits v w → v.world.now ≡ world → history_of v.pass ≡ h → GoesOn w.pass.owner (history_of w.pass) k → w.ended ≡ true → {jobs : List (Job C)} {finishes : List (Finish C)} → Together jobs finishes → Together (jobs ++ job_with v ∷ []) (finishes ++ finish_with w ∷ [])
    one_joined v w run here from goes ended j =
        let r = subst (λ x. RanLines (local x) (resumes x) steps v.pass.owner (history_of v.pass) v.session v.lines.items (history_of w.pass) w.session w.replies.items) here (run.ran ended) in
        let made = subst (λ x. Makes (PortStep steps events) v.pass.owner (owned x) r.calls (owned (history_of w.pass))) from r.makes in
        let own = subst (λ n. GoesOn n (history_of w.pass) k) run.number goes in
        joined_back r.calls r.runs (record { seen = owned (history_of w.pass); called = made; saw = saw v.pass.owner (history_of w.pass) k own }) j

    pub all_joined : (vs ws : List (SessionWorker W C)) → Ran vs ws → AllByRecursion (λ v. v.world.now ≡ world) vs → AllByRecursion (λ v. history_of v.pass ≡ h) vs → AllByRecursion (λ w. GoesOn w.pass.owner (history_of w.pass) k) ws → AllByRecursion (λ w. w.ended ≡ true) ws → Together (turned (map job_with vs)) (turned (map finish_with ws))
    all_joined [] [] r here from goes ended = no_worker
    all_joined [] (w ∷ ws) r here from goes ended = absurd r
    all_joined (v ∷ vs) [] r here from goes ended = absurd r
    all_joined (v ∷ vs) (w ∷ ws) r here from goes ended = one_joined v w r.0 here.0 from.0 goes.0 ended.0 (all_joined vs ws r.1 here.1 from.1 goes.1 ended.1)

    -- The sessions may play on with the core after the round.
    module _ (shared : Shared) (fits_on : (s : C) (S : Specification) (h more : List Past) → fits world s S h → fits world s S (h ++ more)) where
      pub fit_after : (vs ws : List (SessionWorker W C)) → Ran vs ws → AllByRecursion (λ v. v.world.now ≡ world) vs → AllByRecursion (λ v. v.shared.now ≡ shared) vs → AllByRecursion (λ w. GoesOn w.pass.owner (history_of w.pass) k) ws → AllByRecursion (λ w. w.ended ≡ true) ws → AllByRecursion (λ w. fits world w.session (system_of shared) k) ws
      fit_after [] [] r here s goes ended = tt
      fit_after [] (w ∷ ws) r here s goes ended = absurd r
      fit_after (v ∷ vs) [] r here s goes ended = absurd r
      fit_after (v ∷ vs) (w ∷ ws) r here s goes ended =
          let one = subst (λ x. fits x w.session (system_of v.shared.now) (history_of w.pass)) here.0 (r.0.fits_core ended.0) in
          let two = subst (λ x. fits world w.session (system_of x) (history_of w.pass)) s.0 one in (
            subst (fits world w.session (system_of shared)) goes.0.1 (fits_on w.session (system_of shared) (history_of w.pass) goes.0.0 two),
            fit_after vs ws r.1 here.1 s.1 goes.1 ended.1,
          )

-- Workers from the last to the first are the jobs, and the events after the opening are theirs.
pub beside : {State Request Answer : Type 0} (Local : State → List ℕ → Outcome State State Request → Type 0) (Resume : State → Answer → List (List ℕ) → State → Type 0) (Step : List Past → ℕ → Request → Answer → List Past → Type 0) (ns : List ℕ) (h k : List Past) (jobs js : List (Job State)) (finishes fs : List (Finish State)) → AddedTo ns h k → ns ≡ numbers_of jobs → js ≡ jobs → finishes ≡ fs → Joined Local Resume Step events (owned h) (owned k) js fs → ServedBeside Local Resume Step h k jobs finishes
beside Local Resume Step ns h k jobs js finishes fs (rest, whole, by) names same ends j = record {
  rest = rest;
  whole = whole;
  by_them = subst (λ ms. AllByRecursion (λ e. In e.session ms) rest) names by;
  joined = subst (λ x. Joined Local Resume Step events (owned h) (owned k) jobs x) (sym ends) (subst (λ x. Joined Local Resume Step events (owned h) (owned k) x fs) same j);
}
