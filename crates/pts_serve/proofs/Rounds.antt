-- A round over a shared core, from its opening to its close.
use Rattle.std.proofs.Common.{◌≡◌, ◌<◌, ℕ, suc, true, refl, take, drop, take_at, List, [], ◌∷◌, ◌++◌, length, map, sym, ap, ◌∙◌, subst, arith}
use Rattle.std.specs.List.{AllByRecursion}
use Rattle.std.proofs.lemmas.List.{length-map}
use Rattle.pts_names.specs.Lists.{In}
use Rattle.pts_ctx.specs.System.{Specification}
use Rattle.pts_core.specs.Histories.{Past}
use Rattle.pts_core.specs.Cores.{SeenCore}
use Rattle.pts_play.specs.Machines.{Outcome}
use Rattle.pts_play.specs.Ports.{Job, Finish}
use Rattle.pts_rounds.specs.Workers.{EachRan}
use Rattle.pts_share.specs.Passes.{AddedTo, GoesOn, IsPassOf, Pass, history_of}
use Rattle.pts_share.specs.Sharing.{core_of, sessions_of, system_of, table_of}
use Rattle.pts_share.specs.declared.shared.Shared.{Shared}
use Rattle.pts_serve.specs.Served.{ServedBeside}
use Rattle.pts_serve.specs.Workers.{IsReady, HasRun, job_with, finish_with, job_of, finish_of, turned}
use Rattle.pts_serve.specs.declared.worker.SessionWorker.{SessionWorker}
use Rattle.pts_serve.specs.declared.round.Staff.{Staff}
use Rattle.pts_serve.proofs.Turned.{all_map, map_all, all_turned, all_of_turned, map_turned, map_map}
use Rattle.pts_serve.proofs.Joining.{ready_all, passes_after, numbers_after, all_joined, fit_after, beside}

abbrev passes_in : {W C : Type 0} → List (SessionWorker W C) → List Pass
passes_in ws = map (λ w. w.pass) ws

-- What holds of each pass, by its worker, and the other way round.
by_worker : {W C : Type 0} (P : Pass → Type 0) (ws : List (SessionWorker W C)) (ps : List Pass) → turned (passes_in ws) ≡ ps → AllByRecursion P ps → AllByRecursion (λ w. P w.pass) ws
by_worker P ws ps e all = all_map (λ w. w.pass) P ws (all_of_turned P (passes_in ws) (subst (AllByRecursion P) (sym e) all))

by_pass : {W C : Type 0} (P : Pass → Type 0) (ws : List (SessionWorker W C)) (ps : List Pass) → ps ≡ turned (passes_in ws) → AllByRecursion (λ w. P w.pass) ws → AllByRecursion P ps
by_pass P ws ps e all = subst (AllByRecursion P) (sym e) (all_turned P (passes_in ws) (map_all (λ w. w.pass) P ws all))

seconds : {X : Type 0} (P Q : X → Type 0) (xs : List X) → AllByRecursion (λ x. P x × Q x) xs → AllByRecursion Q xs
seconds P Q [] all = tt
seconds P Q (x ∷ xs) all = (all.0.1, seconds P Q xs all.1)

-- There are as many workers after a round as before.
pub ran_long : {W : Type 0} (ran : W → W → Type 0) (vs ws : List W) → EachRan ran vs ws → length ws ≡ length vs
ran_long ran [] [] r = refl
ran_long ran [] (w ∷ ws) r = absurd r
ran_long ran (v ∷ vs) [] r = absurd r
ran_long ran (v ∷ vs) (w ∷ ws) r = ap suc (ran_long ran vs ws r.1)

-- What a slice of all of a vector leaves there.
pub written_back : {X : Type 0} (old new : List X) (n : ℕ) → length new ≡ length old → n ≡ length old → take n (new ++ drop (length new) old) ≡ new
written_back old new n same all = take_at new (drop (length new) old) n (same ∙ sym all)

-- The passes as they were handed out.
pub first_passes : (shared : Shared) (core : SeenCore) (ps : List Pass) → core_of shared ≡ core → AllByRecursion (λ p. IsPassOf (table_of shared) core.system p × (history_of p ≡ core.history)) ps → AllByRecursion (IsPassOf (table_of shared) (system_of shared)) ps
first_passes shared core ps is all = firsts ps (subst (λ c. AllByRecursion (λ p. IsPassOf (table_of shared) c.system p × (history_of p ≡ core.history)) ps) (sym is) all)
  where
    firsts : (qs : List Pass) → AllByRecursion (λ p. IsPassOf (table_of shared) (system_of shared) p × (history_of p ≡ core.history)) qs → AllByRecursion (IsPassOf (table_of shared) (system_of shared)) qs
    firsts [] all = tt
    firsts (q ∷ qs) all = (all.0.0, firsts qs all.1)

pub passes_long : {C : Type 0} (ps : List Pass) (ns : List ℕ) (staff : List (Staff C)) → map (λ p. p.owner) ps ≡ ns → ns ≡ map (λ s. s.number) staff → length ps ≡ length staff
passes_long ps ns staff names numbers = sym (length-map ps (λ p. p.owner)) ∙ (ap length (names ∙ numbers) ∙ length-map staff (λ s. s.number))

module _ {W C Request Answer : Type 0} (local : W → C → List ℕ → Outcome C C Request → Type 0) (resumes : W → C → Answer → List (List ℕ) → C → Type 0) (steps : List Past → ℕ → Request → Answer → List Past → Type 0) (fits : W → C → Specification → List Past → Type 0) (shared : Shared) (world : W) (core : SeenCore) (ns : List ℕ) (staff : List (Staff C)) (ps : List Pass) (vs : List (SessionWorker W C))
    (opened : (sessions_of shared ≡ ns) × (core_of shared ≡ core)) (names : map (λ p. p.owner) ps ≡ ns) (all : AllByRecursion (λ p. IsPassOf (table_of shared) core.system p × (history_of p ≡ core.history)) ps) (numbers : ns ≡ map (λ s. s.number) staff)
    (jobs : turned (map job_with vs) ≡ map job_of staff) (passes : turned (passes_in vs) ≡ ps) (at : AllByRecursion (λ v. v.shared.now ≡ shared) vs) (here : AllByRecursion (λ v. v.world.now ≡ world) vs) where
  known : AllByRecursion (λ v. IsPassOf (table_of shared) (system_of shared) v.pass × (history_of v.pass ≡ core.history)) vs
  known = by_worker (λ p. IsPassOf (table_of shared) (system_of shared) p × (history_of p ≡ core.history)) vs ps passes (subst (λ c. AllByRecursion (λ p. IsPassOf (table_of shared) c.system p × (history_of p ≡ core.history)) ps) (sym opened.1) all)

  pub ready : AllByRecursion (λ s. fits world s.session core.system core.history) staff → AllByRecursion (IsReady fits) vs
  ready f =
      let P : Job C → Type 0 = λ j. fits world j.state (system_of shared) core.history in
      let of_staff : AllByRecursion P (map job_of staff) = map_all job_of P staff (subst (λ c. AllByRecursion (λ s. fits world s.session c.system core.history) staff) (sym opened.1) f) in
      ready_all fits shared world core.history vs at here known (all_map job_with P vs (all_of_turned P (map job_with vs) (subst (AllByRecursion P) (sym jobs) of_staff)))

  module _ (ws : List (SessionWorker W C)) (ran : EachRan (HasRun local resumes steps fits) vs ws) (back : List Pass) (given : back ≡ turned (passes_in ws)) where
    pub back_passes : AllByRecursion (IsPassOf (table_of shared) (system_of shared)) back
    back_passes = by_pass (IsPassOf (table_of shared) (system_of shared)) ws back given (passes_after local resumes steps fits shared vs ws ran at)

    owners_back : map (λ p. p.owner) back ≡ map (λ p. p.owner) ps
    owners_back =
        ap (map (λ p. p.owner)) given
        ∙ (map_turned (λ p. p.owner) (passes_in ws)
        ∙ (ap turned (map_map (λ w. w.pass) (λ p. p.owner) ws ∙ (numbers_after local resumes steps fits vs ws ran ∙ sym (map_map (λ v. v.pass) (λ p. p.owner) vs)))
        ∙ (sym (map_turned (λ p. p.owner) (passes_in vs)) ∙ ap (map (λ p. p.owner)) passes)))

    pub back_all : (n : ℕ) → In n (sessions_of shared) → In n (map (λ p. p.owner) back)
    back_all n i = subst (In n) (opened.0 ∙ (sym names ∙ sym owners_back)) i

    back_many : length back ≡ length staff
    back_many = sym (length-map back (λ p. p.owner)) ∙ (ap length (owners_back ∙ (names ∙ numbers)) ∙ length-map staff (λ s. s.number))

    pub back_some : 0 < length staff → 0 < length back
    back_some some = omega (arith, some, back_many)

    module _ (k : List Past) (seen : AllByRecursion (λ p. GoesOn p.owner (history_of p) k) back) (ended : AllByRecursion (λ w. w.ended ≡ true) ws) (after : List (Staff C)) (finishes : map finish_of after ≡ turned (map finish_with ws)) where
      goes : AllByRecursion (λ w. GoesOn w.pass.owner (history_of w.pass) k) ws
      goes = by_worker (λ p. GoesOn p.owner (history_of p) k) ws back (sym given) seen

      pub served : AddedTo (sessions_of shared) (core_of shared).history k → ServedBeside (local world) (resumes world) steps core.history k (map job_of staff) (map finish_of after)
      served added =
          beside (local world) (resumes world) steps (sessions_of shared) core.history k (map job_of staff) (turned (map job_with vs)) (map finish_of after) (turned (map finish_with ws))
          (subst (λ c. AddedTo (sessions_of shared) c.history k) opened.1 added) (opened.0 ∙ (numbers ∙ sym (map_map job_of (λ j. j.number) staff))) jobs finishes
          (all_joined local resumes steps fits world core.history k vs ws ran here (seconds (λ v. IsPassOf (table_of shared) (system_of shared) v.pass) (λ v. history_of v.pass ≡ core.history) vs known) goes ended)

      pub fit : ((s : C) (S : Specification) (h more : List Past) → fits world s S h → fits world s S (h ++ more)) → AllByRecursion (λ s. fits world s.session core.system k) after
      fit fits_on =
          let P : Finish C → Type 0 = λ f. fits world f.state (system_of shared) k in
          let of_workers = all_turned P (map finish_with ws) (map_all finish_with P ws (fit_after local resumes steps fits world core.history k shared fits_on vs ws ran here at goes ended)) in
          subst (λ c. AllByRecursion (λ s. fits world s.session c.system k) after) opened.1 (all_map finish_of P after (subst (AllByRecursion P) (sym finishes) of_workers))

    pub same_numbers : (after : List (Staff C)) → map (λ s. s.number) after ≡ turned (map (λ w. w.pass.owner) ws) → map (λ s. s.number) after ≡ map (λ s. s.number) staff
    same_numbers after e =
        e
        ∙ (sym (ap turned (map_map (λ w. w.pass) (λ p. p.owner) ws))
        ∙ (sym (map_turned (λ p. p.owner) (passes_in ws)) ∙ (sym (ap (map (λ p. p.owner)) given) ∙ (owners_back ∙ (names ∙ numbers)))))
