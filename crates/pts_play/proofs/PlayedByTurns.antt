-- Rounds of a play by events and by turns.
use Rattle.std.proofs.Common.{ℕ, suc, ◌+◌, ◌<◌, ◌≤◌, ◌≡◌, inl, inr, refl, sym, ap, subst, ◌∙◌, List, [], ◌∷◌, ◌++◌, map, length, arith, All}
use Rattle.std.proofs.lemmas.List.Elements.{All-cons}
use Rattle.pts_names.specs.Lists.{In, AllDiffer}
use Rattle.pts_play.specs.Machines.{Outcome, Event, ready, Runs, Happens}
use Rattle.pts_play.specs.Rounds.{lines_of, calls_of, order_of, reply_line, order_line, done_line, EachRuns, no_session, one_session}
use Rattle.pts_play.specs.Ports.{Job, Finish, job, finish, numbers_of, EachJob, no_job, one_job, RoundOf}
use Rattle.pts_play.specs.Play.{Playing, PlaysRound}
use Rattle.pts_play.specs.ByTurns.{Rows, Started, none_starts, one_starts, Turn, here, there, Turns, none_is_left, one_turn, RoundByTurns, jobs_from, replies_from, PlaysByTurns}
use Rattle.pts_play.proofs.Orders.{below_or}
use Rattle.pts_play.proofs.ByTurns.{rounds_are_turns, turns_are_rounds}

module _ {State : Type 0} (lines : List (ℕ × List ℕ)) where
  numbers_within : (n m : ℕ) (ss : List State) → In m (numbers_of (jobs_from n lines ss)) → (n ≤ m) × (m < n + length ss)
  numbers_within n m [] i = absurd i
  numbers_within n m (s ∷ ss) (inl e) = (omega (arith, e), omega (arith, e))
  numbers_within n m (s ∷ ss) (inr i) = let k = numbers_within (suc n) m ss i in let a = k.0 in let b = k.1 in (omega (arith, a), omega (arith, b))

  is_number : (n m : ℕ) (ss : List State) → n ≤ m → m < n + length ss → In m (numbers_of (jobs_from n lines ss))
  is_number n m [] low high = absurd (omega (arith, low, high))
  is_number n m (s ∷ ss) low high = elim (below_or n m (omega (arith, low))) [ inl less ↦ inr (is_number (suc n) m ss (omega (arith, less)) (omega (arith, high))) | inr same ↦ inl same ]

  numbers_differ : (n : ℕ) (ss : List State) → AllDiffer (numbers_of (jobs_from n lines ss))
  numbers_differ n [] = tt
  numbers_differ n (s ∷ ss) = (λ i. let a = (numbers_within (suc n) n ss i).0 in absurd (omega (arith, a)), numbers_differ (suc n) ss)

module _ {State Waiting Request Answer : Type 0} (Local : State → List ℕ → Outcome State Waiting Request → Type 0) (Resume : Waiting → Answer → List (List ℕ) → State → Type 0) where
  -- The runs of the sessions are those of their jobs.
  data AsJobs (events : List (Event Request Answer)) (n : ℕ) (lines : List (ℕ × List ℕ)) (ss : List State) (out : List (List ℕ)) (ts : List State) : Type 0 where
    as_jobs : (finishes : List (Finish State)) → EachJob Local Resume events (jobs_from n lines ss) finishes → out ≡ replies_from n finishes → ts ≡ map (λ f. f.state) finishes → AsJobs events n lines ss out ts

  to_jobs : {events : List (Event Request Answer)} {lines : List (ℕ × List ℕ)} {n : ℕ} {ss ts : List State} {out : List (List ℕ)} → EachRuns Local Resume lines events n ss out ts → AsJobs events n lines ss out ts
  to_jobs no_session = as_jobs [] no_job refl refl
  to_jobs (one_session {n = n} {t = t} {replies = replies} r more) =
      elim (to_jobs more) [ as_jobs fs each said states ↦ as_jobs (finish t replies ∷ fs) (one_job r each) (ap (λ o. map (reply_line n) replies ++ o) said) (ap (λ ts. t ∷ ts) states) ]

  from_jobs : {events : List (Event Request Answer)} (lines : List (ℕ × List ℕ)) (n : ℕ) (ss : List State) (fs : List (Finish State)) → EachJob Local Resume events (jobs_from n lines ss) fs → EachRuns Local Resume lines events n ss (replies_from n fs) (map (λ f. f.state) fs)
  from_jobs lines n [] [] no_job = no_session
  from_jobs lines n [] (f ∷ fs) far = elim far [ ]
  from_jobs lines n (s ∷ ss) [] far = elim far [ ]
  from_jobs lines n (s ∷ ss) (f ∷ fs) (one_job r more) = one_session r (from_jobs lines (suc n) ss fs more)

  numbers_in : Rows State Waiting Request → List ℕ
  numbers_in rows = map (λ r. r.0) rows

  started_numbers : {jobs : List (Job State)} {rows : Rows State Waiting Request} → Started Local Resume jobs rows → numbers_in rows ≡ numbers_of jobs
  unfolding numbers_in
  started_numbers none_starts = refl
  started_numbers (one_starts {n = n} goes more) = ap (λ ns. n ∷ ns) (started_numbers more)

  module _ {Core : Type 0} (Step : Core → ℕ → Request → Answer → Core → Type 0) where
    -- Each turn is that of a session of the rows.
    turn_known : {C D : Core} {n : ℕ} {rows new : Rows State Waiting Request} → Turn Local Resume Step C rows n D new → In n (numbers_in rows) × (numbers_in new ≡ numbers_in rows)
    unfolding numbers_in
    turn_known (here a step hears goes) = (inl refl, refl)
    turn_known (there {m = m} other turn) = let k = turn_known turn in (inr k.0, ap (λ ns. m ∷ ns) k.1)

    turns_known : {C D : Core} {order : List ℕ} {rows last : Rows State Waiting Request} → Turns Local Resume Step C rows order D last → All (λ n. In n (numbers_in rows)) order
    turns_known none_is_left = λ k d small. absurd (omega (arith, small))
    turns_known {rows = rows} (one_turn {n = n} {order = order} turn turns) =
        let k = turn_known turn in
        All-cons (λ m. In m (numbers_in rows)) n order k.0 (subst (λ ns. All (λ m. In m ns) order) k.1 (turns_known turns))

    module _ (chosen : (numbers order : List ℕ) → Type 0) where
      pub played_is_turns : (p q : Playing Core State) (numbers : List ℕ) (out : List (List ℕ)) → PlaysRound Step Local Resume chosen p numbers out q → PlaysByTurns Step Local Resume chosen p numbers out q
      played_is_turns p q numbers out r =
          let known : All (λ m. In m (numbers_of (jobs_from 1 p.lines p.sessions))) (order_of r.events) =
          λ k d small. let w = r.known k d small in let a = w.0 in let b = w.1 in is_number p.lines 1 _ p.sessions a (omega (arith, b)) in
          elim (to_jobs r.runs) [
            | as_jobs fs each said states ↦
                record {
                  order = order_of r.events;
                  finishes = fs;
                  allowed = r.order;
                  turns = rounds_are_turns Local Resume Step p.core q.core (jobs_from 1 p.lines p.sessions) (order_of r.events) fs (numbers_differ p.lines 1 p.sessions) known (record { events = r.events; ordered = refl; steps = r.steps; runs = each });
                  ends = states;
                  printed = subst (λ o. out ≡ o ++ order_line (order_of r.events) ∷ done_line (suc (length p.orders)) ∷ []) said r.printed;
                  emptied = r.emptied;
                  recorded = r.recorded;
                }
          ]

      pub turns_is_played : (p q : Playing Core State) (numbers : List ℕ) (out : List (List ℕ)) → PlaysByTurns Step Local Resume chosen p numbers out q → PlaysRound Step Local Resume chosen p numbers out q
      turns_is_played p q numbers out b =
          let jobs = jobs_from 1 p.lines p.sessions in
          let r = turns_are_rounds Local Resume Step p.core q.core jobs b.order b.finishes (numbers_differ p.lines 1 p.sessions) b.turns in
          let there = subst (λ ns. All (λ m. In m ns) b.order) (started_numbers b.turns.started) (turns_known b.turns.turns) in
          let known : All (λ n. (1 ≤ n) × (n ≤ length p.sessions)) b.order =
          λ k d small. let w = numbers_within p.lines 1 _ p.sessions (there k d small) in let a = w.0 in let l = w.1 in (a, omega (arith, l)) in
          let same = sym r.ordered in
          record {
            events = r.events;
            replies = replies_from 1 b.finishes;
            known = subst (λ o. All (λ n. (1 ≤ n) × (n ≤ length p.sessions)) o) same known;
            order = subst (λ o. chosen numbers o) same b.allowed;
            steps = r.steps;
            runs = subst (λ ts. EachRuns Local Resume p.lines r.events 1 p.sessions (replies_from 1 b.finishes) ts) (sym b.ends) (from_jobs p.lines 1 p.sessions b.finishes r.runs);
            printed = subst (λ o. out ≡ replies_from 1 b.finishes ++ order_line o ∷ done_line (suc (length p.orders)) ∷ []) same b.printed;
            emptied = b.emptied;
            recorded = subst (λ o. q.orders ≡ p.orders ++ o ∷ []) same b.recorded;
          }
