-- Rounds and inputs that are served are played.
use Rattle.std.proofs.Common.{ℕ, suc, ◌+◌, ◌<◌, ◌≤◌, ◌≡◌, ◌≢◌, inl, inr, Bool, false, refl, sym, subst, ◌∙◌, List, [], ◌∷◌, ◌++◌, length, nat_eq, arith, All}
use Rattle.std.proofs.lemmas.List.{append_cancel_left}
use Rattle.std.proofs.lemmas.List.Elements.{All-cons}
use Rattle.std.specs.List.{AllByRecursion}
use Rattle.pts_play.specs.Machines.{Outcome, Event, ready, Runs, begins, Happens}
use Rattle.pts_play.specs.Rounds.{calls_of, order_of, lines_of, order_line, done_line, EachRuns, no_session, one_session, OrderFrom, is_next, used_up, no_number}
use Rattle.pts_names.specs.Lists.{In, AllDiffer}
use Rattle.pts_play.specs.Ports.{History, owners, Job, Finish, numbers_of, EachJob, one_job}
use Rattle.pts_play.specs.Play.{Playing, AnyOrder, PlaysRound, PlaysLine, is_added, runs_round, is_refused, Played, none_yet, one_more, IsEnd, no_byte, end_line, PlaysRest, no_rest, last_round, PlaysAll}
use Rattle.pts_play.specs.Serve.{Staffed, is_idle, works, ServesRound}
use Rattle.pts_play.specs.Serve as serve
use Rattle.pts_play.proofs.Merges.{merges}

-- The sessions of entries.
in_all : {Entry : Type 0} (ns : List ℕ) (m : ℕ) (h : History Entry) → AllByRecursion (λ e. In e.0 ns) h → In m (owners h) → In m ns
in_all ns m [] all i = absurd i
in_all ns m (e ∷ h) all (inl same) = subst (λ k. In k ns) same all.0
in_all ns m (e ∷ h) all (inr i) = in_all ns m h all.1 i

all_of : {Entry : Type 0} (P : ℕ → Type 0) (h : History Entry) → AllByRecursion (λ e. P e.0) h → All P (owners h)
all_of P [] all = λ k d small. absurd (omega (arith, small))
all_of P (e ∷ h) all = All-cons P e.0 (owners h) all.0 (all_of P h all.1)

all_more : {Entry : Type 0} (P Q : ℕ → Type 0) (h : History Entry) → ((n : ℕ) → P n → Q n) → AllByRecursion (λ e. P e.0) h → AllByRecursion (λ e. Q e.0) h
all_more P Q [] f all = tt
all_more P Q (e ∷ h) f all = (f e.0 all.0, all_more P Q h f all.1)

-- Without an event a session has no call.
no_calls : {Request Answer : Type 0} (m : ℕ) (es : List (Event Request Answer)) → ¬ In m (order_of es) → calls_of m es ≡ []
no_calls m [] out = refl
no_calls m (e ∷ es) out =
    let differ : e.session ≢ m = λ same. out (inl same) in
    let no : nat_eq e.session m ≡ false = grind (arith, differ) in
    grind (arith, no, no_calls m es (λ i. out (inr i)))

module _ {State : Type 0} (lines : List (ℕ × List ℕ)) where
  within : {n : ℕ} {ss ts : List State} {jobs : List (Job State)} {finishes : List (Finish State)} {out : List (List ℕ)} → Staffed lines n ss jobs finishes out ts → (m : ℕ) → In m (numbers_of jobs) → (n ≤ m) × (m < n + length ss)
  within serve.no_session m i = absurd i
  within (is_idle none more) m i = let k = within more m i in let a = k.0 in let b = k.1 in (omega (arith, a), omega (arith, b))
  within (works more) m (inl e) = (omega (arith, e), omega (arith, e))
  within (works more) m (inr i) = let k = within more m i in let a = k.0 in let b = k.1 in (omega (arith, a), omega (arith, b))

  differ_all : {n : ℕ} {ss ts : List State} {jobs : List (Job State)} {finishes : List (Finish State)} {out : List (List ℕ)} → Staffed lines n ss jobs finishes out ts → AllDiffer (numbers_of jobs)
  differ_all serve.no_session = tt
  differ_all (is_idle none more) = differ_all more
  differ_all (works {n = n} more) = (λ i. let k = (within more n i).0 in absurd (omega (arith, k)), differ_all more)

module _ {Core State Waiting Request Answer : Type 0} (Step : Core → ℕ → Request → Answer → Core → Type 0) (Local : State → List ℕ → Outcome State Waiting Request → Type 0) (Resume : Waiting → Answer → List (List ℕ) → State → Type 0) where
  -- The runs of jobs are those of the sessions.
  each_runs : {lines : List (ℕ × List ℕ)} {n : ℕ} {ss ts : List State} {jobs : List (Job State)} {finishes : List (Finish State)} {out : List (List ℕ)} (events : List (Event Request Answer)) → Staffed lines n ss jobs finishes out ts → EachJob Local Resume events jobs finishes → ((m : ℕ) → n ≤ m → ¬ In m (numbers_of jobs) → calls_of m events ≡ []) → EachRuns Local Resume lines events n ss out ts
  each_runs events serve.no_session each none = no_session
  each_runs {lines} events (is_idle {n = n} {s = s} {ss = ss} idle more) each none =
      let quiet = none n (omega arith) (λ i. let k = (within lines more n i).0 in absurd (omega (arith, k))) in
      let r : Runs Local Resume s [] [] [] (ready s []) = begins in
      let r1 = subst (λ ls. Runs Local Resume s ls [] [] (ready s [])) (sym idle) r in
      let r2 = subst (λ cs. Runs Local Resume s (lines_of n lines) cs [] (ready s [])) (sym quiet) r1 in
      one_session r2 (each_runs events more each (λ m far out. none m (omega (arith, far)) out))
  each_runs {lines} events (works {n = n} more) (one_job run each) none =
      one_session run (each_runs events more each (λ m far out. none m (omega (arith, far)) (λ i. elim i [ inl e ↦ absurd (omega (arith, e, far)) | inr j ↦ out j ])))

  module _ {Entry : Type 0} (at : History Entry → Core) where
    pub round_is_played : (p q : Playing Core State) (numbers : List ℕ) (out : List (List ℕ)) → ServesRound Step Local Resume at p numbers out q → PlaysRound Step Local Resume AnyOrder p numbers out q
    round_is_played p q numbers out s =
        let r = merges Local Resume Step at s.opening s.rest (differ_all p.lines s.staffed) s.by_them s.joined in
        let none : (m : ℕ) → ¬ In m (numbers_of s.jobs) → calls_of m r.events ≡ [] =
        λ m out. no_calls m r.events (λ i. out (in_all (numbers_of s.jobs) m s.rest s.by_them (subst (λ o. In m o) r.ordered i))) in
        let Known : ℕ → Type 0 = λ n. (1 ≤ n) × (n ≤ length p.sessions) in
        let known : All Known (owners s.rest) = all_of Known s.rest (all_more (λ m. In m (numbers_of s.jobs)) Known s.rest (λ m i. let k = within p.lines s.staffed m i in let a = k.0 in let b = k.1 in (a, omega (arith, b))) s.by_them) in
        record {
          events = r.events;
          replies = s.replies;
          known = subst (λ o. All Known o) (sym r.ordered) known;
          order = s.no_numbers;
          steps = subst (λ c. Happens Step p.core r.events c) s.ends_at (subst (λ c. Happens Step c r.events (at (s.opening ++ s.rest))) s.begins_at r.steps);
          runs = each_runs r.events s.staffed r.runs (λ m far out. none m out);
          printed = subst (λ o. out ≡ s.replies ++ order_line o ∷ done_line (suc (length p.orders)) ∷ []) (sym r.ordered) s.printed;
          emptied = s.emptied;
          recorded = subst (λ o. q.orders ≡ p.orders ++ o ∷ []) (sym r.ordered) s.recorded;
        }

-- If each round is another kind of round, each input is played by that kind.
module _ {Core State : Type 0} (Round Other : Playing Core State → (numbers : List ℕ) → (out : List (List ℕ)) → Playing Core State → Type 0) (IsText : List ℕ → Type 0) (numbered : Bool) (other : (p q : Playing Core State) (numbers : List ℕ) (out : List (List ℕ)) → Round p numbers out q → Other p numbers out q) where
  line_played : {k : ℕ} {line : List ℕ} {p q : Playing Core State} {out : List (List ℕ)} → PlaysLine Round IsText numbered k line p out q → PlaysLine Other IsText numbered k line p out q
  line_played (is_added here says) = is_added here says
  line_played {p = p} {q = q} (runs_round {numbers = numbers} {out = out} says round) = runs_round says (other p q numbers out round)
  line_played (is_refused says) = is_refused says

  played : {bytes : List ℕ} {p : Playing Core State} {k : ℕ} {left printed : List ℕ} {q : Playing Core State} → Played Round IsText numbered bytes p k left printed q → Played Other IsText numbered bytes p k left printed q
  played none_yet = none_yet
  played (one_more before some line) = one_more (played before) some (line_played line)

  ended : {left : List ℕ} → IsEnd Round IsText numbered left → IsEnd Other IsText numbered left
  ended (no_byte e) = no_byte e
  ended (end_line some says) = end_line some says

  rest_played : {p q : Playing Core State} {out : List (List ℕ)} → PlaysRest Round IsText numbered p out q → PlaysRest Other IsText numbered p out q
  rest_played (no_rest e) = no_rest e
  rest_played {p = p} {q = q} (last_round {out = out} some round) = last_round some (other p q [] out round)

  pub all_played : (bytes printed : List ℕ) (p q : Playing Core State) → PlaysAll Round IsText numbered bytes p printed q → PlaysAll Other IsText numbered bytes p printed q
  all_played bytes printed p q a = record { count = a.count; left = a.left; before = a.before; last = a.last; out = a.out; played = played a.played; ends = ended a.ends; rest = rest_played a.rest; whole = a.whole }

-- An order is made from its own numbers.
order_from_itself : (order : List ℕ) → OrderFrom order order
order_from_itself [] = used_up no_number
order_from_itself (n ∷ order) = is_next (order_from_itself order)

module _ {Core State Waiting Request Answer : Type 0} (Step : Core → ℕ → Request → Answer → Core → Type 0) (Local : State → List ℕ → Outcome State Waiting Request → Type 0) (Resume : Waiting → Answer → List (List ℕ) → State → Type 0) where
  pub is_replayed : (p q : Playing Core State) (order : List ℕ) (out : List (List ℕ)) → q.orders ≡ p.orders ++ order ∷ [] → PlaysRound Step Local Resume AnyOrder p [] out q → PlaysRound Step Local Resume OrderFrom p order out q
  is_replayed p q order out printed r =
      let lists = append_cancel_left p.orders (order ∷ []) (order_of r.events ∷ []) (sym printed ∙ r.recorded) in
      let same : order ≡ order_of r.events = cc lists in
      record { events = r.events; replies = r.replies; known = r.known; order = subst (λ o. OrderFrom o (order_of r.events)) (sym same) (order_from_itself (order_of r.events)); steps = r.steps; runs = r.runs; printed = r.printed; emptied = r.emptied; recorded = r.recorded }
