-- How a round begins and ends.
use Rattle.std.proofs.Common.{ℕ, zero, suc, ◌+◌, ◌<◌, ◌≤◌, ◌≡◌, Bool, true, false, refl, sym, ap, subst, ◌∙◌, List, [], ◌∷◌, ◌++◌, map, length, slice_get, drop, Option, Some, None, is_some, arith, All}
use Rattle.std.proofs.lemmas.List.{append-nil}
use Rattle.std.specs.List.{AllByRecursion}
use Rattle.pts_play.specs.Machines.{Outcome, Call, Event, Runs, begins, Happens, nothing, ready}
use Rattle.pts_play.specs.Rounds.{lines_of, calls_of, order_of, OrderFrom, used_up, Rising, no_number, EachRuns, no_session, one_session, reply_line}
use Rattle.pts_play.specs.declared.seat.Seat.{Seat}
use Rattle.pts_play.specs.Seats.{position_with, position_of, Rests, Settled, RunsOn}
use Rattle.pts_play.proofs.Onward.{asks_nothing}
use Rattle.pts_play.specs.Turns.{waits_in, is_waiting_at, RunSoFar, none_runs, one_runs, AllRest, AllFit, AllFresh, StartedAll, NoneWaits, AllClear, HaveLines, players, replies_of, InRound, Promises, RisesFrom, PlayedRound}

-- If no seat of the list waits, none waits.
pub all_ended : {P Q : Type 0} (seats : List (Seat P Q)) → ((k : ℕ) → k < length seats → is_waiting_at seats (suc k) ≡ false) → NoneWaits seats
all_ended [] ended = tt
all_ended (s ∷ ss) ended = (asks_nothing s.asked (ended 0 (omega arith)), all_ended ss (λ k small. ended (suc k) (omega (arith, small))))

-- Clear seats of sessions that wait for nothing.
pub all_fresh : {P Q : Type 0} (free : P → Type 0) (seats : List (Seat P Q)) → AllClear seats → AllByRecursion free (players seats) → AllFresh free seats
all_fresh free [] clear frees = tt
all_fresh free (s ∷ ss) clear frees = let c = clear.0 in ((c.0, frees.0, c.1, c.2), all_fresh free ss clear.1 frees.1)

-- The numbers are used up.
pub promises_rising : {P Q : Type 0} (numbers left : List ℕ) (seats : List (Seat P Q)) (order : List ℕ) → left ≡ [] → Promises numbers (OrderFrom left) seats order → Promises numbers (RisesFrom 1) seats order
promises_rising numbers left seats order none promised rest all r = promised rest all (subst (λ xs. OrderFrom xs rest) (sym none) (used_up r.0))

pub order_is_made : {P Q : Type 0} (numbers : List ℕ) (n : ℕ) (seats : List (Seat P Q)) (order : List ℕ) → Promises numbers (RisesFrom n) seats order → OrderFrom numbers order
order_is_made numbers n seats order promised = subst (λ o. OrderFrom numbers o) (append-nil order) (promised [] (λ k d small. absurd (omega (arith, small))) (no_number, λ k d small. absurd (omega (arith, small))))

pub drop_past : {X : Type 0} (xs : List X) (n : ℕ) → length xs ≤ n → drop n xs ≡ []
drop_past [] zero far = refl
drop_past [] (suc n) far = refl
drop_past (x ∷ xs) zero far = absurd (omega (arith, far))
drop_past (x ∷ xs) (suc n) far = drop_past xs n (omega (arith, far))

module _ {P Q A C : Type 0} (Local : P → List ℕ → Outcome P P Q → Type 0) (Resume : P → A → List (List ℕ) → P → Type 0) (Step : C → ℕ → Q → A → C → Type 0) (free : P → Type 0) (awaits : P → Q → Type 0) (fits : P → C → Type 0) where
  pub begun : (n : ℕ) (starts seats : List (Seat P Q)) → AllFresh free starts → StartedAll {A = A} Local Resume free awaits fits starts seats → RunSoFar Local Resume [] n starts seats
  begun n [] [] fresh started = none_runs
  begun n [] (t ∷ ts) fresh started = absurd started
  begun n (s ∷ ss) [] fresh started = absurd started
  begun n (s ∷ ss) (t ∷ ts) fresh started =
      let f = fresh.0 in
      let r1 : Runs Local Resume s.player s.lines.items [] [] (ready s.player s.lines.items) = begins in
      let r2 = subst (λ o. Runs Local Resume s.player s.lines.items [] o (ready s.player s.lines.items)) (sym f.3) r1 in
      let r3 = subst (λ k. Runs Local Resume s.player s.lines.items [] s.replies.items (ready s.player (drop k s.lines.items))) (sym f.2) r2 in
      let r4 = subst (λ o. Runs Local Resume s.player s.lines.items [] s.replies.items (position_with s.player (drop s.next s.lines.items) o)) (sym f.0) r3 in
      one_runs (started.0 s.player s.lines.items [] r4) (begun (suc n) ss ts fresh.1 started.3)

  pub started_long : (starts seats : List (Seat P Q)) → StartedAll {A = A} {C = C} Local Resume free awaits fits starts seats → length seats ≡ length starts
  started_long [] [] started = refl
  started_long [] (t ∷ ts) started = absurd started
  started_long (s ∷ ss) [] started = absurd started
  started_long (s ∷ ss) (t ∷ ts) started = ap suc (started_long ss ts started.3)

  pub started_rest : (starts seats : List (Seat P Q)) → StartedAll {A = A} {C = C} Local Resume free awaits fits starts seats → AllRest free awaits seats
  started_rest [] [] started = tt
  started_rest [] (t ∷ ts) started = absurd started
  started_rest (s ∷ ss) [] started = absurd started
  started_rest (s ∷ ss) (t ∷ ts) started = (started.1, started_rest ss ts started.3)

  pub started_fit : (core : C) (starts seats : List (Seat P Q)) → StartedAll {A = A} {C = C} Local Resume free awaits fits starts seats → AllFit fits core starts → AllFit fits core seats
  started_fit core [] [] started fit = tt
  started_fit core [] (t ∷ ts) started fit = absurd started
  started_fit core (s ∷ ss) [] started fit = absurd started
  started_fit core (s ∷ ss) (t ∷ ts) started fit = (started.2 core fit.0, started_fit core ss ts started.3 fit.1)

  pub playing_none : (core : C) (starts seats : List (Seat P Q)) (order : List ℕ) → order ≡ [] → AllFresh free starts → StartedAll {A = A} {C = C} Local Resume free awaits fits starts seats → InRound Local Resume Step core starts core seats order
  playing_none core starts seats order none fresh started = record {
    events = [];
    ordered = none;
    steps = nothing;
    runs = begun 1 starts seats fresh started;
    known = subst (λ o. All (λ n. (1 ≤ n) × (n ≤ length seats)) o) (sym none) (λ k d small. absurd (omega (arith, small)));
  }

  -- Seats that rest and don't wait have run all their lines.
  pub each_runs : (lines : List (ℕ × List ℕ)) (events : List (Event Q A)) (n : ℕ) (starts seats : List (Seat P Q)) → HaveLines n lines starts → NoneWaits seats → AllRest free awaits seats → RunSoFar Local Resume events n starts seats → EachRuns Local Resume lines events n (players starts) (replies_of n seats) (players seats)
  each_runs lines events n [] [] have ended rest none_runs = no_session
  each_runs lines events n [] (t ∷ ts) have ended rest far = elim far [ ]
  each_runs lines events n (s ∷ ss) [] have ended rest far = elim far [ ]
  each_runs lines events n (s ∷ ss) (t ∷ ts) have ended rest (one_runs r more) =
      let settled = subst (λ o. Settled free awaits t o) ended.0 rest.0 in
      let r1 = subst (λ o. Runs Local Resume s.player s.lines.items (calls_of n events) t.replies.items (position_with t.player (drop t.next t.lines.items) o)) ended.0 r in
      let r2 = subst (λ xs. Runs Local Resume s.player s.lines.items (calls_of n events) t.replies.items (ready t.player xs)) settled.1 r1 in
      let r3 = subst (λ xs. Runs Local Resume s.player xs (calls_of n events) t.replies.items (ready t.player [])) have.0 r2 in
      one_session r3 (each_runs lines events (suc n) ss ts have.1 ended.1 rest.1 more)

  -- They may all go on.
  pub all_free : (seats : List (Seat P Q)) → NoneWaits seats → AllRest free awaits seats → AllByRecursion free (players seats)
  all_free [] ended rest = tt
  all_free (s ∷ ss) ended rest = let settled = subst (λ o. Settled free awaits s o) ended.0 rest.0 in (settled.0, all_free ss ended.1 rest.1)

  -- A round is over.
  pub played : (lines : List (ℕ × List ℕ)) (numbers : List ℕ) (n : ℕ) (core core' : C) (starts seats : List (Seat P Q)) (order : List ℕ) → HaveLines 1 lines starts → length seats ≡ length starts → NoneWaits seats → AllRest free awaits seats → Promises numbers (RisesFrom n) seats order → InRound Local Resume Step core starts core' seats order → PlayedRound Local Resume Step lines numbers core starts core' seats order
  played lines numbers n core core' starts seats order have long ended rest promised p = record {
    events = p.events;
    ordered = p.ordered;
    known = λ k d small. let w = p.known k d small in (w.0, let m = w.1 in omega (arith, m, long));
    made_from = order_is_made numbers n seats order promised;
    steps = p.steps;
    runs = each_runs lines p.events 1 starts seats have ended rest p.runs;
    long = long;
  }
