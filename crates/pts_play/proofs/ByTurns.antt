-- Rounds by events and rounds by turns.
use Rattle.std.proofs.Common.{ℕ, suc, ◌≡◌, ◌≢◌, inl, inr, false, refl, sym, ap, subst, ◌∙◌, List, [], ◌∷◌, ◌++◌, map, nat_eq, arith, append_assoc, append-nil, All}
use Rattle.std.proofs.lemmas.List.{map-append}
use Rattle.std.specs.List.{AllByRecursion}
use Rattle.pts_play.specs.Machines.{Outcome, done, asks, Call, Event, Position, ready, waits, Runs, begins, line_is_done, line_asks, is_answered, Happens, nothing, one_more}
use Rattle.pts_play.specs.Rounds.{calls_of, order_of}
use Rattle.pts_names.specs.Lists.{In, AllDiffer}
use Rattle.pts_play.specs.Ports.{Job, Finish, job, finish, numbers_of, EachJob, no_job, one_job, RoundOf}
use Rattle.pts_play.specs.ByTurns.{Stop, at_rest, at_port, Rows, Goes, is_over, runs_line, asks_port, Started, none_starts, one_starts, Ended, none_ends, one_ends, Turn, here, there, Turns, none_is_left, one_turn, RoundByTurns}
use Rattle.pts_play.proofs.Seated.{calls_of_own, calls_of_other}

position_of : {S W R : Type 0} → Stop S W R → Position S W R
position_of (at_rest s said) = ready s []
position_of (at_port r w left said) = waits r w left

said_of : {S W R : Type 0} → Stop S W R → List (List ℕ)
said_of (at_rest s said) = said
said_of (at_port r w left said) = said

numbers_in : {S W R : Type 0} → Rows S W R → List ℕ
numbers_in rows = map (λ r. r.0) rows

-- The calls of a session where the first event is its own or another's.
calls_first : {R A : Type 0} (n : ℕ) (e : Event R A) (es : List (Event R A)) → e.session ≡ n → calls_of n (e ∷ es) ≡ e.call ∷ calls_of n es
calls_first n e es same = grind (arith, same)

calls_passed : {R A : Type 0} (n : ℕ) (e : Event R A) (es : List (Event R A)) → e.session ≢ n → calls_of n (e ∷ es) ≡ calls_of n es
calls_passed n e es other = grind (arith, other)

module _ {State Waiting Request Answer : Type 0} (Local : State → List ℕ → Outcome State Waiting Request → Type 0) (Resume : Waiting → Answer → List (List ℕ) → State → Type 0) where
  -- From where a session is, with these replies so far, these calls lead it to this end.
  data Ahead (t : State) (last : List (List ℕ)) : Position State Waiting Request → (said : List (List ℕ)) → List (Call Request Answer) → Type 0 where
    none_ahead : Ahead t last (ready t []) last []
    line_ahead : {u v : State} {text : List ℕ} {left said more : List (List ℕ)} {calls : List (Call Request Answer)} → Local u text (done more v) → Ahead t last (ready v left) (said ++ more) calls → Ahead t last (ready u (text ∷ left)) said calls
    ask_ahead : {u : State} {text : List ℕ} {left said : List (List ℕ)} {r : Request} {w : Waiting} {calls : List (Call Request Answer)} → Local u text (asks r w) → Ahead t last (waits r w left) said calls → Ahead t last (ready u (text ∷ left)) said calls
    answer_ahead : {v : State} {left said more : List (List ℕ)} {r : Request} {w : Waiting} {calls : List (Call Request Answer)} (a : Answer) → Resume w a more v → Ahead t last (ready v left) (said ++ more) calls → Ahead t last (waits r w left) said (record { request = r; answer = a } ∷ calls)

  -- What a run has done and what is ahead of it were ahead at its beginning.
  from_begin : {s t : State} {last lines : List (List ℕ)} {calls : List (Call Request Answer)} {out : List (List ℕ)} {stand : Position State Waiting Request} → Runs Local Resume s lines calls out stand → {more : List (Call Request Answer)} → Ahead t last stand out more → Ahead t last (ready s lines) [] (calls ++ more)
  from_begin begins a = a
  from_begin (line_is_done r d) a = from_begin r (line_ahead d a)
  from_begin {s} {t} {last} {lines} (line_asks {out = out} {left = left} {r = q} {w = w} r d) {more} a = from_begin r (ask_ahead d a)
  from_begin {s} {t} {last} {lines} (is_answered {calls = calls} {r = q} x r d) {more} a =
      subst (λ cs. Ahead t last (ready s lines) [] cs) (sym (append_assoc calls (record { request = q; answer = x } ∷ []) more)) (from_begin r (answer_ahead x d a))

  -- It first goes to a stop.
  data StopsFirst (t : State) (last : List (List ℕ)) (s : State) (left said : List (List ℕ)) (calls : List (Call Request Answer)) : Type 0 where
    stops_first : (stop : Stop State Waiting Request) → Goes Local Resume s left said stop → Ahead t last (position_of stop) (said_of stop) calls → StopsFirst t last s left said calls

  to_stop : {t : State} {last : List (List ℕ)} {s : State} {left said : List (List ℕ)} {calls : List (Call Request Answer)} → Ahead t last (ready s left) said calls → StopsFirst t last s left said calls
  unfolding position_of said_of
  to_stop {t} {last} none_ahead = stops_first (at_rest t last) is_over none_ahead
  to_stop (line_ahead d a) = elim (to_stop a) [ stops_first stop g b ↦ stops_first stop (runs_line d g) b ]
  to_stop (ask_ahead {left = left} {said = said} {r = r} {w = w} d a) = stops_first (at_port r w left said) (asks_port d) a

  -- A run goes on to the next stop.
  goes_to : {u s : State} {lines left said : List (List ℕ)} {calls : List (Call Request Answer)} {stop : Stop State Waiting Request} → Goes Local Resume s left said stop → Runs Local Resume u lines calls said (ready s left) → Runs Local Resume u lines calls (said_of stop) (position_of stop)
  unfolding position_of said_of
  goes_to is_over r = r
  goes_to (runs_line d g) r = goes_to g (line_is_done r d)
  goes_to (asks_port d) r = line_asks r d

  -- Sessions, of which each has its own of these events ahead.
  data AllAhead (events : List (Event Request Answer)) : List (Job State) → Rows State Waiting Request → List (Finish State) → Type 0 where
    none_is : AllAhead events [] [] []
    one_is : {n : ℕ} {s t : State} {lines last : List (List ℕ)} {stop : Stop State Waiting Request} {jobs : List (Job State)} {rows : Rows State Waiting Request} {finishes : List (Finish State)} → Ahead t last (position_of stop) (said_of stop) (calls_of n events) → AllAhead events jobs rows finishes → AllAhead events (job n s lines ∷ jobs) ((n, stop) ∷ rows) (finish t last ∷ finishes)

  -- Sessions with their runs so far.
  data RunsOf (events : List (Event Request Answer)) : List (Job State) → Rows State Waiting Request → Type 0 where
    none_was : RunsOf events [] []
    one_was : {n : ℕ} {s : State} {lines : List (List ℕ)} {stop : Stop State Waiting Request} {jobs : List (Job State)} {rows : Rows State Waiting Request} → Runs Local Resume s lines (calls_of n events) (said_of stop) (position_of stop) → RunsOf events jobs rows → RunsOf events (job n s lines ∷ jobs) ((n, stop) ∷ rows)

  -- From events to turns

  data Beginning (events : List (Event Request Answer)) (jobs : List (Job State)) (finishes : List (Finish State)) : Type 0 where
    beginning : (rows : Rows State Waiting Request) → Started Local Resume jobs rows → AllAhead events jobs rows finishes → Beginning events jobs finishes

  begin_all : {events : List (Event Request Answer)} {jobs : List (Job State)} {finishes : List (Finish State)} → EachJob Local Resume events jobs finishes → Beginning events jobs finishes
  begin_all no_job = beginning [] none_starts none_is
  begin_all {events} (one_job {n = n} {s = s} {t = t} {lines = lines} {replies = replies} r more) =
      let a = subst (λ cs. Ahead t replies (ready s lines) [] cs) (append-nil (calls_of n events)) (from_begin r none_ahead) in
      elim (begin_all more) [ beginning rows started all ↦ elim (to_stop a) [ stops_first stop g b ↦ beginning ((n, stop) ∷ rows) (one_starts g started) (one_is b all) ] ]

  -- A session that waits has a call ahead.
  has_call : {t : State} {last : List (List ℕ)} (r : Request) (w : Waiting) (left said : List (List ℕ)) (calls : List (Call Request Answer)) → Ahead t last (waits r w left) said calls → calls ≡ [] → ⊥
  has_call r w left said calls (answer_ahead a d more) none = cc none

  -- A session with no call ahead is at its end.
  at_end : {t : State} {last : List (List ℕ)} {calls : List (Call Request Answer)} (stop : Stop State Waiting Request) → Ahead t last (position_of stop) (said_of stop) calls → calls ≡ [] → stop ≡ at_rest t last
  unfolding position_of said_of
  at_end (at_rest s said) none_ahead none = refl
  at_end {calls = calls} (at_port r w left said) a none = absurd (has_call r w left said calls a none)

  all_end : {jobs : List (Job State)} {rows : Rows State Waiting Request} {finishes : List (Finish State)} → AllAhead [] jobs rows finishes → Ended Local Resume rows finishes
  all_end none_is = none_ends
  all_end (one_is {n = n} {s = s} {t = t} {lines = lines} {last = last} {stop = stop} {jobs = jobs} {rows = rows} {finishes = finishes} a more) =
      subst (λ z. Ended Local Resume ((n, z) ∷ rows) (finish t last ∷ finishes)) (sym (at_end stop a refl)) (one_ends (all_end more))

  -- After an event of another session.
  ahead_later : {e : Event Request Answer} {events : List (Event Request Answer)} {jobs : List (Job State)} {rows : Rows State Waiting Request} {finishes : List (Finish State)} → ¬ In e.session (numbers_of jobs) → AllAhead (e ∷ events) jobs rows finishes → AllAhead events jobs rows finishes
  ahead_later out none_is = none_is
  ahead_later {e} {events} out (one_is {n = n} {t = t} {last = last} {stop = stop} a more) =
      one_is (subst (λ cs. Ahead t last (position_of stop) (said_of stop) cs) (calls_passed n e events (λ same. out (inl (sym same)))) a) (ahead_later (λ i. out (inr i)) more)

  module _ {Core : Type 0} (Step : Core → ℕ → Request → Answer → Core → Type 0) where
    data TakesTurn (t : State) (last : List (List ℕ)) (C : Core) (n : ℕ) (D : Core) (rows : Rows State Waiting Request) (stop : Stop State Waiting Request) (calls : List (Call Request Answer)) : Type 0 where
      takes_turn : (next : Stop State Waiting Request) → Turn Local Resume Step C ((n, stop) ∷ rows) n D ((n, next) ∷ rows) → Ahead t last (position_of next) (said_of next) calls → TakesTurn t last C n D rows stop calls

    hear : {t : State} {last : List (List ℕ)} (C : Core) (n : ℕ) (D : Core) (rows : Rows State Waiting Request) (r : Request) (w : Waiting) (left said : List (List ℕ)) (calls : List (Call Request Answer)) (c : Call Request Answer) (rest : List (Call Request Answer)) → Ahead t last (waits r w left) said calls → calls ≡ c ∷ rest → Step C n c.request c.answer D → TakesTurn t last C n D rows (at_port r w left said) rest
    hear {t} {last} C n D rows r w left said calls c rest (answer_ahead a d more) e step =
        let call : record { request = r; answer = a } ≡ c = cc e in
        let step' : Step C n r a D = subst (λ k. Step C n k.request k.answer D) (sym call) step in
        elim (to_stop more) [ stops_first stop g b ↦ takes_turn stop (here a step' d g) (subst (λ cs. Ahead t last (position_of stop) (said_of stop) cs) (cc e) b) ]

    no_more : {t : State} {last : List (List ℕ)} (s : State) (said : List (List ℕ)) (calls : List (Call Request Answer)) → Ahead t last (ready s []) said calls → calls ≡ []
    no_more s said calls none_ahead = refl

    take_turn : {t : State} {last : List (List ℕ)} {calls : List (Call Request Answer)} (C : Core) (n : ℕ) (D : Core) (rows : Rows State Waiting Request) (stop : Stop State Waiting Request) (c : Call Request Answer) (rest : List (Call Request Answer)) → Ahead t last (position_of stop) (said_of stop) calls → calls ≡ c ∷ rest → Step C n c.request c.answer D → TakesTurn t last C n D rows stop rest
    unfolding position_of said_of
    take_turn {calls = calls} C n D rows (at_rest s said) c rest a e step = let none = no_more s said calls a in absurd (cc (e, none))
    take_turn {calls = calls} C n D rows (at_port r w left said) c rest a e step = hear C n D rows r w left said calls c rest a e step

    data NextTurn (C : Core) (n : ℕ) (D : Core) (events : List (Event Request Answer)) (jobs : List (Job State)) (rows : Rows State Waiting Request) (finishes : List (Finish State)) : Type 0 where
      next_turn : (new : Rows State Waiting Request) → Turn Local Resume Step C rows n D new → AllAhead events jobs new finishes → NextTurn C n D events jobs rows finishes

    find_turn : {C D : Core} (e : Event Request Answer) {events : List (Event Request Answer)} {jobs : List (Job State)} {rows : Rows State Waiting Request} {finishes : List (Finish State)} → Step C e.session e.call.request e.call.answer D → AllDiffer (numbers_of jobs) → AllAhead (e ∷ events) jobs rows finishes → In e.session (numbers_of jobs) → NextTurn C e.session D events jobs rows finishes
    find_turn e step differ none_is i = absurd i
    find_turn {C} {D} e {events} step differ (one_is {n = n} {s = s} {t = t} {lines = lines} {last = last} {stop = stop} {jobs = jobs} {rows = rows} {finishes = finishes} a more) (inl same) =
        elim (take_turn C n D rows stop e.call (calls_of n events) a (calls_first n e events (sym same)) (subst (λ m. Step C m e.call.request e.call.answer D) (sym same) step)) [
          | takes_turn next turn b ↦ subst (λ m. NextTurn C m D events (job n s lines ∷ jobs) ((n, stop) ∷ rows) (finish t last ∷ finishes)) same (next_turn ((n, next) ∷ rows) turn (one_is b (ahead_later (λ i. differ.0 (subst (λ m. In m (numbers_of jobs)) (sym same) i)) more)))
        ]
    find_turn {C} {D} e {events} step differ (one_is {n = n} {t = t} {last = last} {stop = stop} {jobs = jobs} a more) (inr i) =
        let other : n ≢ e.session = λ same. differ.0 (subst (λ m. In m (numbers_of jobs)) (sym same) i) in
        elim (find_turn e step differ.1 more i) [
          | next_turn new turn b ↦ next_turn ((n, stop) ∷ new) (there other turn) (one_is (subst (λ cs. Ahead t last (position_of stop) (said_of stop) cs) (calls_passed n e events (λ same. other (sym same))) a) b)
        ]

    -- Events, the first one first.
    data Follow : Core → List (Event Request Answer) → Core → Type 0 where
      nothing_follows : {C : Core} → Follow C [] C
      one_follows : {C D E : Core} {events : List (Event Request Answer)} (e : Event Request Answer) → Step C e.session e.call.request e.call.answer D → Follow D events E → Follow C (e ∷ events) E

    follow : {C D E : Core} {events : List (Event Request Answer)} → Happens Step C events D → {more : List (Event Request Answer)} → Follow D more E → Follow C (events ++ more) E
    follow nothing f = f
    follow {C} {E = E} (one_more {events = events} n c h step) {more} f =
        subst (λ es. Follow C es E) (sym (append_assoc events (record { session = n; call = c } ∷ []) more)) (follow h (one_follows (record { session = n; call = c }) step f))

    data TurnsOn (C : Core) (order : List ℕ) (D : Core) (jobs : List (Job State)) (rows : Rows State Waiting Request) (finishes : List (Finish State)) : Type 0 where
      turns_on : (last : Rows State Waiting Request) → Turns Local Resume Step C rows order D last → Ended Local Resume last finishes → TurnsOn C order D jobs rows finishes

    turn_all : {C D : Core} {events : List (Event Request Answer)} {jobs : List (Job State)} {rows : Rows State Waiting Request} {finishes : List (Finish State)} → Follow C events D → AllDiffer (numbers_of jobs) → AllByRecursion (λ e. In e.session (numbers_of jobs)) events → AllAhead events jobs rows finishes → TurnsOn C (order_of events) D jobs rows finishes
    turn_all {rows = rows} nothing_follows differ known a = turns_on rows none_is_left (all_end a)
    turn_all (one_follows e step f) differ known a =
        elim (find_turn e step differ a known.0) [ next_turn new turn b ↦ elim (turn_all f differ known.1 b) [ turns_on last turns ended ↦ turns_on last (one_turn turn turns) ended ] ]

    to_recursion : (ns : List ℕ) (es : List (Event Request Answer)) → All (λ n. In n ns) (order_of es) → AllByRecursion (λ e. In e.session ns) es
    to_recursion ns [] all = tt
    to_recursion ns (e ∷ es) all = (all 0 e.session (omega arith), to_recursion ns es (λ k d small. all (suc k) d (omega (arith, small))))

    pub rounds_are_turns : (C D : Core) (jobs : List (Job State)) (order : List ℕ) (finishes : List (Finish State)) → AllDiffer (numbers_of jobs) → All (λ n. In n (numbers_of jobs)) order → RoundOf Local Resume Step C jobs order D finishes → RoundByTurns Local Resume Step C jobs order D finishes
    rounds_are_turns C D jobs order finishes differ known r =
        let events = r.events in
        let f = subst (λ es. Follow C es D) (append-nil events) (follow r.steps nothing_follows) in
        let known' = to_recursion (numbers_of jobs) events (subst (λ o. All (λ n. In n (numbers_of jobs)) o) (sym r.ordered) known) in
        elim (begin_all r.runs) [
          | beginning rows started ahead ↦
              elim (turn_all f differ known' ahead) [
                | turns_on last turns ended ↦
                    record { first = rows; last = last; started = started; turns = subst (λ o. Turns Local Resume Step C rows o D last) r.ordered turns; ended = ended }
              ]
        ]

    -- From turns to events

    runs_at_start : {jobs : List (Job State)} {rows : Rows State Waiting Request} → Started Local Resume jobs rows → RunsOf [] jobs rows
    runs_at_start none_starts = none_was
    runs_at_start (one_starts g more) = one_was (goes_to g begins) (runs_at_start more)

    runs_but_one : {events : List (Event Request Answer)} {jobs : List (Job State)} {rows : Rows State Waiting Request} (m : ℕ) (c : Call Request Answer) → ¬ In m (numbers_of jobs) → RunsOf events jobs rows → RunsOf (events ++ record { session = m; call = c } ∷ []) jobs rows
    runs_but_one m c out none_was = none_was
    runs_but_one {events} m c out (one_was {n = n} {s = s} {lines = lines} {stop = stop} r more) =
        let apart : m ≢ n = λ same. out (inl (sym same)) in
        let differ : nat_eq m n ≡ false = grind (arith, apart) in
        one_was (subst (λ cs. Runs Local Resume s lines cs (said_of stop) (position_of stop)) (sym (calls_of_other n m c events differ)) r) (runs_but_one m c (λ i. out (inr i)) more)

    -- One more turn.
    data Adds (events : List (Event Request Answer)) (jobs : List (Job State)) (C : Core) (n : ℕ) (D : Core) (new : Rows State Waiting Request) : Type 0 where
      adds : (c : Call Request Answer) → Step C n c.request c.answer D → RunsOf (events ++ record { session = n; call = c } ∷ []) jobs new → In n (numbers_of jobs) → Adds events jobs C n D new

    turn_adds : {events : List (Event Request Answer)} {C D : Core} {n : ℕ} {rows new : Rows State Waiting Request} → Turn Local Resume Step C rows n D new → {jobs : List (Job State)} → AllDiffer (numbers_of jobs) → RunsOf events jobs rows → Adds events jobs C n D new
    unfolding position_of said_of
    turn_adds {events} (here {n = n} {r = q} {left = left} {said = said} {more = out} {s = t} {stop = stop} a step d g) differ (one_was {s = s} {lines = lines} r more) =
        let c : Call Request Answer = record { request = q; answer = a } in
        adds c step (one_was (goes_to g (subst (λ cs. Runs Local Resume s lines cs (said ++ out) (ready t left)) (sym (calls_of_own n c events)) (is_answered a r d))) (runs_but_one n c differ.0 more)) (inl refl)
    turn_adds {events} (there {n = n} {m = m} {stop = stop} other turn) differ (one_was {s = s} {lines = lines} r more) =
        let apart : nat_eq n m ≡ false = grind (arith, other) in
        elim (turn_adds turn differ.1 more) [ adds c step all i ↦ adds c step (one_was (subst (λ cs. Runs Local Resume s lines cs (said_of stop) (position_of stop)) (sym (calls_of_other m n c events apart)) r) all) (inr i) ]

    ended_each : {events : List (Event Request Answer)} {rows : Rows State Waiting Request} {finishes : List (Finish State)} {jobs : List (Job State)} → Ended Local Resume rows finishes → RunsOf events jobs rows → EachJob Local Resume events jobs finishes
    unfolding position_of said_of
    ended_each none_ends none_was = no_job
    ended_each (one_ends more) (one_was r rest) = one_job r (ended_each more rest)

    data Rounded (C : Core) (jobs : List (Job State)) (order : List ℕ) (D : Core) (last : Rows State Waiting Request) : Type 0 where
      rounded : (events : List (Event Request Answer)) → order_of events ≡ order → Happens Step C events D → RunsOf events jobs last → Rounded C jobs order D last

    by_turns : {C D : Core} {order : List ℕ} {rows last : Rows State Waiting Request} → Turns Local Resume Step D rows order C last → {B : Core} {jobs : List (Job State)} {events : List (Event Request Answer)} → AllDiffer (numbers_of jobs) → Happens Step B events D → RunsOf events jobs rows → Rounded B jobs (order_of events ++ order) C last
    by_turns none_is_left {events = events} differ h b = rounded events (sym (append-nil (order_of events))) h b
    by_turns {C} {last = last} (one_turn {n = n} {order = order} turn turns) {B = B} {jobs = jobs} {events = events} differ h b =
        elim (turn_adds turn differ b) [
          | adds c step b' i ↦
              let e : Event Request Answer = record { session = n; call = c } in
              let split : order_of (events ++ e ∷ []) ++ order ≡ order_of events ++ (n ∷ order) = ap (λ o. o ++ order) (map-append (λ e. e.session) events (e ∷ [])) ∙ append_assoc (order_of events) (n ∷ []) order in
              subst (λ o. Rounded B jobs o C last) split (by_turns turns differ (one_more n c h step) b')
        ]

    pub turns_are_rounds : (C D : Core) (jobs : List (Job State)) (order : List ℕ) (finishes : List (Finish State)) → AllDiffer (numbers_of jobs) → RoundByTurns Local Resume Step C jobs order D finishes → RoundOf Local Resume Step C jobs order D finishes
    turns_are_rounds C D jobs order finishes differ r =
        elim (by_turns r.turns differ nothing (runs_at_start r.started)) [
          | rounded events ordered h b ↦
              record { events = events; ordered = ordered; steps = h; runs = ended_each r.ended b }
        ]
