-- Turns in a list of seats.
use Rattle.std.proofs.Common.{ℕ, zero, suc, ◌+◌, ◌<◌, ◌≤◌, ◌≡◌, ◌≢◌, Bool, true, false, refl, sym, ap, subst, ◌∙◌, List, [], ◌∷◌, ◌++◌, length, slice_set, slice_get, get_or, nat_eq, Option, Some, None, Result, Ok, Err, IfOk, is_some, arith, All}
use Rattle.std.proofs.lemmas.Option.{slice_get-get_or, slice_get_within}
use Rattle.std.proofs.lemmas.List.{map-append, length-set}
use Rattle.std.proofs.lemmas.List.Elements.{All-push}
use Rattle.pts_play.specs.Machines.{Outcome, Call, Event, Runs, Happens, one_more}
use Rattle.pts_play.specs.Rounds.{calls_of, order_of}
use Rattle.pts_play.specs.declared.seat.Seat.{Seat}
use Rattle.pts_play.specs.Seats.{position_of, Rests, RunsOnBy, Turn, passed_over, taken}
use Rattle.pts_play.specs.Turns.{waits_in, is_waiting_at, TurnAt, passed_at, taken_at, RunSoFar, none_runs, one_runs, AllRest, AllFit, InRound}

pub same_some : {X : Type 0} {x y : X} → Some x ≡ Some y → x ≡ y
same_some e = cc e

-- An element in its own place changes nothing.
pub set_same : {X : Type 0} (xs : List X) (i : ℕ) (x : X) → slice_get xs i ≡ Some x → slice_set xs i x ≡ xs
set_same [] i x e = absurd (cc e)
set_same (y ∷ xs) zero x e = ap (λ z. z ∷ xs) (sym (same_some e))
set_same (y ∷ xs) (suc i) x e = ap (λ zs. y ∷ zs) (set_same xs i x e)

-- The calls of a session after one more event.
pub calls_of_own : {Q A : Type 0} (n : ℕ) (c : Call Q A) (es : List (Event Q A)) → calls_of n (es ++ record { session = n; call = c } ∷ []) ≡ calls_of n es ++ c ∷ []
calls_of_own n c [] = grind arith
calls_of_own n c (e ∷ es) = grind (arith, calls_of_own n c es)

pub calls_of_other : {Q A : Type 0} (n m : ℕ) (c : Call Q A) (es : List (Event Q A)) → nat_eq m n ≡ false → calls_of n (es ++ record { session = m; call = c } ∷ []) ≡ calls_of n es
calls_of_other n m c [] differ = grind arith
calls_of_other n m c (e ∷ es) differ = grind (arith, calls_of_other n m c es differ)

module _ {P Q A C : Type 0} (Local : P → List ℕ → Outcome P P Q → Type 0) (Resume : P → A → List (List ℕ) → P → Type 0) (Step : C → ℕ → Q → A → C → Type 0) (free : P → Type 0) (awaits : P → Q → Type 0) (fits : P → C → Type 0) where
  pub rest_at : (seats : List (Seat P Q)) (i : ℕ) (s : Seat P Q) → slice_get seats i ≡ Some s → AllRest free awaits seats → Rests free awaits s
  rest_at [] i s e r = absurd (cc e)
  rest_at (t ∷ seats) zero s e r = subst (λ o. Rests free awaits o) (same_some e) r.0
  rest_at (t ∷ seats) (suc i) s e r = rest_at seats i s e r.1

  pub fit_at : (core : C) (seats : List (Seat P Q)) (i : ℕ) (s : Seat P Q) → slice_get seats i ≡ Some s → AllFit fits core seats → fits s.player core
  fit_at core [] i s e r = absurd (cc e)
  fit_at core (t ∷ seats) zero s e r = subst (λ o. fits o.player core) (same_some e) r.0
  fit_at core (t ∷ seats) (suc i) s e r = fit_at core seats i s e r.1

  pub rest_set : (seats : List (Seat P Q)) (i : ℕ) (t : Seat P Q) → Rests free awaits t → AllRest free awaits seats → AllRest free awaits (slice_set seats i t)
  rest_set [] i t r all = tt
  rest_set (s ∷ seats) zero t r all = (r, all.1)
  rest_set (s ∷ seats) (suc i) t r all = (all.0, rest_set seats i t r all.1)

  pub fit_set : (core : C) (seats : List (Seat P Q)) (i : ℕ) (t : Seat P Q) → fits t.player core → AllFit fits core seats → AllFit fits core (slice_set seats i t)
  fit_set core [] i t r all = tt
  fit_set core (s ∷ seats) zero t r all = (r, all.1)
  fit_set core (s ∷ seats) (suc i) t r all = (all.0, fit_set core seats i t r all.1)

  -- The other sessions after an event.
  pub fit_later : ((s : P) (n : ℕ) (q : Q) (a : A) (X Y : C) → fits s X → Step X n q a Y → fits s Y) → (n : ℕ) (q : Q) (a : A) (core core' : C) → Step core n q a core' → (seats : List (Seat P Q)) → AllFit fits core seats → AllFit fits core' seats
  fit_later law n q a core core' step [] all = tt
  fit_later law n q a core core' step (s ∷ seats) all = (law s.player n q a core core' all.0 step, fit_later law n q a core core' step seats all.1)

  -- The turn of a seat is a turn of the list.
  pub seat_turn : (seats : List (Seat P Q)) (i : ℕ) (s t : Seat P Q) (b : Bool) (core core' : C) → slice_get seats i ≡ Some s → Turn Local Resume Step free awaits fits (suc i) core s b core' t → TurnAt Local Resume Step free awaits fits i core seats b core' (slice_set seats i t)
  seat_turn seats i s t b core core' here (passed_over none) = subst (λ xs. TurnAt Local Resume Step free awaits fits i core seats false core xs) (sym (set_same seats i s here)) (passed_at (ap (λ o. waits_in o) here ∙ ap (λ o. is_some o) none))
  seat_turn seats i s t b core core' here (taken c asking step on rests fit less) = taken_at s here (taken c asking step on rests fit less)

  pub seat_turn_ok : {E : Type 0} (r : Result Bool E) (seats : List (Seat P Q)) (i n : ℕ) (s t : Seat P Q) (core core' : C) → n ≡ suc i → slice_get seats i ≡ Some s → IfOk r (λ b. Turn Local Resume Step free awaits fits n core s b core' t) → IfOk r (λ b. TurnAt Local Resume Step free awaits fits i core seats b core' (slice_set seats i t))
  seat_turn_ok (Ok b) seats i n s t core core' number here turn = seat_turn seats i s t b core core' here (subst (λ m. Turn Local Resume Step free awaits fits m core s b core' t) number turn)
  seat_turn_ok (Err e) seats i n s t core core' number here turn = tt

  -- After an event of a session with a lesser number.
  pub far_elsewhere : (events : List (Event Q A)) (m n : ℕ) (c : Call Q A) (starts seats : List (Seat P Q)) → m < n → RunSoFar Local Resume events n starts seats → RunSoFar Local Resume (events ++ record { session = m; call = c } ∷ []) n starts seats
  far_elsewhere events m n c [] [] less none_runs = none_runs
  far_elsewhere events m n c [] (t ∷ ts) less far = elim far [ ]
  far_elsewhere events m n c (s ∷ ss) [] less far = elim far [ ]
  far_elsewhere events m n c (s ∷ ss) (t ∷ ts) less (one_runs r rest) =
      let differ : nat_eq m n ≡ false = grind arith in
      one_runs (subst (λ cs. Runs Local Resume s.player s.lines.items cs t.replies.items (position_of t)) (sym (calls_of_other n m c events differ)) r) (far_elsewhere events m (suc n) c ss ts (omega (arith, less)) rest)

  -- After a call of the session at an index.
  pub far_at : (events : List (Event Q A)) (n i m : ℕ) (c : Call Q A) (starts seats : List (Seat P Q)) (s t : Seat P Q) → m ≡ n + i → slice_get seats i ≡ Some s → RunsOnBy Local Resume s c t → RunSoFar Local Resume events n starts seats → RunSoFar Local Resume (events ++ record { session = m; call = c } ∷ []) n starts (slice_set seats i t)
  far_at events n i m c [] [] s t e here on none_runs = absurd (cc here)
  far_at events n i m c [] (x ∷ xs) s t e here on far = elim far [ ]
  far_at events n zero m c (u ∷ us) [] s t e here on far = elim far [ ]
  far_at events n (suc i) m c (u ∷ us) [] s t e here on far = elim far [ ]
  far_at events n zero m c (u ∷ us) (x ∷ xs) s t e here on (one_runs r rest) =
      let same : m ≡ n = omega (arith, e) in
      let r1 = on u.player u.lines.items (calls_of n events) (subst (λ y. Runs Local Resume u.player u.lines.items (calls_of n events) y.replies.items (position_of y)) (same_some here) r) in
      let r2 = subst (λ cs. Runs Local Resume u.player u.lines.items cs t.replies.items (position_of t)) (sym (calls_of_own n c events)) r1 in
      let r3 = subst (λ k. Runs Local Resume u.player u.lines.items (calls_of n (events ++ record { session = k; call = c } ∷ [])) t.replies.items (position_of t)) (sym same) r2 in
      one_runs r3 (far_elsewhere events m (suc n) c us xs (omega (arith, e)) rest)
  far_at events n (suc i) m c (u ∷ us) (x ∷ xs) s t e here on (one_runs r rest) =
      let differ : nat_eq m n ≡ false = grind (arith, e) in
      one_runs (subst (λ cs. Runs Local Resume u.player u.lines.items cs x.replies.items (position_of x)) (sym (calls_of_other n m c events differ)) r) (far_at events (suc n) i m c us xs s t (omega (arith, e)) here on rest)

  -- A round so far goes on by a turn.
  pub goes_further : ((s : P) (n : ℕ) (q : Q) (a : A) (X Y : C) → fits s X → Step X n q a Y → fits s Y) → (start : C) (starts seats seats' : List (Seat P Q)) (core core' : C) (i : ℕ) (order : List ℕ) → TurnAt Local Resume Step free awaits fits i core seats true core' seats' → InRound Local Resume Step start starts core seats order → InRound Local Resume Step start starts core' seats' (order ++ suc i ∷ [])
  goes_further law start starts seats seats' core core' i order (taken_at {t = t} s here (taken c asking step on rests fit less)) p = record {
    events = p.events ++ record { session = suc i; call = c } ∷ [];
    ordered = ap (λ xs. xs ++ suc i ∷ []) p.ordered ∙ sym (map-append (λ e. e.session) p.events (record { session = suc i; call = c } ∷ []));
    steps = one_more (suc i) c p.steps step;
    runs = far_at p.events 1 i (suc i) c starts seats s t (omega arith) here on p.runs;
    known = let grown = length-set seats i t in let before : All (λ n. (1 ≤ n) × (n ≤ length (slice_set seats i t))) order = λ k d small. let w = p.known k d small in (w.0, let m = w.1 in omega (arith, m, grown)) in All-push (λ n. (1 ≤ n) × (n ≤ length (slice_set seats i t))) order (suc i) before (omega arith, let l = slice_get_within seats i s here in omega (arith, l, grown));
  }
