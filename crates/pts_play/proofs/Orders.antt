-- What turns do to the order of a round.
use Rattle.std.proofs.Common.{ℕ, zero, suc, ◌+◌, ◌<◌, ◌≤◌, ◌≡◌, ◌≢◌, ◌⊎◌, inl, inr, Bool, true, false, refl, sym, ap, subst, ◌∙◌, List, [], ◌∷◌, ◌++◌, length, slice_set, slice_get, Option, Some, None, is_some, arith, Contains, All}
use Rattle.std.proofs.lemmas.List.Elements.{All-cons}
use Rattle.std.proofs.lemmas.List.{append_assoc, length-set}
use Rattle.pts_play.specs.Machines.{Outcome, Call}
use Rattle.pts_play.specs.Rounds.{OrderFrom, is_next, passes_over, used_up, Rising, least}
use Rattle.pts_play.specs.declared.seat.Seat.{Seat}
use Rattle.pts_play.specs.Seats.{Rests, Turn, taken, rank}
use Rattle.pts_play.specs.Turns.{waits_in, is_waiting_at, TurnAt, passed_at, taken_at, AllRest, AllFit, InRound, Turned, Promises, RisesFrom, rank_in, rank_at}
use Rattle.pts_play.proofs.Seated.{rest_set, fit_set, fit_later, goes_further}

-- The other elements where one is changed.
pub set_other : {X : Type 0} (xs : List X) (i j : ℕ) (x : X) → (j ≡ i) ⊎ (slice_get (slice_set xs i x) j ≡ slice_get xs j)
set_other [] i j x = inr refl
set_other (y ∷ xs) zero zero x = inl refl
set_other (y ∷ xs) zero (suc j) x = inr refl
set_other (y ∷ xs) (suc i) zero x = inr refl
set_other (y ∷ xs) (suc i) (suc j) x = elim (set_other xs i j x) [ inl e ↦ inl (ap suc e) | inr e ↦ inr e ]

pub waits_other : {P Q : Type 0} (seats : List (Seat P Q)) (i m : ℕ) (t : Seat P Q) → (m ≡ suc i) ⊎ (is_waiting_at (slice_set seats i t) m ≡ is_waiting_at seats m)
waits_other seats i zero t = inr refl
waits_other seats i (suc j) t = elim (set_other seats i j t) [ inl e ↦ inl (ap suc e) | inr e ↦ inr (ap waits_in e) ]

pub no_longer : {P Q : Type 0} (seats : List (Seat P Q)) (i : ℕ) (t : Seat P Q) → is_waiting_at seats (suc i) ≡ true → (m : ℕ) → is_waiting_at seats m ≡ false → is_waiting_at (slice_set seats i t) m ≡ false
no_longer seats i t here m ends = elim (waits_other seats i m t) [ inl e ↦ absurd (cc (here, ends, e)) | inr e ↦ e ∙ ends ]

pub still : {P Q : Type 0} (seats : List (Seat P Q)) (i : ℕ) (t : Seat P Q) → is_waiting_at seats (suc i) ≡ true → (m : ℕ) → is_waiting_at (slice_set seats i t) m ≡ true → is_waiting_at seats m ≡ true
still seats i t here m waiting = elim (waits_other seats i m t) [ inl e ↦ subst (λ k. is_waiting_at seats k ≡ true) (sym e) here | inr e ↦ sym e ∙ waiting ]

-- An order of waiting sessions has none that doesn't wait.
pub not_there : {P Q : Type 0} (seats : List (Seat P Q)) (n : ℕ) (rest : List ℕ) → is_waiting_at seats n ≡ false → All (λ n. is_waiting_at seats n ≡ true) rest → ¬ Contains rest n
not_there seats n rest ends all there = let w = all there.0 n there.1 in let e = there.2 in absurd (cc (ends, w, e))

pub set_there : {X : Type 0} (xs : List X) (i : ℕ) (s t : X) → slice_get xs i ≡ Some s → slice_get (slice_set xs i t) i ≡ Some t
set_there [] i s t e = absurd (cc e)
set_there (x ∷ xs) zero s t e = refl
set_there (x ∷ xs) (suc i) s t e = set_there xs i s t e

pub below_or : (k i : ℕ) → k < i + 1 → (k < i) ⊎ (k ≡ i)
below_or zero zero small = inr refl
below_or (suc k) zero small = absurd (omega (arith, small))
below_or zero (suc i) small = inl (omega arith)
below_or (suc k) (suc i) small = elim (below_or k i (omega (arith, small))) [ inl l ↦ inl (omega (arith, l)) | inr e ↦ inr (ap suc e) ]

-- One more session has ended.
pub ended_next : {P Q : Type 0} (seats : List (Seat P Q)) (i n : ℕ) → n ≡ suc i → ((k : ℕ) → k < i → is_waiting_at seats (suc k) ≡ false) → is_waiting_at seats n ≡ false → (k : ℕ) → k < i + 1 → is_waiting_at seats (suc k) ≡ false
ended_next seats i n number before this k small = elim (below_or k i small) [ inl l ↦ before k l | inr e ↦ subst (λ m. is_waiting_at seats m ≡ false) (number ∙ ap suc (sym e)) this ]

module _ {P Q A C : Type 0} (Local : P → List ℕ → Outcome P P Q → Type 0) (Resume : P → A → List (List ℕ) → P → Type 0) (Step : C → ℕ → Q → A → C → Type 0) (free : P → Type 0) (awaits : P → Q → Type 0) (fits : P → C → Type 0) where
  -- A session whose turn is taken has waited.
  pub waited : (core core' : C) (seats seats' : List (Seat P Q)) (i : ℕ) → TurnAt Local Resume Step free awaits fits i core seats true core' seats' → is_waiting_at seats (suc i) ≡ true
  waited core core' seats seats' i (taken_at s here (taken c asking step on rests fit less)) = ap waits_in here ∙ ap is_some asking

  pub goes_taken : ((s : P) (n : ℕ) (q : Q) (a : A) (X Y : C) → fits s X → Step X n q a Y → fits s Y) → (core core' : C) (seats seats' : List (Seat P Q)) (i n : ℕ) (b : Bool) (order order' : List ℕ) → TurnAt Local Resume Step free awaits fits i core seats b core' seats' → b ≡ true → AllRest free awaits seats → AllFit fits core seats → order' ≡ order ++ n ∷ [] → n ≡ suc i → Turned Local Resume Step free awaits fits core seats order core' seats' order'
  goes_taken law core core' seats seats' i n b order order' (passed_at e) is rest fit more number = absurd (cc is)
  goes_taken law core core' seats seats' i n b order order' (taken_at {t = t} s here (taken c asking step on rests fit less)) is rest fits_all more number = record {
    plays = λ start starts p. subst (λ o. InRound Local Resume Step start starts core' (slice_set seats i t) o) (sym (more ∙ ap (λ k. order ++ k ∷ []) number)) (goes_further Local Resume Step free awaits fits law start starts seats (slice_set seats i t) core core' i order (taken_at s here (taken c asking step on rests fit less)) p);
    long = length-set seats i t;
    rests = rest_set Local Resume Step free awaits fits seats i t rests rest;
    fit = fit_set Local Resume Step free awaits fits core' seats i t fit (fit_later Local Resume Step free awaits fits law (suc i) c.request c.answer core core' step seats fits_all);
    ended = no_longer seats i t (ap waits_in here ∙ ap is_some asking);
  }

  pub goes_passed : (core core' : C) (seats seats' : List (Seat P Q)) (i : ℕ) (b : Bool) (order : List ℕ) → TurnAt Local Resume Step free awaits fits i core seats b core' seats' → b ≡ false → AllRest free awaits seats → AllFit fits core seats → Turned Local Resume Step free awaits fits core seats order core' seats' order
  goes_passed core core' seats seats' i b order (passed_at e) is rest fit = record { plays = λ start starts p. p; long = refl; rests = rest; fit = fit; ended = λ m e. e }
  goes_passed core core' seats seats' i b order (taken_at s here turn) is rest fit = absurd (cc is)

  pub promises_taken : (core core' : C) (seats seats' : List (Seat P Q)) (i n : ℕ) (b : Bool) (order order' : List ℕ) (numbers : List ℕ) (before later : List ℕ → Type 0) → TurnAt Local Resume Step free awaits fits i core seats b core' seats' → b ≡ true → order' ≡ order ++ n ∷ [] → n ≡ suc i → ((rest : List ℕ) → later rest → before (n ∷ rest)) → Promises numbers before seats order → Promises numbers later seats' order'
  promises_taken core core' seats seats' i n b order order' numbers before later (passed_at e) is more number on promised rest all should = absurd (cc is)
  promises_taken core core' seats seats' i n b order order' numbers before later (taken_at {t = t} s here (taken c asking step going rests fit less)) is more number on promised rest all should =
      let waiting : is_waiting_at seats (suc i) ≡ true = ap waits_in here ∙ ap is_some asking in
      let old : All (λ m. is_waiting_at seats m ≡ true) rest = λ k d small. still seats i t waiting _ (all k d small) in
      let new = All-cons (λ m. is_waiting_at seats m ≡ true) n rest (subst (λ k. is_waiting_at seats k ≡ true) (sym number) waiting) old in
      let made_from = promised (n ∷ rest) new (on rest should) in
      subst (λ o. OrderFrom numbers o) (sym (ap (λ o. o ++ rest) more ∙ append_assoc order (n ∷ []) rest)) made_from

  pub promises_passed : (core core' : C) (seats seats' : List (Seat P Q)) (i n : ℕ) (b : Bool) (order : List ℕ) (numbers left : List ℕ) → TurnAt Local Resume Step free awaits fits i core seats b core' seats' → b ≡ false → n ≡ suc i → Promises numbers (OrderFrom (n ∷ left)) seats order → Promises numbers (OrderFrom left) seats' order
  promises_passed core core' seats seats' i n b order numbers left (passed_at e) is number promised rest all should = promised rest all (passes_over (not_there seats n rest (ap (λ k. is_waiting_at seats k) number ∙ e) all) should)
  promises_passed core core' seats seats' i n b order numbers left (taken_at s here turn) is number promised rest all should = absurd (cc is)

  -- Turns after turns.
  pub runs_on : (core core' core'' : C) (seats seats' seats'' : List (Seat P Q)) (order order' order'' : List ℕ) → Turned Local Resume Step free awaits fits core seats order core' seats' order' → Turned Local Resume Step free awaits fits core' seats' order' core'' seats'' order'' → Turned Local Resume Step free awaits fits core seats order core'' seats'' order''
  runs_on core core' core'' seats seats' seats'' order order' order'' a b = record { plays = λ start starts p. b.plays start starts (a.plays start starts p); long = b.long ∙ a.long; rests = b.rests; fit = b.fit; ended = λ n e. b.ended n (a.ended n e) }

  pub goes_none : (core : C) (seats : List (Seat P Q)) (order : List ℕ) → AllRest free awaits seats → AllFit fits core seats → Turned Local Resume Step free awaits fits core seats order core seats order
  goes_none core seats order rest fit = record { plays = λ start starts p. p; long = refl; rests = rest; fit = fit; ended = λ m e. e }

  -- An order that rises from a later number rises from an earlier one.
  pub rises_later : (n : ℕ) (rest : List ℕ) → RisesFrom (n + 1) rest → RisesFrom n rest
  rises_later n rest r = (r.0, λ k d small. let l = r.1 k d small in omega (arith, l))

  pub rises_more : (n : ℕ) (rest : List ℕ) → RisesFrom n rest → RisesFrom n (n ∷ rest)
  rises_more n rest r = (least r.1 r.0, All-cons (λ m. n ≤ m) n rest (omega arith) r.1)

  -- A turn lowers the rank of its seat.
  pub rank_falls : (core core' : C) (seats seats' : List (Seat P Q)) (i : ℕ) (b : Bool) → TurnAt Local Resume Step free awaits fits i core seats b core' seats' → b ≡ true → rank_at seats' i < rank_at seats i
  rank_falls core core' seats seats' i b (passed_at e) is = absurd (cc is)
  rank_falls core core' seats seats' i b (taken_at {t = t} s here (taken c asking step on rests fit less)) is =
      let old : rank_at seats i ≡ rank s = ap rank_in here in
      let new : rank_at (slice_set seats i t) i ≡ rank t = ap rank_in (set_there seats i s t here) in
      omega (arith, old, new, less)

  -- Where a turn is passed over, the seat doesn't wait.
  pub ends_at : (core core' : C) (seats seats' : List (Seat P Q)) (i n : ℕ) (b : Bool) → TurnAt Local Resume Step free awaits fits i core seats b core' seats' → b ≡ false → n ≡ suc i → is_waiting_at seats' n ≡ false
  ends_at core core' seats seats' i n b (passed_at e) is number = ap (λ k. is_waiting_at seats k) number ∙ e
  ends_at core core' seats seats' i n b (taken_at s here turn) is number = absurd (cc is)

  pub same_seats : (core core' : C) (seats seats' : List (Seat P Q)) (i : ℕ) (b : Bool) → TurnAt Local Resume Step free awaits fits i core seats b core' seats' → b ≡ false → seats' ≡ seats
  same_seats core core' seats seats' i b (passed_at e) is = refl
  same_seats core core' seats seats' i b (taken_at s here turn) is = absurd (cc is)
