-- The calls of workers, put in the order of the history, are the events of one thread.
use Rattle.std.proofs.Common.{ℕ, ◌≤◌, ◌≡◌, ◌≢◌, inl, inr, Bool, true, false, refl, sym, ap, subst, ◌∙◌, List, [], ◌∷◌, ◌++◌, length, nat_eq, if◌then◌else◌, arith, append_assoc, append-nil, length-append}
use Rattle.std.proofs.lemmas.List.{map-append}
use Rattle.std.specs.List.{AllByRecursion}
use Rattle.pts_play.specs.Machines.{Outcome, Call, Event, ready, Runs, Happens, nothing, one_more}
use Rattle.pts_play.specs.Rounds.{calls_of, order_of}
use Rattle.pts_play.proofs.Seated.{calls_of_own, calls_of_other}
use Rattle.pts_names.specs.Lists.{In, AllDiffer}
use Rattle.pts_play.specs.Ports.{History, owners, NoneOf, Steps, Grows, Job, Finish, numbers_of, Makes, no_call, one_call, PortStep, HasCalled, EachJob, no_job, one_job, RoundOf, Joined, no_worker, one_worker}

-- Lists from their ends

data Built {X : Type 0} : List X → Type 0 where
  built_empty : Built []
  built_more : {xs : List X} (x : X) → Built xs → Built (xs ++ x ∷ [])

built_on : {X : Type 0} (xs ys : List X) → Built xs → Built (xs ++ ys)
built_on xs [] b = subst Built (sym (append-nil xs)) b
built_on xs (y ∷ ys) b = subst Built (append_assoc xs (y ∷ []) ys) (built_on (xs ++ y ∷ []) ys (built_more y b))

built : {X : Type 0} (xs : List X) → Built xs
built xs = built_on [] xs built_empty

-- Two lists that end by an element are the same before it, and so are the elements.
last_same : {X : Type 0} (xs ys : List X) (x y : X) → xs ++ x ∷ [] ≡ ys ++ y ∷ [] → (xs ≡ ys) × (x ≡ y)
last_same [] [] x y e = (refl, cc e)
last_same [] (z ∷ []) x y e = absurd (cc e)
last_same [] (z ∷ w ∷ ys) x y e = absurd (cc e)
last_same (z ∷ []) [] x y e = absurd (cc e)
last_same (z ∷ w ∷ xs) [] x y e = absurd (cc e)
last_same (z ∷ xs) (w ∷ ys) x y e =
    let first : z ≡ w = cc e in
    let k = last_same xs ys x y (cc e) in
    (ap (λ l. z ∷ l) k.0 ∙ ap (λ v. v ∷ ys) first, k.1)

-- Calls through ports

module _ {Entry : Type 0} where
  none_last : (n : ℕ) (h : History Entry) (x : ℕ × Entry) → NoneOf n (h ++ x ∷ []) → NoneOf n h × (x.0 ≢ n)
  none_last n [] x none = (tt, none.0)
  none_last n (y ∷ h) x none = let k = none_last n h x none.1 in ((none.0, k.0), k.1)

module _ {Core Request Answer Entry : Type 0} (Step : Core → ℕ → Request → Answer → Core → Type 0) (at : History Entry → Core) where
  seen_longer : {n : ℕ} {opening seen : History Entry} {calls : List (Call Request Answer)} → Makes (PortStep Step at) n opening calls seen → length opening ≤ length seen
  seen_longer no_call = omega arith
  seen_longer {n} {opening} (one_call {D = seen} c before (between, e, none, is, step)) =
      let k = seen_longer before in
      let l = ap length is ∙ length-append (seen ++ between) ((n, e) ∷ []) in
      let m = length-append seen between in
      omega arith

  -- No new entry, no call.
  none_called : {n : ℕ} {opening seen : History Entry} {calls : List (Call Request Answer)} → Makes (PortStep Step at) n opening calls seen → (rest : History Entry) → seen ++ rest ≡ opening → calls ≡ []
  none_called no_call rest e = refl
  none_called {n} {opening} (one_call {D = seen} {E = new} c before (between, e, none, is, step)) rest same =
      let k = seen_longer before in
      let l = ap length is ∙ length-append (seen ++ between) ((n, e) ∷ []) in
      let m = length-append seen between in
      let o = length-append new rest in
      let p = ap length same in
      absurd (omega arith)

  -- The last call, of the session that made the last entry, and its calls before.
  data LastCall (n : ℕ) (opening now : History Entry) (x : ℕ × Entry) : List (Call Request Answer) → Type 0 where
    last_call : {calls : List (Call Request Answer)} (c : Call Request Answer) → HasCalled Step at n opening now calls → Step (at now) n c.request c.answer (at (now ++ x ∷ [])) → LastCall n opening now x (calls ++ c ∷ [])

  -- The last entry is that of its session's last call.
  made_last : {n : ℕ} {opening seen now rest : History Entry} {x : ℕ × Entry} {calls : List (Call Request Answer)} → Makes (PortStep Step at) n opening calls seen → Built rest → seen ++ rest ≡ now ++ x ∷ [] → NoneOf n rest → length opening ≤ length now → x.0 ≡ n → LastCall n opening now x calls
  made_last {seen = seen} {now = now} {x = x} called (built_more {xs = rest} y b) e none long mine =
      absurd ((none_last _ rest y none).1 (ap (λ z. z.0) (last_same (seen ++ rest) now y x (append_assoc seen rest (y ∷ []) ∙ e)).1 ∙ mine))
  made_last {n} {opening} {now = now} {x = x} no_call built_empty e none long mine =
      let k = ap length (sym (append-nil opening) ∙ e) in
      let l = length-append now (x ∷ []) in
      absurd (omega arith)
  made_last {n} {opening} {now = now} {x = x} (one_call {calls = calls} {D = seen} {E = new} c before (between, e, others, is, step)) built_empty same none long mine =
      let k = last_same (seen ++ between) now (n, e) x (sym is ∙ (sym (append-nil new) ∙ same)) in
      let has : HasCalled Step at n opening now calls = record { seen = seen; called = before; saw = (between, k.0, others) } in
      last_call c has (subst (λ z. Step (at now) n c.request c.answer (at (now ++ z ∷ []))) k.1 (subst (λ h. Step (at h) n c.request c.answer (at (h ++ (n, e) ∷ []))) k.0 (subst (λ g. Step (at (seen ++ between)) n c.request c.answer (at g)) is step)))

  -- For the other sessions nothing is new in the last entry.
  made_before : {n : ℕ} {opening seen now rest : History Entry} (x : ℕ × Entry) {calls : List (Call Request Answer)} → Makes (PortStep Step at) n opening calls seen → Built rest → seen ++ rest ≡ now ++ x ∷ [] → NoneOf n rest → length opening ≤ length now → x.0 ≢ n → HasCalled Step at n opening now calls
  made_before {seen = seen} {now = now} x called (built_more {xs = rest} y b) e none long other =
      record { seen = seen; called = called; saw = (rest, (last_same (seen ++ rest) now y x (append_assoc seen rest (y ∷ []) ∙ e)).0, (none_last _ rest y none).0) }
  made_before {n} {opening} {now = now} x no_call built_empty e none long other =
      let k = ap length (sym (append-nil opening) ∙ e) in
      let l = length-append now (x ∷ []) in
      absurd (omega arith)
  made_before {n} {opening} {now = now} x (one_call {calls = calls} {D = seen} {E = new} c before (between, e, others, is, step)) built_empty same none long other =
      let k = last_same (seen ++ between) now (n, e) x (sym is ∙ (sym (append-nil new) ∙ same)) in
      absurd (other (sym (ap (λ z. z.0) k.1)))

  -- Events

  -- Events in the order of the history, of which each session has its own calls.
  data Merged (opening rest : History Entry) (mine : ℕ → List (Call Request Answer)) : Type 0 where
    merged_so : (events : List (Event Request Answer)) → order_of events ≡ owners rest → Happens Step (at opening) events (at (opening ++ rest)) → ((n : ℕ) → calls_of n events ≡ mine n) → Merged opening rest mine

  but_for : ℕ → List (Call Request Answer) → (ℕ → List (Call Request Answer)) → ℕ → List (Call Request Answer)
  but_for n calls mine m = if nat_eq n m then calls else mine m

  merge_last : {n : ℕ} {opening rest : History Entry} (x : ℕ × Entry) (calls : List (Call Request Answer)) (mine : ℕ → List (Call Request Answer)) (c : Call Request Answer) → x.0 ≡ n → mine n ≡ calls ++ c ∷ [] → Step (at (opening ++ rest)) n c.request c.answer (at ((opening ++ rest) ++ x ∷ [])) → Merged opening rest (but_for n calls mine) → Merged opening (rest ++ x ∷ []) mine
  unfolding but_for
  merge_last {n} {opening} {rest} x calls mine c is whole step (merged_so events ordered happens each) =
      let events' = events ++ record { session = n; call = c } ∷ [] in
      let ordered' : order_of events' ≡ owners (rest ++ x ∷ []) =
      map-append (λ e. e.session) events (record { session = n; call = c } ∷ []) ∙ (ap (λ o. o ++ n ∷ []) ordered ∙ (ap (λ m. owners rest ++ m ∷ []) (sym is) ∙ sym (map-append (λ e. e.0) rest (x ∷ [])))) in
      let happens' = subst (λ h. Happens Step (at opening) events' (at h)) (append_assoc opening rest (x ∷ [])) (one_more n c happens step) in
      let choice : (m : ℕ) (b : Bool) → nat_eq n m ≡ b → calls_of m events' ≡ mine m =
      λ m b. elim b as (λ b. nat_eq n m ≡ b → calls_of m events' ≡ mine m) [ true ↦ λ e. let same : n ≡ m = grind (arith, e) in subst (λ k. calls_of k events' ≡ mine k) same (calls_of_own n c events ∙ (ap (λ l. l ++ c ∷ []) (each n ∙ grind arith) ∙ sym whole)) | false ↦ λ e. calls_of_other m n c events e ∙ (each m ∙ grind (arith, e)) ] in
      merged_so events' ordered' happens' (λ m. choice m (nat_eq n m) refl)

  with_last : (opening rest : History Entry) (x : ℕ × Entry) (mine : ℕ → List (Call Request Answer)) {last : List (Call Request Answer)} → mine x.0 ≡ last → LastCall x.0 opening (opening ++ rest) x last → ((n : ℕ) → x.0 ≢ n → HasCalled Step at n opening (opening ++ rest) (mine n)) → ((mine : ℕ → List (Call Request Answer)) → ((n : ℕ) → HasCalled Step at n opening (opening ++ rest) (mine n)) → Merged opening rest mine) → Merged opening (rest ++ x ∷ []) mine
  unfolding but_for
  with_last opening rest x mine whole (last_call {calls = calls} c has step) others before =
      let choice : (n : ℕ) (b : Bool) → nat_eq x.0 n ≡ b → HasCalled Step at n opening (opening ++ rest) (if b then calls else mine n) =
      λ n b. elim b as (λ b. nat_eq x.0 n ≡ b → HasCalled Step at n opening (opening ++ rest) (if b then calls else mine n)) [ true ↦ λ e. subst (λ k. HasCalled Step at k opening (opening ++ rest) calls) (grind (arith, e)) has | false ↦ λ e. others n (grind (arith, e)) ] in
      merge_last x calls mine c refl whole step (before (but_for x.0 calls mine) (λ n. choice n (nat_eq x.0 n) refl))

  merged_from : (opening : History Entry) {rest : History Entry} → Built rest → (mine : ℕ → List (Call Request Answer)) → ((n : ℕ) → HasCalled Step at n opening (opening ++ rest) (mine n)) → Merged opening rest mine
  merged_from opening built_empty mine all =
      merged_so [] refl (subst (λ h. Happens Step (at opening) [] (at h)) (sym (append-nil opening)) nothing) (λ n. let h = all n in sym (none_called h.called h.saw.0 (h.saw.1 ∙ append-nil opening)))
  merged_from opening (built_more {xs = rest} x b) mine all =
      let long : length opening ≤ length (opening ++ rest) = let l = length-append opening rest in omega (arith, l) in
      let split = sym (append_assoc opening rest (x ∷ [])) in
      let h = all x.0 in
      let last = made_last {x = x} h.called (built h.saw.0) (h.saw.1 ∙ split) h.saw.2 long refl in
      let others : (n : ℕ) → x.0 ≢ n → HasCalled Step at n opening (opening ++ rest) (mine n) =
      λ n other. let k = all n in made_before x k.called (built k.saw.0) (k.saw.1 ∙ split) k.saw.2 long other in
      with_last opening rest x mine refl last others (merged_from opening b)

-- Workers

module _ {Entry : Type 0} where
  -- No entry is of a session that owns none.
  none_of : (ns : List ℕ) (n : ℕ) (h : History Entry) → AllByRecursion (λ e. In e.0 ns) h → ¬ In n ns → NoneOf n h
  none_of ns n [] all out = tt
  none_of ns n (e ∷ h) all out = (λ same. out (subst (λ m. In m ns) same all.0), none_of ns n h all.1 out)

module _ {State Waiting Request Answer : Type 0} (Local : State → List ℕ → Outcome State Waiting Request → Type 0) (Resume : Waiting → Answer → List (List ℕ) → State → Type 0) {Core : Type 0} (Step : Core → ℕ → Request → Answer → Core → Type 0) {Entry : Type 0} (at : History Entry → Core) where
  -- The calls of the session with a number.
  mine_of : {opening closing : History Entry} {jobs : List (Job State)} {finishes : List (Finish State)} → Joined Local Resume Step at opening closing jobs finishes → ℕ → List (Call Request Answer)
  mine_of no_worker m = []
  mine_of (one_worker {n = n} calls ran has more) m = if nat_eq n m then calls else mine_of more m

  all_called : (opening rest : History Entry) {jobs : List (Job State)} {finishes : List (Finish State)} (j : Joined Local Resume Step at opening (opening ++ rest) jobs finishes) (m : ℕ) → (¬ In m (numbers_of jobs) → NoneOf m rest) → HasCalled Step at m opening (opening ++ rest) (mine_of j m)
  unfolding mine_of
  all_called opening rest no_worker m none = record { seen = opening; called = no_call; saw = (rest, refl, none (λ i. i)) }
  all_called opening rest (one_worker {n = n} calls ran has more) m none =
      let choice : (b : Bool) → nat_eq n m ≡ b → HasCalled Step at m opening (opening ++ rest) (if b then calls else mine_of more m) =
      λ b. elim b as (λ b. nat_eq n m ≡ b → HasCalled Step at m opening (opening ++ rest) (if b then calls else mine_of more m)) [ true ↦ λ e. subst (λ k. HasCalled Step at k opening (opening ++ rest) calls) (grind (arith, e)) has | false ↦ λ e. all_called opening rest more m (λ out. none (λ i. elim i [ inl same ↦ absurd (grind (arith, e, same)) | inr there ↦ out there ])) ] in
      choice (nat_eq n m) refl

  -- Each worker's calls are its own among the events.
  each_of : {opening closing : History Entry} {jobs : List (Job State)} {finishes : List (Finish State)} (j : Joined Local Resume Step at opening closing jobs finishes) (events : List (Event Request Answer)) → AllDiffer (numbers_of jobs) → ((n : ℕ) → In n (numbers_of jobs) → calls_of n events ≡ mine_of j n) → EachJob Local Resume events jobs finishes
  unfolding mine_of
  each_of no_worker events differ each = no_job
  each_of (one_worker {n = n} {s = s} {t = t} {lines = lines} {replies = replies} {jobs = jobs} calls ran has more) events differ each =
      let first : calls ≡ calls_of n events = sym (each n (inl refl) ∙ grind arith) in
      let later : (m : ℕ) → In m (numbers_of jobs) → calls_of m events ≡ mine_of more m =
      λ m i. let other : nat_eq n m ≡ false = (let apart : n ≢ m = λ e. differ.0 (subst (λ k. In k (numbers_of jobs)) (sym e) i) in grind (arith, apart)) in each m (inr i) ∙ grind (arith, other) in
      one_job (subst (λ cs. Runs Local Resume s lines cs replies (ready t [])) first ran) (each_of more events differ.1 later)

  -- What the workers did is a round.
  pub merges : (opening rest : History Entry) {jobs : List (Job State)} {finishes : List (Finish State)} → AllDiffer (numbers_of jobs) → AllByRecursion (λ e. In e.0 (numbers_of jobs)) rest
      → Joined Local Resume Step at opening (opening ++ rest) jobs finishes → RoundOf Local Resume Step (at opening) jobs (owners rest) (at (opening ++ rest)) finishes
  merges opening rest {jobs} {finishes} differ all joined =
      let all' : (m : ℕ) → HasCalled Step at m opening (opening ++ rest) (mine_of joined m) = λ m. all_called opening rest joined m (none_of (numbers_of jobs) m rest all) in
      elim (merged_from Step at opening (built rest) (mine_of joined) all') [
        | merged_so events ordered happens each ↦ record { events = events; ordered = ordered; steps = happens; runs = each_of joined events differ (λ n i. each n) }
      ]

-- The step of a core by functions adds an entry to its history.
pub is_step : {Core Request Answer Entry : Type 0} (at : History Entry → Core) (entry : Core → ℕ → Request → Entry) (answer : Core → ℕ → Request → Answer) (after : Core → ℕ → Request → Core) → Grows at entry after → (h : History Entry) (n : ℕ) (r : Request) → Steps answer after (at h) n r (answer (at h) n r) (at (h ++ (n, entry (at h) n r) ∷ []))
is_step at entry answer after grows h n r = (refl, sym (grows h n r))

-- Where each call through a pass is a step between the histories that it has seen, so are all calls, one after another.
pub makes_seen : {Pass Core Request Answer Entry : Type 0} (Step : Core → ℕ → Request → Answer → Core → Type 0) (at : History Entry → Core) (Calls : Pass → ℕ → Request → Answer → Pass → Type 0) (owner_of : Pass → ℕ) (seen_by : Pass → History Entry) → ((p q : Pass) (n : ℕ) (r : Request) (a : Answer) → Calls p n r a q → (owner_of q ≡ owner_of p) × PortStep Step at (seen_by p) (owner_of p) r a (seen_by q)) → {n : ℕ} {p q : Pass} {calls : List (Call Request Answer)} → Makes Calls n p calls q → (owner_of q ≡ owner_of p) × Makes (PortStep Step at) (owner_of p) (seen_by p) calls (seen_by q)
makes_seen Step at Calls owner_of seen_by tells no_call = (refl, no_call)
makes_seen Step at Calls owner_of seen_by tells {n} (one_call {D = d} {E = e} c before step) =
    let k = makes_seen Step at Calls owner_of seen_by tells before in
    let t = tells d e n c.request c.answer step in
    (t.0 ∙ k.0, one_call c k.1 (subst (λ m. PortStep Step at (seen_by d) m c.request c.answer (seen_by e)) k.0 t.1))
