-- Work that is right for what has outcomes at costs, and how pieces of such work are put together.
use Rattle.std.proofs.Common.{◌≡◌, ◌≢◌, ℕ, zero, suc, ◌+◌, ◌-◌, ◌<◌, ◌≤◌, refl, sym, ap, ◌∙◌, subst, arith}
use Rattle.pts_reduce_cost.specs.Run.{Run, ends, fails, deep, spent, and_then, paid, turned}
use Rattle.pts_reduce_cost.specs.Laws.{WithinBudget}
use Rattle.pts_infer_cost.specs.Typing.{Stop, by_flaw, by_limits, Outcome, comes, stops, moved}
use Rattle.pts_infer_cost.specs.Inference.{gives}
use Rattle.pts_infer_cost.specs.Laws.{IsWork, HasOneOutcome}

abbrev pub Costs : Type 0 → Type 0 → Type 1
Costs F A = Outcome F A → ℕ → Type 0

-- What work on b units comes to, unless it is spent.
abbrev pub Comes : {F A : Type 0} → Costs F A → ℕ → Run F A → Type 0
Comes costs b (ends x k) = WithinBudget costs b (comes x) k
Comes costs b (fails f k) = WithinBudget costs b (stops (by_flaw f)) k
Comes costs b (deep k) = WithinBudget costs b (stops by_limits) k
Comes costs b spent = Unit {0}

-- With enough units work comes to each outcome, and what it comes to is an outcome.
pub record Right {F A : Type 0} (costs : Costs F A) (work : ℕ → Run F A) : Type 0 where
  pub reached : (o : Outcome F A) (n k b : ℕ) → costs o n → b ≡ n + k → work b ≡ gives o k
  pub came : (b : ℕ) → Comes costs b (work b)

-- Costs of pieces: one unit first; a flaw seen from the whole; one piece, and then what its value asks for.
pub data Paid {F A : Type 0} (P : Costs F A) : Outcome F A → ℕ → Type 0 where
  pay : {o : Outcome F A} {n : ℕ} → P o n → Paid P o (suc n)

pub data Moved {E F A : Type 0} (g : E → F) (P : Costs E A) : Outcome F A → ℕ → Type 0 where
  stopped : {e : Stop E} {n : ℕ} → P (stops e) n → Moved g P (stops (moved g e)) n
  came_to : {x : A} {n : ℕ} → P (comes x) n → Moved g P (comes x) n

pub data Then {F A B : Type 0} (P : Costs F A) (Q : A → Costs F B) : Outcome F B → ℕ → Type 0 where
  stop : {e : Stop F} {n : ℕ} → P (stops e) n → Then P Q (stops e) n
  next : {x : A} {o : Outcome F B} {m n : ℕ} → P (comes x) m → Q x o n → Then P Q o (m + n)

pub data Last {F A B : Type 0} (P : Costs F A) (h : A → Outcome F B) : Outcome F B → ℕ → Type 0 where
  last_stop : {e : Stop F} {n : ℕ} → P (stops e) n → Last P h (stops e) n
  last : {x : A} {o : Outcome F B} {n : ℕ} → P (comes x) n → h x ≡ o → Last P h o n

-- An outcome that costs nothing.
pub data Free {F A : Type 0} (p : Outcome F A) : Outcome F A → ℕ → Type 0 where
  free : Free p p 0

-- The same costs, or costs above what was paid before.
pub later : {F A : Type 0} (P Q : Costs F A) (f : ℕ → ℕ) (b c : ℕ) (r : Run F A) → ((o : Outcome F A) (n : ℕ) → P o n → Q o (f n)) → ((n k : ℕ) → n + k ≡ b → f n + k ≡ c) → Comes P b r → Comes Q c r
later P Q f b c (ends x k) g s (n, p, e) = (f n, g (comes x) n p, s n k e)
later P Q f b c (fails d k) g s (n, p, e) = (f n, g (stops (by_flaw d)) n p, s n k e)
later P Q f b c (deep k) g s (n, p, e) = (f n, g (stops by_limits) n p, s n k e)
later P Q f b c spent g s h = tt

pub same_costs : {F A : Type 0} (P Q : Costs F A) (w : ℕ → Run F A) → ((o : Outcome F A) (n : ℕ) → P o n → Q o n) → ((o : Outcome F A) (n : ℕ) → Q o n → P o n) → Right P w → Right Q w
same_costs P Q w f g r = record { reached = λ o n k b q e. r.reached o n k b (g o n q) e; came = λ b. later P Q (λ n. n) b b (w b) f (λ n k e. e) (r.came b) }

-- One unit first.
paid_reached : {F A : Type 0} (P : Costs F A) (w : ℕ → Run F A) → Right P w → (o : Outcome F A) (n k b : ℕ) → Paid P o n → b ≡ n + k → paid b w ≡ gives o k
unfolding paid
paid_reached P w r o _ k zero (pay {n = n} p) e = absurd (omega (arith, e))
paid_reached P w r o _ k (suc b) (pay {n = n} p) e = r.reached o n k b p (omega (arith, e))

paid_came : {F A : Type 0} (P : Costs F A) (w : ℕ → Run F A) → Right P w → (b : ℕ) → Comes (Paid P) b (paid b w)
unfolding paid
paid_came P w r zero = tt
paid_came P w r (suc b) = later P (Paid P) (λ n. suc n) b (suc b) (w b) (λ o n p. pay p) (λ n k e. omega (arith, e)) (r.came b)

pub paid_right : {F A : Type 0} (P : Costs F A) (w : ℕ → Run F A) → Right P w → Right (Paid P) (λ b. paid b w)
paid_right P w r = record { reached = paid_reached P w r; came = paid_came P w r }

-- A flaw seen from the whole.
turned_stop : {E F A : Type 0} (g : E → F) (e : Stop E) (k : ℕ) → turned {A = A} g (gives (stops e) k) ≡ gives (stops (moved g e)) k
unfolding turned gives
turned_stop g (by_flaw f) k = refl
turned_stop g by_limits k = refl

turned_value : {E F A : Type 0} (g : E → F) (x : A) (k : ℕ) → turned g (gives (comes x) k) ≡ gives (comes x) k
unfolding turned gives
turned_value g x k = refl

turned_reached : {E F A : Type 0} (g : E → F) (P : Costs E A) (w : ℕ → Run E A) → Right P w → (o : Outcome F A) (n k b : ℕ) → Moved g P o n → b ≡ n + k → turned g (w b) ≡ gives o k
turned_reached g P w r _ n k b (stopped {e = e} p) q = ap (turned g) (r.reached (stops e) n k b p q) ∙ turned_stop g e k
turned_reached g P w r _ n k b (came_to {x = x} p) q = ap (turned g) (r.reached (comes x) n k b p q) ∙ turned_value g x k

turned_came : {E F A : Type 0} (g : E → F) (P : Costs E A) (b : ℕ) (r : Run E A) → Comes P b r → Comes (Moved g P) b (turned g r)
unfolding turned
turned_came g P b (ends x k) (n, p, e) = (n, came_to p, e)
turned_came g P b (fails f k) (n, p, e) = (n, stopped {e = by_flaw f} p, e)
turned_came g P b (deep k) (n, p, e) = (n, stopped {e = by_limits} p, e)
turned_came g P b spent h = tt

pub turned_right : {E F A : Type 0} (g : E → F) (P : Costs E A) (w : ℕ → Run E A) → Right P w → Right (Moved g P) (λ b. turned g (w b))
turned_right g P w r = record { reached = turned_reached g P w r; came = λ b. turned_came g P b (w b) (r.came b) }

-- One piece, and then another.
then_stop : {F A B : Type 0} (h : A → ℕ → Run F B) (e : Stop F) (k : ℕ) → and_then (gives (stops e) k) h ≡ gives (stops e) k
unfolding and_then gives
then_stop h (by_flaw f) k = refl
then_stop h by_limits k = refl

then_value : {F A B : Type 0} (h : A → ℕ → Run F B) (x : A) (k : ℕ) → and_then (gives (comes x) k) h ≡ h x k
unfolding and_then gives
then_value h x k = refl

then_reached : {F A B : Type 0} (P : Costs F A) (Q : A → Costs F B) (w : ℕ → Run F A) (h : A → ℕ → Run F B) → Right P w → ((x : A) → Right (Q x) (h x)) → (o : Outcome F B) (n k b : ℕ) → Then P Q o n → b ≡ n + k → and_then (w b) h ≡ gives o k
then_reached P Q w h r s _ n k b (stop {e = e} p) q = ap (λ x. and_then x h) (r.reached (stops e) n k b p q) ∙ then_stop h e k
then_reached P Q w h r s o _ k b (next {x = x} {m = m} {n = n} p c) q =
    let i : b ≡ m + (n + k) = omega (arith, q) in
    ap (λ y. and_then y h) (r.reached (comes x) m (n + k) b p i) ∙ then_value h x (n + k) ∙ (s x).reached o n k (n + k) c refl

then_came : {F A B : Type 0} (P : Costs F A) (Q : A → Costs F B) (h : A → ℕ → Run F B) → ((x : A) → Right (Q x) (h x)) → (b : ℕ) (r : Run F A) → Comes P b r → Comes (Then P Q) b (and_then r h)
unfolding and_then
then_came P Q h s b (ends x k) (m, p, e) = later (Q x) (Then P Q) (λ n. m + n) k b (h x k) (λ o n c. next p c) (λ n j i. omega (arith, e, i)) ((s x).came k)
then_came P Q h s b (fails f k) (m, p, e) = (m, stop p, e)
then_came P Q h s b (deep k) (m, p, e) = (m, stop p, e)
then_came P Q h s b spent c = tt

pub then_right : {F A B : Type 0} (P : Costs F A) (Q : A → Costs F B) (w : ℕ → Run F A) (h : A → ℕ → Run F B) → Right P w → ((x : A) → Right (Q x) (h x)) → Right (Then P Q) (λ b. and_then (w b) h)
then_right P Q w h r s = record { reached = then_reached P Q w h r s; came = λ b. then_came P Q h s b (w b) (r.came b) }

-- An outcome that costs nothing.
free_came : {F A : Type 0} (p : Outcome F A) (b : ℕ) → Comes (Free p) b (gives p b)
unfolding gives
free_came (comes x) b = (0, free, omega arith)
free_came (stops (by_flaw f)) b = (0, free, omega arith)
free_came (stops by_limits) b = (0, free, omega arith)

free_reached : {F A : Type 0} (p o : Outcome F A) (n k b : ℕ) → Free p o n → b ≡ n + k → gives p b ≡ gives o k
free_reached p _ _ k b free e = let q : b ≡ k = omega (arith, e) in ap (gives p) q

-- Nothing is added.
pub and_none : {F A : Type 0} (P : Costs F A) (o : Outcome F A) (n : ℕ) → P o n → P o (n + 0)
and_none P o n p = let e : n ≡ n + 0 = omega arith in subst (P o) e p

pub none_added : {F A : Type 0} (P : Costs F A) (o : Outcome F A) (n : ℕ) → P o (n + 0) → P o n
none_added P o n p = let e : n + 0 ≡ n = omega arith in subst (P o) e p

pub as_outcome : {F A : Type 0} (P : Costs F A) (p o : Outcome F A) (n : ℕ) → p ≡ o → P p n → P o n
as_outcome P p o n e c = subst (λ x. P x n) e c

pub free_right : {F A : Type 0} (p : Outcome F A) → Right (Free p) (gives p)
free_right p = record { reached = free_reached p; came = free_came p }

-- One piece, and then an outcome by its value.
last_reached : {F A B : Type 0} (P : Costs F A) (w : ℕ → Run F A) (h : A → Outcome F B) → Right P w → (o : Outcome F B) (n k b : ℕ) → Last P h o n → b ≡ n + k → and_then (w b) (λ x j. gives (h x) j) ≡ gives o k
last_reached P w h r _ n k b (last_stop {e = e} p) q = ap (λ y. and_then y (λ x j. gives (h x) j)) (r.reached (stops e) n k b p q) ∙ then_stop (λ x j. gives (h x) j) e k
last_reached P w h r o n k b (last {x = x} p i) q = ap (λ y. and_then y (λ x j. gives (h x) j)) (r.reached (comes x) n k b p q) ∙ then_value (λ x j. gives (h x) j) x k ∙ ap (λ y. gives y k) i

last_given : {F A B : Type 0} (P : Costs F A) (h : A → Outcome F B) (x : A) (m k b : ℕ) → P (comes x) m → m + k ≡ b → (o : Outcome F B) → h x ≡ o → Comes (Last P h) b (gives o k)
unfolding gives
last_given P h x m k b p e (comes y) q = (m, last p q, e)
last_given P h x m k b p e (stops (by_flaw f)) q = (m, last p q, e)
last_given P h x m k b p e (stops by_limits) q = (m, last p q, e)

last_came : {F A B : Type 0} (P : Costs F A) (h : A → Outcome F B) (b : ℕ) (r : Run F A) → Comes P b r → Comes (Last P h) b (and_then r (λ x j. gives (h x) j))
unfolding and_then
last_came P h b (ends x k) (m, p, e) = last_given P h x m k b p e (h x) refl
last_came P h b (fails f k) (m, p, e) = (m, last_stop p, e)
last_came P h b (deep k) (m, p, e) = (m, last_stop p, e)
last_came P h b spent c = tt

pub last_right : {F A B : Type 0} (P : Costs F A) (w : ℕ → Run F A) (h : A → Outcome F B) → Right P w → Right (Last P h) (λ b. and_then (w b) (λ x j. gives (h x) j))
last_right P w h r = record { reached = last_reached P w h r; came = λ b. last_came P h b (w b) (r.came b) }

-- Right work is exact.
above : (b n : ℕ) → ((k : ℕ) → b ≡ n + k → ⊥) → b < n
above b n h = let g : n ≤ b → ⊥ = λ l. h (b - n) (omega (arith, l)) in omega (arith, g)

not_spent : {F A : Type 0} (o : Outcome F A) (k : ℕ) → spent ≢ gives o k
unfolding gives
not_spent (comes x) k e = cc e
not_spent (stops (by_flaw f)) k e = cc e
not_spent (stops by_limits) k e = cc e

is_work : {F A : Type 0} (P : Costs F A) (w : ℕ → Run F A) → Right P w → (b : ℕ) (r : Run F A) → w b ≡ r → Comes P b r → IsWork P b r
is_work P w c b (ends x k) p h = h
is_work P w c b (fails e k) p h = h
is_work P w c b (deep k) p h = h
is_work P w c b spent p h = λ o n d. above b n (λ k e. not_spent o k (sym p ∙ c.reached o n k b d e))

pub right_exact : {F A : Type 0} (P : Costs F A) (w : ℕ → Run F A) → Right P w → (b : ℕ) → IsWork P b (w b)
right_exact P w r b = is_work P w r b (w b) refl (r.came b)

-- An outcome and what is left are seen in what work comes to, so that there is one at most.
outcome_in : {F A : Type 0} → Run F A → Outcome F A
outcome_in (ends x k) = comes x
outcome_in (fails f k) = stops (by_flaw f)
outcome_in (deep k) = stops by_limits
outcome_in spent = stops by_limits

units_in : {F A : Type 0} → Run F A → ℕ
units_in (ends x k) = k
units_in (fails d k) = k
units_in (deep k) = k
units_in spent = 0

seen_back : {F A : Type 0} (o : Outcome F A) (k : ℕ) → (outcome_in (gives o k) ≡ o) × (units_in (gives o k) ≡ k)
unfolding outcome_in units_in gives
seen_back (comes x) k = (refl, refl)
seen_back (stops (by_flaw f)) k = (refl, refl)
seen_back (stops by_limits) k = (refl, refl)

pub right_once : {F A : Type 0} (P : Costs F A) (w : ℕ → Run F A) → Right P w → HasOneOutcome P
right_once P w r o p m n c d =
    let q : m + n ≡ n + m = omega arith in
    let h = sym (r.reached o m n (m + n) c refl) ∙ r.reached p n m (m + n) d q in
    let (a, i) = seen_back o n in
    let (b, j) = seen_back p m in
    (sym a ∙ ap outcome_in h ∙ b, sym j ∙ sym (ap units_in h) ∙ i)
