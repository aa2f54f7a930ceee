-- Pieces of work on a budget.
use Rattle.std.proofs.Common.{◌≡◌, ℕ, suc, ◌+◌, Bool, true, false, refl, subst, arith}
use Rattle.std.specs.Prelude.{if◌then◌else◌}
use Rattle.pts_terms.specs.Tree.{Named}
use Rattle.pts_terms.specs.Limits.{within}
use Rattle.pts_reduce_cost.specs.Laws.{WithinBudget, AboveBudget}
use Rattle.pts_infer_cost.specs.Typing.{Stop, by_limits, moved, Outcome, comes, stops}
use Rattle.pts_infer_cost.specs.Laws.{HasOneOutcome}
use Rattle.pts_prove_cost.specs.Combining.{After, first_stops, goes_on, Turned, comes_too, stops_too, Free, at_once, Paid, unit_first}
use Rattle.pts_prove_cost.specs.Commands.{limited}

-- One piece and then another.
module _ {F A B : Type 0} (R : Outcome F A → ℕ → Type 0) (Q : A → Outcome F B → ℕ → Type 0) where
  pub after_stops : (b k : ℕ) (e : Stop F) → WithinBudget R b (stops e) k → WithinBudget (After R Q) b (stops e) k
  after_stops b k e h = (h.0, first_stops h.1, h.2)

  pub after_goes : (b j k : ℕ) (x : A) (o : Outcome F B) → WithinBudget R b (comes x) j → WithinBudget (Q x) j o k → WithinBudget (After R Q) b o k
  after_goes b j k x o h g = (h.0 + g.0, goes_on h.1 g.1, omega (arith, h.2, g.2))

  pub above_first : (b : ℕ) → AboveBudget R b → AboveBudget (After R Q) b
  above_first b f o n (first_stops r) = f _ n r
  above_first b f o n (goes_on {m = i} {n = j} r q) = omega (arith, f _ i r)

  pub above_second : (b j : ℕ) (x : A) → HasOneOutcome R → WithinBudget R b (comes x) j → AboveBudget (Q x) j → AboveBudget (After R Q) b
  above_second b j x one h f o n (first_stops r) = absurd (cc (one _ _ _ _ h.1 r).0)
  above_second b j x one h f o n (goes_on {x = y} {m = m} {n = i} r q) =
      let e = one _ _ _ _ h.1 r in
      let p : y ≡ x = cc e.0 in
      let l = f o i (subst (λ z. Q z o i) p q) in
      omega (arith, e.1, h.2, l)

-- A piece in which each flaw becomes another.
module _ {E F A : Type 0} (g : E → F) (R : Outcome E A → ℕ → Type 0) where
  pub turned_comes : (b k : ℕ) (x : A) → WithinBudget R b (comes x) k → WithinBudget (Turned g R) b (comes x) k
  turned_comes b k x h = (h.0, comes_too h.1, h.2)

  pub turned_stops : (b k : ℕ) (e : Stop E) → WithinBudget R b (stops e) k → WithinBudget (Turned g R) b (stops (moved g e)) k
  turned_stops b k e h = (h.0, stops_too h.1, h.2)

  pub turned_above : (b : ℕ) → AboveBudget R b → AboveBudget (Turned g R) b
  turned_above b f o n (comes_too r) = f _ n r
  turned_above b f o n (stops_too r) = f _ n r

-- What costs nothing.
pub free_comes : {F A : Type 0} (o : Outcome F A) (b : ℕ) → WithinBudget (Free o) b o b
free_comes o b = (0, at_once, omega arith)

pub free_as : {F A : Type 0} (o q : Outcome F A) (b : ℕ) → q ≡ o → WithinBudget (Free q) b o b
free_as o q b e = subst (λ p. WithinBudget (Free q) b p b) e (free_comes q b)

-- What costs a unit first.
module _ {F A : Type 0} (R : Outcome F A → ℕ → Type 0) where
  pub paid_comes : (b j k : ℕ) (o : Outcome F A) → b ≡ suc j → WithinBudget R j o k → WithinBudget (Paid R) b o k
  paid_comes b j k o e h = (suc h.0, unit_first h.1, omega (arith, h.2, e))

  pub paid_above : (b j : ℕ) → b ≡ suc j → AboveBudget R j → AboveBudget (Paid R) b
  paid_above b j e f o n (unit_first {n = i} r) = let l = f o i r in omega (arith, l, e)

  pub unpaid_above : (b : ℕ) → b ≡ 0 → AboveBudget (Paid R) b
  unpaid_above b e o n (unit_first r) = omega (arith, e)

-- A term within limits, and one that is not.
abbrev if_small : {F : Type 0} → Named → Bool → Outcome F Named
if_small t w = if w then comes t else stops by_limits

abbrev too_large : {F : Type 0} → Outcome F Named
too_large = stops by_limits

if_held : {F : Type 0} (t : Named) (w : Bool) → w ≡ true → if_small {F = F} t w ≡ comes t
if_held t true e = refl
if_held t false e = absurd (cc e)

if_broken : {F : Type 0} (t : Named) (w : Bool) → w ≡ false → if_small {F = F} t w ≡ too_large
if_broken t false e = refl
if_broken t true e = absurd (cc e)

pub limited_comes : {F : Type 0} (t : Named) (b : ℕ) → within t ≡ true → WithinBudget (limited {F = F} t) b (comes t) b
limited_comes t b w = free_as _ _ b (if_held t (within t) w)

pub limited_stops : {F : Type 0} (t : Named) (b : ℕ) → within t ≡ false → WithinBudget (limited {F = F} t) b (stops by_limits) b
limited_stops t b w = free_as _ _ b (if_broken t (within t) w)
