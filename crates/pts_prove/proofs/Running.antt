-- How work goes on after a step, or stops with it.
use Rattle.std.proofs.Common.{◌≡◌, ℕ, sym, subst, List, Result, Ok, Err}
use Rattle.std.specs.Result.{IsErr, IsErrAnd}
use Rattle.pts_names.specs.Name.{Name}
use Rattle.pts_rules.specs.Meter.{left}
use Rattle.pts_reduce_cost.specs.Laws.{WithinBudget}
use Rattle.pts_infer_cost.specs.Typing as typing
use Rattle.pts_infer_cost.specs.Typing.{Outcome, comes}
use Rattle.pts_infer_cost.specs.Laws.{HasOneOutcome}
use Rattle.pts_prove_cost.specs.Combining.{After, Free}
use Rattle.pts_prove_cost.specs.Commands.{Refusal}
use Rattle.pts_prove_cost.proofs.OnBudget.{after_stops, after_goes, above_first, above_second, free_comes}
use Rattle.pts_prove.specs.declared.fault.ProveFault.{ProveFault}
use Rattle.pts_prove.specs.declared.fault.ProveFault.TheVariants as fault
use Rattle.pts_prove.specs.declared.work.Work.{Work}
use Rattle.pts_prove.specs.Answered.{Refuses, Answers, Tells}
use Rattle.pts_prove.specs.Works.{Came}

-- A refusal of the first piece, and of what follows.
module _ {A B : Type 0} (xs : List Name) (R : Outcome Refusal A → ℕ → Type 0) (Q : A → Outcome Refusal B → ℕ → Type 0) where
  pub refuses_first : (e : ProveFault) (b k : ℕ) → Refuses xs R e b k → Refuses xs (After R Q) e b k
  refuses_first fault.NoGoal b k h = after_stops R Q b k _ h
  refuses_first (fault.Taken x n) b k h = after_stops R Q b k _ h
  refuses_first (fault.NotProduct t) b k h = after_stops R Q b k _ h
  refuses_first (fault.NoMatch n) b k h = after_stops R Q b k _ h
  refuses_first (fault.Undetermined n) b k h = after_stops R Q b k _ h
  refuses_first (fault.NotThere c) b k h = after_stops R Q b k _ h
  refuses_first (fault.NoBody c) b k h = after_stops R Q b k _ h
  refuses_first (fault.Flaw p f) b k h = (h.0, h.1, after_stops R Q b k _ h.2)
  refuses_first fault.Spent b k h = (above_first R Q b h.0, h.1)
  refuses_first fault.Deep b k h = after_stops R Q b k _ h
  refuses_first fault.Memory b k h = tt

  pub refuses_then : (e : ProveFault) (b j k : ℕ) (x : A) → HasOneOutcome R → WithinBudget R b (comes x) j → Refuses xs (Q x) e j k → Refuses xs (After R Q) e b k
  refuses_then fault.NoGoal b j k x one w h = after_goes R Q b j k x _ w h
  refuses_then (fault.Taken y n) b j k x one w h = after_goes R Q b j k x _ w h
  refuses_then (fault.NotProduct t) b j k x one w h = after_goes R Q b j k x _ w h
  refuses_then (fault.NoMatch n) b j k x one w h = after_goes R Q b j k x _ w h
  refuses_then (fault.Undetermined n) b j k x one w h = after_goes R Q b j k x _ w h
  refuses_then (fault.NotThere c) b j k x one w h = after_goes R Q b j k x _ w h
  refuses_then (fault.NoBody c) b j k x one w h = after_goes R Q b j k x _ w h
  refuses_then (fault.Flaw p f) b j k x one w h = (h.0, h.1, after_goes R Q b j k x _ w h.2)
  refuses_then fault.Spent b j k x one w h = (above_second R Q b j x one w h.0, h.1)
  refuses_then fault.Deep b j k x one w h = after_goes R Q b j k x _ w h
  refuses_then fault.Memory b j k x one w h = tt

  pub answers_then : {X : Type 0} (value : X → B) (r : Result X ProveFault) (b j k : ℕ) (x : A) → HasOneOutcome R → WithinBudget R b (comes x) j → Answers xs value (Q x) r j k → Answers xs value (After R Q) r b k
  answers_then value (Ok y) b j k x one w h = after_goes R Q b j k x _ w h
  answers_then value (Err e) b j k x one w h = refuses_then e b j k x one w h

-- A fault that is handed on by `?`.
handed_on : {X A : Type 0} (xs : List Name) (value : X → A) (r : Result X ProveFault) (e : ProveFault) (costs : Outcome Refusal A → ℕ → Type 0) (b k : ℕ) → IsErr r → IsErrAnd r (λ x. x ≡ e) → Refuses xs costs e b k → Answers xs value costs r b k
handed_on xs value (Ok x) e costs b k i p h = absurd (cc i)
handed_on xs value (Err f) e costs b k i p h = subst (λ x. Refuses xs costs x b k) (sym p) h

-- The first piece stops, and so does the whole.
pub stops : {X Y A B : Type 0} {a b : Work} {value : X → B} {shows : Y → A} {r : Result X ProveFault} {e : ProveFault} {R : Outcome Refusal A → ℕ → Type 0} (Q : A → Outcome Refusal B → ℕ → Type 0) → IsErr r × IsErrAnd r (λ x. x ≡ e) → Came a b shows (Err e) R → Came a b value r (After R Q)
stops {a = a} {b = b} {value = value} {r = r} {e = e} {R = R} Q i s = record {
  answers = handed_on b.names.now value r e (After R Q) (left a.meter.now) (left b.meter.now) i.0 i.1 (refuses_first b.names.now R Q e (left a.meter.now) (left b.meter.now) s.answers);
}

-- The first piece comes to a value, and what follows answers for the whole.
pub goes_on : {X Y A B : Type 0} {a b c : Work} {value : X → B} {shows : Y → A} {y : Y} {r : Result X ProveFault} {R : Outcome Refusal A → ℕ → Type 0} (Q : A → Outcome Refusal B → ℕ → Type 0) → HasOneOutcome R → Came a b shows (Ok y) R → Came b c value r (Q (shows y)) → Came a c value r (After R Q)
goes_on {a = a} {b = b} {c = c} {value = value} {shows = shows} {y = y} {r = r} {R = R} Q one s t = record {
  answers = answers_then c.names.now R Q value r (left a.meter.now) (left b.meter.now) (left c.meter.now) (shows y) one s.answers t.answers;
}

-- A fault that is handed on.
pub hands : {X Y A : Type 0} {a b : Work} {value : X → A} {shows : Y → A} {r : Result X ProveFault} {e : ProveFault} {R : Outcome Refusal A → ℕ → Type 0} → IsErr r × IsErrAnd r (λ x. x ≡ e) → Came a b shows (Err e) R → Came a b value r R
hands {a = a} {b = b} {value = value} {r = r} {e = e} {R = R} i s = record {
  answers = handed_on b.names.now value r e R (left a.meter.now) (left b.meter.now) i.0 i.1 s.answers;
}

-- There is no memory.
pub no_memory : {X A : Type 0} {a b : Work} {value : X → A} {r : Result X ProveFault} {R : Outcome Refusal A → ℕ → Type 0} → IsErr r × IsErrAnd r (λ x. x ≡ fault.Memory) → Came a b value r R
no_memory {a = a} {b = b} {value = value} {r = r} {R = R} i = record {
  answers = handed_on b.names.now value r fault.Memory R (left a.meter.now) (left b.meter.now) i.0 i.1 tt;
}

-- A piece that is another one.
pub comes_to : {X A : Type 0} {a b : Work} {value : X → A} {r : Result X ProveFault} {R Q : Outcome Refusal A → ℕ → Type 0} → R ≡ Q → Came a b value r R → Came a b value r Q
comes_to {a = a} {b = b} {value = value} {r = r} e s = record {
  answers = subst (λ R. Answers b.names.now value R r (left a.meter.now) (left b.meter.now)) e s.answers;
}

-- The same value, seen otherwise.
pub revalued : {X Y A : Type 0} {a b : Work} {shows : Y → A} {value : X → A} {y : Y} {x : X} {R : Outcome Refusal A → ℕ → Type 0} → shows y ≡ value x → Came a b shows (Ok y) R → Came a b value (Ok x) R
revalued {a = a} {b = b} {R = R} e s = record {
  answers = subst (λ v. WithinBudget R (left a.meter.now) (comes v) (left b.meter.now)) e s.answers;
}

-- The answer that is a refusal.
pub tells_within : {A : Type 0} (xs : List Name) (w : Refusal) (e : ProveFault) (R : Outcome Refusal A → ℕ → Type 0) (b k : ℕ) → Tells xs w e → WithinBudget R b (typing.stops (typing.by_flaw w)) k → Refuses xs R e b k
tells_within xs w (fault.Taken x n) R b k d h = subst (λ w. WithinBudget R b (typing.stops (typing.by_flaw w)) k) d h
tells_within xs w (fault.NotProduct t) R b k d h = subst (λ w. WithinBudget R b (typing.stops (typing.by_flaw w)) k) d h
tells_within xs w (fault.NoMatch n) R b k d h = subst (λ w. WithinBudget R b (typing.stops (typing.by_flaw w)) k) d h
tells_within xs w (fault.Undetermined i) R b k d h = subst (λ w. WithinBudget R b (typing.stops (typing.by_flaw w)) k) d h
tells_within xs w (fault.NotThere c) R b k d h = subst (λ w. WithinBudget R b (typing.stops (typing.by_flaw w)) k) d h
tells_within xs w (fault.NoBody c) R b k d h = subst (λ w. WithinBudget R b (typing.stops (typing.by_flaw w)) k) d h
tells_within xs w (fault.Flaw p f) R b k d h = (d.0, d.1, subst (λ w. WithinBudget R b (typing.stops (typing.by_flaw w)) k) d.2 h)
tells_within xs w fault.Memory R b k d h = tt
tells_within xs w fault.NoGoal R b k d h = absurd d
tells_within xs w fault.Spent R b k d h = absurd d
tells_within xs w fault.Deep R b k d h = absurd d

pub told : {X A : Type 0} {a : Work} {value : X → A} {e : ProveFault} {w : Refusal} → Tells a.names.now w e → Came a a value (Err e) (Free (typing.stops (typing.by_flaw w)))
told {a = a} {e = e} {w = w} d = record {
  answers = tells_within a.names.now w e (Free (typing.stops (typing.by_flaw w))) (left a.meter.now) (left a.meter.now) d (free_comes (typing.stops (typing.by_flaw w)) (left a.meter.now));
}
