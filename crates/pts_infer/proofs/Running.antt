-- How work goes on after a step, or stops with it.
use Rattle.std.proofs.Common.{◌≡◌, ℕ, ◌<◌, refl, sym, ap, ◌∙◌, subst, List, length, Result, Ok, Err}
use Rattle.std.specs.Result.{IsErr, IsErrAnd}
use Rattle.pts_terms.specs.Tree.{Named}
use Rattle.pts_record.specs.declared.shape.Shape.{Shape}
use Rattle.pts_record.specs.Table.{named_at}
use Rattle.pts_rules.specs.Meter.{left}
use Rattle.pts_reduce_cost.specs.Run.{Run, ends, fails, deep, spent, and_then, turned}
use Rattle.pts_infer_cost.specs.Typing.{Flaw, FitFlaw, wanted}
use Rattle.pts_infer_cost.proofs.ByParts.{part_ends, part_fails, part_deep, part_spent, turned_ends}
use Rattle.pts_grow.specs.declared.judged.Judged.{Judged}
use Rattle.pts_grow.proofs.Grow.{tree_stays}
use Rattle.pts_infer.specs.declared.work.Work.{Work}
use Rattle.pts_infer.specs.declared.fault.Fault.{Fault}
use Rattle.pts_infer.specs.declared.fault.Fault.TheVariants.{Memory}
use Rattle.pts_infer.specs.declared.fault.Misfit.{Misfit}
use Rattle.pts_infer.specs.declared.fault.Misfit.TheVariants as misfit
use Rattle.pts_infer.specs.Given.{ToldAs, ToldOf, ToldWanted, StopsWith, MisfitsWith, Gives, GivesFit, FoundAs, flaw_of, type_of}
use Rattle.pts_infer.specs.Works.{Grown, HasTerm, Gave, GaveFit}
use Rattle.pts_infer.proofs.Outwards.{handed_on, stopped, stopped_fit, stopped_wanted, stopped_plain, found}

-- A fault that is shown from the whole, of which a part is all.
ends_last : {F A : Type 0} (r : Run F A) → and_then r (λ x k. ends x k) ≡ r
unfolding and_then
ends_last (ends x k) = refl
ends_last (fails f k) = refl
ends_last (deep k) = refl
ends_last spent = refl

pub shown_turned : {A : Type 0} (g : Flaw → Flaw) (ss : List Shape) (e h : Fault) (k : ℕ) (r : Run Flaw A) → ToldAs g ss e h → StopsWith ss e k r → StopsWith ss h k (turned g r)
shown_turned g ss e h k r t s = subst (StopsWith ss h k) (ends_last (turned g r)) (stopped g ss e h k r (λ x k. ends x k) t s)

pub fit_turned : {A : Type 0} (g : FitFlaw → Flaw) (ss : List Shape) (e : Misfit) (h : Fault) (k : ℕ) (r : Run FitFlaw A) → ToldOf g ss e h → MisfitsWith ss e k r → StopsWith ss h k (turned g r)
fit_turned g ss e h k r t s = subst (StopsWith ss h k) (ends_last (turned g r)) (stopped_fit g ss e h k r (λ x k. ends x k) t s)

pub wanted_turned : {A : Type 0} (ss : List Shape) (e : Fault) (h : Misfit) (k : ℕ) (r : Run Flaw A) → ToldWanted ss e h → StopsWith ss e k r → MisfitsWith ss h k (turned wanted r)
wanted_turned ss e h k r t s = subst (MisfitsWith ss h k) (ends_last (turned wanted r)) (stopped_wanted ss e h k r (λ x k. ends x k) t s)

pub ruleset shown_runs = (shown_turned, fit_turned, wanted_turned, turned_ends)

-- The first part of the whole stops or goes on.
pub stops : {X Y A B : Type 0} {w : Work} {value : X → B} {shows : Y → A} {r : Result X Fault} {e : Fault} {part : Run Flaw A} {whole : Run Flaw B} (next : A → ℕ → Run Flaw B) → IsErr r × IsErrAnd r (λ x. x ≡ e) → whole ≡ and_then part next → Gave w shows (Err e) part → Gave w value r whole
stops {w = w} {value = value} {r = r} {e = e} {part = part} {whole = whole} next i q s =
    let k = left w.meter.now in
    let ss = w.proof.now.shapes in
    record { gives = handed_on ss value r e k whole i.0 i.1 (subst (StopsWith ss e k) (sym q) (stopped_plain ss e k part next s.gives)) }

pub goes_on : {A B Y : Type 0} {w : Work} {shows : Y → A} {y : Y} {part : Run Flaw A} {whole : Run Flaw B} (next : A → ℕ → Run Flaw B) → whole ≡ and_then part next → Gave w shows (Ok y) part → whole ≡ next (shows y) (left w.meter.now)
goes_on {w = w} {shows = shows} {y = y} {part = part} next q s = q ∙ part_ends part next (shows y) (left w.meter.now) s.gives

-- The whole fails with a flaw that is found.
pub refuses : {X A : Type 0} {w : Work} {value : X → A} {r : Result X Fault} {whole : Run Flaw A} (f : Flaw) (e : Fault) → IsErr r × IsErrAnd r (λ x. x ≡ e) → whole ≡ fails f (left w.meter.now) → FoundAs w.proof.now.shapes f e → Gave w value r whole
refuses {w = w} {value = value} {r = r} {whole = whole} f e i q h =
    let k = left w.meter.now in
    let ss = w.proof.now.shapes in
    record { gives = handed_on ss value r e k whole i.0 i.1 (found ss f e k whole h q) }

-- A fault that is handed on.
pub hands : {X Y A : Type 0} {w : Work} {value : X → A} {shows : Y → A} {r : Result X Fault} {e : Fault} {run : Run Flaw A} → IsErr r × IsErrAnd r (λ x. x ≡ e) → Gave w shows (Err e) run → Gave w value r run
hands {w = w} {value = value} {r = r} {e = e} {run = run} i s = record { gives = handed_on w.proof.now.shapes value r e (left w.meter.now) run i.0 i.1 s.gives }

-- There is no memory.
pub no_memory : {X A : Type 0} {w : Work} {value : X → A} {r : Result X Fault} {run : Run Flaw A} → IsErr r × IsErrAnd r (λ x. x ≡ Memory) → Gave w value r run
no_memory {w = w} {value = value} {r = r} {run = run} i = record { gives = handed_on w.proof.now.shapes value r Memory (left w.meter.now) run i.0 i.1 tt }

-- Work that comes to the same.
pub comes_to : {X B : Type 0} {w : Work} {value : X → B} {r : Result X Fault} {part whole : Run Flaw B} → whole ≡ part → Gave w value r part → Gave w value r whole
comes_to {w = w} {value = value} {r = r} e s = record { gives = subst (Gives w.proof.now.shapes value r (left w.meter.now)) (sym e) s.gives }

-- Work that ends with a type.
pub ends_as : {x : Work} {j : Judged} {whole : Run Flaw Named} (T : Named) (k : ℕ) → whole ≡ ends T k → left x.meter.now ≡ k → named_at x.proof.now.shapes j.claim ≡ T → Gave x (type_of x.proof.now.shapes) (Ok j) whole
ends_as {x} {j} T k e m n = record { gives = e ∙ ap (λ T. ends T k) (sym n) ∙ ap (ends (named_at x.proof.now.shapes j.claim)) (sym m) }

-- A term that was made is the claim of a judgement, over a record that grew since without a unit.
pub claims : {w v : Work} {n : ℕ} {j : Judged} {run : Run Flaw Named} → Grown w v → HasTerm w n → j.claim ≡ n → v.meter.now ≡ w.meter.now → Gave w (named_at w.proof.now.shapes) (Ok n) run → Gave v (type_of v.proof.now.shapes) (Ok j) run
claims {w} {v} {n} {j} {run} g h e m s = record {
  gives =
      let p = tree_stays w.proof.now v.proof.now n g.keeps h.there in
      s.gives ∙ ap (λ T. ends T (left w.meter.now)) (sym p ∙ ap (named_at v.proof.now.shapes) (sym e)) ∙ ap (λ u. ends (named_at v.proof.now.shapes j.claim) (left u)) (sym m);
}

-- The same of fits.
misfits_plain : {A B : Type 0} (ss : List Shape) (e : Misfit) (k : ℕ) (r : Run FitFlaw A) (next : A → ℕ → Run FitFlaw B) → MisfitsWith ss e k r → MisfitsWith ss e k (and_then r next)
misfits_plain ss misfit.Memory k r next s = tt
misfits_plain ss misfit.Spent k r next s = (part_spent r next s.0, s.1)
misfits_plain ss misfit.Deep k r next s = part_deep r next k s
misfits_plain ss (misfit.Wanted f) k r next s = (s.0, part_fails r next _ k s.1)
misfits_plain ss (misfit.Own f) k r next s = (s.0, part_fails r next _ k s.1)

misfit_on : {X A : Type 0} (ss : List Shape) (value : X → A) (r : Result X Misfit) (e : Misfit) (k : ℕ) (a : Run FitFlaw A) → IsErr r → IsErrAnd r (λ x. x ≡ e) → MisfitsWith ss e k a → GivesFit ss value r k a
misfit_on ss value (Ok x) e k a i p h = absurd (cc i)
misfit_on ss value (Err f) e k a i p h = subst (λ x. MisfitsWith ss x k a) (sym p) h

pub fit_no_memory : {X A : Type 0} {w : Work} {value : X → A} {r : Result X Misfit} {run : Run FitFlaw A} → IsErr r × IsErrAnd r (λ x. x ≡ misfit.Memory) → GaveFit w value r run
fit_no_memory {w = w} {value = value} {r = r} {run = run} i = record { gives = misfit_on w.proof.now.shapes value r misfit.Memory (left w.meter.now) run i.0 i.1 tt }

pub fit_hands : {X Y A : Type 0} {w : Work} {value : X → A} {shows : Y → A} {r : Result X Misfit} {e : Misfit} {run whole : Run FitFlaw A} → IsErr r × IsErrAnd r (λ x. x ≡ e) → whole ≡ run → GaveFit w shows (Err e) run → GaveFit w value r whole
fit_hands {w = w} {value = value} {r = r} {e = e} {run = run} {whole = whole} i q s =
    let k = left w.meter.now in
    let ss = w.proof.now.shapes in
    record { gives = misfit_on ss value r e k whole i.0 i.1 (subst (MisfitsWith ss e k) (sym q) s.gives) }

-- Over a record that grew since without a unit.
pub fit_ends : {X Y : Type 0} {w v : Work} {x : X} {y : Y} {run whole : Run FitFlaw (Unit {0})} → Grown w v → whole ≡ run → v.meter.now ≡ w.meter.now → GaveFit w (λ y. tt) (Ok y) run → GaveFit v (λ x. tt) (Ok x) whole
fit_ends g q m s = record { gives = q ∙ s.gives ∙ ap (λ u. ends tt (left u)) (sym m) }

pub ruleset memory = (no_memory, fit_no_memory)

pub fit_stops : {X Y A B : Type 0} {w : Work} {value : X → B} {shows : Y → A} {r : Result X Misfit} {e : Misfit} {part : Run FitFlaw A} {whole : Run FitFlaw B} (next : A → ℕ → Run FitFlaw B) → IsErr r × IsErrAnd r (λ x. x ≡ e) → whole ≡ and_then part next → GaveFit w shows (Err e) part → GaveFit w value r whole
fit_stops {w = w} {value = value} {r = r} {e = e} {part = part} {whole = whole} next i q s =
    let k = left w.meter.now in
    let ss = w.proof.now.shapes in
    record { gives = misfit_on ss value r e k whole i.0 i.1 (subst (MisfitsWith ss e k) (sym q) (misfits_plain ss e k part next s.gives)) }

pub fit_goes_on : {A B Y : Type 0} {w : Work} {shows : Y → A} {y : Y} {part : Run FitFlaw A} {whole : Run FitFlaw B} (next : A → ℕ → Run FitFlaw B) → whole ≡ and_then part next → GaveFit w shows (Ok y) part → whole ≡ next (shows y) (left w.meter.now)
fit_goes_on {w = w} {shows = shows} {y = y} {part = part} next q s = q ∙ part_ends part next (shows y) (left w.meter.now) s.gives
