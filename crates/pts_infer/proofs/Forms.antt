-- What the answers of reduction and of the conversion test say of the work on a budget.
use Rattle.std.proofs.Common.{◌≡◌, ℕ, ◌<◌, refl, sym, ap, ◌∙◌, subst, List, length, arith, Result, Ok, Err, IfErr}
use Rattle.std.specs.Result.{IsErr, IsErrAnd}
use Rattle.pts_record.specs.declared.shape.Shape.{Shape}
use Rattle.pts_terms.specs.Tree.{Named}
use Rattle.pts_record.specs.Table.{Tables, named_at}
use Rattle.pts_reduce_cost.specs.Costs.{Globals, Entries, Reduct, form, too_large, Reduces, TestAnswer, yes_, no_, beyond, Tests, nesting}
use Rattle.pts_reduce_cost.specs.Run.{Run, ends, fails, deep, spent}
use Rattle.pts_reduce_cost.specs.Work.{reduced, tested, Answer}
use Rattle.pts_reduce_cost.specs.Laws.{WithinBudget, AboveBudget, IsReduction, IsTest}
use Rattle.pts_reduce_cost.proofs.Reached.{reduction_reached, test_reached}
use Rattle.pts_reduce_cost.proofs.Exact.{reduction_exact, test_exact}
use Rattle.pts_infer_cost.specs.Typing.{FitFlaw, here, judged, not_convertible}
use Rattle.pts_infer_cost.specs.Inference.{misfit, types_compared}
use Rattle.pts_infer_cost.proofs.Tests.{types_agree, types_differ, types_deep, types_spent}
use Rattle.pts_grow.specs.Keeps.{Keeps}
use Rattle.pts_grow.proofs.Grow.{tree_stays}
use Rattle.pts_reduce.specs.declared.fault.ReduceFault.{ReduceFault}
use Rattle.pts_reduce.specs.declared.fault.ReduceFault.TheVariants.{Spent as AllSpent, Deep as TooDeep, Memory as NoMemory}
use Rattle.pts_reduce.specs.declared.answer.Conversion.{Conversion}
use Rattle.pts_reduce.specs.declared.answer.Conversion.TheVariants.{Yes, No}
use Rattle.pts_reduce.specs.Answered.{Refused, Answered}
use Rattle.pts_infer.specs.declared.fault.What.TheVariants.{NotConvertible}
use Rattle.pts_infer.specs.declared.fault.Misfit.{Misfit}
use Rattle.pts_infer.specs.declared.fault.Fault.{Fault}
use Rattle.pts_infer.specs.Given.{MisfitsWith, PlainlyStops, kind_of, of_reduction}

-- No outcome within the budget.
none_reduced : (costs : Reduct → ℕ → Type 0) (b : ℕ) (r : Run ⊥ Named) → IsReduction costs b r → AboveBudget costs b → r ≡ spent
none_reduced costs b (ends v k) (n, c, e) h = let l : b < n = h (form v) n c in absurd (omega (arith, l, e))
none_reduced costs b (fails f k) p h = absurd p
none_reduced costs b (deep k) (n, c, e) h = let l : b < n = h too_large n c in absurd (omega (arith, l, e))
none_reduced costs b spent p h = refl

none_tested : (costs : TestAnswer → ℕ → Type 0) (b : ℕ) (r : Answer) → IsTest costs b r → AboveBudget costs b → r ≡ spent
none_tested costs b (ends v k) (n, c, e) h = let l : b < n = h yes_ n c in absurd (omega (arith, l, e))
none_tested costs b (fails d k) (n, c, e) h = let l : b < n = h (no_ d.place d.left d.right) n c in absurd (omega (arith, l, e))
none_tested costs b (deep k) (n, c, e) h = let l : b < n = h beyond n c in absurd (omega (arith, l, e))
none_tested costs b spent p h = refl

pub form_is : (G : Globals) (L : Entries) (t v : Named) (b k : ℕ) → WithinBudget (Reduces G L t) b (form v) k → reduced G L b t ≡ ends v k
form_is G L t v b k (n, c, e) = reduction_reached c k b (sym e)

pub form_large : (G : Globals) (L : Entries) (t : Named) (b k : ℕ) → WithinBudget (Reduces G L t) b too_large k → reduced G L b t ≡ deep k
form_large G L t b k (n, c, e) = reduction_reached c k b (sym e)

pub form_unpaid : (G : Globals) (L : Entries) (t : Named) (b : ℕ) → AboveBudget (Reduces G L t) b → reduced G L b t ≡ spent
form_unpaid G L t b h = none_reduced (Reduces G L t) b (reduced G L b t) (reduction_exact G L t b) h

-- A fault of a reduction that is handed on.
plainly_stops : (G : Globals) (L : Entries) (t : Named) (e : ReduceFault) (b k : ℕ) → Refused (Reduces G L t) too_large e b k → PlainlyStops (of_reduction e) k (reduced G L b t)
plainly_stops G L t AllSpent b k h = (form_unpaid G L t b h.0, h.1)
plainly_stops G L t TooDeep b k h = form_large G L t b k h
plainly_stops G L t NoMemory b k h = tt

pub form_stopped : {X : Type 0} (G : Globals) (L : Entries) (t : Named) (r : Result X Fault) (e : ReduceFault) (b k : ℕ) → IsErr r → IsErrAnd r (λ x. x ≡ of_reduction e) → Refused (Reduces G L t) too_large e b k → IfErr r (λ x. PlainlyStops x k (reduced G L b t))
form_stopped G L t (Ok x) e b k i p h = tt
form_stopped G L t (Err x) e b k i p h = subst (λ x. PlainlyStops x k (reduced G L b t)) (sym p) (plainly_stops G L t e b k h)

pub ruleset form_facts = (form_is, form_stopped)

-- The types of a fit.
pub types_yes : (G : Globals) (L : Entries) (T W : Named) (s b k : ℕ) → WithinBudget (Tests G nesting L T W) b yes_ k → types_compared G L T W s b ≡ ends tt k
types_yes G L T W s b k (n, c, e) = types_agree G L T W s b k (test_reached c k b (sym e))

pub types_beyond : (G : Globals) (L : Entries) (T W : Named) (s b k : ℕ) → WithinBudget (Tests G nesting L T W) b beyond k → types_compared G L T W s b ≡ deep k
types_beyond G L T W s b k (n, c, e) = types_deep G L T W s b k (test_reached c k b (sym e))

pub types_unpaid : (G : Globals) (L : Entries) (T W : Named) (s b : ℕ) → AboveBudget (Tests G nesting L T W) b → types_compared G L T W s b ≡ spent
types_unpaid G L T W s b h = types_spent G L T W s b (none_tested (Tests G nesting L T W) b (tested G nesting L T W b) (test_exact G nesting L T W b) h)

pub types_no : (G : Globals) (L : Entries) (T W v w : Named) (place : List ℕ) (s b k : ℕ) → WithinBudget (Tests G nesting L T W) b (no_ place v w) k → types_compared G L T W s b ≡ fails (misfit T W (record { place = place; left = v; right = w })) k
types_no G L T W v w place s b k (n, c, e) = types_differ G L T W s (record { place = place; left = v; right = w }) b k (test_reached c k b (sym e))

pub types_yes_at : (G : Globals) (L : Entries) (n : Tables) (c l r : ℕ) (T W : Named) (a : Conversion) (node s b k : ℕ) → a ≡ Yes node → Answered G L n c l r T W b k a → types_compared G L T W s b ≡ ends tt k
types_yes_at G L n c l r T W a node s b k p h = let y : Answered G L n c l r T W b k (Yes node) = subst (Answered G L n c l r T W b k) p h in types_yes G L T W s b k y.0

pub types_deep_at : (G : Globals) (L : Entries) (T W : Named) (e : ReduceFault) (s b k : ℕ) → e ≡ TooDeep → Refused (Tests G nesting L T W) beyond e b k → types_compared G L T W s b ≡ deep k
types_deep_at G L T W e s b k p h = types_beyond G L T W s b k (subst (λ e. Refused (Tests G nesting L T W) beyond e b k) p h)

pub types_spent_at : (G : Globals) (L : Entries) (T W : Named) (e : ReduceFault) (s b k : ℕ) → e ≡ AllSpent → Refused (Tests G nesting L T W) beyond e b k → (types_compared G L T W s b ≡ spent) × (k ≡ 0)
types_spent_at G L T W e s b k p h = let r : Refused (Tests G nesting L T W) beyond AllSpent b k = subst (λ e. Refused (Tests G nesting L T W) beyond e b k) p h in (types_unpaid G L T W s b r.0, r.1)

pub types_no_at : (G : Globals) (L : Entries) (o n : Tables) (c l r : ℕ) (a : Conversion) (place : List ℕ) (v w : ℕ) (e : Misfit) (s b k : ℕ) → a ≡ No place v w → Keeps o n → l < length o.shapes → r < length o.shapes → Answered G L n c l r (named_at o.shapes l) (named_at o.shapes r) b k a → MisfitsWith {A = Unit {0}} n.shapes e k (fails (judged (here (kind_of n.shapes (NotConvertible place l r)))) k) → MisfitsWith n.shapes e k (types_compared G L (named_at o.shapes l) (named_at o.shapes r) s b)
types_no_at G L o n c l r a place v w e s b k p g i j h m =
    let T = named_at o.shapes l in
    let W = named_at o.shapes r in
    let y : Answered G L n c l r T W b k (No place v w) = subst (Answered G L n c l r T W b k) p h in
    let x : types_compared G L T W s b ≡ fails (judged (here (not_convertible place T W))) k = types_no G L T W (named_at n.shapes v) (named_at n.shapes w) place s b k y.2 in
    let z : kind_of n.shapes (NotConvertible place l r) ≡ not_convertible place T W = ap (λ A. not_convertible place A (named_at n.shapes r)) (tree_stays o n l g i) ∙ ap (not_convertible place T) (tree_stays o n r g j) in
    let u : ◌≡◌ {A = Run FitFlaw (Unit {0})} (fails (judged (here (kind_of n.shapes (NotConvertible place l r)))) k) (types_compared G L T W s b) = ap {B = Run FitFlaw (Unit {0})} (λ x. fails (judged (here x)) k) z ∙ sym x in
    subst (MisfitsWith n.shapes e k) u m

pub ruleset test_facts = (types_yes_at, types_deep_at, types_spent_at, types_no_at)
