-- Another statement for the goal.
use Rattle.std.proofs.Common.{◌≡◌, ℕ, refl, sym, ap, ◌∙◌, subst, List, [], Result, Ok, Err}
use Rattle.std.proofs.lemmas.List.{append-nil}
use Rattle.std.specs.Result.{IsErr, IsErrAnd}
use Rattle.std.specs.Prelude.{is_some}
use Rattle.pts_names.specs.Name.{Name}
use Rattle.pts_terms.specs.Tree.{Named}
use Rattle.pts_record.specs.Table.{bare_at}
use Rattle.pts_rules.specs.Meter.{left}
use Rattle.pts_rules.specs.Parts.{sort_in}
use Rattle.pts_reduce_cost.specs.Costs.{beyond, Tests, nesting}
use Rattle.pts_reduce_cost.specs.Laws.{WithinBudget, AboveBudget}
use Rattle.pts_infer_cost.specs.Typing.{Kind, here, not_convertible, comes}
use Rattle.pts_grow.specs.declared.compared.Compared.{Compared}
use Rattle.pts_grow.specs.Judges.{Judges, IsSort}
use Rattle.pts_grow.specs.Keeps.{Compares}
use Rattle.pts_grow.proofs.Plain.{plain_sort}
use Rattle.pts_reduce.specs.Answered.{Answered, Refused}
use Rattle.pts_reduce.specs.Chain.{entries_of}
use Rattle.pts_reduce.specs.declared.answer.Conversion.{Conversion}
use Rattle.pts_reduce.specs.declared.answer.Conversion.TheVariants.{Yes, No}
use Rattle.pts_reduce.specs.declared.fault.ReduceFault.{ReduceFault}
use Rattle.pts_reduce.specs.declared.fault.ReduceFault.TheVariants as reduce
use Rattle.pts_infer.specs.Answered.{behind, flaw_seen, kind_seen}
use Rattle.pts_infer.specs.declared.answer.Flaw.{Flaw as AnswerFlaw}
use Rattle.pts_infer.specs.declared.part.Part.{Part as AnswerPart}
use Rattle.pts_goals.specs.declared.step.Step.{Step}
use Rattle.pts_goals.specs.declared.step.Step.TheVariants.{Change}
use Rattle.pts_prove_cost.specs.Refinement.{Refinement, by_statement}
use Rattle.pts_prove_cost.specs.Commands.{flawed, of_goal, of_type, Agrees, tested, limited, changes, converts}
use Rattle.pts_prove_cost.proofs.OneOutcome.{one_free, one_sorted}
use Rattle.pts_prove.specs.declared.fault.ProveFault.{ProveFault}
use Rattle.pts_prove.specs.declared.work.Work.{Work}
use Rattle.pts_prove.specs.declared.work.Place.{Place}
use Rattle.pts_prove.specs.declared.work.Sorted.{Sorted}
use Rattle.pts_prove.specs.Answered.{Refuses, Tells, part_seen, of_reduction}
use Rattle.pts_prove.specs.Refining.{refinement_of}
use Rattle.pts_prove.specs.Works.{Grown, HasTerm, IsAsked, IsSorted, IsCompared, FitsAt, Came, term_in, sequent_at, sorting, agreeing}
use Rattle.pts_prove.proofs.Running.{stops, goes_on, hands, comes_to, revalued, tells_within}
use Rattle.pts_prove.proofs.Since.{term_stays, sequent_since, agreeing_since}

pub flaw_is : (xs : List Name) (f : AnswerFlaw) (k : Kind) → f.place ≡ [] → f.names ≡ xs → kind_seen f.kind ≡ k → flaw_seen f ≡ behind xs (here k)
flaw_is xs f k p n h = let e = append-nil xs in rw (p, n, h, e) refl

-- The terms that are shown are those from before.
pub unlike_before : (xs : List Name) (place : List ℕ) (t u v w : Named) (e : ProveFault) → t ≡ v → u ≡ w → Tells xs (flawed of_goal (here (not_convertible place t u))) e → Tells xs (flawed of_goal (here (not_convertible place v w))) e
unlike_before xs place t u v w e x y d =
    let d1 = subst (λ t. Tells xs (flawed of_goal (here (not_convertible place t u))) e) x d in
    subst (λ u. Tells xs (flawed of_goal (here (not_convertible place v u))) e) y d1

-- What the test says.
agrees_above : (a : Work) (p : Place) (t : ℕ) → AboveBudget (Tests a.front.now.entries nesting (entries_of a.proof.now p.ctx) (term_in a t) (term_in a p.statement)) (left a.meter.now) → AboveBudget (agreeing a p t) (left a.meter.now)
agrees_above a p t f o n (tested r) = f _ n r

agrees_not : (a b : Work) (p : Place) (t : ℕ) (xs : List Name) (e : ReduceFault) → Refused (Tests a.front.now.entries nesting (entries_of a.proof.now p.ctx) (term_in a t) (term_in a p.statement)) beyond e (left a.meter.now) (left b.meter.now) → Refuses xs (agreeing a p t) (of_reduction e) (left a.meter.now) (left b.meter.now)
agrees_not a b p t xs reduce.Spent w = (agrees_above a p t w.0, w.1)
agrees_not a b p t xs reduce.Deep w = (w.0, tested w.1, w.2)
agrees_not a b p t xs reduce.Memory w = tt

module _ {a b : Work} (p : Place) (t : ℕ) where
  pub agrees_yes : {f : Conversion} {n : ℕ} {o : Compared} (c l r : ℕ) → f ≡ Yes n → Answered a.front.now.entries (entries_of a.proof.now p.ctx) b.proof.now c l r (term_in a t) (term_in a p.statement) (left a.meter.now) (left b.meter.now) f → term_in b o.left ≡ term_in a t → Came a b (λ o. by_statement (term_in b o.left)) (Ok o) (agreeing a p t)
  agrees_yes {f} c l r e h x = record {
    answers =
        let w = (subst (λ f. Answered a.front.now.entries (entries_of a.proof.now p.ctx) b.proof.now c l r (term_in a t) (term_in a p.statement) (left a.meter.now) (left b.meter.now) f) e h).0 in
        subst (λ u. WithinBudget (agreeing a p t) (left a.meter.now) (comes (by_statement u)) (left b.meter.now)) (sym x) (w.0, tested w.1, w.2);
  }

  pub agrees_no : {X : Type 0} {value : X → Refinement} {f : Conversion} {place : List ℕ} {v w : ℕ} {e : ProveFault} (c l r : ℕ) → f ≡ No place v w → Answered a.front.now.entries (entries_of a.proof.now p.ctx) b.proof.now c l r (term_in a t) (term_in a p.statement) (left a.meter.now) (left b.meter.now) f → Tells b.names.now (flawed of_goal (here (not_convertible place (term_in a t) (term_in a p.statement)))) e → Came a b value (Err e) (agreeing a p t)
  agrees_no {f = f} {place = place} {e = e} c l r q h d = record {
    answers =
        let w = (subst (λ f. Answered a.front.now.entries (entries_of a.proof.now p.ctx) b.proof.now c l r (term_in a t) (term_in a p.statement) (left a.meter.now) (left b.meter.now) f) q h).2 in
        tells_within b.names.now _ e (agreeing a p t) (left a.meter.now) (left b.meter.now) d (w.0, tested w.1, w.2);
  }

  pub agrees_fault : {X : Type 0} {value : X → Refinement} {f : ProveFault} (e : ReduceFault) → f ≡ of_reduction e → Refused (Tests a.front.now.entries nesting (entries_of a.proof.now p.ctx) (term_in a t) (term_in a p.statement)) beyond e (left a.meter.now) (left b.meter.now) → Came a b value (Err f) (agreeing a p t)
  agrees_fault {f = f} e q w = record {
    answers = subst (λ f. Refuses b.names.now (agreeing a p t) f (left a.meter.now) (left b.meter.now)) (sym q) (agrees_not a b p t b.names.now e w);
  }

-- The step is one for the goal.
pub is_sort : {w : Work} {c t : ℕ} {s : Sorted} → IsSorted w c t s → IsSort w.proof.now s.judged.claim
is_sort {w} {s = s} h = ap (λ u. is_some (sort_in u)) (plain_sort w.proof.now.shapes s.judged.claim s.sort.0 h.sort)

pub change_fits : {w : Work} {p : Place} {t : ℕ} {s : Sorted} {o : Compared} → HasTerm w t → IsSorted w p.ctx t s → IsCompared w p.ctx t p.statement o → FitsAt w p (Change t s.judged o)
change_fits {w} {p} {t} {s} {o} h i j = record {
  fits = λ g c u.
      let k = w.proof.now in
      let x = subst (λ c. Judges k c s.judged) (sym c) i.judged.judges in
      let y = subst (λ c. Compares k c o) (sym c) j.compares in
      (h.there, (x, is_sort i), ap (bare_at k.shapes) i.judged.subject, (y, ap (bare_at k.shapes) j.left, ap (bare_at k.shapes) (j.right ∙ sym u)));
}

-- The statement has no sort.
pub change_unsorted : {a b : Work} {r : Result Step ProveFault} {e : ProveFault} (p : Place) (t : ℕ) (x : AnswerPart) → IsErr r × IsErrAnd r (λ x. x ≡ e) → Came a b (λ (s : Sorted). s.sort.0) (Err e) (sorting a p.ctx x t) → Came a b (refinement_of b.proof.now) r (changes a.system.now a.front.now.entries (sequent_at a p) (part_seen x) (term_in a t))
change_unsorted p t x i v = stops _ i v

module _ {a b : Work} {p : Place} {t : ℕ} {s : Sorted} (x : AnswerPart) (q : IsAsked a p) (h : HasTerm a t) (g : Grown a b) (v : Came a b (λ (s : Sorted). s.sort.0) (Ok s) (sorting a p.ctx x t)) where
  agrees_then : {X : Type 0} {c : Work} {value : X → Refinement} {r : Result X ProveFault} → Came b c value r (agreeing b p t) → Came a c value r (changes a.system.now a.front.now.entries (sequent_at a p) (part_seen x) (term_in a t))
  agrees_then u =
      let e = agreeing_since t g q ∙ ap (λ y. Agrees a.front.now.entries (entries_of a.proof.now p.ctx) y (term_in a p.statement)) (term_stays g h) in
      goes_on _ (one_sorted a.system.now a.front.now.entries (entries_of a.proof.now p.ctx) (part_seen x) (term_in a t)) v (comes_to e u)

  pub change_unlike : {c : Work} {r : Result Step ProveFault} {e : ProveFault} → IsErr r × IsErrAnd r (λ x. x ≡ e) → Came b c (λ (o : Compared). by_statement (term_in c o.left)) (Err e) (agreeing b p t) → Came a c (refinement_of c.proof.now) r (changes a.system.now a.front.now.entries (sequent_at a p) (part_seen x) (term_in a t))
  change_unlike i u = agrees_then (hands i u)

  pub change_comes : {c : Work} {o : Compared} → o.left ≡ t → Came b c (λ (o : Compared). by_statement (term_in c o.left)) (Ok o) (agreeing b p t) → Came a c (refinement_of c.proof.now) (Ok (Change t s.judged o)) (changes a.system.now a.front.now.entries (sequent_at a p) (part_seen x) (term_in a t))
  change_comes {c} {o} e u = agrees_then (revalued (ap (λ n. by_statement (term_in c n)) e) u)

-- A statement that is handed in.
module _ {a b : Work} {p : Place} {n : ℕ} (T : Named) (q : IsAsked a p) (g : Grown a b) (w : Came a b (term_in b) (Ok n) (limited T)) where
  pub convert_goes_on : {c : Work} {r : Result Step ProveFault} → Came b c (refinement_of c.proof.now) r (changes b.system.now b.front.now.entries (sequent_at b p) of_type (term_in b n)) → Came a c (refinement_of c.proof.now) r (converts a.system.now a.front.now.entries (sequent_at a p) T)
  convert_goes_on u =
      let s = g.system in
      let f = g.front in
      let e = sequent_since g q in
      let x = ap (λ o. changes b.system.now b.front.now.entries o of_type (term_in b n)) e in
      let y = ap (λ o. changes b.system.now o.now.entries (sequent_at a p) of_type (term_in b n)) f in
      let z = ap (λ o. changes o.now a.front.now.entries (sequent_at a p) of_type (term_in b n)) s in
      goes_on _ (one_free _) w (comes_to (x ∙ y ∙ z) u)
