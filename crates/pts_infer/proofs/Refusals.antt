-- What the public calls answer.
use Rattle.std.proofs.Common.{◌≡◌, ℕ, ◌<◌, refl, sym, ap, ◌∙◌, subst, List, length, true}
use Rattle.pts_names.specs.Name.{Name}
use Rattle.pts_terms.specs.Tree.{Named, sort}
use Rattle.pts_ctx.specs.System.{Specification}
use Rattle.pts_record.specs.declared.shape.Shape.{Shape}
use Rattle.pts_record.specs.Table.{Tables, named_at}
use Rattle.pts_record.specs.declared.shape.Form.{Form}
use Rattle.pts_record.specs.declared.shape.Form.TheVariants.{Empty, Assume, Define, Bare as BareForm, Same, Left, Right, CongApp, CongLam, CongPi}
use Rattle.pts_record.specs.Said.{Said, Row, named_told, judgement, scope_of, say_as, is_judgement, has_terms, place_of, subject_of, claim_of}
use Rattle.pts_reduce_cost.specs.Costs.{Globals, Entries}
use Rattle.pts_reduce_cost.specs.Run.{Run, ends}
use Rattle.pts_reduce_cost.specs.Laws.{WithinBudget}
use Rattle.pts_infer_cost.specs.Typing.{Flaw, FitFlaw, SortTest, Sorts, Fits, Infers, Outcome, comes, inference_nesting}
use Rattle.pts_infer_cost.specs.Laws.{IsWork}
use Rattle.pts_infer_cost.specs.Inference.{inferred, sort_tested, sorted, fitted}
use Rattle.pts_infer_cost.proofs.Exact.{inference_within, inference_exact, sort_test_within, sort_test_exact, sorts_exact, fit_within, fit_exact}
use Rattle.pts_grow.specs.Keeps.{Keeps, IsNode}
use Rattle.pts_grow.proofs.Grow.{tree_stays, told_stays}
use Rattle.pts_grow.specs.declared.judged.Judged.{Judged}
use Rattle.pts_grow.specs.Judges.{Judges}
use Rattle.pts_reduce.specs.Chain.{entries_of}
use Rattle.pts_infer.specs.declared.fault.Fault.{Fault}
use Rattle.pts_infer.specs.declared.fault.Fault.TheVariants.{Spent, Deep, Memory, Flawed}
use Rattle.pts_infer.specs.declared.answer.InferFault.{InferFault}
use Rattle.pts_infer.specs.declared.answer.InferFault.TheVariants as infer
use Rattle.pts_infer.specs.declared.fault.Misfit.{Misfit}
use Rattle.pts_infer.specs.declared.fault.Misfit.TheVariants as misfit
use Rattle.pts_infer.specs.declared.answer.FitFault.{FitFault}
use Rattle.pts_infer.specs.declared.answer.FitFault.TheVariants as fit
use Rattle.pts_infer.specs.Given.{StopsWith, MisfitsWith, FaultStands, MisfitStands, flaw_of}
use Rattle.pts_infer.specs.Answered.{Refused, ShownAs, Unfit, ShownMisfit}

-- The terms of a fault stand.
pub fault_stands : {A : Type 0} (ss : List Shape) (e : Fault) (k : ℕ) (r : Run Flaw A) → StopsWith ss e k r → FaultStands (length ss) e
fault_stands ss Memory k r h = tt
fault_stands ss Spent k r h = tt
fault_stands ss Deep k r h = tt
fault_stands ss (Flawed f) k r h = h.0

-- Exact work that stopped is refused.
pub refused_as : {A : Type 0} (costs : Outcome Flaw A → ℕ → Type 0) (b : ℕ) (r : Run Flaw A) (ss : List Shape) (xs : List Name) (e : Fault) (h : InferFault) (k : ℕ) → IsWork costs b r → ShownAs ss xs e h → StopsWith ss e k r → Refused xs costs h b k
refused_as costs b r ss xs e infer.Memory k w t s = tt
refused_as costs b r ss xs Spent infer.Spent k w t s = (subst (IsWork costs b) s.0 w, s.1)
refused_as costs b r ss xs Deep infer.Deep k w t s = subst (IsWork costs b) s w
refused_as costs b r ss xs (Flawed f) (infer.Flaw h) k w t s = (flaw_of ss f, t, subst (IsWork costs b) s.1 w)
refused_as costs b r ss xs Spent infer.Deep k w t s = absurd t
refused_as costs b r ss xs Spent (infer.Flaw h) k w t s = absurd t
refused_as costs b r ss xs Deep infer.Spent k w t s = absurd t
refused_as costs b r ss xs Deep (infer.Flaw h) k w t s = absurd t
refused_as costs b r ss xs Memory infer.Spent k w t s = absurd t
refused_as costs b r ss xs Memory infer.Deep k w t s = absurd t
refused_as costs b r ss xs Memory (infer.Flaw h) k w t s = absurd t
refused_as costs b r ss xs (Flawed f) infer.Spent k w t s = absurd t
refused_as costs b r ss xs (Flawed f) infer.Deep k w t s = absurd t

module _ (S : Specification) (G : Globals) (L : Entries) (t : Named) (b : ℕ) where
  pub inference_refused : (ss : List Shape) (xs : List Name) (e : Fault) (h : InferFault) (k : ℕ) → ShownAs ss xs e h → StopsWith ss e k (inferred S G 4000 L t b) → Refused xs (Infers S G inference_nesting L t) h b k
  inference_refused ss xs e h k s r = refused_as (Infers S G 4000 L t) b (inferred S G 4000 L t b) ss xs e h k (inference_exact S G 4000 L t b) s r

-- The judgement that was inferred.
pub inference_judged : (S : Specification) (G : Globals) (L : Entries) (a n : Tables) (c t : ℕ) (b k : ℕ) (j : Judged) → Keeps a n → c < length a.nodes → t < length a.shapes → j.subject ≡ t → Judges n c j → inferred S G 4000 L (named_at a.shapes t) b ≡ ends (named_at n.shapes j.claim) k → (T : Named) × WithinBudget (Infers S G inference_nesting L (named_at a.shapes t)) b (comes T) k × IsNode n j.node (judgement c (scope_of (named_told a c)) (named_at a.shapes t) T)
inference_judged S G L a n c t b k j g l m p h r =
    let x = told_stays a n c g l in
    let y = tree_stays a n t g m in
    let w = inference_within S G 4000 L (named_at a.shapes t) (named_at n.shapes j.claim) b k r in
    (named_at n.shapes j.claim, w, (h.2.0, h.2.1 ∙ ap (λ m. judgement c (scope_of m) (named_at n.shapes j.subject) (named_at n.shapes j.claim)) x ∙ ap (λ u. judgement c (scope_of (named_told a c)) u (named_at n.shapes j.claim)) (ap (named_at n.shapes) p ∙ y)))

-- The same with the sort test.
pub sorted_judged : (S : Specification) (G : Globals) (L : Entries) (a n : Tables) (c t b k s : ℕ) (j : Judged) → Keeps a n → c < length a.nodes → t < length a.shapes → j.subject ≡ t → Judges n c j → named_at n.shapes j.claim ≡ sort s → sorted S G (inferred S G 4000) L (named_at a.shapes t) b ≡ ends s k → (x : ℕ) × WithinBudget (Sorts S G inference_nesting L (named_at a.shapes t)) b (comes x) k × IsNode n j.node (judgement c (scope_of (named_told a c)) (named_at a.shapes t) (sort x))
sorted_judged S G L a n c t b k s j g l m p h i r =
    let x = told_stays a n c g l in
    let y = tree_stays a n t g m in
    let w : WithinBudget (Sorts S G 4000 L (named_at a.shapes t)) b (comes s) k = subst (IsWork (Sorts S G 4000 L (named_at a.shapes t)) b) r (sorts_exact S G 4000 L (named_at a.shapes t) b) in
    (s, w, (h.2.0, h.2.1 ∙ ap (λ m. judgement c (scope_of m) (named_at n.shapes j.subject) (named_at n.shapes j.claim)) x ∙ ap (λ u. judgement c (scope_of (named_told a c)) u (named_at n.shapes j.claim)) (ap (named_at n.shapes) p ∙ y) ∙ ap (judgement c (scope_of (named_told a c)) (named_at a.shapes t)) i))

pub sorted_refused : (S : Specification) (G : Globals) (L : Entries) (t : Named) (ss : List Shape) (xs : List Name) (e : Fault) (h : InferFault) (b k : ℕ) → ShownAs ss xs e h → StopsWith ss e k (sorted S G (inferred S G 4000) L t b) → Refused xs (Sorts S G inference_nesting L t) h b k
sorted_refused S G L t ss xs e h b k s r = refused_as (Sorts S G 4000 L t) b (sorted S G (inferred S G 4000) L t b) ss xs e h k (sorts_exact S G 4000 L t b) s r

pub ruleset inferences = (fault_stands, inference_refused, inference_judged)

-- The same of fits.
pub misfit_stands : (ss : List Shape) (e : Misfit) (k : ℕ) (r : Run FitFlaw (Unit {0})) → MisfitsWith ss e k r → MisfitStands (length ss) e
misfit_stands ss misfit.Memory k r h = tt
misfit_stands ss misfit.Spent k r h = tt
misfit_stands ss misfit.Deep k r h = tt
misfit_stands ss (misfit.Wanted f) k r h = h.0
misfit_stands ss (misfit.Own f) k r h = h.0

pub unfit_as : (costs : Outcome FitFlaw (Unit {0}) → ℕ → Type 0) (b : ℕ) (r : Run FitFlaw (Unit {0})) (ss : List Shape) (xs : List Name) (e : Misfit) (h : FitFault) (k : ℕ) → IsWork costs b r → ShownMisfit ss xs e h → MisfitsWith ss e k r → Unfit xs costs h b k
unfit_as costs b r ss xs e fit.Memory k w t s = tt
unfit_as costs b r ss xs misfit.Spent fit.Spent k w t s = (subst (IsWork costs b) s.0 w, s.1)
unfit_as costs b r ss xs misfit.Deep fit.Deep k w t s = subst (IsWork costs b) s w
unfit_as costs b r ss xs (misfit.Wanted f) (fit.Wanted h) k w t s = (flaw_of ss f, t, subst (IsWork costs b) s.1 w)
unfit_as costs b r ss xs (misfit.Own f) (fit.Judged h) k w t s = (flaw_of ss f, t, subst (IsWork costs b) s.1 w)
unfit_as costs b r ss xs misfit.Spent fit.Deep k w t s = absurd t
unfit_as costs b r ss xs misfit.Spent (fit.Wanted h) k w t s = absurd t
unfit_as costs b r ss xs misfit.Spent (fit.Judged h) k w t s = absurd t
unfit_as costs b r ss xs misfit.Deep fit.Spent k w t s = absurd t
unfit_as costs b r ss xs misfit.Deep (fit.Wanted h) k w t s = absurd t
unfit_as costs b r ss xs misfit.Deep (fit.Judged h) k w t s = absurd t
unfit_as costs b r ss xs misfit.Memory fit.Spent k w t s = absurd t
unfit_as costs b r ss xs misfit.Memory fit.Deep k w t s = absurd t
unfit_as costs b r ss xs misfit.Memory (fit.Wanted h) k w t s = absurd t
unfit_as costs b r ss xs misfit.Memory (fit.Judged h) k w t s = absurd t
unfit_as costs b r ss xs (misfit.Wanted f) fit.Spent k w t s = absurd t
unfit_as costs b r ss xs (misfit.Wanted f) fit.Deep k w t s = absurd t
unfit_as costs b r ss xs (misfit.Wanted f) (fit.Judged h) k w t s = absurd t
unfit_as costs b r ss xs (misfit.Own f) fit.Spent k w t s = absurd t
unfit_as costs b r ss xs (misfit.Own f) fit.Deep k w t s = absurd t
unfit_as costs b r ss xs (misfit.Own f) (fit.Wanted h) k w t s = absurd t

-- What a judgement says, by the node with the number of a judgement.
pub of_judgement : (a : Tables) (c node : ℕ) (j : Judged) → Judges a c j → j.node ≡ node → named_told a node ≡ judgement c (scope_of (named_told a c)) (named_at a.shapes j.subject) (named_at a.shapes j.claim)
of_judgement a c node j h e = ap (named_told a) (sym e) ∙ h.2.1

module _ (S : Specification) (G : Globals) (a n : Tables) (c node : ℕ) (j : Judged) (q : Judges a c j) (p : j.node ≡ node) where
  pub test_judged : (i : Judged) (s b k : ℕ) → Keeps a n → c < length a.nodes → Judges n c i → i.subject ≡ j.subject → named_at n.shapes i.claim ≡ sort s → sort_tested S G (entries_of a c) (named_at a.shapes j.claim) b ≡ ends s k → (x : ℕ) × WithinBudget (SortTest S G (scope_of (named_told a node)).entries (claim_of (named_told a node))) b (comes x) k × IsNode n i.node (judgement (place_of (named_told a node)) (scope_of (named_told a node)) (subject_of (named_told a node)) (sort x))
  test_judged i s b k g l h u v r =
      let x = told_stays a n c g l in
      let y = ap (named_at n.shapes) u ∙ tree_stays a n j.subject g q.0 in
      let e = h.2.1 ∙ ap (λ m. judgement c (scope_of m) (named_at n.shapes i.subject) (named_at n.shapes i.claim)) x ∙ ap (λ t. judgement c (scope_of (named_told a c)) t (named_at n.shapes i.claim)) y ∙ ap (judgement c (scope_of (named_told a c)) (named_at a.shapes j.subject)) v in
      let w = sort_test_within S G (entries_of a c) (named_at a.shapes j.claim) s b k r in
      subst (λ m. (x : ℕ) × WithinBudget (SortTest S G (scope_of m).entries (claim_of m)) b (comes x) k × IsNode n i.node (judgement (place_of m) (scope_of m) (subject_of m) (sort x))) (sym (of_judgement a c node j q p)) (s, w, (h.2.0, e))

  pub test_refused : (ss : List Shape) (xs : List Name) (e : Fault) (h : InferFault) (b k : ℕ) → ShownAs ss xs e h → StopsWith ss e k (sort_tested S G (entries_of a c) (named_at a.shapes j.claim) b) → Refused xs (SortTest S G (scope_of (named_told a node)).entries (claim_of (named_told a node))) h b k
  test_refused ss xs e h b k t r = subst (λ m. Refused xs (SortTest S G (scope_of m).entries (claim_of m)) h b k) (sym (of_judgement a c node j q p)) (refused_as (SortTest S G (entries_of a c) (named_at a.shapes j.claim)) b (sort_tested S G (entries_of a c) (named_at a.shapes j.claim) b) ss xs e h k (sort_test_exact S G (entries_of a c) (named_at a.shapes j.claim) b) t r)

  pub fit_judged : (W : Named) (i : Judged) (b k : ℕ) → Keeps a n → c < length a.nodes → Judges n c i → i.subject ≡ j.subject → named_at n.shapes i.claim ≡ W → fitted S G (inferred S G 4000) (entries_of a c) (named_at a.shapes j.claim) W b ≡ ends tt k → WithinBudget (Fits S G inference_nesting (scope_of (named_told a node)).entries (claim_of (named_told a node)) W) b (comes tt) k × IsNode n i.node (judgement (place_of (named_told a node)) (scope_of (named_told a node)) (subject_of (named_told a node)) W)
  fit_judged W i b k g l h u v r =
      let x = told_stays a n c g l in
      let y = ap (named_at n.shapes) u ∙ tree_stays a n j.subject g q.0 in
      let e = h.2.1 ∙ ap (λ m. judgement c (scope_of m) (named_at n.shapes i.subject) (named_at n.shapes i.claim)) x ∙ ap (λ t. judgement c (scope_of (named_told a c)) t (named_at n.shapes i.claim)) y ∙ ap (judgement c (scope_of (named_told a c)) (named_at a.shapes j.subject)) v in
      let w = fit_within S G 4000 (entries_of a c) (named_at a.shapes j.claim) W b k r in
      subst (λ m. WithinBudget (Fits S G inference_nesting (scope_of m).entries (claim_of m) W) b (comes tt) k × IsNode n i.node (judgement (place_of m) (scope_of m) (subject_of m) W)) (sym (of_judgement a c node j q p)) (w, (h.2.0, e))

  pub fit_refused : (W : Named) (ss : List Shape) (xs : List Name) (e : Misfit) (h : FitFault) (b k : ℕ) → ShownMisfit ss xs e h → MisfitsWith ss e k (fitted S G (inferred S G 4000) (entries_of a c) (named_at a.shapes j.claim) W b) → Unfit xs (Fits S G inference_nesting (scope_of (named_told a node)).entries (claim_of (named_told a node)) W) h b k
  fit_refused W ss xs e h b k t r = subst (λ m. Unfit xs (Fits S G inference_nesting (scope_of m).entries (claim_of m) W) h b k) (sym (of_judgement a c node j q p)) (unfit_as (Fits S G 4000 (entries_of a c) (named_at a.shapes j.claim) W) b (fitted S G (inferred S G 4000) (entries_of a c) (named_at a.shapes j.claim) W b) ss xs e h k (fit_exact S G 4000 (entries_of a c) (named_at a.shapes j.claim) W b) t r)
