-- What the first stages of the commands answer.
use Rattle.std.proofs.Common.{◌≡◌, ℕ, ◌<◌, refl, sym, ap, ◌∙◌, subst, List, length, true, Some, Ok, Err}
use Rattle.pts_names.specs.Name.{Name}
use Rattle.pts_terms.specs.Tree.{Named, sort}
use Rattle.pts_terms.specs.Limits.{within}
use Rattle.pts_record.specs.Table.{Tables, named_at}
use Rattle.pts_record.specs.Said.{Scope, named_told, judgement, scope_of, place_of, subject_of, claim_of}
use Rattle.pts_rules.specs.Meter.{left}
use Rattle.pts_reduce_cost.specs.Laws.{WithinBudget}
use Rattle.pts_infer_cost.specs.Typing.{Flaw, FitFlaw, Outcome, comes, as_sort, Infers, Sorts, Fits, inference_nesting}
use Rattle.pts_grow.specs.declared.fault.TermFault.{TermFault}
use Rattle.pts_grow.specs.declared.fault.TermFault.TheVariants.{TooLarge, Memory}
use Rattle.pts_grow.specs.declared.judged.Judged.{Judged}
use Rattle.pts_grow.specs.Keeps.{Keeps, IsNode, WhyNot}
use Rattle.pts_grow.specs.Judges.{Judges}
use Rattle.pts_grow.proofs.Grow.{stays, node_stays, tree_stays, told_stays}
use Rattle.pts_grow.proofs.Judgements.{still_typed}
use Rattle.pts_reduce.specs.Chain.{entries_of}
use Rattle.pts_infer.specs.Answered.{Refused, Unfit}
use Rattle.pts_infer.specs.declared.part.Part.{Part as AnswerPart}
use Rattle.pts_infer.specs.declared.answer.InferFault.{InferFault}
use Rattle.pts_infer.specs.declared.answer.InferFault.TheVariants as infer
use Rattle.pts_infer.specs.declared.answer.FitFault.{FitFault}
use Rattle.pts_infer.specs.declared.answer.FitFault.TheVariants as fit
use Rattle.pts_prove_cost.specs.Combining.{Turned}
use Rattle.pts_prove_cost.specs.Commands.{Refusal, flawed, misfit_in, limited}
use Rattle.pts_prove_cost.proofs.OnBudget.{limited_comes, limited_stops, turned_comes, turned_stops, turned_above}
use Rattle.pts_prove.specs.declared.fault.ProveFault.{ProveFault}
use Rattle.pts_prove.specs.declared.work.Work.{Work}
use Rattle.pts_prove.specs.declared.work.Sorted.{Sorted}
use Rattle.pts_prove.specs.Answered.{Refuses, part_seen, put_in, misfit_put_in, of_making}
use Rattle.pts_prove.specs.Works.{IsPlace, HasTerm, IsJudged, IsFitted, Came, term_in, claim_in, inferring, sorting, fitting}

-- A term that is handed in.
pub taken : {a b : Work} {n : ℕ} {t : Named} → b.meter ≡ a.meter → named_at b.proof.now.shapes n ≡ t → within t ≡ true → Came a b (term_in b) (Ok n) (limited t)
taken {a} {b} {n} {t} m e w = record {
  answers =
      let k = left a.meter.now in
      let h = subst (λ u. WithinBudget (limited {F = Refusal} t) k (comes t) (left u.now)) (sym m) (limited_comes t k w) in
      subst (λ u. WithinBudget (limited {F = Refusal} t) k (comes u) (left b.meter.now)) (sym e) h;
}

too_large_for : (xs : List Name) (e : TermFault) (t : Named) (b : ℕ) → WhyNot e t → Refuses xs (limited t) (of_making e) b b
too_large_for xs TooLarge t b h = limited_stops t b h
too_large_for xs Memory t b h = tt

pub untaken : {X : Type 0} {a b : Work} {value : X → Named} {h : ProveFault} (e : TermFault) (t : Named) → b.meter ≡ a.meter → h ≡ of_making e → WhyNot e t → Came a b value (Err h) (limited t)
untaken {a = a} {b = b} {h = h} e t m q w = record {
  answers =
      let k = left a.meter.now in
      let r = subst (λ u. Refuses b.names.now (limited t) (of_making e) k (left u.now)) (sym m) (too_large_for b.names.now e t k w) in
      subst (λ f. Refuses b.names.now (limited t) f k (left b.meter.now)) (sym q) r;
}

-- The judgement that a node is, by the number of its subject.
pub subject_named : (r : Tables) (c term node : ℕ) (j : Judged) → c ≡ place_of (named_told r node) → Judges r c j → j.node ≡ node → term < length r.shapes → subject_of (named_told r node) ≡ named_at r.shapes term → Judges r (place_of (named_told r node)) (record { subject = term; claim = j.claim; node = node })
subject_named r c term node j p h e l s =
    let m : named_told r node ≡ judgement c (scope_of (named_told r c)) (named_at r.shapes j.subject) (named_at r.shapes j.claim) = ap (named_told r) (sym e) ∙ h.2.1 in
    let u : named_at r.shapes j.subject ≡ named_at r.shapes term = sym (ap subject_of m) ∙ s in
    let n : named_told r node ≡ judgement c (scope_of (named_told r c)) (named_at r.shapes term) (named_at r.shapes j.claim) = m ∙ ap (λ t. judgement c (scope_of (named_told r c)) t (named_at r.shapes j.claim)) u in
    subst (λ d. Judges r d (record { subject = term; claim = j.claim; node = node })) p (l, h.1, (subst (λ k. k < length r.nodes) e h.2.0, n))

pub claim_named : (r : Tables) (c node : ℕ) (j : Judged) → Judges r c j → j.node ≡ node → named_at r.shapes j.claim ≡ claim_of (named_told r node)
claim_named r c node j h e = sym (ap claim_of (ap (named_told r) (sym e) ∙ h.2.1))

-- What a node says that is a judgement.
pub says_subject : (a r : Tables) (n c t : ℕ) (s : Scope Name) (T : Named) → Keeps a r → t < length a.shapes → named_told r n ≡ judgement c s (named_at a.shapes t) T → subject_of (named_told r n) ≡ named_at r.shapes t
says_subject a r n c t s T k l h = ap subject_of h ∙ sym (tree_stays a r t k l)

pub says_claim : (r : Tables) (n c x : ℕ) (s : Scope Name) (t T : Named) → named_told r n ≡ judgement c s t T → named_at r.shapes x ≡ claim_of (named_told r n) → named_at r.shapes x ≡ T
says_claim r n c x s t T h e = e ∙ ap claim_of h

-- The judgement in its context.
pub place_kept : {a b : Work} {c : ℕ} → Keeps a.proof.now b.proof.now → IsPlace a c → IsPlace b c
place_kept {a} {b} {c} k h = record {
  there = node_stays a.proof.now b.proof.now c k h.there;
  typed = still_typed a.proof.now b.proof.now c k h.there h.typed;
}

pub judged_in : {w : Work} {c t : ℕ} {j : Judged} (n : ℕ) (s : Scope Name) (u T : Named) → IsPlace w c → named_told w.proof.now n ≡ judgement c s u T → Judges w.proof.now (place_of (named_told w.proof.now n)) j → j.subject ≡ t → IsJudged w c t j
judged_in {w} {c} {t} {j} n s u T p h g q =
    let i = subst (λ d. Judges w.proof.now d j) (ap place_of h) g in
    record { place = p; subject = q; claim = record { there = i.1 }; judges = i }

-- The faults of an inference and of a fit, in a part.
pub infer_refused : {A : Type 0} (xs : List Name) (R : Outcome Flaw A → ℕ → Type 0) (p : AnswerPart) (e : InferFault) (b k : ℕ) → Refused xs R e b k → Refuses xs (Turned (flawed (part_seen p)) R) (put_in p e) b k
infer_refused xs R p (infer.Flaw f) b k w = (w.0, w.1, turned_stops (flawed (part_seen p)) R b k _ w.2)
infer_refused xs R p infer.Spent b k w = (turned_above (flawed (part_seen p)) R b w.0, w.1)
infer_refused xs R p infer.Deep b k w = turned_stops (flawed (part_seen p)) R b k _ w
infer_refused xs R p infer.Memory b k w = tt

fit_refused : (xs : List Name) (R : Outcome FitFlaw (Unit {0}) → ℕ → Type 0) (p : AnswerPart) (e : FitFault) (b k : ℕ) → Unfit xs R e b k → Refuses xs (Turned (misfit_in (part_seen p)) R) (misfit_put_in p e) b k
fit_refused xs R p (fit.Wanted f) b k w = (w.0, w.1, turned_stops (misfit_in (part_seen p)) R b k _ w.2)
fit_refused xs R p (fit.Judged f) b k w = (w.0, w.1, turned_stops (misfit_in (part_seen p)) R b k _ w.2)
fit_refused xs R p fit.Spent b k w = (turned_above (misfit_in (part_seen p)) R b w.0, w.1)
fit_refused xs R p fit.Deep b k w = turned_stops (misfit_in (part_seen p)) R b k _ w
fit_refused xs R p fit.Memory b k w = tt

-- What the inference of a term answers.
pub inferred_value : {a b : Work} {j : Judged} (c : ℕ) (p : AnswerPart) (t : ℕ) (T : Named) → WithinBudget (Infers a.system.now a.front.now.entries inference_nesting (entries_of a.proof.now c) (term_in a t)) (left a.meter.now) (comes T) (left b.meter.now) → named_at b.proof.now.shapes j.claim ≡ T → Came a b (claim_in b) (Ok j) (inferring a c p t)
inferred_value {a} {b} {j} c p t T w e = record {
  answers = subst (λ U. WithinBudget (inferring a c p t) (left a.meter.now) (comes U) (left b.meter.now)) (sym e) (turned_comes (flawed (part_seen p)) _ (left a.meter.now) (left b.meter.now) T w);
}

pub inferred_fault : {X : Type 0} {a b : Work} {value : X → Named} {h : ProveFault} (c : ℕ) (p : AnswerPart) (t : ℕ) (e : InferFault) → b.names ≡ a.names → h ≡ put_in p e → Refused a.names.now (Infers a.system.now a.front.now.entries inference_nesting (entries_of a.proof.now c) (term_in a t)) e (left a.meter.now) (left b.meter.now) → Came a b value (Err h) (inferring a c p t)
inferred_fault {a = a} {b = b} {h = h} c p t e n q w = record {
  answers =
      let r = infer_refused a.names.now _ p e (left a.meter.now) (left b.meter.now) w in
      let s = subst (λ x. Refuses x.now (inferring a c p t) (put_in p e) (left a.meter.now) (left b.meter.now)) (sym n) r in
      subst (λ f. Refuses b.names.now (inferring a c p t) f (left a.meter.now) (left b.meter.now)) (sym q) s;
}

-- The same with the sort test.
pub sorted_value : {a b : Work} {s : Sorted} (c : ℕ) (p : AnswerPart) (t : ℕ) (q : ℕ) → WithinBudget (Sorts a.system.now a.front.now.entries inference_nesting (entries_of a.proof.now c) (term_in a t)) (left a.meter.now) (comes q) (left b.meter.now) → s.sort.0 ≡ q → Came a b (λ s. s.sort.0) (Ok s) (sorting a c p t)
sorted_value {a} {b} {s} c p t q w e = record {
  answers = subst (λ n. WithinBudget (sorting a c p t) (left a.meter.now) (comes n) (left b.meter.now)) (sym e) (turned_comes (flawed (part_seen p)) _ (left a.meter.now) (left b.meter.now) q w);
}

pub sorted_fault : {X : Type 0} {a b : Work} {value : X → ℕ} {h : ProveFault} (c : ℕ) (p : AnswerPart) (t : ℕ) (e : InferFault) → b.names ≡ a.names → h ≡ put_in p e → Refused a.names.now (Sorts a.system.now a.front.now.entries inference_nesting (entries_of a.proof.now c) (term_in a t)) e (left a.meter.now) (left b.meter.now) → Came a b value (Err h) (sorting a c p t)
sorted_fault {a = a} {b = b} {h = h} c p t e n q w = record {
  answers =
      let r = infer_refused a.names.now _ p e (left a.meter.now) (left b.meter.now) w in
      let s = subst (λ x. Refuses x.now (sorting a c p t) (put_in p e) (left a.meter.now) (left b.meter.now)) (sym n) r in
      subst (λ f. Refuses b.names.now (sorting a c p t) f (left a.meter.now) (left b.meter.now)) (sym q) s;
}

-- The sort that a claim is.
pub sort_read : (t : Named) (q s : ℕ) → t ≡ sort q → as_sort t ≡ Some s → s ≡ q
sort_read t q s e h = let f : Some s ≡ Some q = sym h ∙ ap as_sort e in cc f

-- What the node of a judgement says of it.
pub node_entries : {w : Work} {c t : ℕ} {j : Judged} → IsJudged w c t j → named_told w.proof.now j.node ≡ judgement c (scope_of (named_told w.proof.now c)) (term_in w j.subject) (term_in w j.claim)
node_entries h = h.judges.2.1

-- What the fit of a judgement answers.
pub fitted_value : {X : Type 0} {a b : Work} {x : X} {c t : ℕ} {j : Judged} (p : AnswerPart) (want : ℕ) → IsJudged a c t j → WithinBudget (Fits a.system.now a.front.now.entries inference_nesting (entries_of a.proof.now j.node) (claim_of (named_told a.proof.now j.node)) (term_in a want)) (left a.meter.now) (comes tt) (left b.meter.now) → Came a b (λ (x : X). tt) (Ok x) (fitting a c p j.claim want)
fitted_value {a = a} {b = b} {c = c} {j = j} p want h w = record {
  answers =
      let v = subst (λ m. WithinBudget (Fits a.system.now a.front.now.entries inference_nesting (scope_of m).entries (claim_of m) (term_in a want)) (left a.meter.now) (comes tt) (left b.meter.now)) (node_entries h) w in
      turned_comes (misfit_in (part_seen p)) _ (left a.meter.now) (left b.meter.now) tt v;
}

pub fitted_fault : {X : Type 0} {a b : Work} {value : X → Unit {0}} {c t : ℕ} {j : Judged} {f : ProveFault} (p : AnswerPart) (want : ℕ) (e : FitFault) → b.names ≡ a.names → f ≡ misfit_put_in p e → IsJudged a c t j → Unfit a.names.now (Fits a.system.now a.front.now.entries inference_nesting (entries_of a.proof.now j.node) (claim_of (named_told a.proof.now j.node)) (term_in a want)) e (left a.meter.now) (left b.meter.now) → Came a b value (Err f) (fitting a c p j.claim want)
fitted_fault {a = a} {b = b} {c = c} {j = j} {f = f} p want e n q h w = record {
  answers =
      let v = subst (λ m. Unfit a.names.now (Fits a.system.now a.front.now.entries inference_nesting (scope_of m).entries (claim_of m) (term_in a want)) e (left a.meter.now) (left b.meter.now)) (node_entries h) w in
      let r = fit_refused a.names.now _ p e (left a.meter.now) (left b.meter.now) v in
      let s = subst (λ x. Refuses x.now (fitting a c p j.claim want) (misfit_put_in p e) (left a.meter.now) (left b.meter.now)) (sym n) r in
      subst (λ g. Refuses b.names.now (fitting a c p j.claim want) g (left a.meter.now) (left b.meter.now)) (sym q) s;
}

-- The judgement with the wanted type.
fitted_in : {a b : Work} {c t n want : ℕ} {j : Judged} → IsJudged a c t j → Keeps a.proof.now b.proof.now → IsPlace b c → HasTerm b want → HasTerm b j.subject → IsNode b.proof.now n (judgement (place_of (named_told a.proof.now j.node)) (scope_of (named_told a.proof.now j.node)) (subject_of (named_told a.proof.now j.node)) (term_in a want)) → HasTerm a want → HasTerm a j.subject → Judges b.proof.now c (record { subject = j.subject; claim = want; node = n })
fitted_in {a} {b} {c} {t} {n} {want} {j} h k p w s i x y =
    let e = node_entries h in
    let i1 = subst (λ m. IsNode b.proof.now n (judgement (place_of m) (scope_of m) (subject_of m) (term_in a want))) e i in
    let q = told_stays a.proof.now b.proof.now c k h.place.there in
    let u = tree_stays a.proof.now b.proof.now j.subject k y.there in
    let v = tree_stays a.proof.now b.proof.now want k x.there in
    (s.there, w.there, (i1.0, i1.1 ∙ ap (λ m. judgement c (scope_of m) (term_in a j.subject) (term_in a want)) (sym q) ∙ ap (λ T. judgement c (scope_of (named_told b.proof.now c)) T (term_in a want)) (sym u) ∙ ap (judgement c (scope_of (named_told b.proof.now c)) (term_in b j.subject)) (sym v)))

pub is_fitted : {a b : Work} {c t n want : ℕ} {j : Judged} → IsJudged a c t j → Keeps a.proof.now b.proof.now → HasTerm a want → IsNode b.proof.now n (judgement (place_of (named_told a.proof.now j.node)) (scope_of (named_told a.proof.now j.node)) (subject_of (named_told a.proof.now j.node)) (term_in a want)) → IsFitted b c j.subject want (record { subject = j.subject; claim = want; node = n })
is_fitted {a} {b} {c} {n = n} {want} {j} h k w i =
    let p = place_kept k h.place in
    let x : HasTerm b want = record { there = stays a.proof.now b.proof.now want k w.there } in
    let y : HasTerm a j.subject = record { there = h.judges.0 } in
    let z : HasTerm b j.subject = record { there = stays a.proof.now b.proof.now j.subject k y.there } in
    record { judged = record { place = p; subject = refl; claim = x; judges = fitted_in h k p x z i w y }; claim = refl }
