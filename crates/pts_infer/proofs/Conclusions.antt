-- Records that are opened for a term, and that end with its judgement.
use Rattle.std.proofs.Common.{◌≡◌, ℕ, ◌<◌, ◌+◌, suc, pred, refl, sym, ap, ◌∙◌, subst, List, [], ◌∷◌, ◌++◌, length, true, false, Some, None, arith, Result, Ok, Err, OnOk, IfErr}
use Rattle.std.proofs.lemmas.List.{length-append}
use Rattle.pts_names.specs.Name.{Name}
use Rattle.pts_terms.specs.Tree.{Named, bare, sort}
use Rattle.pts_terms.specs.Limits.{within}
use Rattle.pts_terms.proofs.Same.{same_term_self}
use Rattle.pts_ctx.specs.System.{Specification}
use Rattle.pts_ctx.specs.Front.{Front}
use Rattle.pts_record.specs.declared.shape.Shape.{Shape}
use Rattle.pts_terms.specs.declared.term.Term.{Term}
use Rattle.pts_terms.specs.Seen.{named}
use Rattle.pts_record.specs.declared.shape.Form.TheVariants.{Thin}
use Rattle.pts_record.specs.declared.shape.Node.{Node}
use Rattle.pts_record.specs.Table.{Tables, named_at, bare_at}
use Rattle.pts_record.specs.Said.{told}
use Rattle.pts_rules.specs.Valid.{IsValid, first_fault, last_said, concludes_as}
use Rattle.pts_reduce_cost.specs.Costs.{Globals}
use Rattle.pts_reduce_cost.specs.Run.{Run, ends, fails, deep, spent}
use Rattle.pts_reduce_cost.specs.Laws.{WithinBudget, AboveBudget}
use Rattle.pts_infer_cost.specs.Typing.{Flaw, FitFlaw, Infers, Sorts, Fits, wanted, judged, by_flaw, Outcome, comes, stops, by_limits, inference_nesting}
use Rattle.pts_infer_cost.specs.Laws.{IsWork}
use Rattle.pts_infer_cost.specs.Inference.{inferred, sorted}
use Rattle.pts_infer_cost.proofs.Exact.{inference_exact, sorts_exact, inference_once}
use Rattle.pts_grow.specs.Keeps.{Keeps, StaysValid}
use Rattle.pts_grow.proofs.Grow.{with_node, node_stays}
use Rattle.pts_grow.specs.declared.judged.Judged.{Judged}
use Rattle.pts_grow.specs.Judges.{Judges}
use Rattle.pts_grow.proofs.Judgements.{judged_bare, still_typed}
use Rattle.pts_grow.proofs.Plain.{plain, plain_sort}
use Rattle.pts_reduce.specs.Chain.{entries_of}
use Rattle.pts_infer.specs.declared.fault.Fault.{Fault}
use Rattle.pts_infer.specs.declared.fault.Fault.TheVariants.{Spent, Deep, Memory, Flawed}
use Rattle.pts_infer.specs.declared.answer.FitFault.{FitFault}
use Rattle.pts_infer.specs.declared.answer.FitFault.TheVariants as fit
use Rattle.pts_infer.specs.Given.{StopsWith, IsOpened, EitherLarge, first_large, second_large, flaw_of}
use Rattle.pts_infer.specs.Answered.{Unfit, ShownJudged, OfTerm, term_too_large, term_inferred, OfType, type_too_large, type_sorted, OfFitted, body_too_large, wanted_too_large, body_stops, body_fitted}
use Rattle.pts_infer.proofs.Runs.{entries_stay}

-- The empty record is valid.
pub nothing_faulty : (S : Specification) (G : Front) (r : Tables) → r ≡ record { shapes = []; nodes = [] } → IsValid S G r
unfolding first_fault
nothing_faulty S G r e = rw e refl

-- A judgement in the empty context, as the last node, concludes its terms.
pub concluded_by : (r : Tables) (c n : ℕ) (j : Judged) → entries_of r c ≡ [] → suc n ≡ length r.nodes → Judges r c (record { subject = j.subject; claim = j.claim; node = n }) → concludes_as (last_said r) (Some (bare (named_at r.shapes j.subject))) (bare (named_at r.shapes j.claim)) ≡ true
concluded_by r c n j e p h =
    let d : last_said r ≡ told r n = ap (told r) (let q : pred (length r.nodes) ≡ n = ap pred (sym p) in q) in
    let m = judged_bare r c (record { subject = j.subject; claim = j.claim; node = n }) h in
    let t : bare (named_at r.shapes j.subject) ≡ bare_at r.shapes j.subject = sym (plain r.shapes j.subject (named_at r.shapes j.subject) refl) in
    let u : bare (named_at r.shapes j.claim) ≡ bare_at r.shapes j.claim = sym (plain r.shapes j.claim (named_at r.shapes j.claim) refl) in
    let x = same_term_self (bare_at r.shapes j.subject) in
    let y = same_term_self (bare_at r.shapes j.claim) in
    rw (d, m, t, u, e, x, y) refl

-- What becomes of a term that is within limits.
pub term_work : (S : Specification) (G : Globals) (t : Named) (b : ℕ) (r : Run Flaw Named) → within t ≡ true → IsWork (Infers S G inference_nesting [] t) b r → IsWork (OfTerm S G t) b r
term_work S G t b (ends T k) w (n, c, e) = (n, term_inferred w c, e)
term_work S G t b (fails f k) w (n, c, e) = (n, term_inferred w c, e)
term_work S G t b (deep k) w (n, c, e) = (n, term_inferred w c, e)
term_work S G t b spent w h = λ o n d. above o n d where
  above : (o : Outcome Flaw Named) (n : ℕ) → OfTerm S G t o n → b < n
  above _ _ (term_too_large p) = let x : true ≡ false = sym w ∙ p in absurd (cc x)
  above o n (term_inferred p c) = h o n c

pub large_term : (S : Specification) (G : Globals) (t : Named) (b : ℕ) → within t ≡ false → WithinBudget (OfTerm S G t) b (stops by_limits) b
large_term S G t b w = (0, term_too_large w, omega arith)

pub term_exact : (S : Specification) (G : Globals) (t : Named) (b : ℕ) → within t ≡ true → IsWork (OfTerm S G t) b (inferred S G 4000 [] t b)
term_exact S G t b w = term_work S G t b (inferred S G 4000 [] t b) w (inference_exact S G 4000 [] t b)

pub term_typed : (S : Specification) (G : Globals) (t T : Named) (ty : Term) (b k : ℕ) → within t ≡ true → inferred S G 4000 [] t b ≡ ends T k → named ty ≡ T → WithinBudget (OfTerm S G t) b (comes (named ty)) k
term_typed S G t T ty b k w e p =
    let x : WithinBudget (OfTerm S G t) b (comes T) k = subst (IsWork (OfTerm S G t) b) e (term_exact S G t b w) in
    subst (λ A. WithinBudget (OfTerm S G t) b (comes A) k) (sym p) x

-- The same with a sort.
pub sorted_by : (r : Tables) (c n s : ℕ) (j : Judged) → entries_of r c ≡ [] → suc n ≡ length r.nodes → Judges r c (record { subject = j.subject; claim = j.claim; node = n }) → named_at r.shapes j.claim ≡ sort s → concludes_as (last_said r) None (bare (named_at r.shapes j.subject)) ≡ true
sorted_by r c n s j e p h i =
    let d : last_said r ≡ told r n = ap (told r) (let q : pred (length r.nodes) ≡ n = ap pred (sym p) in q) in
    let m = judged_bare r c (record { subject = j.subject; claim = j.claim; node = n }) h in
    let t : bare (named_at r.shapes j.subject) ≡ bare_at r.shapes j.subject = sym (plain r.shapes j.subject (named_at r.shapes j.subject) refl) in
    let u : bare_at r.shapes j.claim ≡ sort s = plain_sort r.shapes j.claim s i in
    let x = same_term_self (bare_at r.shapes j.subject) in
    rw (d, m, t, u, e, x) refl

pub type_exact : (S : Specification) (G : Globals) (A : Named) (b : ℕ) → within A ≡ true → IsWork (OfType S G A) b (sorted S G (inferred S G 4000) [] A b)
type_exact S G A b w = type_work (sorted S G (inferred S G 4000) [] A b) (sorts_exact S G 4000 [] A b) where
  above : AboveBudget (Sorts S G 4000 [] A) b → (o : Outcome Flaw ℕ) (n : ℕ) → OfType S G A o n → b < n
  above h _ _ (type_too_large p) = let x : true ≡ false = sym w ∙ p in absurd (cc x)
  above h o n (type_sorted p c) = h o n c

  type_work : (r : Run Flaw ℕ) → IsWork (Sorts S G 4000 [] A) b r → IsWork (OfType S G A) b r
  type_work (ends T k) (n, c, e) = (n, type_sorted w c, e)
  type_work (fails f k) (n, c, e) = (n, type_sorted w c, e)
  type_work (deep k) (n, c, e) = (n, type_sorted w c, e)
  type_work spent h = above h

pub large_type : (S : Specification) (G : Globals) (A : Named) (b : ℕ) → within A ≡ false → WithinBudget (OfType S G A) b (stops by_limits) b
large_type S G A b w = (0, type_too_large w, omega arith)

pub type_sorts : (S : Specification) (G : Globals) (A : Named) (s b k : ℕ) → within A ≡ true → sorted S G (inferred S G 4000) [] A b ≡ ends s k → (s : ℕ) × WithinBudget (OfType S G A) b (comes s) k
type_sorts S G A s b k w e = (s, subst (IsWork (OfType S G A) b) e (type_exact S G A b w))

-- A term with a type that is given.
pub large_fit : (S : Specification) (G : Globals) (t A : Named) (b : ℕ) → EitherLarge t A → WithinBudget (OfFitted S G t A) b (stops by_limits) b
large_fit S G t A b (first_large w) = (0, body_too_large w, omega arith)
large_fit S G t A b (second_large w v) = (0, wanted_too_large w v, omega arith)

pub still_opened : (a b : Tables) (c : ℕ) → Keeps a b → StaysValid a b → IsOpened a c → IsOpened b c
still_opened a b c g v (l, t, e, h) = (node_stays a b c g l, still_typed a b c g l t, entries_stay a b c g l ∙ e, λ S G. v S G (h S G))

-- The inference of a term with a type that is given stops, or goes on with the fit.
module _ (S : Specification) (G : Globals) (t A : Named) (w : within t ≡ true) (v : within A ≡ true) where
  not_large : {P : Type 0} (u : Named) → within u ≡ true → within u ≡ false → P
  not_large u p q = let x : true ≡ false = sym p ∙ q in absurd (cc x)

  none_judged : (b : ℕ) → AboveBudget (Infers S G 4000 [] t) b → (o : Outcome FitFlaw (Unit {0})) (n : ℕ) → OfFitted S G t A o n → b < n
  none_judged b h _ _ (body_too_large p) = not_large t w p
  none_judged b h _ _ (wanted_too_large p q) = not_large A v q
  none_judged b h _ _ (body_stops {e} {n} p q c) = h (stops e) n c
  none_judged b h _ _ (body_fitted {T} {o} {m} {n} p q c d) = let l : b < m = h (comes T) m c in omega (arith, l)

  pub judged_refused : (b : ℕ) (ss : List Shape) (xs : List Name) (e : Fault) (h : FitFault) (k : ℕ) → ShownJudged ss xs e h → StopsWith ss e k (inferred S G 4000 [] t b) → Unfit xs (OfFitted S G t A) h b k
  judged_refused b ss xs e fit.Memory k q s = tt
  judged_refused b ss xs Spent fit.Spent k q s = (none_judged b (subst (IsWork (Infers S G 4000 [] t) b) s.0 (inference_exact S G 4000 [] t b)), s.1)
  judged_refused b ss xs Deep fit.Deep k q s = let (n, c, e) = subst (IsWork (Infers S G 4000 [] t) b) s (inference_exact S G 4000 [] t b) in (n, body_stops w v c, e)
  judged_refused b ss xs (Flawed f) (fit.Judged h) k q s = let (n, c, e) = subst (IsWork (Infers S G 4000 [] t) b) s.1 (inference_exact S G 4000 [] t b) in (flaw_of ss f, q, (n, body_stops w v c, e))
  judged_refused b ss xs Spent fit.Deep k q s = absurd q
  judged_refused b ss xs Spent (fit.Wanted h) k q s = absurd q
  judged_refused b ss xs Spent (fit.Judged h) k q s = absurd q
  judged_refused b ss xs Deep fit.Spent k q s = absurd q
  judged_refused b ss xs Deep (fit.Wanted h) k q s = absurd q
  judged_refused b ss xs Deep (fit.Judged h) k q s = absurd q
  judged_refused b ss xs Memory fit.Spent k q s = absurd q
  judged_refused b ss xs Memory fit.Deep k q s = absurd q
  judged_refused b ss xs Memory (fit.Wanted h) k q s = absurd q
  judged_refused b ss xs Memory (fit.Judged h) k q s = absurd q
  judged_refused b ss xs (Flawed f) fit.Spent k q s = absurd q
  judged_refused b ss xs (Flawed f) fit.Deep k q s = absurd q
  judged_refused b ss xs (Flawed f) (fit.Wanted h) k q s = absurd q

  -- What follows the inference, where its type is T and j units are left.
  module _ (T : Named) (b j : ℕ) (r : inferred S G 4000 [] t b ≡ ends T j) where
    there : WithinBudget (Infers S G 4000 [] t) b (comes T) j
    there = subst (IsWork (Infers S G 4000 [] t) b) r (inference_exact S G 4000 [] t b)

    pub then_fits : (o : Outcome FitFlaw (Unit {0})) (k : ℕ) → WithinBudget (Fits S G 4000 [] T A) j o k → WithinBudget (OfFitted S G t A) b o k
    then_fits o k (n, d, e) = let (m, c, g) = there in (m + n, body_fitted w v c d, omega (arith, e, g))

    then_above : AboveBudget (Fits S G 4000 [] T A) j → (o : Outcome FitFlaw (Unit {0})) (n : ℕ) → OfFitted S G t A o n → b < n
    then_above h _ _ (body_too_large p) = not_large t w p
    then_above h _ _ (wanted_too_large p q) = not_large A v q
    then_above h _ _ (body_stops {e} {n} p q c) = let (m, d, g) = there in let x = (inference_once S G 4000 [] t (stops e) (comes T) n m c d).0 in absurd (cc x)
    then_above h _ _ (body_fitted {T = U} {o} {m = i} {n} p q c d) =
        let (m, f, g) = there in
        let x = inference_once S G 4000 [] t (comes U) (comes T) i m c f in
        let y : U ≡ T = cc x.0 in
        let z : i ≡ m = x.1 in
        let l : j < n = h o n (subst (λ U. Fits S G 4000 [] U A o n) y d) in
        omega (arith, g, z, l)

    pub then_refused : (xs : List Name) (h : FitFault) (k : ℕ) → Unfit xs (Fits S G 4000 [] T A) h j k → Unfit xs (OfFitted S G t A) h b k
    then_refused xs fit.Memory k s = tt
    then_refused xs fit.Spent k s = (then_above s.0, s.1)
    then_refused xs fit.Deep k s = then_fits (stops by_limits) k s
    then_refused xs (fit.Wanted f) k (g, e, s) = (g, e, then_fits (stops (by_flaw (wanted g))) k s)
    then_refused xs (fit.Judged f) k (g, e, s) = (g, e, then_fits (stops (by_flaw (judged g))) k s)

-- The two together, over what the call of the fit answered.
pub both_fit : {X : Type 0} (S : Specification) (G : Globals) (t A : Named) (w : within t ≡ true) (v : within A ≡ true) (T W : Named) (b j k : ℕ) → inferred S G 4000 [] t b ≡ ends T j → W ≡ A → (r : Result X FitFault) → OnOk r (WithinBudget (Fits S G 4000 [] T W) j (comes tt) k) → OnOk r (WithinBudget (OfFitted S G t A) b (comes tt) k)
both_fit S G t A w v T W b j k e p (Ok x) h = then_fits S G t A w v T b j e (comes tt) k (subst (λ W. WithinBudget (Fits S G 4000 [] T W) j (comes tt) k) p h)
both_fit S G t A w v T W b j k e p (Err x) h = tt

pub both_refused : {X : Type 0} (S : Specification) (G : Globals) (t A : Named) (w : within t ≡ true) (v : within A ≡ true) (T W : Named) (b j k : ℕ) → inferred S G 4000 [] t b ≡ ends T j → W ≡ A → (r : Result X FitFault) → IfErr r (λ e. Unfit [] (Fits S G 4000 [] T W) e j k) → IfErr r (λ e. Unfit [] (OfFitted S G t A) e b k)
both_refused S G t A w v T W b j k e p (Ok x) h = tt
both_refused S G t A w v T W b j k e p (Err f) h = then_refused S G t A w v T b j e [] f k (subst (λ W. Unfit [] (Fits S G 4000 [] T W) f j k) p h)
