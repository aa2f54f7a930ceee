-- The open proof of a judgement in the empty context, whose claim is a sort.
use Rattle.std.proofs.Common.{◌≡◌, ◌<◌, ℕ, [], sym, ap, subst, ◌∙◌, true, false}
use Rattle.std.specs.Prelude.{is_some}
use Rattle.pts_names.specs.Name.{Name}
use Rattle.pts_terms.specs.Tree.{Named, bare, sort}
use Rattle.pts_terms.specs.Limits.{within}
use Rattle.pts_ctx.specs.System.{Specification}
use Rattle.pts_record.specs.Table.{Tables, named_at}
use Rattle.pts_record.specs.Said.{named_told, judgement, scope_of, place_of, subject_of, claim_of, is_context, is_judgement}
use Rattle.pts_rules.specs.Parts.{sort_in}
use Rattle.pts_reduce_cost.specs.Costs.{Globals}
use Rattle.pts_reduce_cost.specs.Laws.{WithinBudget}
use Rattle.pts_infer_cost.specs.Typing.{Flaw, Outcome, comes, Sorts, inference_nesting}
use Rattle.pts_grow.specs.Keeps.{Keeps, IsNode}
use Rattle.pts_grow.proofs.Grow.{told_stays}
use Rattle.pts_reduce.specs.Chain.{entries_of}
use Rattle.pts_infer.specs.Given.{IsOpened}
use Rattle.pts_infer.specs.Answered.{OfType, type_too_large, type_sorted, Refused}
use Rattle.pts_infer.specs.declared.answer.InferFault.{InferFault}
use Rattle.pts_infer.specs.declared.answer.InferFault.TheVariants as infer
use Rattle.pts_goals.specs.OpenProofs.{OpenProof, IsStarted}
use Rattle.pts_theorem.specs.Seen.{theorem_of}
use Rattle.pts_begin.specs.Begun.{begun}

-- The node judges that the term t has the sort s, in a context that is empty.
module _ (a b : Tables) (c n s : ℕ) (t : Named) (k : Keeps a b) (o : IsOpened a c) (h : IsNode b n (judgement c (scope_of (named_told a c)) t (sort s))) where
  pub is_judged : is_judgement (named_told b n) ≡ true
  is_judged = ap is_judgement h.1

  pub in_context : is_context (named_told b (place_of (named_told b n))) ≡ true
  in_context = ap (λ m. is_context (named_told b (place_of m))) h.1 ∙ (ap is_context (told_stays a b c k o.0) ∙ o.1.0)

  pub in_empty : (scope_of (named_told b n)).entries ≡ []
  in_empty = ap (λ m. (scope_of m).entries) h.1 ∙ o.2

  pub has_sort : is_some (sort_in (bare (claim_of (named_told b n)))) ≡ true
  has_sort = ap (λ m. is_some (sort_in (bare (claim_of m)))) h.1

  pub begins : (x : Name) (p : OpenProof) → IsStarted x b n p → theorem_of p ≡ begun x t
  begins x p i =
      let m = ap (named_told b) (sym i.node) ∙ i.judges.0.2.1 in
      let e : named_at b.shapes i.sorted.subject ≡ t = sym (ap subject_of m) ∙ ap subject_of h.1 in
      ap theorem_of i.is ∙ ap (begun x) e

pub not_lent : (x : Name) (r : Tables) (n : ℕ) (p : OpenProof) → IsStarted x r n p → (p.is_lent ≡ false) × (p.scratch ≡ r)
not_lent x r n p i = (ap (λ p. p.is_lent) i.is, ap (λ p. p.scratch) i.is)

-- The test of a statement within limits.
module _ (S : Specification) (G : Globals) (t : Named) (w : within t ≡ true) (b k : ℕ) where
  sorted_too : (o : Outcome Flaw ℕ) → WithinBudget (Sorts S G inference_nesting [] t) b o k → WithinBudget (OfType S G t) b o k
  sorted_too o (n, h, e) = (n, type_sorted w h, e)

  pub sorted_within : (s : ℕ) (r : Tables) (c : ℕ) → entries_of r c ≡ [] → WithinBudget (Sorts S G inference_nesting (entries_of r c) t) b (comes s) k → WithinBudget (OfType S G t) b (comes s) k
  sorted_within s r c e h = sorted_too (comes s) (subst (λ L. WithinBudget (Sorts S G inference_nesting L t) b (comes s) k) e h)

  unsorted_too : (e : InferFault) → Refused [] (Sorts S G inference_nesting [] t) e b k → Refused [] (OfType S G t) e b k
  unsorted_too (infer.Flaw f) (g, same, h) = (g, same, sorted_too _ h)
  unsorted_too infer.Spent (a, z) = (above, z)
    where
      above : (o : Outcome Flaw ℕ) (n : ℕ) → OfType S G t o n → b < n
      above o n (type_too_large v) = let x : true ≡ false = sym w ∙ v in absurd (cc x)
      above o n (type_sorted v h) = a o n h
  unsorted_too infer.Deep h = sorted_too _ h
  unsorted_too infer.Memory h = tt

  pub unsorted : (e : InferFault) (r : Tables) (c : ℕ) → entries_of r c ≡ [] → Refused [] (Sorts S G inference_nesting (entries_of r c) t) e b k → Refused [] (OfType S G t) e b k
  unsorted e r c z h = unsorted_too e (subst (λ L. Refused [] (Sorts S G inference_nesting L t) e b k) z h)
