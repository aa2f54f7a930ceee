-- What the exits of a test come to.
use Rattle.std.proofs.Common.{◌≡◌, ℕ, ◌<◌, sym, ap, ◌∙◌, subst, List, [], ◌∷◌, ◌++◌, length, reverse, false, Result, Ok, Err}
use Rattle.std.specs.Result.{IsErr, IsErrAnd}
use Rattle.std.proofs.lemmas.List.{reverse-append}
use Rattle.pts_terms.specs.Tree.{Named}
use Rattle.pts_record.specs.declared.shape.Shape.{Shape}
use Rattle.pts_record.specs.Table.{named_at}
use Rattle.pts_reduce_cost.specs.Costs.{Globals, Entries}
use Rattle.pts_reduce_cost.specs.Run.{ends, fails, turned, and_then}
use Rattle.pts_reduce_cost.specs.Work.{reduced, of_part, Answer, Tester, agree, both_parts, forms_tested}
use Rattle.pts_reduce_cost.proofs.Tests.{left_deep, left_spent, right_deep, right_spent, first_yes, part_yes, part_differs, part_deep, part_spent}
use Rattle.pts_reduce.specs.declared.fault.FoundDifference.{FoundDifference}
use Rattle.pts_reduce.specs.declared.fault.Fault.{Fault}
use Rattle.pts_reduce.specs.declared.fault.Fault.TheVariants.{Spent, Deep, Memory, Differ}
use Rattle.pts_reduce.specs.Given.{PlainFault, TestFault, Tested, difference}

place_more : (ps : List ℕ) (i : ℕ) → reverse (ps ++ i ∷ []) ≡ i ∷ reverse ps
place_more ps i = reverse-append ps (i ∷ [])

seen_outwards : (ss : List Shape) (d e : FoundDifference) (i : ℕ) → e.place.items ≡ d.place.items ++ i ∷ [] → e.left ≡ d.left → e.right ≡ d.right → of_part i (difference ss d) ≡ difference ss e
seen_outwards ss d e i p q s =
    let x : reverse e.place.items ≡ i ∷ reverse d.place.items = ap reverse p ∙ place_more d.place.items i in
    let y = ap (named_at ss) q in
    let z = ap (named_at ss) s in
    cc

-- A difference of a part is one of the whole.
pub outwards : (ss : List Shape) (d e : FoundDifference) (i k : ℕ) (r : Answer) → e.place.items ≡ d.place.items ++ i ∷ [] → e.left ≡ d.left → e.right ≡ d.right → TestFault ss (Differ d) k r → TestFault ss (Differ e) k (turned (of_part i) r)
outwards ss d e i k r p q s h = (
  subst (λ n. n < length ss) (sym q) h.0,
  subst (λ n. n < length ss) (sym s) h.1,
  part_differs (of_part i) r (difference ss d) k h.2 ∙ ap (λ x. fails x k) (seen_outwards ss d e i p q s),
)

pub outwards_deep : (ss : List Shape) (i k : ℕ) (r : Answer) → TestFault ss Deep k r → TestFault ss Deep k (turned (of_part i) r)
outwards_deep ss i k r h = part_deep (of_part i) r k h

pub outwards_spent : (ss : List Shape) (i k : ℕ) (r : Answer) → TestFault ss Spent k r → TestFault ss Spent k (turned (of_part i) r)
outwards_spent ss i k r h = (part_spent (of_part i) r h.0, h.1)

pub ruleset in_part_facts = (outwards, outwards_deep, outwards_spent)

pub here : (ss : List Shape) (d : FoundDifference) (left right k : ℕ) → d.place.items ≡ [] → d.left ≡ left → d.right ≡ right → left < length ss → right < length ss → TestFault ss (Differ d) k (agree false (named_at ss left) (named_at ss right) k)
unfolding agree
here ss d left right k p q s h g =
    let x : reverse d.place.items ≡ [] = ap reverse p in
    let y : named_at ss d.left ≡ named_at ss left = ap (named_at ss) q in
    let z : named_at ss d.right ≡ named_at ss right = ap (named_at ss) s in
    (subst (λ n. n < length ss) (sym q) h, subst (λ n. n < length ss) (sym s) g, cc)

-- A reduction of the left or the right term that comes to no form ends the test.
pub left_faults : (ss : List Shape) (e : Fault) (test : Tester) (G : Globals) (L : Entries) (t u : Named) (k j : ℕ) → PlainFault e j (reduced G L k t) → TestFault ss e j (forms_tested test G L t u k)
left_faults ss Spent test G L t u k j h = (left_spent test G L t u k h.0, h.1)
left_faults ss Deep test G L t u k j h = left_deep test G L t u k j h
left_faults ss Memory test G L t u k j h = tt
left_faults ss (Differ d) test G L t u k j h = absurd h

pub right_faults : (ss : List Shape) (e : Fault) (test : Tester) (G : Globals) (L : Entries) (t u v : Named) (k j i : ℕ) → reduced G L k t ≡ ends v j → PlainFault e i (reduced G L j u) → TestFault ss e i (forms_tested test G L t u k)
right_faults ss Spent test G L t u v k j i p h = (right_spent test G L t u v k j p h.0, h.1)
right_faults ss Deep test G L t u v k j i p h = right_deep test G L t u v k j i p h
right_faults ss Memory test G L t u v k j i p h = tt
right_faults ss (Differ d) test G L t u v k j i p h = absurd h

-- A fault of the first part, told from the whole, is one of the whole.
pub first_faults : (ss : List Shape) (e : Fault) (k : ℕ) (p : Answer) (q : ℕ → Answer) → TestFault ss e k (turned (of_part 0) p) → TestFault ss e k (both_parts p q)
unfolding both_parts and_then
first_faults ss Spent k p q h = (ap (λ r. and_then r (λ _ k. turned (of_part 1) (q k))) h.0, h.1)
first_faults ss Deep k p q h = ap (λ r. and_then r (λ _ k. turned (of_part 1) (q k))) h
first_faults ss Memory k p q h = tt
first_faults ss (Differ d) k p q h = (h.0, h.1, ap (λ r. and_then r (λ _ k. turned (of_part 1) (q k))) h.2)

-- The same of the second part, behind a first one that agrees.
pub second_faults : (ss : List Shape) (e : Fault) (k j : ℕ) (p : Answer) (q : ℕ → Answer) → p ≡ ends tt k → TestFault ss e j (turned (of_part 1) (q k)) → TestFault ss e j (both_parts p q)
second_faults ss e k j p q h f = subst (TestFault ss e j) (sym (first_yes p q k h)) f

pub both_agree : (k j : ℕ) (p : Answer) (q : ℕ → Answer) → p ≡ ends tt k → q k ≡ ends tt j → both_parts p q ≡ ends tt j
both_agree k j p q h f = first_yes p q k h ∙ part_yes (of_part 1) (q k) j f

-- A fault that is handed on is the same.
pub handed_on : {X : Type 0} (ss : List Shape) (r : Result X Fault) (e : Fault) (k : ℕ) (a : Answer) → IsErr r → IsErrAnd r (λ x. x ≡ e) → TestFault ss e k a → Tested ss r k a
handed_on ss (Ok x) e k a i p h = absurd (cc i)
handed_on ss (Err f) e k a i p h = subst (λ x. TestFault ss x k a) (sym p) h
