-- The test at its cost, part by part.
use Rattle.std.proofs.Common.{◌≡◌, ◌≢◌, ℕ, zero, suc, refl, ap, ◌∙◌, Bool, true, false}
use Rattle.std.specs.Prelude.{if◌then◌else◌}
use Rattle.pts_terms.specs.Tree.{Named, bare, same_term}
use Rattle.pts_reduce_cost.specs.Costs.{Globals, Entries, leaves, parts, pairing}
use Rattle.pts_reduce_cost.specs.Run.{Run, ends, fails, deep, spent, and_then, paid, turned}
use Rattle.pts_reduce_cost.specs.Work.{reduced, formed, Difference, of_part, Answer, Tester, agree, both_parts, compared_as, compared, forms_tested, tested}

-- A unit is paid; the nesting, and whether the terms are equal, are looked at then.
pub tested_unpaid : (G : Globals) (d : ℕ) (L : Entries) (t u : Named) (k : ℕ) → k ≡ 0 → tested G d L t u k ≡ spent
unfolding tested paid
tested_unpaid G zero L t u k e = rw e refl
tested_unpaid G (suc d) L t u k e = rw e refl

pub tested_too_deep : (G : Globals) (d : ℕ) (L : Entries) (t u : Named) (k j : ℕ) → d ≡ 0 → k ≡ suc j → tested G d L t u k ≡ deep j
unfolding tested paid
tested_too_deep G d L t u k j z p = rw (z, p) refl

choice : (test : Tester) (G : Globals) (L : Entries) (t u : Named) (j : ℕ) → Bool → Answer
choice test G L t u j b = if b then ends tt j else forms_tested test G L t u j

paid_choice : (G : Globals) (d : ℕ) (L : Entries) (t u : Named) (j : ℕ) → tested G (suc d) L t u (suc j) ≡ choice (tested G d) G L t u j (same_term (bare t) (bare u))
unfolding tested paid choice
paid_choice G d L t u j = refl

pub tested_equal : (G : Globals) (d : ℕ) (L : Entries) (t u : Named) (k j : ℕ) → d ≢ 0 → k ≡ suc j → same_term (bare t) (bare u) ≡ true → tested G d L t u k ≡ ends tt j
unfolding choice
tested_equal G zero L t u k j z p e = absurd (z refl)
tested_equal G (suc d) L t u k j z p e = ap (tested G (suc d) L t u) p ∙ paid_choice G d L t u j ∙ ap (choice (tested G d) G L t u j) e

pub tested_by_forms : (G : Globals) (n d : ℕ) (L : Entries) (t u : Named) (k j : ℕ) → n ≡ suc d → k ≡ suc j → same_term (bare t) (bare u) ≡ false → tested G n L t u k ≡ forms_tested (tested G d) G L t u j
unfolding choice
tested_by_forms G n d L t u k j z p e = ap (λ n. tested G n L t u k) z ∙ ap (tested G (suc d) L t u) p ∙ paid_choice G d L t u j ∙ ap (choice (tested G d) G L t u j) e

pub ruleset tests = (tested_unpaid, tested_too_deep, tested_equal, tested_by_forms)

-- Both terms are reduced, the left one first.
formed_as : {F : Type 0} (G : Globals) (L : Entries) (t : Named) (k : ℕ) (r : Run ⊥ Named) → reduced G L k t ≡ r → formed {F = F} G L k t ≡ turned (λ e. absurd e) r
unfolding formed
formed_as G L t k r e = ap (turned (λ e. absurd e)) e

pub form_reached : {F : Type 0} (G : Globals) (L : Entries) (t v : Named) (k j : ℕ) → reduced G L k t ≡ ends v j → formed {F = F} G L k t ≡ ends v j
unfolding turned
form_reached G L t v k j e = formed_as G L t k (ends v j) e

pub form_deep : {F : Type 0} (G : Globals) (L : Entries) (t : Named) (k j : ℕ) → reduced G L k t ≡ deep j → formed {F = F} G L k t ≡ deep j
unfolding turned
form_deep G L t k j e = formed_as G L t k (deep j) e

pub form_spent : {F : Type 0} (G : Globals) (L : Entries) (t : Named) (k : ℕ) → reduced G L k t ≡ spent → formed {F = F} G L k t ≡ spent
unfolding turned
form_spent G L t k e = formed_as G L t k spent e

pub left_reached : (test : Tester) (G : Globals) (L : Entries) (t u v : Named) (k j : ℕ) → reduced G L k t ≡ ends v j → forms_tested test G L t u k ≡ and_then (formed G L j u) (λ w i. compared test L v w i)
unfolding forms_tested and_then
left_reached test G L t u v k j e = ap (λ r. and_then r (λ v k. and_then (formed G L k u) (λ w k. compared test L v w k))) (form_reached G L t v k j e)

pub left_deep : (test : Tester) (G : Globals) (L : Entries) (t u : Named) (k j : ℕ) → reduced G L k t ≡ deep j → forms_tested test G L t u k ≡ deep j
unfolding forms_tested and_then
left_deep test G L t u k j e = ap (λ r. and_then r (λ v k. and_then (formed G L k u) (λ w k. compared test L v w k))) (form_deep G L t k j e)

pub left_spent : (test : Tester) (G : Globals) (L : Entries) (t u : Named) (k : ℕ) → reduced G L k t ≡ spent → forms_tested test G L t u k ≡ spent
unfolding forms_tested and_then
left_spent test G L t u k e = ap (λ r. and_then r (λ v k. and_then (formed G L k u) (λ w k. compared test L v w k))) (form_spent G L t k e)

pub forms_reached : (test : Tester) (G : Globals) (L : Entries) (t u v w : Named) (k j i : ℕ) → reduced G L k t ≡ ends v j → reduced G L j u ≡ ends w i → forms_tested test G L t u k ≡ compared test L v w i
unfolding and_then
forms_reached test G L t u v w k j i p q = left_reached test G L t u v k j p ∙ ap (λ r. and_then r (λ w k. compared test L v w k)) (form_reached G L u w j i q)

pub right_deep : (test : Tester) (G : Globals) (L : Entries) (t u v : Named) (k j i : ℕ) → reduced G L k t ≡ ends v j → reduced G L j u ≡ deep i → forms_tested test G L t u k ≡ deep i
unfolding and_then
right_deep test G L t u v k j i p q = left_reached test G L t u v k j p ∙ ap (λ r. and_then r (λ w k. compared test L v w k)) (form_deep G L u j i q)

pub right_spent : (test : Tester) (G : Globals) (L : Entries) (t u v : Named) (k j : ℕ) → reduced G L k t ≡ ends v j → reduced G L j u ≡ spent → forms_tested test G L t u k ≡ spent
unfolding and_then
right_spent test G L t u v k j p q = left_reached test G L t u v k j p ∙ ap (λ r. and_then r (λ w k. compared test L v w k)) (form_spent G L u j q)

pub ruleset forms = (forms_reached, left_deep, left_spent, right_deep, right_spent)

-- Two forms, by how they are compared.
pub compared_at_once : (test : Tester) (L : Entries) (v w : Named) (b : Bool) (k : ℕ) → pairing L v w ≡ leaves b → compared test L v w k ≡ agree b v w k
unfolding compared compared_as
compared_at_once test L v w b k e = ap (λ p. compared_as test L v w p k) e

pub compared_by_parts : (test : Tester) (L M : Entries) (v w t u a b : Named) (k : ℕ) → pairing L v w ≡ parts t u M a b → compared test L v w k ≡ both_parts (test L t u k) (test M a b)
unfolding compared compared_as
compared_by_parts test L M v w t u a b k e = ap (λ p. compared_as test L v w p k) e

-- The first part is no yes, and so the whole.
pub first_differs : (p : Answer) (q : ℕ → Answer) (d : Difference) (k : ℕ) → p ≡ fails d k → both_parts p q ≡ fails (of_part 0 d) k
unfolding both_parts and_then turned
first_differs p q d k e = ap (λ r. both_parts r q) e

pub first_deep : (p : Answer) (q : ℕ → Answer) (k : ℕ) → p ≡ deep k → both_parts p q ≡ deep k
unfolding both_parts and_then turned
first_deep p q k e = ap (λ r. both_parts r q) e

pub first_spent : (p : Answer) (q : ℕ → Answer) → p ≡ spent → both_parts p q ≡ spent
unfolding both_parts and_then turned
first_spent p q e = ap (λ r. both_parts r q) e

-- The first part is a yes, and the answer is that of the second.
pub first_yes : (p : Answer) (q : ℕ → Answer) (k : ℕ) → p ≡ ends tt k → both_parts p q ≡ turned (of_part 1) (q k)
unfolding both_parts and_then turned
first_yes p q k e = ap (λ r. both_parts r q) e

-- The answer of a part, seen from the whole.
pub part_yes : (f : Difference → Difference) (r : Answer) (k : ℕ) → r ≡ ends tt k → turned f r ≡ ends tt k
unfolding turned
part_yes f r k e = ap (turned f) e

pub part_differs : (f : Difference → Difference) (r : Answer) (d : Difference) (k : ℕ) → r ≡ fails d k → turned f r ≡ fails (f d) k
unfolding turned
part_differs f r d k e = ap (turned f) e

pub part_deep : (f : Difference → Difference) (r : Answer) (k : ℕ) → r ≡ deep k → turned f r ≡ deep k
unfolding turned
part_deep f r k e = ap (turned f) e

pub part_spent : (f : Difference → Difference) (r : Answer) → r ≡ spent → turned f r ≡ spent
unfolding turned
part_spent f r e = ap (turned f) e

pub ruleset both = (first_differs, first_deep, first_spent, first_yes, part_yes, part_differs, part_deep, part_spent)
