-- Work on a budget is exact: what it comes to is an outcome with its cost paid, and it is spent where there is none
-- within the budget.
use Rattle.std.proofs.Common.{◌≡◌, ◌≢◌, ℕ, zero, suc, ◌+◌, ◌-◌, ◌<◌, ◌≤◌, refl, sym, ◌∙◌, subst, arith, Bool, true, false, Option, Some, None}
use Rattle.std.specs.Prelude.{if◌then◌else◌}
use Rattle.pts_terms.specs.Tree.{Named, bare, same_term}
use Rattle.pts_terms.specs.Limits.{within}
use Rattle.pts_rules.specs.Step.{head_step}
use Rattle.pts_reduce_cost.specs.Costs.{Globals, Entries, Reduct, form, too_large, Reduces, no_step, one_step, large_step, TestAnswer, yes_, no_, beyond, Pairing, leaves, parts, pairing, Tests, nested_too_deep, equal_terms, left_too_large, right_too_large, by_forms, Compares, alike, unlike, first_part, second_part}
use Rattle.pts_reduce_cost.specs.Run.{Run, ends, fails, deep, spent, and_then, paid, turned, checked}
use Rattle.pts_reduce_cost.specs.Work.{stepped, after_step, reduced, formed, Difference, of_part, Answer, Tester, agree, both_parts, compared_as, compared, forms_tested, tested}
use Rattle.pts_reduce_cost.specs.Laws.{WithinBudget, AboveBudget, IsReduction, IsTest}
use Rattle.pts_reduce_cost.proofs.Reached.{of_reduct, of_verdict, reduction_reached, test_reached}

-- What work on b units comes to, unless it is spent.
abbrev ReductionComes : (Reduct → ℕ → Type 0) → ℕ → Run ⊥ Named → Type 0
ReductionComes costs b (ends v k) = WithinBudget costs b (form v) k
ReductionComes costs b (fails e k) = ⊥
ReductionComes costs b (deep k) = WithinBudget costs b too_large k
ReductionComes costs b spent = Unit {0}

abbrev TestComes : (TestAnswer → ℕ → Type 0) → ℕ → Answer → Type 0
TestComes costs b (ends x k) = WithinBudget costs b yes_ k
TestComes costs b (fails d k) = WithinBudget costs b (no_ d.place d.left d.right) k
TestComes costs b (deep k) = WithinBudget costs b beyond k
TestComes costs b spent = Unit {0}

-- Reduction, by its first step.
module _ (G : Globals) (L : Entries) (t : Named) where
  after_made : (u : Named) (b : ℕ) (r : Run ⊥ Named) → head_step G L t ≡ Some u → within u ≡ true → ReductionComes (Reduces G L u) b r → ReductionComes (Reduces G L t) (suc b) r
  after_made u b (ends v k) p w (n, d, e) = (suc n, one_step p w d, omega (arith, e))
  after_made u b (fails f k) p w h = h
  after_made u b (deep k) p w (n, d, e) = (suc n, one_step p w d, omega (arith, e))
  after_made u b spent p w h = tt

  after_large : (u : Named) (b : ℕ) → head_step G L t ≡ Some u → within u ≡ false → WithinBudget (Reduces G L t) (suc b) too_large b
  after_large u b p w = (1, large_step p w, omega arith)

  after_checked : (next : Named → Run ⊥ Named) (u : Named) (b : ℕ) → head_step G L t ≡ Some u → ReductionComes (Reduces G L u) b (next u) → (x : Bool) → within u ≡ x → ReductionComes (Reduces G L t) (suc b) (after_step next t (checked x (Some u) b))
  unfolding after_step checked
  after_checked next u b p h true w = after_made u b (next u) p w h
  after_checked next u b p h false w = after_large u b p w

  after_none : (b : ℕ) → head_step G L t ≡ None → WithinBudget (Reduces G L t) b (form t) b
  after_none b p = (0, no_step p, omega arith)

  with_none : (o : Option Named) → head_step G L t ≡ o → ReductionComes (Reduces G L t) zero (after_step (λ u. spent) t (stepped o zero))
  unfolding after_step stepped paid
  with_none None p = after_none zero p
  with_none (Some u) p = tt

  with_some : (next : Named → Run ⊥ Named) (b : ℕ) → ((u : Named) → ReductionComes (Reduces G L u) b (next u)) → (o : Option Named) → head_step G L t ≡ o → ReductionComes (Reduces G L t) (suc b) (after_step next t (stepped o (suc b)))
  unfolding after_step stepped paid
  with_some next b h None p = after_none (suc b) p
  with_some next b h (Some u) p = after_checked next u b p (h u) (within u) refl

reduction_comes : (G : Globals) (L : Entries) (b : ℕ) (t : Named) → ReductionComes (Reduces G L t) b (reduced G L b t)
unfolding reduced
reduction_comes G L zero t = with_none G L t (head_step G L t) refl
reduction_comes G L (suc b) t = with_some G L t (reduced G L b) b (λ u. reduction_comes G L b u) (head_step G L t) refl

-- An outcome of a cost that is not within b costs more.
above : (b n : ℕ) → ((k : ℕ) → b ≡ n + k → ⊥) → b < n
above b n h = let g : n ≤ b → ⊥ = λ l. h (b - n) (omega (arith, l)) in omega (arith, g)

not_spent : (o : Reduct) (k : ℕ) → spent ≢ of_reduct o k
not_spent (form v) k e = cc e
not_spent too_large k e = cc e

is_reduction : (G : Globals) (L : Entries) (t : Named) (b : ℕ) (r : Run ⊥ Named) → reduced G L b t ≡ r → ReductionComes (Reduces G L t) b r → IsReduction (Reduces G L t) b r
is_reduction G L t b (ends v k) p h = h
is_reduction G L t b (fails e k) p h = h
is_reduction G L t b (deep k) p h = h
is_reduction G L t b spent p h = λ o n d. above b n (λ k e. not_spent o k (sym p ∙ reduction_reached d k b e))

pub reduction_exact : (G : Globals) (L : Entries) (t : Named) (b : ℕ) → IsReduction (Reduces G L t) b (reduced G L b t)
reduction_exact G L t b = is_reduction G L t b (reduced G L b t) refl (reduction_comes G L b t)

-- The same costs above what was paid before.
later : (P Q : TestAnswer → ℕ → Type 0) (f : ℕ → ℕ) (b c : ℕ) (r : Answer) → ((o : TestAnswer) (n : ℕ) → P o n → Q o (f n)) → ((n k : ℕ) → n + k ≡ b → f n + k ≡ c) → TestComes P b r → TestComes Q c r
later P Q f b c (ends x k) g s (n, p, e) = (f n, g yes_ n p, s n k e)
later P Q f b c (fails d k) g s (n, p, e) = (f n, g (no_ d.place d.left d.right) n p, s n k e)
later P Q f b c (deep k) g s (n, p, e) = (f n, g beyond n p, s n k e)
later P Q f b c spent g s h = tt

-- What follows a reduction.
formed_then : (P : Reduct → ℕ → Type 0) (Q : TestAnswer → ℕ → Type 0) (b : ℕ) (next : Named → ℕ → Answer) (r : Run ⊥ Named) → ReductionComes P b r → ((m : ℕ) → P too_large m → Q beyond m) → ((v : Named) (m k : ℕ) → P (form v) m → m + k ≡ b → TestComes Q b (next v k)) → TestComes Q b (and_then (turned (λ e. absurd e) r) next)
unfolding and_then turned
formed_then P Q b next (ends v k) (m, p, e) f g = g v m k p e
formed_then P Q b next (fails e k) h f g = absurd h
formed_then P Q b next (deep k) (m, p, e) f g = (m, f m p, e)
formed_then P Q b next spent h f g = tt

-- Two forms, by how they are compared.
module _ (G : Globals) (d : ℕ) (L : Entries) (v w : Named) where
  second_comes : (M : Entries) (t u x y : Named) (b m k : ℕ) → pairing L v w ≡ parts t u M x y → Tests G d L t u yes_ m → m + k ≡ b → (r : Answer) → TestComes (Tests G d M x y) k r → TestComes (Compares G d L v w) b (turned (of_part 1) r)
  unfolding turned
  second_comes M t u x y b m k p c e (ends z j) (n, f, g) = (m + n, second_part p c f, omega (arith, e, g))
  second_comes M t u x y b m k p c e (fails z j) (n, f, g) = (m + n, second_part p c f, omega (arith, e, g))
  second_comes M t u x y b m k p c e (deep j) (n, f, g) = (m + n, second_part p c f, omega (arith, e, g))
  second_comes M t u x y b m k p c e spent h = tt

  parts_come : (M : Entries) (t u x y : Named) (b : ℕ) (q : ℕ → Answer) → pairing L v w ≡ parts t u M x y → ((k : ℕ) → TestComes (Tests G d M x y) k (q k)) → (r : Answer) → TestComes (Tests G d L t u) b r → TestComes (Compares G d L v w) b (both_parts r q)
  unfolding both_parts and_then turned
  parts_come M t u x y b q p h (ends z k) (m, c, e) = second_comes M t u x y b m k p c e (q k) (h k)
  parts_come M t u x y b q p h (fails z k) (m, c, e) = (m, first_part p c (λ i. cc i), e)
  parts_come M t u x y b q p h (deep k) (m, c, e) = (m, first_part p c (λ i. cc i), e)
  parts_come M t u x y b q p h spent c = tt

  comparison_comes : (test : Tester) → ((M : Entries) (t u : Named) (b : ℕ) → TestComes (Tests G d M t u) b (test M t u b)) → (b : ℕ) (p : Pairing) → pairing L v w ≡ p → TestComes (Compares G d L v w) b (compared_as test L v w p b)
  unfolding compared_as agree
  comparison_comes test h b (leaves true) p = (0, alike p, omega arith)
  comparison_comes test h b (leaves false) p = (0, unlike p, omega arith)
  comparison_comes test h b (parts t u M x y) p = parts_come M t u x y b (test M x y) p (λ k. h M x y k) (test L t u b) (h L t u b)

-- Two terms.
module _ (G : Globals) (d : ℕ) (L : Entries) (t u : Named) where
  right_comes : (v : Named) (m b : ℕ) → same_term (bare t) (bare u) ≡ false → Reduces G L t (form v) m → (next : Named → ℕ → Answer) → ((w : Named) (k : ℕ) → TestComes (Compares G d L v w) k (next w k)) → TestComes (λ o n. Tests G (suc d) L t u o (suc (m + n))) b (and_then (formed G L b u) next)
  unfolding formed
  right_comes v m b p r next h =
      formed_then (Reduces G L u) (λ o n. Tests G (suc d) L t u o (suc (m + n))) b next (reduced G L b u) (reduction_comes G L b u) (λ n s. right_too_large p r s)
      (λ w n k s e. later (Compares G d L v w) (λ o n. Tests G (suc d) L t u o (suc (m + n))) (λ i. n + i) k b (next w k) (λ o i c. by_forms p r s c) (λ i j q. omega (arith, e, q)) (h w k))

  forms_come : (test : Tester) → ((M : Entries) (v w : Named) (b : ℕ) → TestComes (Tests G d M v w) b (test M v w b)) → (b : ℕ) → same_term (bare t) (bare u) ≡ false → TestComes (λ o n. Tests G (suc d) L t u o (suc n)) b (forms_tested test G L t u b)
  unfolding forms_tested formed compared
  forms_come test h b p =
      formed_then (Reduces G L t) (λ o n. Tests G (suc d) L t u o (suc n)) b (λ v k. and_then (formed G L k u) (λ w k. compared test L v w k)) (reduced G L b t) (reduction_comes G L b t) (λ n s. left_too_large p s)
      (λ v m k r e. later (λ o n. Tests G (suc d) L t u o (suc (m + n))) (λ o n. Tests G (suc d) L t u o (suc n)) (λ i. m + i) k b _ (λ o i c. c) (λ i j q. omega (arith, e, q))
      (right_comes v m k p r (λ w k. compared test L v w k) (λ w k. comparison_comes G d L v w test h k (pairing L v w) refl)))

  choice_comes : (test : Tester) → ((M : Entries) (v w : Named) (b : ℕ) → TestComes (Tests G d M v w) b (test M v w b)) → (b : ℕ) (x : Bool) → same_term (bare t) (bare u) ≡ x → TestComes (Tests G (suc d) L t u) (suc b) (if x then ends tt b else forms_tested test G L t u b)
  choice_comes test h b true p = (1, equal_terms p, omega arith)
  choice_comes test h b false p = later (λ o n. Tests G (suc d) L t u o (suc n)) (Tests G (suc d) L t u) (λ n. suc n) b (suc b) (forms_tested test G L t u b) (λ o n c. c) (λ n k e. omega (arith, e)) (forms_come test h b p)

test_comes : (G : Globals) (d : ℕ) (L : Entries) (t u : Named) (b : ℕ) → TestComes (Tests G d L t u) b (tested G d L t u b)
unfolding tested paid
test_comes G zero L t u zero = tt
test_comes G zero L t u (suc b) = (1, nested_too_deep, omega arith)
test_comes G (suc d) L t u zero = tt
test_comes G (suc d) L t u (suc b) = choice_comes G d L t u (tested G d) (λ M v w b. test_comes G d M v w b) b (same_term (bare t) (bare u)) refl

not_unpaid : (o : TestAnswer) (k : ℕ) → spent ≢ of_verdict o k
not_unpaid yes_ k e = cc e
not_unpaid (no_ place v w) k e = cc e
not_unpaid beyond k e = cc e

is_test : (G : Globals) (d : ℕ) (L : Entries) (t u : Named) (b : ℕ) (r : Answer) → tested G d L t u b ≡ r → TestComes (Tests G d L t u) b r → IsTest (Tests G d L t u) b r
is_test G d L t u b (ends x k) p h = h
is_test G d L t u b (fails e k) p h = h
is_test G d L t u b (deep k) p h = h
is_test G d L t u b spent p h = λ o n c. above b n (λ k e. not_unpaid o k (sym p ∙ test_reached c k b e))

pub test_exact : (G : Globals) (d : ℕ) (L : Entries) (t u : Named) (b : ℕ) → IsTest (Tests G d L t u) b (tested G d L t u b)
test_exact G d L t u b = is_test G d L t u b (tested G d L t u b) refl (test_comes G d L t u b)

-- The same, by what the work came to.
pub reduction_within : (G : Globals) (L : Entries) (t v : Named) (b k : ℕ) → reduced G L b t ≡ ends v k → WithinBudget (Reduces G L t) b (form v) k
reduction_within G L t v b k e = subst (IsReduction (Reduces G L t) b) e (reduction_exact G L t b)

pub reduction_large : (G : Globals) (L : Entries) (t : Named) (b k : ℕ) → reduced G L b t ≡ deep k → WithinBudget (Reduces G L t) b too_large k
reduction_large G L t b k e = subst (IsReduction (Reduces G L t) b) e (reduction_exact G L t b)

pub reduction_above : (G : Globals) (L : Entries) (t : Named) (b : ℕ) → reduced G L b t ≡ spent → AboveBudget (Reduces G L t) b
reduction_above G L t b e = subst (IsReduction (Reduces G L t) b) e (reduction_exact G L t b)

pub ruleset reductions_exact = (reduction_within, reduction_large, reduction_above)

pub test_yes : (G : Globals) (d : ℕ) (L : Entries) (t u : Named) (b k : ℕ) → tested G d L t u b ≡ ends tt k → WithinBudget (Tests G d L t u) b yes_ k
test_yes G d L t u b k e = subst (IsTest (Tests G d L t u) b) e (test_exact G d L t u b)

pub test_no : (G : Globals) (d : ℕ) (L : Entries) (t u : Named) (b : ℕ) (f : Difference) (k : ℕ) → tested G d L t u b ≡ fails f k → WithinBudget (Tests G d L t u) b (no_ f.place f.left f.right) k
test_no G d L t u b f k e = subst (IsTest (Tests G d L t u) b) e (test_exact G d L t u b)

pub test_beyond : (G : Globals) (d : ℕ) (L : Entries) (t u : Named) (b k : ℕ) → tested G d L t u b ≡ deep k → WithinBudget (Tests G d L t u) b beyond k
test_beyond G d L t u b k e = subst (IsTest (Tests G d L t u) b) e (test_exact G d L t u b)

pub test_above : (G : Globals) (d : ℕ) (L : Entries) (t u : Named) (b : ℕ) → tested G d L t u b ≡ spent → AboveBudget (Tests G d L t u) b
test_above G d L t u b e = subst (IsTest (Tests G d L t u) b) e (test_exact G d L t u b)

pub ruleset tests_exact = (test_yes, test_no, test_beyond, test_above)
