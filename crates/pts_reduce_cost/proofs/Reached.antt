-- With enough units work comes to the outcome, and what is above its cost is left. So there is one outcome at most.
use Rattle.std.proofs.Common.{◌≡◌, ◌≢◌, ℕ, suc, ◌+◌, refl, sym, ap, ◌∙◌, arith, [], true, false, None}
use Rattle.pts_terms.specs.Tree.{Named}
use Rattle.pts_reduce_cost.specs.Costs.{Globals, Entries, Reduct, form, too_large, Reduces, no_step, one_step, large_step, TestAnswer, yes_, no_, beyond, in_part, Tests, nested_too_deep, equal_terms, left_too_large, right_too_large, by_forms, Compares, alike, unlike, first_part, second_part}
use Rattle.pts_reduce_cost.specs.Run.{Run, ends, fails, deep, spent, turned}
use Rattle.pts_reduce_cost.specs.Work.{reduced, of_part, Answer, agree, both_parts, compared, tested}
use Rattle.pts_reduce_cost.proofs.Steps.{none_step, made_step, deep_step, reduced_stops, reduced_goes_on, reduced_deep}
use Rattle.pts_reduce_cost.proofs.Tests.{tested_too_deep, tested_equal, tested_by_forms, left_deep, right_deep, forms_reached, compared_at_once, compared_by_parts, first_differs, first_deep, first_yes, part_yes, part_differs, part_deep}

-- What work comes to at an outcome, with k units left.
abbrev pub of_reduct : Reduct → ℕ → Run ⊥ Named
of_reduct (form v) k = ends v k
of_reduct too_large k = deep k

abbrev pub of_verdict : TestAnswer → ℕ → Answer
of_verdict yes_ k = ends tt k
of_verdict (no_ place v w) k = fails (record { place = place; left = v; right = w }) k
of_verdict beyond k = deep k

pub reduction_reached : {G : Globals} {L : Entries} {t : Named} {o : Reduct} {n : ℕ} → Reduces G L t o n → (k b : ℕ) → b ≡ n + k → reduced G L b t ≡ of_reduct o k
reduction_reached {G} {L} (no_step {t} h) k b e = let q : b ≡ k = omega (arith, e) in reduced_stops G L t b k (none_step _ b h ∙ ap (ends None) q)
reduction_reached {G} {L} (one_step {t} {u} {o} {n} h w d) k b e =
    let q : b ≡ suc (n + k) = omega (arith, e) in
    reduced_goes_on G L t u b (n + k) (made_step _ u b (n + k) h q w) ∙ reduction_reached d k (n + k) refl
reduction_reached {G} {L} (large_step {t} {u} h w) k b e = let q : b ≡ suc k = omega (arith, e) in reduced_deep G L t b k (deep_step _ u b k h q w)

agree_reached : (v w : Named) (b k : ℕ) → b ≡ k → (agree true v w b ≡ ends tt k) × (agree false v w b ≡ fails (record { place = []; left = v; right = w }) k)
unfolding agree
agree_reached v w b k e = (ap (ends tt) e, ap (fails (record { place = []; left = v; right = w })) e)

first_reached : (p : Answer) (q : ℕ → Answer) (o : TestAnswer) (k : ℕ) → o ≢ yes_ → p ≡ of_verdict o k → both_parts p q ≡ of_verdict (in_part 0 o) k
first_reached p q yes_ k h e = absurd (h refl)
first_reached p q (no_ place v w) k h e = first_differs p q (record { place = place; left = v; right = w }) k e
first_reached p q beyond k h e = first_deep p q k e

second_reached : (r : Answer) (o : TestAnswer) (k : ℕ) → r ≡ of_verdict o k → turned (of_part 1) r ≡ of_verdict (in_part 1 o) k
second_reached r yes_ k e = part_yes (of_part 1) r k e
second_reached r (no_ place v w) k e = part_differs (of_part 1) r (record { place = place; left = v; right = w }) k e
second_reached r beyond k e = part_deep (of_part 1) r k e

mutual
  pub test_reached : {G : Globals} {d : ℕ} {L : Entries} {t u : Named} {o : TestAnswer} {n : ℕ} → Tests G d L t u o n → (k b : ℕ) → b ≡ n + k → tested G d L t u b ≡ of_verdict o k
  test_reached {G} (nested_too_deep {L} {t} {u}) k b e = let q : b ≡ suc k = omega (arith, e) in tested_too_deep G 0 L t u b k refl q
  test_reached {G} (equal_terms {d} {L} {t} {u} h) k b e = let q : b ≡ suc k = omega (arith, e) in tested_equal G (suc d) L t u b k (λ z. cc z) q h
  test_reached {G} (left_too_large {d} {L} {t} {u} {m} h r) k b e =
      let q : b ≡ suc (m + k) = omega (arith, e) in
      tested_by_forms G (suc d) d L t u b (m + k) refl q h ∙ left_deep (tested G d) G L t u (m + k) k (reduction_reached r k (m + k) refl)
  test_reached {G} (right_too_large {d} {L} {t} {u} {v} {m} {n} h r s) k b e =
      let q : b ≡ suc (m + (n + k)) = omega (arith, e) in
      tested_by_forms G (suc d) d L t u b (m + (n + k)) refl q h ∙ right_deep (tested G d) G L t u v (m + (n + k)) (n + k) k (reduction_reached r (n + k) (m + (n + k)) refl) (reduction_reached s k (n + k) refl)
  test_reached {G} (by_forms {d} {L} {t} {u} {v} {w} {o} {m} {n} {k = i} h r s c) k b e =
      let q : b ≡ suc (m + (n + (i + k))) = omega (arith, e) in
      tested_by_forms G (suc d) d L t u b (m + (n + (i + k))) refl q h
      ∙ forms_reached (tested G d) G L t u v w (m + (n + (i + k))) (n + (i + k)) (i + k) (reduction_reached r (n + (i + k)) (m + (n + (i + k))) refl) (reduction_reached s (i + k) (n + (i + k)) refl)
      ∙ comparison_reached c k (i + k) refl

  pub comparison_reached : {G : Globals} {d : ℕ} {L : Entries} {v w : Named} {o : TestAnswer} {n : ℕ} → Compares G d L v w o n → (k b : ℕ) → b ≡ n + k → compared (tested G d) L v w b ≡ of_verdict o k
  comparison_reached {G} (alike {d} {L} {v} {w} p) k b e = let q : b ≡ k = omega (arith, e) in compared_at_once (tested G d) L v w true b p ∙ (agree_reached v w b k q).0
  comparison_reached {G} (unlike {d} {L} {v} {w} p) k b e = let q : b ≡ k = omega (arith, e) in compared_at_once (tested G d) L v w false b p ∙ (agree_reached v w b k q).1
  comparison_reached {G} (first_part {d} {L} {M} {v} {w} {t} {u} {a = x} {b = y} {o} p c h) k b e =
      compared_by_parts (tested G d) L M v w t u x y b p ∙ first_reached _ _ o k h (test_reached c k b e)
  comparison_reached {G} (second_part {d} {L} {M} {v} {w} {t} {u} {a = x} {b = y} {o} {m} {n} p c f) k b e =
      let q : b ≡ m + (n + k) = omega (arith, e) in
      compared_by_parts (tested G d) L M v w t u x y b p ∙ first_yes _ _ (n + k) (test_reached c (n + k) b q) ∙ second_reached _ o k (test_reached f k (n + k) refl)

-- An outcome and what is left are seen in what work comes to.
reduct_in : Run ⊥ Named → Reduct
reduct_in (ends v k) = form v
reduct_in (fails e k) = absurd e
reduct_in (deep k) = too_large
reduct_in spent = too_large

verdict_in : Answer → TestAnswer
verdict_in (ends x k) = yes_
verdict_in (fails d k) = no_ d.place d.left d.right
verdict_in (deep k) = beyond
verdict_in spent = beyond

units_in : {F A : Type 0} → Run F A → ℕ
units_in (ends x k) = k
units_in (fails d k) = k
units_in (deep k) = k
units_in spent = 0

reduct_back : (o : Reduct) (k : ℕ) → (reduct_in (of_reduct o k) ≡ o) × (units_in (of_reduct o k) ≡ k)
unfolding reduct_in units_in
reduct_back (form v) k = (refl, refl)
reduct_back too_large k = (refl, refl)

verdict_back : (o : TestAnswer) (k : ℕ) → (verdict_in (of_verdict o k) ≡ o) × (units_in (of_verdict o k) ≡ k)
unfolding verdict_in units_in
verdict_back yes_ k = (refl, refl)
verdict_back (no_ place v w) k = (refl, refl)
verdict_back beyond k = (refl, refl)

pub one_reduct : (G : Globals) (L : Entries) (t : Named) (o p : Reduct) (m n : ℕ) → Reduces G L t o m → Reduces G L t p n → (o ≡ p) × (m ≡ n)
one_reduct G L t o p m n c d =
    let q : m + n ≡ n + m = omega arith in
    let h = sym (reduction_reached c n (m + n) refl) ∙ reduction_reached d m (m + n) q in
    let (a, i) = reduct_back o n in
    let (b, j) = reduct_back p m in
    (sym a ∙ ap reduct_in h ∙ b, sym j ∙ sym (ap units_in h) ∙ i)

pub one_verdict : (G : Globals) (d : ℕ) (L : Entries) (t u : Named) (o p : TestAnswer) (m n : ℕ) → Tests G d L t u o m → Tests G d L t u p n → (o ≡ p) × (m ≡ n)
one_verdict G d L t u o p m n c f =
    let q : m + n ≡ n + m = omega arith in
    let h = sym (test_reached c n (m + n) refl) ∙ test_reached f m (m + n) q in
    let (a, i) = verdict_back o n in
    let (b, j) = verdict_back p m in
    (sym a ∙ ap verdict_in h ∙ b, sym j ∙ sym (ap units_in h) ∙ i)
