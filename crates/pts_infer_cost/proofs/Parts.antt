-- The parts of inference are right: forms, tests, the sort test, fits and products, where inference itself is.
use Rattle.std.proofs.Common.{◌≡◌, ℕ, ◌+◌, refl, sym, ap, ◌∙◌, subst, Bool, true, false, Option, Some, None}
use Rattle.pts_terms.specs.Tree.{Named, bare, same_term}
use Rattle.pts_ctx.specs.System.{Specification}
use Rattle.pts_reduce_cost.specs.Costs.{Globals, Entries, form, too_large, Reduces, TestAnswer, yes_, no_, beyond, Tests, nesting}
use Rattle.pts_reduce_cost.specs.Run.{Run, ends, fails, deep, spent, paid, turned}
use Rattle.pts_reduce_cost.specs.Work.{reduced, formed, Answer, tested}
use Rattle.pts_reduce_cost.specs.Laws.{IsReduction, IsTest}
use Rattle.pts_reduce_cost.proofs.Tests.{form_reached, form_deep}
use Rattle.pts_reduce_cost.proofs.Reached.{of_verdict, reduction_reached, test_reached}
use Rattle.pts_reduce_cost.proofs.Exact.{reduction_exact, test_exact}
use Rattle.pts_infer_cost.specs.Typing.{Flaw, here, FitFlaw, wanted, Stop, by_flaw, by_limits, Outcome, comes, stops, not_product, refused, as_sort, as_product, by_form, by_verdict, SortTest, at_once, form_too_large, form_tested, Infers, Sorts, term_stops, type_tested, Fits, equal_types, wanted_stops, types_tested, Products, is_product, product_too_large, no_product, product_stops, product_reached}
use Rattle.pts_infer_cost.specs.Inference.{gives, Typer, sort_tested_as, sort_tested, sorted, misfit, types_compared, fit_tested, fitted_as, fitted, product_form, product_reduced, product_found_as, product_found}
use Rattle.pts_infer_cost.proofs.Right.{Comes, Right, Paid, pay, Moved, stopped, came_to, Then, stop, next, Last, last_stop, last, Free, free, same_costs, paid_right, turned_right, then_right, free_right, last_right, and_none, none_added, as_outcome}

-- Reduction and the conversion test, as pieces of work.
pub data Forms {F : Type 0} (G : Globals) (L : Entries) (t : Named) : Outcome F Named → ℕ → Type 0 where
  has_form : {v : Named} {n : ℕ} → Reduces G L t (form v) n → Forms G L t (comes v) n
  no_form : {n : ℕ} → Reduces G L t too_large n → Forms G L t (stops by_limits) n

forms_reached : {F : Type 0} (G : Globals) (L : Entries) (t : Named) (o : Outcome F Named) (n k b : ℕ) → Forms G L t o n → b ≡ n + k → formed G L b t ≡ gives o k
unfolding gives
forms_reached G L t _ n k b (has_form {v = v} c) e = form_reached G L t v b k (reduction_reached c k b e)
forms_reached G L t _ n k b (no_form c) e = form_deep G L t b k (reduction_reached c k b e)

forms_came : (F : Type 0) (G : Globals) (L : Entries) (t : Named) (b : ℕ) (r : Run ⊥ Named) → IsReduction (Reduces G L t) b r → Comes (Forms {F = F} G L t) b (turned (λ e. absurd e) r)
unfolding turned
forms_came F G L t b (ends v k) (n, c, e) = (n, has_form c, e)
forms_came F G L t b (fails f k) h = absurd h
forms_came F G L t b (deep k) (n, c, e) = (n, no_form c, e)
forms_came F G L t b spent h = tt

pub forms_right : {F : Type 0} (G : Globals) (L : Entries) (t : Named) → Right (Forms {F = F} G L t) (λ k. formed G L k t)
unfolding formed
forms_right {F = F} G L t = record { reached = forms_reached G L t; came = λ b. forms_came F G L t b (reduced G L b t) (reduction_exact G L t b) }

pub data Compared (G : Globals) (L : Entries) (T W : Named) : Outcome FitFlaw (Unit {0}) → ℕ → Type 0 where
  compared : {v : TestAnswer} {n : ℕ} → Tests G nesting L T W v n → Compared G L T W (by_verdict T W v) n

misfit_of : (T W : Named) (v : TestAnswer) (k : ℕ) → turned (misfit T W) (of_verdict v k) ≡ gives (by_verdict T W v) k
unfolding turned gives
misfit_of T W yes_ k = refl
misfit_of T W (no_ place v w) k = refl
misfit_of T W beyond k = refl

compared_reached : (G : Globals) (L : Entries) (T W : Named) (o : Outcome FitFlaw (Unit {0})) (n k b : ℕ) → Compared G L T W o n → b ≡ n + k → turned (misfit T W) (tested G nesting L T W b) ≡ gives o k
compared_reached G L T W _ n k b (compared {v = v} c) e = ap (turned (misfit T W)) (test_reached c k b e) ∙ misfit_of T W v k

compared_came : (G : Globals) (L : Entries) (T W : Named) (b : ℕ) (r : Answer) → IsTest (Tests G nesting L T W) b r → Comes (Compared G L T W) b (turned (misfit T W) r)
unfolding turned
compared_came G L T W b (ends x k) (n, c, e) = (n, compared c, e)
compared_came G L T W b (fails d k) (n, c, e) = (n, compared c, e)
compared_came G L T W b (deep k) (n, c, e) = (n, compared c, e)
compared_came G L T W b spent h = tt

pub compared_right : (G : Globals) (L : Entries) (T W : Named) (s : ℕ) → Right (Compared G L T W) (types_compared G L T W s)
unfolding types_compared
compared_right G L T W s = record { reached = compared_reached G L T W; came = λ b. compared_came G L T W b (tested G nesting L T W b) (test_exact G nesting L T W b) }

-- The sort test.
module _ (S : Specification) (G : Globals) (L : Entries) (T : Named) where
  sort_free : (s : ℕ) → as_sort T ≡ Some s → (o : Outcome Flaw ℕ) (n : ℕ) → SortTest S G L T o n → Free (comes s) o n
  sort_free s e _ _ (at_once {s = r} p) = let q : s ≡ r = cc (sym e ∙ p) in subst (λ x. Free {F = Flaw} (comes s) (comes x) 0) q free
  sort_free s e _ n (form_too_large p c) = absurd (cc (sym e ∙ p))
  sort_free s e _ n (form_tested p c) = absurd (cc (sym e ∙ p))

  free_sort : (s : ℕ) → as_sort T ≡ Some s → (o : Outcome Flaw ℕ) (n : ℕ) → Free (comes s) o n → SortTest S G L T o n
  free_sort s e _ _ free = at_once e

  sort_last : as_sort T ≡ None → (o : Outcome Flaw ℕ) (n : ℕ) → SortTest S G L T o n → Last (Forms G L T) (by_form S T) o n
  sort_last e _ _ (at_once p) = absurd (cc (sym e ∙ p))
  sort_last e _ n (form_too_large p c) = last_stop (no_form c)
  sort_last e _ n (form_tested p c) = last (has_form c) refl

  last_sort : as_sort T ≡ None → (o : Outcome Flaw ℕ) (n : ℕ) → Last (Forms G L T) (by_form S T) o n → SortTest S G L T o n
  last_sort e _ n (last_stop (no_form c)) = form_too_large e c
  last_sort e o n (last (has_form c) q) = as_outcome (SortTest S G L T) _ o n q (form_tested e c)

  sort_right_as : (x : Option ℕ) → as_sort T ≡ x → Right (SortTest S G L T) (sort_tested_as S G L T x)
  unfolding sort_tested_as gives
  sort_right_as (Some s) e = same_costs (Free (comes s)) (SortTest S G L T) (sort_tested_as S G L T (Some s)) (free_sort s e) (sort_free s e) (free_right (comes s))
  sort_right_as None e = same_costs (Last (Forms G L T) (by_form S T)) (SortTest S G L T) (sort_tested_as S G L T None) (last_sort e) (sort_last e) (last_right (Forms G L T) (λ k. formed G L k T) (by_form S T) (forms_right G L T))

  pub sort_test_right : Right (SortTest S G L T) (sort_tested S G L T)
  unfolding sort_tested
  sort_test_right = sort_right_as (as_sort T) refl

module _ (S : Specification) (G : Globals) (d : ℕ) (infer : Typer) (right : (L : Entries) (t : Named) → Right (Infers S G d L t) (infer L t)) where
  -- Inference with sort test.
  sorts_then : (L : Entries) (t : Named) (o : Outcome Flaw ℕ) (n : ℕ) → Sorts S G d L t o n → Then (Infers S G d L t) (SortTest S G L) o n
  sorts_then L t _ n (term_stops p) = stop p
  sorts_then L t o _ (type_tested p c) = next p c

  then_sorts : (L : Entries) (t : Named) (o : Outcome Flaw ℕ) (n : ℕ) → Then (Infers S G d L t) (SortTest S G L) o n → Sorts S G d L t o n
  then_sorts L t _ n (stop p) = term_stops p
  then_sorts L t o _ (next p c) = type_tested p c

  pub sorts_right : (L : Entries) (t : Named) → Right (Sorts S G d L t) (sorted S G infer L t)
  unfolding sorted
  sorts_right L t = same_costs (Then (Infers S G d L t) (SortTest S G L)) (Sorts S G d L t) (sorted S G infer L t) (then_sorts L t) (sorts_then L t) (then_right (Infers S G d L t) (SortTest S G L) (infer L t) (sort_tested S G L) (right L t) (sort_test_right S G L))

  -- Fits.
  module _ (L : Entries) (T W : Named) where
    fits_free : same_term (bare T) (bare W) ≡ true → (o : Outcome FitFlaw (Unit {0})) (n : ℕ) → Fits S G d L T W o n → Paid (Free (comes tt)) o n
    fits_free e _ _ (equal_types p) = pay free
    fits_free e _ _ (wanted_stops p c) = absurd (cc (sym e ∙ p))
    fits_free e _ _ (types_tested p c v) = absurd (cc (sym e ∙ p))

    free_fits : same_term (bare T) (bare W) ≡ true → (o : Outcome FitFlaw (Unit {0})) (n : ℕ) → Paid (Free (comes tt)) o n → Fits S G d L T W o n
    free_fits e _ _ (pay free) = equal_types e

    fits_then : same_term (bare T) (bare W) ≡ false → (o : Outcome FitFlaw (Unit {0})) (n : ℕ) → Fits S G d L T W o n → Paid (Then (Moved wanted (Sorts S G d L W)) (λ s. Compared G L T W)) o n
    fits_then e _ _ (equal_types p) = absurd (cc (sym e ∙ p))
    fits_then e _ _ (wanted_stops p c) = pay (stop (stopped c))
    fits_then e _ _ (types_tested p c v) = pay (next (came_to c) (compared v))

    then_fits : same_term (bare T) (bare W) ≡ false → (o : Outcome FitFlaw (Unit {0})) (n : ℕ) → Paid (Then (Moved wanted (Sorts S G d L W)) (λ s. Compared G L T W)) o n → Fits S G d L T W o n
    then_fits e _ _ (pay (stop (stopped c))) = wanted_stops e c
    then_fits e _ _ (pay (next (came_to c) (compared v))) = types_tested e c v

    fits_right_as : (x : Bool) → same_term (bare T) (bare W) ≡ x → Right (Fits S G d L T W) (λ b. paid b (fitted_as S G infer L T W x))
    unfolding fitted_as fit_tested gives
    fits_right_as true e = same_costs (Paid (Free (comes tt))) (Fits S G d L T W) (λ b. paid b (fitted_as S G infer L T W true)) (free_fits e) (fits_free e) (paid_right (Free (comes tt)) (gives (comes tt)) (free_right (comes tt)))
    fits_right_as false e = same_costs (Paid (Then (Moved wanted (Sorts S G d L W)) (λ s. Compared G L T W))) (Fits S G d L T W) (λ b. paid b (fitted_as S G infer L T W false)) (then_fits e) (fits_then e)
        (paid_right (Then (Moved wanted (Sorts S G d L W)) (λ s. Compared G L T W)) (fit_tested S G infer L T W)
        (then_right (Moved wanted (Sorts S G d L W)) (λ s. Compared G L T W) (λ k. turned wanted (sorted S G infer L W k)) (types_compared G L T W) (turned_right wanted (Sorts S G d L W) (sorted S G infer L W) (sorts_right L W)) (compared_right G L T W)))

    pub fits_right : Right (Fits S G d L T W) (fitted S G infer L T W)
    unfolding fitted
    fits_right = fits_right_as (same_term (bare T) (bare W)) refl

  -- A product by its form.
  module _ (L : Entries) (F : Named) where
    data ProductForm (v : Named) : Outcome Flaw (Named × Named) → ℕ → Type 0 where
      form_is_none : as_product v ≡ None → ProductForm v (refused (not_product F)) 0
      form_stops : {P : Named × Named} {e : Stop Flaw} {n : ℕ} → as_product v ≡ Some P → Sorts S G d L v (stops e) n → ProductForm v (stops e) n
      form_sorted : {P : Named × Named} {s n : ℕ} → as_product v ≡ Some P → Sorts S G d L v (comes s) n → ProductForm v (comes P) n

    form_free : (v : Named) → as_product v ≡ None → (o : Outcome Flaw (Named × Named)) (n : ℕ) → ProductForm v o n → Free (refused (not_product F)) o n
    form_free v e _ _ (form_is_none p) = free
    form_free v e _ n (form_stops p c) = absurd (cc (sym e ∙ p))
    form_free v e _ n (form_sorted p c) = absurd (cc (sym e ∙ p))

    free_form : (v : Named) → as_product v ≡ None → (o : Outcome Flaw (Named × Named)) (n : ℕ) → Free (refused (not_product F)) o n → ProductForm v o n
    free_form v e _ _ free = form_is_none e

    same_product : (x : Option (Named × Named)) (P Q : Named × Named) → x ≡ Some P → x ≡ Some Q → P ≡ Q
    same_product x P Q p q = cc (sym p ∙ q)

    form_last : (v : Named) (P : Named × Named) → as_product v ≡ Some P → (o : Outcome Flaw (Named × Named)) (n : ℕ) → ProductForm v o n → Last (Sorts S G d L v) (λ s. comes P) o n
    form_last v P e _ _ (form_is_none p) = absurd (cc (sym e ∙ p))
    form_last v P e _ n (form_stops p c) = last_stop c
    form_last v P e _ n (form_sorted {P = Q} p c) = subst (λ x. Last (Sorts S G d L v) (λ s. comes P) (comes x) n) (same_product (as_product v) P Q e p) (last c refl)

    last_form : (v : Named) (P : Named × Named) → as_product v ≡ Some P → (o : Outcome Flaw (Named × Named)) (n : ℕ) → Last (Sorts S G d L v) (λ s. comes P) o n → ProductForm v o n
    last_form v P e _ n (last_stop c) = form_stops e c
    last_form v P e o n (last c q) = as_outcome (ProductForm v) _ o n q (form_sorted e c)

    form_right_as : (v : Named) (x : Option (Named × Named)) → as_product v ≡ x → Right (ProductForm v) (product_form S G infer L F v x)
    unfolding product_form gives
    form_right_as v None e = same_costs (Free (refused (not_product F))) (ProductForm v) (product_form S G infer L F v None) (free_form v e) (form_free v e) (free_right (refused (not_product F)))
    form_right_as v (Some P) e = same_costs (Last (Sorts S G d L v) (λ s. comes P)) (ProductForm v) (product_form S G infer L F v (Some P)) (last_form v P e) (form_last v P e) (last_right (Sorts S G d L v) (sorted S G infer L v) (λ s. comes P) (sorts_right L v))

    reduced_right : Right (Then (Forms G L F) ProductForm) (product_reduced S G infer L F)
    unfolding product_reduced
    reduced_right = then_right (Forms G L F) ProductForm (λ k. formed G L k F) (λ v. product_form S G infer L F v (as_product v)) (forms_right G L F) (λ v. form_right_as v (as_product v) refl)

    -- The product that a function's type is.
    product_free : (P : Named × Named) → as_product F ≡ Some P → (o : Outcome Flaw (Named × Named)) (n : ℕ) → Products S G d L F o n → Free (comes P) o n
    product_free P e _ _ (is_product {P = Q} p) = subst (λ x. Free {F = Flaw} (comes P) (comes x) 0) (same_product (as_product F) P Q e p) free
    product_free P e _ n (product_too_large p c) = absurd (cc (sym e ∙ p))
    product_free P e _ n (no_product p c q) = absurd (cc (sym e ∙ p))
    product_free P e _ _ (product_stops p c q i) = absurd (cc (sym e ∙ p))
    product_free P e _ _ (product_reached p c q i) = absurd (cc (sym e ∙ p))

    free_product : (P : Named × Named) → as_product F ≡ Some P → (o : Outcome Flaw (Named × Named)) (n : ℕ) → Free (comes P) o n → Products S G d L F o n
    free_product P e _ _ free = is_product e

    product_moved : as_product F ≡ None → (o : Outcome Flaw (Named × Named)) (n : ℕ) → Products S G d L F o n → Moved (λ f. here (not_product F)) (Then (Forms G L F) ProductForm) o n
    product_moved e _ _ (is_product p) = absurd (cc (sym e ∙ p))
    product_moved e _ n (product_too_large p c) = stopped {e = by_limits} (stop (no_form c))
    product_moved e _ n (no_product p c q) = stopped {e = by_flaw (here (not_product F))} (none_added (Then (Forms G L F) ProductForm) (refused (not_product F)) n (next (has_form c) (form_is_none q)))
    product_moved e _ _ (product_stops p c q i) = stopped (next (has_form c) (form_stops q i))
    product_moved e _ _ (product_reached p c q i) = came_to (next (has_form c) (form_sorted q i))

    moved_product : as_product F ≡ None → (o : Outcome Flaw (Named × Named)) (n : ℕ) → Moved (λ f. here (not_product F)) (Then (Forms G L F) ProductForm) o n → Products S G d L F o n
    moved_product e _ _ (stopped (stop (no_form c))) = product_too_large e c
    moved_product e _ _ (stopped (next {m = m} (has_form c) (form_is_none q))) = and_none (Products S G d L F) (refused (not_product F)) m (no_product e c q)
    moved_product e _ _ (stopped (next (has_form c) (form_stops q i))) = product_stops e c q i
    moved_product e _ _ (came_to (next (has_form c) (form_sorted q i))) = product_reached e c q i

    product_right_as : (x : Option (Named × Named)) → as_product F ≡ x → Right (Products S G d L F) (product_found_as S G infer L F x)
    unfolding product_found_as gives
    product_right_as (Some P) e = same_costs (Free (comes P)) (Products S G d L F) (product_found_as S G infer L F (Some P)) (free_product P e) (product_free P e) (free_right (comes P))
    product_right_as None e = same_costs (Moved (λ f. here (not_product F)) (Then (Forms G L F) ProductForm)) (Products S G d L F) (product_found_as S G infer L F None) (moved_product e) (product_moved e) (turned_right (λ f. here (not_product F)) (Then (Forms G L F) ProductForm) (product_reduced S G infer L F) reduced_right)

    pub products_right : Right (Products S G d L F) (product_found S G infer L F)
    unfolding product_found
    products_right = product_right_as (as_product F) refl
