-- The sort test, the fit and the product of a function's type at their cost, part by part.
use Rattle.std.proofs.Common.{◌≡◌, ℕ, suc, refl, ap, ◌∙◌, true, false, Option, Some, None}
use Rattle.pts_terms.specs.Tree.{Named, bare, same_term, sort, const, var, app, named_lam, named_pi, named_let}
use Rattle.pts_ctx.specs.System.{Specification, axiom_of}
use Rattle.pts_reduce_cost.specs.Costs.{Globals, Entries, nesting}
use Rattle.pts_reduce_cost.specs.Run.{ends, fails, deep, spent, and_then, paid, turned}
use Rattle.pts_reduce_cost.specs.Work.{reduced, formed, Difference, tested}
use Rattle.pts_reduce_cost.proofs.Tests.{form_reached, form_deep, form_spent}
use Rattle.pts_infer_cost.specs.Typing.{Flaw, here, wanted, comes, not_a_sort, not_product, refused, as_sort, as_product, by_form}
use Rattle.pts_infer_cost.specs.Inference.{gives, Typer, sort_tested_as, sort_tested, sorted, misfit, types_compared, fit_tested, fitted_as, fitted, product_form, product_reduced, product_found_as, product_found}

module _ (S : Specification) (G : Globals) (infer : Typer) where
  -- Inference with sort test: the inference, and then the test of the type.
  pub sorted_goes_on : (L : Entries) (t : Named) (T : Named) (k j : ℕ) → infer L t k ≡ ends T j → sorted S G infer L t k ≡ sort_tested S G L T j
  unfolding sorted and_then turned
  sorted_goes_on L t T k j e = ap (λ r. and_then r (sort_tested S G L)) e

  pub sorted_flawed : (L : Entries) (t : Named) (f : Flaw) (k j : ℕ) → infer L t k ≡ fails f j → sorted S G infer L t k ≡ fails f j
  unfolding sorted and_then turned
  sorted_flawed L t f k j e = ap (λ r. and_then r (sort_tested S G L)) e

  pub sorted_deep : (L : Entries) (t : Named) (k j : ℕ) → infer L t k ≡ deep j → sorted S G infer L t k ≡ deep j
  unfolding sorted and_then turned
  sorted_deep L t k j e = ap (λ r. and_then r (sort_tested S G L)) e

  pub sorted_spent : (L : Entries) (t : Named) (k : ℕ) → infer L t k ≡ spent → sorted S G infer L t k ≡ spent
  unfolding sorted and_then turned
  sorted_spent L t k e = ap (λ r. and_then r (sort_tested S G L)) e

  -- The inference of a wanted type.
  pub fit_tested_goes_on : (L : Entries) (T W : Named) (s : ℕ) (k j : ℕ) → sorted S G infer L W k ≡ ends s j → fit_tested S G infer L T W k ≡ types_compared G L T W s j
  unfolding fit_tested and_then turned
  fit_tested_goes_on L T W s k j e = ap (λ r. and_then (turned (wanted) r) (types_compared G L T W)) e

  pub fit_tested_flawed : (L : Entries) (T W : Named) (f : Flaw) (k j : ℕ) → sorted S G infer L W k ≡ fails f j → fit_tested S G infer L T W k ≡ fails (wanted f) j
  unfolding fit_tested and_then turned
  fit_tested_flawed L T W f k j e = ap (λ r. and_then (turned (wanted) r) (types_compared G L T W)) e

  pub fit_tested_deep : (L : Entries) (T W : Named) (k j : ℕ) → sorted S G infer L W k ≡ deep j → fit_tested S G infer L T W k ≡ deep j
  unfolding fit_tested and_then turned
  fit_tested_deep L T W k j e = ap (λ r. and_then (turned (wanted) r) (types_compared G L T W)) e

  pub fit_tested_spent : (L : Entries) (T W : Named) (k : ℕ) → sorted S G infer L W k ≡ spent → fit_tested S G infer L T W k ≡ spent
  unfolding fit_tested and_then turned
  fit_tested_spent L T W k e = ap (λ r. and_then (turned (wanted) r) (types_compared G L T W)) e

  -- A fit: a unit, and equal types, or a test.
  pub fitted_unpaid : (L : Entries) (T W : Named) (k : ℕ) → k ≡ 0 → fitted S G infer L T W k ≡ spent
  unfolding fitted paid
  fitted_unpaid L T W k e = ap (λ b. paid b (fitted_as S G infer L T W (same_term (bare T) (bare W)))) e

  fitted_paid : (L : Entries) (T W : Named) (k j : ℕ) → k ≡ suc j → fitted S G infer L T W k ≡ fitted_as S G infer L T W (same_term (bare T) (bare W)) j
  unfolding fitted paid
  fitted_paid L T W k j e = ap (λ b. paid b (fitted_as S G infer L T W (same_term (bare T) (bare W)))) e

  pub fitted_equal : (L : Entries) (T W : Named) (k j : ℕ) → k ≡ suc j → same_term (bare T) (bare W) ≡ true → fitted S G infer L T W k ≡ ends tt j
  unfolding fitted_as
  fitted_equal L T W k j p e = fitted_paid L T W k j p ∙ ap (λ b. fitted_as S G infer L T W b j) e

  pub fitted_by_test : (L : Entries) (T W : Named) (k j : ℕ) → k ≡ suc j → same_term (bare T) (bare W) ≡ false → fitted S G infer L T W k ≡ fit_tested S G infer L T W j
  unfolding fitted_as
  fitted_by_test L T W k j p e = fitted_paid L T W k j p ∙ ap (λ b. fitted_as S G infer L T W b j) e

  -- The product that a function's type is.
  pub product_at_once : (L : Entries) (F : Named) (P : Named × Named) (k : ℕ) → as_product F ≡ Some P → product_found S G infer L F k ≡ ends P k
  unfolding product_found product_found_as
  product_at_once L F P k e = ap (λ o. product_found_as S G infer L F o k) e

  product_by_form : (L : Entries) (F : Named) (k : ℕ) → as_product F ≡ None → product_found S G infer L F k ≡ turned (λ f. here (not_product F)) (product_reduced S G infer L F k)
  unfolding product_found product_found_as
  product_by_form L F k e = ap (λ o. product_found_as S G infer L F o k) e

  form_of_product : (L : Entries) (F v : Named) (k j : ℕ) (o : Option (Named × Named)) → reduced G L k F ≡ ends v j → as_product v ≡ o → product_reduced S G infer L F k ≡ product_form S G infer L F v o j
  unfolding product_reduced and_then
  form_of_product L F v k j o e p = ap (λ r. and_then r (λ v k. product_form S G infer L F v (as_product v) k)) (form_reached G L F v k j e) ∙ ap (λ o. product_form S G infer L F v o j) p

  pub product_large : (L : Entries) (F : Named) (k j : ℕ) → as_product F ≡ None → reduced G L k F ≡ deep j → product_found S G infer L F k ≡ deep j
  unfolding product_reduced and_then turned
  product_large L F k j p e = product_by_form L F k p ∙ ap (λ r. turned (λ f. here (not_product F)) (and_then r (λ v k. product_form S G infer L F v (as_product v) k))) (form_deep G L F k j e)

  pub product_unreduced : (L : Entries) (F : Named) (k : ℕ) → as_product F ≡ None → reduced G L k F ≡ spent → product_found S G infer L F k ≡ spent
  unfolding product_reduced and_then turned
  product_unreduced L F k p e = product_by_form L F k p ∙ ap (λ r. turned (λ f. here (not_product F)) (and_then r (λ v k. product_form S G infer L F v (as_product v) k))) (form_spent G L F k e)

  pub product_missing : (L : Entries) (F v : Named) (k j : ℕ) → as_product F ≡ None → reduced G L k F ≡ ends v j → as_product v ≡ None → product_found S G infer L F k ≡ fails (here (not_product F)) j
  unfolding product_form turned
  product_missing L F v k j p e q = product_by_form L F k p ∙ ap (turned (λ f. here (not_product F))) (form_of_product L F v k j None e q)

  by_product_form : (L : Entries) (F v : Named) (P : Named × Named) (k j : ℕ) → as_product F ≡ None → reduced G L k F ≡ ends v j → as_product v ≡ Some P → product_found S G infer L F k ≡ turned (λ f. here (not_product F)) (and_then (sorted S G infer L v j) (λ s k. ends P k))
  unfolding product_form
  by_product_form L F v P k j p e q = product_by_form L F k p ∙ ap (turned (λ f. here (not_product F))) (form_of_product L F v k j (Some P) e q)

  pub product_form_sorted : (L : Entries) (F v : Named) (P : Named × Named) (s : ℕ) (k j i : ℕ) → as_product F ≡ None → reduced G L k F ≡ ends v j → as_product v ≡ Some P → sorted S G infer L v j ≡ ends s i → product_found S G infer L F k ≡ ends P i
  unfolding and_then turned
  product_form_sorted L F v P s k j i p e q c = by_product_form L F v P k j p e q ∙ ap (λ r. turned (λ f. here (not_product F)) (and_then r (λ s k. ends P k))) c

  pub product_form_flawed : (L : Entries) (F v : Named) (P : Named × Named) (f : Flaw) (k j i : ℕ) → as_product F ≡ None → reduced G L k F ≡ ends v j → as_product v ≡ Some P → sorted S G infer L v j ≡ fails f i → product_found S G infer L F k ≡ fails (here (not_product F)) i
  unfolding and_then turned
  product_form_flawed L F v P f k j i p e q c = by_product_form L F v P k j p e q ∙ ap (λ r. turned (λ f. here (not_product F)) (and_then r (λ s k. ends P k))) c

  pub product_form_deep : (L : Entries) (F v : Named) (P : Named × Named) (k j i : ℕ) → as_product F ≡ None → reduced G L k F ≡ ends v j → as_product v ≡ Some P → sorted S G infer L v j ≡ deep i → product_found S G infer L F k ≡ deep i
  unfolding and_then turned
  product_form_deep L F v P k j i p e q c = by_product_form L F v P k j p e q ∙ ap (λ r. turned (λ f. here (not_product F)) (and_then r (λ s k. ends P k))) c

  pub product_form_spent : (L : Entries) (F v : Named) (P : Named × Named) (k j : ℕ) → as_product F ≡ None → reduced G L k F ≡ ends v j → as_product v ≡ Some P → sorted S G infer L v j ≡ spent → product_found S G infer L F k ≡ spent
  unfolding and_then turned
  product_form_spent L F v P k j p e q c = by_product_form L F v P k j p e q ∙ ap (λ r. turned (λ f. here (not_product F)) (and_then r (λ s k. ends P k))) c

-- The test of two types, as a fit sees it.
module _ (G : Globals) (L : Entries) (T W : Named) (s : ℕ) where
  pub types_agree : (k j : ℕ) → tested G nesting L T W k ≡ ends tt j → types_compared G L T W s k ≡ ends tt j
  unfolding types_compared turned
  types_agree k j e = ap (turned (misfit T W)) e

  pub types_differ : (d : Difference) (k j : ℕ) → tested G nesting L T W k ≡ fails d j → types_compared G L T W s k ≡ fails (misfit T W d) j
  unfolding types_compared turned
  types_differ d k j e = ap (turned (misfit T W)) e

  pub types_deep : (k j : ℕ) → tested G nesting L T W k ≡ deep j → types_compared G L T W s k ≡ deep j
  unfolding types_compared turned
  types_deep k j e = ap (turned (misfit T W)) e

  pub types_spent : (k : ℕ) → tested G nesting L T W k ≡ spent → types_compared G L T W s k ≡ spent
  unfolding types_compared turned
  types_spent k e = ap (turned (misfit T W)) e

-- The sort test of a type.
module _ (S : Specification) (G : Globals) (L : Entries) (T : Named) where
  pub sort_at_once : (s k : ℕ) → as_sort T ≡ Some s → sort_tested S G L T k ≡ ends s k
  unfolding sort_tested sort_tested_as
  sort_at_once s k e = ap (λ o. sort_tested_as S G L T o k) e

  sort_by_form : (k : ℕ) → as_sort T ≡ None → sort_tested S G L T k ≡ and_then (formed G L k T) (λ v k. gives (by_form S T v) k)
  unfolding sort_tested sort_tested_as
  sort_by_form k e = ap (λ o. sort_tested_as S G L T o k) e

  pub sort_large : (k j : ℕ) → as_sort T ≡ None → reduced G L k T ≡ deep j → sort_tested S G L T k ≡ deep j
  unfolding and_then
  sort_large k j p e = sort_by_form k p ∙ ap (λ r. and_then r (λ v k. gives (by_form S T v) k)) (form_deep G L T k j e)

  pub sort_unreduced : (k : ℕ) → as_sort T ≡ None → reduced G L k T ≡ spent → sort_tested S G L T k ≡ spent
  unfolding and_then
  sort_unreduced k p e = sort_by_form k p ∙ ap (λ r. and_then r (λ v k. gives (by_form S T v) k)) (form_spent G L T k e)

  sort_formed : (v : Named) (k j : ℕ) → as_sort T ≡ None → reduced G L k T ≡ ends v j → sort_tested S G L T k ≡ gives (by_form S T v) j
  unfolding and_then
  sort_formed v k j p e = sort_by_form k p ∙ ap (λ r. and_then r (λ v k. gives (by_form S T v) k)) (form_reached G L T v k j e)

  form_with_axiom : (v : Named) (s r : ℕ) → as_sort v ≡ Some s → axiom_of S s ≡ Some r → by_form S T v ≡ comes s
  form_with_axiom (sort i) s r p e = let q : i ≡ s = cc p in rw (q, e) refl
  form_with_axiom (const c) s r p e = absurd (cc p)
  form_with_axiom (var i) s r p e = absurd (cc p)
  form_with_axiom (app f a) s r p e = absurd (cc p)
  form_with_axiom (named_lam x A b) s r p e = absurd (cc p)
  form_with_axiom (named_pi x A b) s r p e = absurd (cc p)
  form_with_axiom (named_let x a A b) s r p e = absurd (cc p)

  form_without_axiom : (v : Named) (s : ℕ) → as_sort v ≡ Some s → axiom_of S s ≡ None → by_form S T v ≡ refused (not_a_sort T)
  form_without_axiom (sort i) s p e = let q : i ≡ s = cc p in rw (q, e) refl
  form_without_axiom (const c) s p e = absurd (cc p)
  form_without_axiom (var i) s p e = absurd (cc p)
  form_without_axiom (app f a) s p e = absurd (cc p)
  form_without_axiom (named_lam x A b) s p e = absurd (cc p)
  form_without_axiom (named_pi x A b) s p e = absurd (cc p)
  form_without_axiom (named_let x a A b) s p e = absurd (cc p)

  form_no_sort : (v : Named) → as_sort v ≡ None → by_form S T v ≡ refused (not_a_sort T)
  form_no_sort (sort i) p = absurd (cc p)
  form_no_sort (const c) p = refl
  form_no_sort (var i) p = refl
  form_no_sort (app f a) p = refl
  form_no_sort (named_lam x A b) p = refl
  form_no_sort (named_pi x A b) p = refl
  form_no_sort (named_let x a A b) p = refl

  pub sort_reached : (v : Named) (s r k j : ℕ) → as_sort T ≡ None → reduced G L k T ≡ ends v j → as_sort v ≡ Some s → axiom_of S s ≡ Some r → sort_tested S G L T k ≡ ends s j
  unfolding gives
  sort_reached v s r k j p e q a = sort_formed v k j p e ∙ ap (λ o. gives o j) (form_with_axiom v s r q a)

  pub sort_without_axiom : (v : Named) (s k j : ℕ) → as_sort T ≡ None → reduced G L k T ≡ ends v j → as_sort v ≡ Some s → axiom_of S s ≡ None → sort_tested S G L T k ≡ fails (here (not_a_sort T)) j
  unfolding gives
  sort_without_axiom v s k j p e q a = sort_formed v k j p e ∙ ap (λ o. gives o j) (form_without_axiom v s q a)

  pub sort_missing : (v : Named) (k j : ℕ) → as_sort T ≡ None → reduced G L k T ≡ ends v j → as_sort v ≡ None → sort_tested S G L T k ≡ fails (here (not_a_sort T)) j
  unfolding gives
  sort_missing v k j p e q = sort_formed v k j p e ∙ ap (λ o. gives o j) (form_no_sort v q)

pub ruleset sort_tests = (sort_at_once, sort_large, sort_unreduced, sort_reached, sort_without_axiom, sort_missing)

pub ruleset sorts = (sorted_goes_on, sorted_flawed, sorted_deep, sorted_spent)

pub ruleset fits = (fit_tested_goes_on, fit_tested_flawed, fit_tested_deep, fit_tested_spent, fitted_unpaid, fitted_equal, fitted_by_test, types_agree, types_differ, types_deep, types_spent)

pub ruleset functions = (product_at_once, product_large, product_unreduced, product_missing, product_form_sorted, product_form_flawed, product_form_deep, product_form_spent)
