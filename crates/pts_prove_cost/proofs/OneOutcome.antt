-- Each piece of work has one outcome at most, at one cost, and so have pieces that are put together.
use Rattle.std.proofs.Common.{◌≡◌, ℕ, zero, suc, List, [], ◌∷◌, Option, Some, None, Bool, true, false, refl, ap, subst, arith, reverse}
use Rattle.std.specs.Prelude.{is_some}
use Rattle.std.specs.List.{position}
use Rattle.pts_names.specs.Name.{Name, same_name}
use Rattle.pts_terms.specs.Tree.{Named, lift}
use Rattle.pts_ctx.specs.System.{Specification}
use Rattle.pts_ctx.specs.Front.{Global, find, assumed, unknown}
use Rattle.pts_reduce_cost.specs.Costs.{Globals, Entries}
use Rattle.pts_reduce_cost.proofs.Reached.{one_reduct, one_verdict}
use Rattle.pts_infer_cost.specs.Typing.{by_limits, moved, Outcome, comes, stops, as_product, Infers, Sorts, Fits, inference_nesting}
use Rattle.pts_infer_cost.specs.Laws.{HasOneOutcome}
use Rattle.pts_infer_cost.proofs.Exact.{inference_once, sorts_once, fit_once}
use Rattle.pts_match.specs.Lowering.{is_clear}
use Rattle.pts_match.specs.Matching.{Assignment, match_of}
use Rattle.pts_prove_cost.specs.Combining.{After, first_stops, goes_on, Turned, comes_too, stops_too, Free, at_once, Paid, unit_first}
use Rattle.pts_prove_cost.specs.Refinement.{Sequent, Argument}
use Rattle.pts_prove_cost.specs.Commands.{Part, of_term, of_type, of_goal, Refusal, not_product, no_match, Command, flawed, misfit_in, Forms, formed, form_too_large, Agrees, tested, by_test, Opened, form_opens, opens_as, opens, unless_taken, place_in_scope, mentions, tries, attempt, searches, sorted_product, function_opens, gives_argument, asks_argument, takes_argument, takes_next, takes_arguments, intros, exacts, applies, cuts, changes, converts, unfolds_body, unfolds_entry, unfolds}

pub one_after : {F A B : Type 0} (R : Outcome F A → ℕ → Type 0) (Q : A → Outcome F B → ℕ → Type 0) → HasOneOutcome R → ((x : A) → HasOneOutcome (Q x)) → HasOneOutcome (After R Q)
one_after R Q f g o p m n (first_stops r) (first_stops s) = let e = f _ _ _ _ r s in (cc e.0, e.1)
one_after R Q f g o p m n (first_stops r) (goes_on s t) = absurd (cc (f _ _ _ _ r s).0)
one_after R Q f g o p m n (goes_on r t) (first_stops s) = absurd (cc (f _ _ _ _ r s).0)
one_after R Q f g o p m n (goes_on {x = x} {n = i} r t) (goes_on {x = y} {n = j} s u) =
    let e = f _ _ _ _ r s in
    let q : x ≡ y = cc e.0 in
    let h = g y o p i j (subst (λ z. Q z o i) q t) u in
    (h.0, omega (arith, e.1, h.1))

pub one_turned : {E F A : Type 0} (g : E → F) (R : Outcome E A → ℕ → Type 0) → HasOneOutcome R → HasOneOutcome (Turned g R)
one_turned g R f o p m n (comes_too {x = x} r) (comes_too {x = y} s) = let e = f _ _ _ _ r s in let q : x ≡ y = cc e.0 in (ap comes q, e.1)
one_turned g R f o p m n (comes_too r) (stops_too s) = absurd (cc (f _ _ _ _ r s).0)
one_turned g R f o p m n (stops_too r) (comes_too s) = absurd (cc (f _ _ _ _ r s).0)
one_turned g R f o p m n (stops_too {e = x} r) (stops_too {e = y} s) = let e = f _ _ _ _ r s in let q : x ≡ y = cc e.0 in (ap (λ z. stops (moved g z)) q, e.1)

pub one_free : {F A : Type 0} (q : Outcome F A) → HasOneOutcome (Free q)
one_free q o p m n at_once at_once = (refl, refl)

pub one_paid : {F A : Type 0} (R : Outcome F A → ℕ → Type 0) → HasOneOutcome R → HasOneOutcome (Paid R)
one_paid R f o p m n (unit_first r) (unit_first s) = let e = f _ _ _ _ r s in (e.0, ap suc e.1)

pub one_form : (G : Globals) (L : Entries) (t : Named) → HasOneOutcome (Forms G L t)
one_form G L t o p m n (formed {v = v} r) (formed {v = w} s) = let e = one_reduct G L t _ _ _ _ r s in let q : v ≡ w = cc e.0 in (ap comes q, e.1)
one_form G L t o p m n (formed r) (form_too_large s) = absurd (cc (one_reduct G L t _ _ _ _ r s).0)
one_form G L t o p m n (form_too_large r) (formed s) = absurd (cc (one_reduct G L t _ _ _ _ r s).0)
one_form G L t o p m n (form_too_large r) (form_too_large s) = (refl, (one_reduct G L t _ _ _ _ r s).1)

pub one_agreement : (G : Globals) (L : Entries) (t u : Named) → HasOneOutcome (Agrees G L t u)
one_agreement G L t u o p m n (tested r) (tested s) = let e = one_verdict G 2000 L t u _ _ _ _ r s in (ap (by_test t u) e.0, e.1)

one_form_opening : (why : Named → Refusal) (t : Named) (o : Option (Named × Named)) → HasOneOutcome (form_opens why t o)
one_form_opening why t None = one_free _
one_form_opening why t (Some P) = one_free _

module _ (G : Globals) (L : Entries) (why : Named → Refusal) where
  pub one_opening_as : (t : Named) (o : Option (Named × Named)) → HasOneOutcome (opens_as G L why t o)
  one_opening_as t (Some P) = one_free _
  one_opening_as t None = one_after _ _ (one_form G L t) (λ v. one_form_opening why v (as_product v))

  pub one_opening : (t : Named) → HasOneOutcome (opens G L why t)
  one_opening t = one_opening_as t (as_product t)

pub one_try : (k : ℕ) (C g : Named) → HasOneOutcome (tries k C g)
one_try k C g = one_paid _ (one_free _)

one_attempt : (G : Globals) (k : ℕ) (L : Entries) (C : Named) (next : Named → Outcome Refusal Assignment → ℕ → Type 0) (o : Option Assignment) → ((B : Named) → HasOneOutcome (next B)) → HasOneOutcome (attempt G k L C next o)
one_attempt G k L C next (Some s) f = one_free _
one_attempt G k L C next None f = one_after _ _ (one_opening G L (λ v. no_match k) C) (λ p. f p.body)

pub one_search : (G : Globals) (g : Named) (d k : ℕ) (L : Entries) (C : Named) → HasOneOutcome (searches G g d k L C)
one_search G g zero k L C = one_after _ _ (one_try k C g) (λ o. one_attempt G k L C (λ B. Free (stops by_limits)) o (λ B. one_free _))
one_search G g (suc d) k L C = one_after _ _ (one_try k C g) (λ o. one_attempt G k L C (searches G g d (suc k) (unknown ∷ L)) o (λ B. one_search G g d (suc k) (unknown ∷ L) B))

unless_once : (x : Name) (o : Option ℕ) (R : Command → ℕ → Type 0) → HasOneOutcome R → HasOneOutcome (unless_taken x o R)
unless_once x None R f = f
unless_once x (Some place) R f = one_free _

module _ (S : Specification) (G : Globals) (L : Entries) where
  pub one_sorted : (p : Part) (t : Named) → HasOneOutcome (Turned (flawed p) (Sorts S G inference_nesting L t))
  one_sorted p t = one_turned _ _ (sorts_once S G 4000 L t)

  pub one_inferred : (p : Part) (t : Named) → HasOneOutcome (Turned (flawed p) (Infers S G inference_nesting L t))
  one_inferred p t = one_turned _ _ (inference_once S G 4000 L t)

  pub one_fitted : (p : Part) (T W : Named) → HasOneOutcome (Turned (misfit_in p) (Fits S G inference_nesting L T W))
  one_fitted p T W = one_turned _ _ (fit_once S G 4000 L T W)

  pub one_product : (p : Opened) → HasOneOutcome (sorted_product S G L p)
  one_product p = one_after _ _ (one_sorted of_goal p.product) (λ s. one_free _)

  pub one_function : (T : Named) (o : Option (Named × Named)) → HasOneOutcome (function_opens S G L T o)
  one_function T (Some P) = one_free _
  one_function T None = one_after _ _ (one_opening_as G L not_product T None) (λ p. one_product p)

  pub one_given : (D B a : Named) → HasOneOutcome (gives_argument S G L D B a)
  one_given D B a = one_after _ _ (one_inferred of_goal a) (λ A. one_after _ _ (one_fitted of_goal A D) (λ u. one_after _ _ (one_free _) (λ T. one_free _)))

  pub one_asked : (i : ℕ) (D B : Named) (b : Bool) → HasOneOutcome (asks_argument S G L i D B b)
  one_asked i D B false = one_free _
  one_asked i D B true = one_after _ _ (one_sorted of_goal D) (λ s. one_free _)

  pub one_argument : (i : ℕ) (p : Opened) (o : Option Named) → HasOneOutcome (takes_argument S G L i p o)
  one_argument i p (Some a) = one_given p.domain p.body a
  one_argument i p None = one_asked i p.domain p.body (is_clear 0 1 p.body)

  pub one_next : (i : ℕ) (T : Named) (o : Option Named) → HasOneOutcome (takes_next S G L i T o)
  one_next i T o = one_after _ _ (one_function T (as_product T)) (λ p. one_argument i p o)

  pub one_arguments : (g : Named) (i : ℕ) (T : Named) (s : List (Option Named)) (earlier : List Argument) → HasOneOutcome (takes_arguments S G L g i T s earlier)
  one_arguments g i T [] earlier = one_free _
  one_arguments g i T (o ∷ s) earlier = one_after _ _ (one_next i T o) (λ a. one_arguments g (suc i) a.1 s _)

module _ (S : Specification) (G : Globals) (g : Sequent) where
  pub one_intro : (x : Name) → HasOneOutcome (intros S G g x)
  one_intro x =
      unless_once x (place_in_scope G g.names x) _ (
      one_after _ _ (one_opening G g.entries not_product g.statement) (λ p.
      one_after _ _ (one_product S G g.entries p) (λ p.
      one_free _)))

  pub one_exact : (t : Named) → HasOneOutcome (exacts S G g t)
  one_exact t =
      one_after _ _ (one_free _) (λ t.
      one_after _ _ (one_inferred S G g.entries of_term t) (λ T.
      one_after _ _ (one_fitted S G g.entries of_term T g.statement) (λ u.
      one_free _)))

  pub one_application : (t : Named) → HasOneOutcome (applies S G g t)
  one_application t =
      one_after _ _ (one_free _) (λ t.
      one_after _ _ (one_inferred S G g.entries of_term t) (λ C.
      one_after _ _ (one_search G g.statement 2000 0 g.entries C) (λ s.
      one_after _ _ (one_arguments S G g.entries g.statement 1 C (reverse s) []) (λ arguments.
      one_free _))))

  pub one_cut : (x : Name) (T : Named) → HasOneOutcome (cuts S G g x T)
  one_cut x T =
      unless_once x (place_in_scope G g.names x) _ (
      one_after _ _ (one_free _) (λ T.
      one_after _ _ (one_sorted S G g.entries of_type T) (λ s.
      one_after _ _ (one_turned _ _ (sorts_once S G 4000 (assumed T ∷ g.entries) (lift 0 1 g.statement))) (λ r.
      one_after _ _ (one_turned _ _ (one_free _)) (λ q.
      one_after _ _ (one_free _) (λ p.
      one_free _))))))

  pub one_change : (p : Part) (t : Named) → HasOneOutcome (changes S G g p t)
  one_change p t = one_after _ _ (one_sorted S G g.entries p t) (λ s. one_agreement G g.entries t g.statement)

  pub one_conversion : (t : Named) → HasOneOutcome (converts S G g t)
  one_conversion t = one_after _ _ (one_free _) (λ t. one_change of_type t)

  one_body : (c : Name) (a : Option Named) (b : Bool) → HasOneOutcome (unfolds_body S G g c a b)
  one_body c None b = one_free _
  one_body c (Some a) false = one_free _
  one_body c (Some a) true = one_free _

  pub one_entry : (c : Name) (h : Bool) (e : Option (Global Name)) → HasOneOutcome (unfolds_entry S G g c h e)
  one_entry c true e = one_free _
  one_entry c false None = one_free _
  one_entry c false (Some e) = one_body c e.body (mentions c g.statement)

  pub one_unfolding : (c : Name) → HasOneOutcome (unfolds S G g c)
  one_unfolding c = one_after _ _ (one_entry c (is_some (position (same_name c) g.names)) (find c G)) (λ t. one_change of_goal t)

pub commands_once : (S : Specification) (G : Globals) (g : Sequent) → ((x : Name) → HasOneOutcome (intros S G g x)) × ((t : Named) → HasOneOutcome (exacts S G g t)) × ((t : Named) → HasOneOutcome (applies S G g t)) × ((x : Name) (T : Named) → HasOneOutcome (cuts S G g x T)) × ((c : Name) → HasOneOutcome (unfolds S G g c)) × ((t : Named) → HasOneOutcome (converts S G g t))
commands_once S G g = (one_intro S G g, one_exact S G g, one_application S G g, one_cut S G g, one_unfolding S G g, one_conversion S G g)
