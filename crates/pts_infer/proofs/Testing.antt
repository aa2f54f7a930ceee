-- The tests of types, part by part.
use Rattle.std.proofs.Common.{◌≡◌, ℕ, suc, refl, sym, ap, ◌∙◌, subst, List, Result, Ok, Err, Some, None, Bool, true, false}
use Rattle.std.specs.Result.{IsErr, IsErrAnd}
use Rattle.pts_terms.specs.Tree.{Named, bare, pi, same_term, sort, const, var, app, named_lam, named_pi, named_let}
use Rattle.pts_terms.proofs.Same.{same_term_eq}
use Rattle.pts_ctx.specs.System.{Specification, axiom_of}
use Rattle.pts_record.specs.declared.shape.Shape.{Shape}
use Rattle.pts_record.specs.Table.{named_at, bare_at}
use Rattle.pts_rules.specs.Meter.{left}
use Rattle.pts_reduce_cost.specs.Costs.{Globals, Entries}
use Rattle.pts_reduce_cost.specs.Run.{Run, ends, fails, deep, spent, and_then, turned}
use Rattle.pts_reduce_cost.specs.Work.{reduced}
use Rattle.pts_infer_cost.specs.Typing.{Flaw, FitFlaw, here, wanted, as_sort, as_product, not_a_sort, not_product}
use Rattle.pts_infer_cost.specs.Inference.{Typer, sort_tested, sorted, product_found, types_compared}
use Rattle.pts_infer_cost.proofs.ByParts.{sorted_is, fit_tested_is}
use Rattle.pts_infer_cost.proofs.Tests.{sort_large, sort_unreduced, sort_reached, sort_without_axiom, sort_missing, product_large, product_unreduced, product_missing, product_form_sorted, product_form_flawed, product_form_deep, product_form_spent, fitted_equal, fitted_by_test}
use Rattle.pts_grow.specs.declared.judged.Judged.{Judged}
use Rattle.pts_grow.proofs.Grow.{tree_stays}
use Rattle.pts_grow.proofs.Plain.{plain}
use Rattle.pts_reduce.specs.Chain.{entries_of}
use Rattle.pts_infer.specs.declared.fault.Fault.{Fault}
use Rattle.pts_infer.specs.declared.fault.Fault.TheVariants.{Spent, Deep, Memory, Flawed}
use Rattle.pts_infer.specs.declared.judgements.Sorted.{Sorted}
use Rattle.pts_infer.specs.declared.judgements.Function.{Function}
use Rattle.pts_infer.specs.declared.work.Work.{Work}
use Rattle.pts_infer.specs.declared.work.At.{At}
use Rattle.pts_infer.specs.Given.{PlainlyStops, StopsWith, FoundAs, product_of, type_of}
use Rattle.pts_infer.specs.Works.{Grown, IsPlace, HasTerm, IsJudged, IsFitted, IsFunctionOf, Gave, GaveFit, typer, inferring, sorting, testing, finding, fitting, comparing, reducing}
use Rattle.pts_infer.proofs.Outwards.{handed_on, found}
use Rattle.pts_infer.proofs.Runs.{entries_stay, parts_there}
use Rattle.pts_infer.proofs.Working.{term_later}
use Rattle.pts_infer.proofs.Running.{goes_on, fit_goes_on}

-- A term that is a sort, and one that is a product.
pub is_sort : (t : Named) (s : ℕ) → Some s ≡ as_sort t → t ≡ sort s
is_sort (sort r) s e = let p : s ≡ r = cc e in ap sort (sym p)
is_sort (const c) s e = absurd (cc e)
is_sort (var i) s e = absurd (cc e)
is_sort (app f a) s e = absurd (cc e)
is_sort (named_lam x A b) s e = absurd (cc e)
is_sort (named_pi x A b) s e = absurd (cc e)
is_sort (named_let x a A b) s e = absurd (cc e)

bare_product : (t A B : Named) → Some (A, B) ≡ as_product t → bare t ≡ pi (bare A) (bare B)
bare_product (named_pi x C D) A B e = let p : ◌≡◌ {A = Named × Named} (A, B) (C, D) = cc e in let q : A ≡ C = ap (λ u. u.0) p in let r : B ≡ D = ap (λ u. u.1) p in rw (q, r) refl
bare_product (sort r) A B e = absurd (cc e)
bare_product (const c) A B e = absurd (cc e)
bare_product (var i) A B e = absurd (cc e)
bare_product (app f a) A B e = absurd (cc e)
bare_product (named_lam x C D) A B e = absurd (cc e)
bare_product (named_let x a C D) A B e = absurd (cc e)

pub product_there : (ss : List Shape) (t a b : ℕ) → Some (named_at ss a, named_at ss b) ≡ as_product (named_at ss t) → bare_at ss t ≡ pi (bare_at ss a) (bare_at ss b)
product_there ss t a b e =
    let p = bare_product (named_at ss t) (named_at ss a) (named_at ss b) e in
    let q = plain ss t (named_at ss t) refl in
    let r = plain ss a (named_at ss a) refl in
    let s = plain ss b (named_at ss b) refl in
    cc

-- An inference with a sort test, at the test.
pub sorting_at_test : {w v : Work} {at : At} {t : ℕ} {j : Judged} → Grown w v → IsPlace w at → HasTerm w t → Gave v (type_of v.proof.now.shapes) (Ok j) (inferring w at t) → sorting w at t ≡ testing v at j.claim
sorting_at_test {w} {v} {at} {t} {j} g s h r =
    let y = g.system in
    let z = g.front in
    let n = entries_stay w.proof.now v.proof.now at.ctx g.keeps s.there in
    goes_on _ (sorted_is w.system.now w.front.now.entries (typer w at) (entries_of w.proof.now at.ctx) (named_at w.proof.now.shapes t) (left w.meter.now)) r ∙ rw (y, z, n) refl

-- The sort test of a type that is no sort: its form stops, is no sort, has no axiom, or is a sort.
module _ (w v : Work) (at : At) (t : ℕ) (n : None ≡ as_sort (named_at w.proof.now.shapes t)) where
  test_stops : (e : Fault) → PlainlyStops e (left v.meter.now) (reducing w at t) → StopsWith v.proof.now.shapes e (left v.meter.now) (testing w at t)
  test_stops Spent h = (sort_unreduced w.system.now w.front.now.entries (entries_of w.proof.now at.ctx) (named_at w.proof.now.shapes t) (left w.meter.now) (sym n) h.0, h.1)
  test_stops Deep h = sort_large w.system.now w.front.now.entries (entries_of w.proof.now at.ctx) (named_at w.proof.now.shapes t) (left w.meter.now) (left v.meter.now) (sym n) h
  test_stops Memory h = tt
  test_stops (Flawed f) h = absurd h

  pub test_unformed : {X : Type 0} {value : X → ℕ} {r : Result X Fault} (e : Fault) → IsErr r × IsErrAnd r (λ x. x ≡ e) → PlainlyStops e (left v.meter.now) (reducing w at t) → Gave v value r (testing w at t)
  test_unformed {value = value} {r = r} e i h = record { gives = handed_on v.proof.now.shapes value r e (left v.meter.now) (testing w at t) i.0 i.1 (test_stops e h) }

  pub test_no_sort : {X : Type 0} {value : X → ℕ} {e : Fault} (f : ℕ) → Grown w v → HasTerm w t → reducing w at t ≡ ends (named_at v.proof.now.shapes f) (left v.meter.now) → None ≡ as_sort (named_at v.proof.now.shapes f) → FoundAs v.proof.now.shapes (here (not_a_sort (named_at v.proof.now.shapes t))) e → Gave v value (Err e) (testing w at t)
  test_no_sort {e = e} f g h r p d = record {
    gives =
        let x = subst (λ T. FoundAs v.proof.now.shapes (here (not_a_sort T)) e) (tree_stays w.proof.now v.proof.now t g.keeps h.there) d in
        found v.proof.now.shapes (here (not_a_sort (named_at w.proof.now.shapes t))) e (left v.meter.now) (testing w at t) x (sort_missing w.system.now w.front.now.entries (entries_of w.proof.now at.ctx) (named_at w.proof.now.shapes t) (named_at v.proof.now.shapes f) (left w.meter.now) (left v.meter.now) (sym n) r (sym p));
  }

  pub test_no_axiom : {X : Type 0} {value : X → ℕ} {e : Fault} (f s : ℕ) → Grown w v → HasTerm w t → reducing w at t ≡ ends (named_at v.proof.now.shapes f) (left v.meter.now) → Some s ≡ as_sort (named_at v.proof.now.shapes f) → None ≡ axiom_of v.system.now s → FoundAs v.proof.now.shapes (here (not_a_sort (named_at v.proof.now.shapes t))) e → Gave v value (Err e) (testing w at t)
  test_no_axiom {e = e} f s g h r p a d = record {
    gives =
        let x = subst (λ T. FoundAs v.proof.now.shapes (here (not_a_sort T)) e) (tree_stays w.proof.now v.proof.now t g.keeps h.there) d in
        let b : axiom_of w.system.now s ≡ None = ap (λ S. axiom_of S.now s) (sym g.system) ∙ sym a in
        found v.proof.now.shapes (here (not_a_sort (named_at w.proof.now.shapes t))) e (left v.meter.now) (testing w at t) x (sort_without_axiom w.system.now w.front.now.entries (entries_of w.proof.now at.ctx) (named_at w.proof.now.shapes t) (named_at v.proof.now.shapes f) s (left w.meter.now) (left v.meter.now) (sym n) r (sym p) b);
  }

  pub test_reached : {x : Work} {s : Sorted} (f a : ℕ) → Grown w v → reducing w at t ≡ ends (named_at v.proof.now.shapes f) (left v.meter.now) → Some s.sort.0 ≡ as_sort (named_at v.proof.now.shapes f) → Some a ≡ axiom_of v.system.now s.sort.0 → x.meter.now ≡ v.meter.now → Gave x (λ s. s.sort.0) (Ok s) (testing w at t)
  test_reached {x} {s} f a g r p q m = record {
    gives =
        let b : axiom_of w.system.now s.sort.0 ≡ Some a = ap (λ S. axiom_of S.now s.sort.0) (sym g.system) ∙ sym q in
        sort_reached w.system.now w.front.now.entries (entries_of w.proof.now at.ctx) (named_at w.proof.now.shapes t) (named_at v.proof.now.shapes f) s.sort.0 a (left w.meter.now) (left v.meter.now) (sym n) r (sym p) b
        ∙ ap (λ k. ends s.sort.0 (left k)) (sym m);
  }

-- The product that a type is, which is none as it is: its form stops, or is no product; else the form is inferred.
by_form : (S : Specification) (G : Globals) (infer : Typer) (L : Entries) (F v : Named) (P : Named × Named) (k j : ℕ) (r : Run Flaw ℕ) → as_product F ≡ None → reduced G L k F ≡ ends v j → as_product v ≡ Some P → sorted S G infer L v j ≡ r → product_found S G infer L F k ≡ and_then (turned (λ f. here (not_product F)) r) (λ s k. ends P k)
unfolding and_then turned
by_form S G infer L F v P k j (ends s i) n r p e = product_form_sorted S G infer L F v P s k j i n r p e
by_form S G infer L F v P k j (fails f i) n r p e = product_form_flawed S G infer L F v P f k j i n r p e
by_form S G infer L F v P k j (deep i) n r p e = product_form_deep S G infer L F v P k j i n r p e
by_form S G infer L F v P k j spent n r p e = product_form_spent S G infer L F v P k j n r p e

module _ (w v : Work) (at : At) (t : ℕ) (n : None ≡ as_product (named_at w.proof.now.shapes t)) where
  type_stops : (e : Fault) → PlainlyStops e (left v.meter.now) (reducing w at t) → StopsWith v.proof.now.shapes e (left v.meter.now) (finding w at t)
  type_stops Spent h = (product_unreduced w.system.now w.front.now.entries (typer w at) (entries_of w.proof.now at.ctx) (named_at w.proof.now.shapes t) (left w.meter.now) (sym n) h.0, h.1)
  type_stops Deep h = product_large w.system.now w.front.now.entries (typer w at) (entries_of w.proof.now at.ctx) (named_at w.proof.now.shapes t) (left w.meter.now) (left v.meter.now) (sym n) h
  type_stops Memory h = tt
  type_stops (Flawed f) h = absurd h

  pub type_unformed : {X : Type 0} {value : X → Named × Named} {r : Result X Fault} (e : Fault) → IsErr r × IsErrAnd r (λ x. x ≡ e) → PlainlyStops e (left v.meter.now) (reducing w at t) → Gave v value r (finding w at t)
  type_unformed {value = value} {r = r} e i h = record { gives = handed_on v.proof.now.shapes value r e (left v.meter.now) (finding w at t) i.0 i.1 (type_stops e h) }

  pub type_no_product : {X : Type 0} {value : X → Named × Named} {e : Fault} (f : ℕ) → Grown w v → HasTerm w t → reducing w at t ≡ ends (named_at v.proof.now.shapes f) (left v.meter.now) → None ≡ as_product (named_at v.proof.now.shapes f) → FoundAs v.proof.now.shapes (here (not_product (named_at v.proof.now.shapes t))) e → Gave v value (Err e) (finding w at t)
  type_no_product {e = e} f g h r p d = record {
    gives =
        let x = subst (λ T. FoundAs v.proof.now.shapes (here (not_product T)) e) (tree_stays w.proof.now v.proof.now t g.keeps h.there) d in
        found v.proof.now.shapes (here (not_product (named_at w.proof.now.shapes t))) e (left v.meter.now) (finding w at t) x (product_missing w.system.now w.front.now.entries (typer w at) (entries_of w.proof.now at.ctx) (named_at w.proof.now.shapes t) (named_at v.proof.now.shapes f) (left w.meter.now) (left v.meter.now) (sym n) r (sym p));
  }

  pub type_at_form : (P : Named × Named) (f l : ℕ) → Grown w v → IsPlace w at → HasTerm w t → l ≡ t → reducing w at t ≡ ends (named_at v.proof.now.shapes f) (left v.meter.now) → Some P ≡ as_product (named_at v.proof.now.shapes f) → finding w at t ≡ and_then (turned (λ f. here (not_product (named_at v.proof.now.shapes l))) (sorting v at f)) (λ s k. ends P k)
  type_at_form P f l g s h q r p =
      let y = g.system in
      let z = g.front in
      let m = entries_stay w.proof.now v.proof.now at.ctx g.keeps s.there in
      let u = ap (named_at v.proof.now.shapes) q ∙ tree_stays w.proof.now v.proof.now t g.keeps h.there in
      by_form w.system.now w.front.now.entries (typer w at) (entries_of w.proof.now at.ctx) (named_at w.proof.now.shapes t) (named_at v.proof.now.shapes f) P (left w.meter.now) (left v.meter.now) (sorted w.system.now w.front.now.entries (typer w at) (entries_of w.proof.now at.ctx) (named_at v.proof.now.shapes f) (left v.meter.now)) (sym n) r (sym p) refl
      ∙ rw (y, z, m, u) refl

-- The product that was found, over a record that grew since.
pub product_kept : {v x : Work} {f : Function} {run : Run Flaw (Named × Named)} (k d c : ℕ) → Grown v x → HasTerm v d → HasTerm v c → f.domain ≡ d → f.codomain ≡ c → left x.meter.now ≡ k → run ≡ ends (named_at v.proof.now.shapes d, named_at v.proof.now.shapes c) k → Gave x (product_of x.proof.now.shapes) (Ok f) run
product_kept {v} {x} {f} k d c g h i p q m e = record {
  gives =
      let a = tree_stays v.proof.now x.proof.now d g.keeps h.there in
      let b = tree_stays v.proof.now x.proof.now c g.keeps i.there in
      e ∙ rw (p, q, a, b, m) refl;
}

pub function_new : {v x : Work} {at : At} {t : ℕ} {f : Function} (n : ℕ) → Grown v x → HasTerm v n → HasTerm v f.domain → HasTerm v f.codomain → Some (named_at v.proof.now.shapes f.domain, named_at v.proof.now.shapes f.codomain) ≡ as_product (named_at v.proof.now.shapes n) → IsFitted x at t n f.judged → IsFunctionOf x at t f
function_new {v} {x} {at} {t} {f} n g h d c e j =
    let p = parts_there v.proof.now x.proof.now (λ A B. pi A B) n f.domain f.codomain f.domain f.codomain g.keeps h.there d.there c.there refl refl (product_there v.proof.now.shapes n f.domain f.codomain e) in
    let a = term_later g d in
    let b = term_later g c in
    record { judged = j.judged; domain = a; codomain = b; function = (j.judged.judges, a.there, b.there, ap (bare_at x.proof.now.shapes) j.claim ∙ p) }

-- Fits: the two types are equal or not.
same_named : (ss : List Shape) (t w : ℕ) → same_term (bare (named_at ss t)) (bare (named_at ss w)) ≡ same_term (bare_at ss t) (bare_at ss w)
same_named ss t w = let p = plain ss t (named_at ss t) refl in let q = plain ss w (named_at ss w) refl in rw (p, q) refl

pub found_equal : (ss : List Shape) (t w : ℕ) (b : Bool) → b ≡ same_term (bare_at ss t) (bare_at ss w) → b ≡ true → bare_at ss w ≡ bare_at ss t
found_equal ss t w b e h = sym (same_term_eq (bare_at ss t) (bare_at ss w) (sym e ∙ h))

pub types_same : (ss : List Shape) (t w : ℕ) (b c : Bool) → b ≡ same_term (bare_at ss t) (bare_at ss w) → b ≡ c → same_term (bare (named_at ss t)) (bare (named_at ss w)) ≡ c
types_same ss t w b c e h = same_named ss t w ∙ sym e ∙ h

pub fit_at_once : {w v x : Work} {j : Judged} (at : At) (t want : ℕ) → Grown w v → v.proof.now ≡ w.proof.now → left w.meter.now ≡ suc (left v.meter.now) → same_term (bare (named_at v.proof.now.shapes t)) (bare (named_at v.proof.now.shapes want)) ≡ true → x.meter.now ≡ v.meter.now → GaveFit x (λ j. tt) (Ok j) (fitting w at t want)
fit_at_once {w} {v} {x} at t u g p m e n = record {
  gives =
      let s = subst (λ r. same_term (bare (named_at r.shapes t)) (bare (named_at r.shapes u)) ≡ true) p e in
      fitted_equal w.system.now w.front.now.entries (typer w at) (entries_of w.proof.now at.ctx) (named_at w.proof.now.shapes t) (named_at w.proof.now.shapes u) (left w.meter.now) (left v.meter.now) m s ∙ ap (λ k. ends tt (left k)) (sym n);
}

-- At the inference of the wanted type, and at the test.
pub fit_at_wanted : {w v : Work} (at : At) (t want : ℕ) → Grown w v → v.proof.now ≡ w.proof.now → left w.meter.now ≡ suc (left v.meter.now) → same_term (bare (named_at v.proof.now.shapes t)) (bare (named_at v.proof.now.shapes want)) ≡ false → fitting w at t want ≡ and_then (turned wanted (sorting v at want)) (types_compared v.front.now.entries (entries_of v.proof.now at.ctx) (named_at v.proof.now.shapes t) (named_at v.proof.now.shapes want))
fit_at_wanted {w} {v} at t u g p m e =
    let y = g.system in
    let z = g.front in
    fitted_by_test w.system.now w.front.now.entries (typer w at) (entries_of w.proof.now at.ctx) (named_at w.proof.now.shapes t) (named_at w.proof.now.shapes u) (left w.meter.now) (left v.meter.now) m (subst (λ r. same_term (bare (named_at r.shapes t)) (bare (named_at r.shapes u)) ≡ false) p e)
    ∙ fit_tested_is w.system.now w.front.now.entries (typer w at) (entries_of w.proof.now at.ctx) (named_at w.proof.now.shapes t) (named_at w.proof.now.shapes u) (left v.meter.now)
    ∙ rw (y, z, p) refl

pub fit_at_test : {v u : Work} {at : At} {t want : ℕ} {s : Sorted} {whole : Run FitFlaw (Unit {0})} → Grown v u → IsPlace v at → HasTerm v t → HasTerm v want → GaveFit u (λ s. s.sort.0) (Ok s) (turned wanted (sorting v at want)) → whole ≡ and_then (turned wanted (sorting v at want)) (types_compared v.front.now.entries (entries_of v.proof.now at.ctx) (named_at v.proof.now.shapes t) (named_at v.proof.now.shapes want)) → whole ≡ comparing u at t want s.sort.0
fit_at_test {v} {u} {at} {t} {want = x} {s} g p h i r e =
    let z = g.front in
    let n = entries_stay v.proof.now u.proof.now at.ctx g.keeps p.there in
    let a = tree_stays v.proof.now u.proof.now t g.keeps h.there in
    let b = tree_stays v.proof.now u.proof.now x g.keeps i.there in
    fit_goes_on _ e r ∙ rw (z, n, a, b) refl
