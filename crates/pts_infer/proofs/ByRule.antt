-- The rules, part by part: what is left of the work of a rule, in the state in which its next part is inferred.
use Rattle.std.proofs.Common.{◌≡◌, ℕ, suc, refl, sym, ap, ◌∙◌, ◌∷◌, Ok, Some, None}
use Rattle.pts_names.specs.Name.{Name}
use Rattle.pts_terms.specs.Tree as tree
use Rattle.pts_terms.specs.Tree.{Bare, Named, sort, named_pi, named_let}
use Rattle.pts_ctx.specs.System.{Specification, rule_of}
use Rattle.pts_ctx.specs.Front.{assumed, defined}
use Rattle.pts_record.specs.Table.{Tables, named_at}
use Rattle.pts_record.specs.Said.{scope_of}
use Rattle.pts_rules.specs.Meter.{left}
use Rattle.pts_reduce_cost.specs.Costs.{Entries, Globals}
use Rattle.pts_reduce_cost.specs.Run.{Run, ends, fails, and_then, turned}
use Rattle.pts_infer_cost.specs.Typing.{Flaw, unsorted, of_argument, of_definition, made, into, under, by_rule, comes, here, no_rule, as_sort}
use Rattle.pts_infer_cost.specs.Inference.{Typer, inferred, gives, sorted, product_body, body_sorted, body_inferred, function_typed, argument_inferred, argument_fitted, definition_fitted, definition_body, definition_type, definition_type_as}
use Rattle.pts_infer_cost.proofs.ByParts.{product_is, product_body_is, abstraction_is, body_inferred_is, body_sorted_is, application_is, function_typed_is, argument_inferred_is, argument_fitted_is, local_definition_is, definition_fitted_is, definition_body_is}
use Rattle.pts_infer_cost.proofs.Steps.{inferred_by_form, typed_product}
use Rattle.pts_infer_cost.proofs.Ends.{product_ruled, product_unruled, abstraction_ruled, abstraction_unruled}
use Rattle.pts_grow.specs.declared.judged.Judged.{Judged}
use Rattle.pts_grow.specs.Judges.{IsAssumeOf, IsDefineOf}
use Rattle.pts_grow.proofs.Grow.{tree_stays}
use Rattle.pts_reduce.specs.Chain.{entries_of}
use Rattle.pts_infer.specs.declared.answer.ProductParts.{ProductParts}
use Rattle.pts_infer.specs.declared.judgements.Sorted.{Sorted}
use Rattle.pts_infer.specs.declared.judgements.Function.{Function}
use Rattle.pts_infer.specs.declared.work.Work.{Work}
use Rattle.pts_infer.specs.declared.work.At.{At}
use Rattle.pts_infer.specs.declared.work.Assumption.{Assumption}
use Rattle.pts_infer.specs.declared.work.Definition.{Definition}
use Rattle.pts_infer.specs.Given.{type_of, product_of}
use Rattle.pts_infer.specs.Works.{Grown, IsPlace, HasTerm, IsNumberOf, IsMadeOf, IsLetOf, IsJudged, IsSorted, IsFunctionOf, IsFitted, IsAssumption, IsDefinition, Gave, typer, inferring, sorting, finding, fitting, forming, abstracting, applying, defining, closing}
use Rattle.pts_infer.proofs.Runs.{entries_stay}
use Rattle.pts_infer.proofs.Working.{grown_trans}
use Rattle.pts_infer.proofs.Running.{goes_on}

-- After an assumption, and after a definition.
assumed_entries : (r : Tables) (c : ℕ) (j : Judged) (n : ℕ) → IsAssumeOf r c j n → entries_of r n ≡ assumed (named_at r.shapes j.subject) ∷ entries_of r c
assumed_entries r c j n h = ap (λ m. (scope_of m).entries) h.1

defined_entries : (r : Tables) (c : ℕ) (j : Judged) (n : ℕ) → IsDefineOf r c j n → entries_of r n ≡ defined (named_at r.shapes j.subject) (named_at r.shapes j.claim) ∷ entries_of r c
defined_entries r c j n h = ap (λ m. (scope_of m).entries) h.1

entries_assumed : {w u : Work} {at : At} {t : ℕ} {d : Sorted} {i : Assumption} → Grown w u → IsPlace w at → HasTerm w t → d.judged.subject ≡ t → IsAssumption u at d i → entries_of u.proof.now i.inner.ctx ≡ assumed (named_at w.proof.now.shapes t) ∷ entries_of w.proof.now at.ctx
entries_assumed {w} {u} {at} {t} {d} {i} g s b e o =
    let l = assumed_entries u.proof.now at.ctx d.judged i.inner.ctx o.assumed in
    let n = entries_stay w.proof.now u.proof.now at.ctx g.keeps s.there in
    let p = tree_stays w.proof.now u.proof.now t g.keeps b.there in
    rw (l, n, e, p) refl

-- A product: at its body, and at its rule.
pub product_at_body : {w v u : Work} {at : At} {n p q : ℕ} {d : Sorted} {i : Assumption} {make : Bare → Bare → Bare} (x : Name) → Grown w v → Grown v u → u.meter.now ≡ v.meter.now → IsPlace w at → IsMadeOf w make n p q → IsSorted v at p d → IsAssumption u at d i → Gave v (λ s. s.sort.0) (Ok d) (turned (into 0) (sorting w at p)) → forming w at x p q ≡ and_then (turned (under 1 x) (sorting u i.inner q)) (λ r k. gives (by_rule d.sort.0 r (rule_of w.system.now d.sort.0 r) (λ q. comes (sort q))) k)
product_at_body {w} {v} {u} {at} {n} {p} {q} {d} {i} x g h m s b z o r =
    let S = w.system.now in
    let G = w.front.now.entries in
    let L = entries_of w.proof.now at.ctx in
    let A = named_at w.proof.now.shapes p in
    let B = named_at w.proof.now.shapes q in
    let y = (grown_trans g h).system in
    let c = (grown_trans g h).front in
    let l = entries_assumed (grown_trans g h) s b.first z.judged.subject o in
    let a = o.allowed in
    let e = tree_stays w.proof.now u.proof.now q (grown_trans g h).keeps b.second.there in
    goes_on _ (product_is S G (typer w at) L x A B (left w.meter.now)) r
    ∙ ap (λ k. product_body S G (typer w at) L x A B d.sort.0 (left k)) (sym m)
    ∙ product_body_is S G (typer w at) L x A B d.sort.0 (left u.meter.now)
    ∙ rw (y, c, a, l, e) refl

pub product_at_rule : {w v x : Work} {at : At} {t : ℕ} {d b : Sorted} {run : Run Flaw ℕ} {whole : Run Flaw Named} → IsSorted v at t d → Grown w x → Gave x (λ s. s.sort.0) (Ok b) run → whole ≡ and_then run (λ r k. gives (by_rule d.sort.0 r (rule_of w.system.now d.sort.0 r) (λ q. comes (sort q))) k) → whole ≡ gives (by_rule d.sort.0 b.sort.0 (rule_of x.system.now d.sort.0 b.sort.0) (λ q. comes (sort q))) (left x.meter.now)
product_at_rule {w} {x = x} {d = d} {b = b} z g r e =
    goes_on (λ r k. gives (by_rule d.sort.0 r (rule_of w.system.now d.sort.0 r) (λ q. comes (sort q))) k) e r
    ∙ ap (λ y. gives (by_rule d.sort.0 b.sort.0 (rule_of y.now d.sort.0 b.sort.0) (λ q. comes (sort q))) (left x.meter.now)) (sym g.system)

-- What the rule gives.
pub product_gives : {x y : Work} {f : ProductParts} {whole : Run Flaw Named} (s r q : ℕ) → Grown x y → whole ≡ gives (by_rule s r (rule_of x.system.now s r) (λ q. comes (sort q))) (left x.meter.now) → rule_of x.system.now s r ≡ Some q → y.meter.now ≡ x.meter.now → named_at y.proof.now.shapes f.product.claim ≡ sort q → Gave y (λ f. type_of y.proof.now.shapes f.product) (Ok f) whole
product_gives {x} {y} {f} s r q g e h m n = record {
  gives =
      e
      ∙ product_ruled s r q (left x.meter.now) (rule_of x.system.now s r) h
      ∙ ap (λ T. ends T (left x.meter.now)) (sym n)
      ∙ ap (λ k. ends (named_at y.proof.now.shapes f.product.claim) (left k)) (sym m);
}

-- A product by its rule, after the unit of the inference.
pub forms_product : {w v : Work} {t : ℕ} (at : At) (x : Name) (d b k : ℕ) → Grown w v → v.proof.now ≡ w.proof.now → at.allowed ≡ suc k → left w.meter.now ≡ suc (left v.meter.now) → IsNumberOf w t (named_pi x (named_at w.proof.now.shapes d) (named_at w.proof.now.shapes b)) → inferring w at t ≡ forming v (record { ctx = at.ctx; allowed = k }) x d b
forms_product {w} {v} {t} at x d b k g p z m n =
    let S = w.system.now in
    let G = w.front.now.entries in
    let L = entries_of w.proof.now at.ctx in
    let T = named_at w.proof.now.shapes t in
    let y = g.system in
    let f = g.front in
    inferred_by_form S G at.allowed k L T (left w.meter.now) (left v.meter.now) z m
    ∙ typed_product S G (inferred S G k) L T x (named_at w.proof.now.shapes d) (named_at w.proof.now.shapes b) (left v.meter.now) n.is
    ∙ rw (y, f, p) refl

-- The judgement of a product that was formed.
pub product_typed : {w : Work} {f : ProductParts} {run whole : Run Flaw Named} → whole ≡ run → Gave w (λ f. type_of w.proof.now.shapes f.product) (Ok f) run → Gave w (type_of w.proof.now.shapes) (Ok f.product) whole
product_typed e s = record { gives = e ∙ s.gives }

-- An application: at the type of its function, at its argument, at the fit of that, and at its end.
pub application_at_function : {w v : Work} {at : At} {n p q : ℕ} {f : Judged} {make : Bare → Bare → Bare} → Grown w v → IsPlace w at → IsMadeOf w make n p q → Gave v (type_of v.proof.now.shapes) (Ok f) (turned (into 0) (inferring w at p)) → applying w at p q ≡ and_then (turned (into 0) (finding v at f.claim)) (argument_inferred v.system.now v.front.now.entries (typer v at) (entries_of v.proof.now at.ctx) (named_at v.proof.now.shapes q))
application_at_function {w} {v} {at} {n} {p} {q} {f} g s b r =
    let y = g.system in
    let z = g.front in
    let l = entries_stay w.proof.now v.proof.now at.ctx g.keeps s.there in
    let e = tree_stays w.proof.now v.proof.now q g.keeps b.second.there in
    goes_on _ (application_is w.system.now w.front.now.entries (typer w at) (entries_of w.proof.now at.ctx) (named_at w.proof.now.shapes p) (named_at w.proof.now.shapes q) (left w.meter.now)) r
    ∙ function_typed_is w.system.now w.front.now.entries (typer w at) (entries_of w.proof.now at.ctx) (named_at w.proof.now.shapes q) (named_at v.proof.now.shapes f.claim) (left v.meter.now)
    ∙ rw (y, z, l, e) refl

pub application_at_argument : {w v : Work} {at : At} {n p q : ℕ} {f : Function} {run : Run Flaw (Named × Named)} {whole : Run Flaw Named} {make : Bare → Bare → Bare} → Grown w v → IsPlace w at → IsMadeOf w make n p q → Gave v (product_of v.proof.now.shapes) (Ok f) run → whole ≡ and_then run (argument_inferred w.system.now w.front.now.entries (typer w at) (entries_of w.proof.now at.ctx) (named_at w.proof.now.shapes q)) → whole ≡ and_then (turned (into 1) (inferring v at q)) (argument_fitted v.system.now v.front.now.entries (typer v at) (entries_of v.proof.now at.ctx) (named_at v.proof.now.shapes q) (product_of v.proof.now.shapes f))
application_at_argument {w} {v} {at} {n} {p} {q} {f} g s b r e =
    let y = g.system in
    let z = g.front in
    let l = entries_stay w.proof.now v.proof.now at.ctx g.keeps s.there in
    let a = tree_stays w.proof.now v.proof.now q g.keeps b.second.there in
    goes_on _ e r
    ∙ argument_inferred_is w.system.now w.front.now.entries (typer w at) (entries_of w.proof.now at.ctx) (named_at w.proof.now.shapes q) (product_of v.proof.now.shapes f) (left v.meter.now)
    ∙ rw (y, z, l, a) refl

pub application_at_fit : {w v : Work} {at : At} {n p q d : ℕ} {f : Function} {a : Judged} {run whole : Run Flaw Named} {make : Bare → Bare → Bare} → Grown w v → IsPlace w at → IsMadeOf w make n p q → IsFunctionOf w at d f → Gave v (type_of v.proof.now.shapes) (Ok a) run → whole ≡ and_then run (argument_fitted w.system.now w.front.now.entries (typer w at) (entries_of w.proof.now at.ctx) (named_at w.proof.now.shapes q) (product_of w.proof.now.shapes f)) → whole ≡ and_then (turned (of_argument (named_at v.proof.now.shapes f.domain)) (fitting v at a.claim f.domain)) (λ u k. gives (made (tree.subst 0 (named_at v.proof.now.shapes q) (named_at v.proof.now.shapes f.codomain))) k)
application_at_fit {w} {v} {at} {n} {p} {q} {d} {f} {a} g s b i r e =
    let y = g.system in
    let z = g.front in
    let l = entries_stay w.proof.now v.proof.now at.ctx g.keeps s.there in
    let c = tree_stays w.proof.now v.proof.now q g.keeps b.second.there in
    let o = tree_stays w.proof.now v.proof.now f.domain g.keeps i.domain.there in
    let m = tree_stays w.proof.now v.proof.now f.codomain g.keeps i.codomain.there in
    goes_on _ e r
    ∙ argument_fitted_is w.system.now w.front.now.entries (typer w at) (entries_of w.proof.now at.ctx) (named_at w.proof.now.shapes q) (product_of w.proof.now.shapes f) (named_at v.proof.now.shapes a.claim) (left v.meter.now)
    ∙ rw (y, z, l, c, o, m) refl

pub application_at_end : {w v : Work} {at : At} {n p q d : ℕ} {f : Function} {j : Judged} {run : Run Flaw (Unit {0})} {whole : Run Flaw Named} {make : Bare → Bare → Bare} → Grown w v → IsMadeOf w make n p q → IsFunctionOf w at d f → j.subject ≡ q → Gave v (λ j. tt) (Ok j) run → whole ≡ and_then run (λ u k. gives (made (tree.subst 0 (named_at w.proof.now.shapes q) (named_at w.proof.now.shapes f.codomain))) k) → whole ≡ gives (made (tree.subst 0 (named_at v.proof.now.shapes j.subject) (named_at v.proof.now.shapes f.codomain))) (left v.meter.now)
application_at_end {w} {v} {at} {n} {p} {q} {d} {f} {j} g b i h r e =
    let c = tree_stays w.proof.now v.proof.now q g.keeps b.second.there in
    let m = tree_stays w.proof.now v.proof.now f.codomain g.keeps i.codomain.there in
    goes_on _ e r ∙ rw (h, c, m) refl

-- An abstraction: at its body, at the type of that, and at its rule.
pub abstraction_at_body : {w v u : Work} {at : At} {n p q : ℕ} {d : Sorted} {i : Assumption} {make : Bare → Bare → Bare} (x : Name) → Grown w v → Grown v u → u.meter.now ≡ v.meter.now → IsPlace w at → IsMadeOf w make n p q → IsSorted v at p d → IsAssumption u at d i → Gave v (λ s. s.sort.0) (Ok d) (turned (into 0) (sorting w at p)) → abstracting w at x p q ≡ and_then (turned (under 1 x) (inferring u i.inner q)) (body_sorted w.system.now w.front.now.entries (typer w at) (entries_of w.proof.now at.ctx) x (named_at w.proof.now.shapes p) d.sort.0)
abstraction_at_body {w} {v} {u} {at} {n} {p} {q} {d} {i} x g h m s b z o r =
    let S = w.system.now in
    let G = w.front.now.entries in
    let L = entries_of w.proof.now at.ctx in
    let A = named_at w.proof.now.shapes p in
    let B = named_at w.proof.now.shapes q in
    let y = (grown_trans g h).system in
    let c = (grown_trans g h).front in
    let a = o.allowed in
    let l = entries_assumed (grown_trans g h) s b.first z.judged.subject o in
    let e = tree_stays w.proof.now u.proof.now q (grown_trans g h).keeps b.second.there in
    goes_on _ (abstraction_is S G (typer w at) L x A B (left w.meter.now)) r
    ∙ ap (λ k. body_inferred S G (typer w at) L x A B d.sort.0 (left k)) (sym m)
    ∙ body_inferred_is S G (typer w at) L x A B d.sort.0 (left u.meter.now)
    ∙ rw (y, c, a, l, e) refl

pub abstraction_at_type : {w v : Work} {at : At} {n p q : ℕ} {d : Sorted} {i : Assumption} {b : Judged} {run whole : Run Flaw Named} {make : Bare → Bare → Bare} (x : Name) → Grown w v → IsPlace w at → IsMadeOf w make n p q → d.judged.subject ≡ p → IsAssumption v at d i → Gave v (type_of v.proof.now.shapes) (Ok b) run → whole ≡ and_then run (body_sorted w.system.now w.front.now.entries (typer w at) (entries_of w.proof.now at.ctx) x (named_at w.proof.now.shapes p) d.sort.0) → whole ≡ and_then (turned (unsorted 1 x (named_at v.proof.now.shapes b.claim)) (sorting v i.inner b.claim)) (λ r k. gives (by_rule d.sort.0 r (rule_of w.system.now d.sort.0 r) (λ q. made (named_pi x (named_at w.proof.now.shapes p) (named_at v.proof.now.shapes b.claim)))) k)
abstraction_at_type {w} {v} {at} {n} {p} {q} {d} {i} {b} x g s m e o r h =
    let a = o.allowed in
    let l = entries_assumed g s m.first e o in
    let y = g.system in
    let z = g.front in
    goes_on _ h r
    ∙ body_sorted_is w.system.now w.front.now.entries (typer w at) (entries_of w.proof.now at.ctx) x (named_at w.proof.now.shapes p) d.sort.0 (named_at v.proof.now.shapes b.claim) (left v.meter.now)
    ∙ rw (y, z, a, l) refl

pub abstraction_at_rule : {w v u : Work} {at : At} {n p q t : ℕ} {d r : Sorted} {i : Assumption} {b : Judged} {run : Run Flaw ℕ} {whole : Run Flaw Named} {make : Bare → Bare → Bare} (x : Name) → Grown w v → Grown v u → IsMadeOf w make n p q → d.judged.subject ≡ p → IsAssumption v at d i → IsJudged v i.inner t b → Gave u (λ s. s.sort.0) (Ok r) run → whole ≡ and_then run (λ r k. gives (by_rule d.sort.0 r (rule_of w.system.now d.sort.0 r) (λ q. made (named_pi x (named_at w.proof.now.shapes p) (named_at v.proof.now.shapes b.claim)))) k) → whole ≡ gives (by_rule d.sort.0 r.sort.0 (rule_of u.system.now d.sort.0 r.sort.0) (λ q. made (named_pi x (named_at u.proof.now.shapes i.domain.judged.subject) (named_at u.proof.now.shapes b.claim)))) (left u.meter.now)
abstraction_at_rule {w} {v} {u} {at} {n} {p} {q} {t} {d} {r} {i} {b} x g h m e o j s c =
    let k = grown_trans g h in
    let y = k.system in
    let a = tree_stays w.proof.now u.proof.now p k.keeps m.first.there in
    let f = tree_stays v.proof.now u.proof.now b.claim h.keeps j.claim.there in
    let z = ap (λ s. s.judged.subject) o.domain ∙ e in
    goes_on _ c s ∙ rw (y, z, a, f) refl

-- A local definition: at the fit of what is defined, at its body, and at the type of that.
pub definition_at_fit : {w v : Work} {at : At} {n p q b : ℕ} {a : Judged} (x : Name) → Grown w v → IsPlace w at → IsLetOf w n p q b → Gave v (type_of v.proof.now.shapes) (Ok a) (turned (into 0) (inferring w at p)) → defining w at x p q b ≡ and_then (turned of_definition (fitting v at a.claim q)) (definition_body v.system.now v.front.now.entries (typer v at) (entries_of v.proof.now at.ctx) x (named_at v.proof.now.shapes p) (named_at v.proof.now.shapes q) (named_at v.proof.now.shapes b))
definition_at_fit {w} {v} {at} {n} {p} {q} {b} {a} x g s m r =
    let y = g.system in
    let z = g.front in
    let l = entries_stay w.proof.now v.proof.now at.ctx g.keeps s.there in
    let c = tree_stays w.proof.now v.proof.now p g.keeps m.value.there in
    let d = tree_stays w.proof.now v.proof.now q g.keeps m.type.there in
    let e = tree_stays w.proof.now v.proof.now b g.keeps m.body.there in
    goes_on _ (local_definition_is w.system.now w.front.now.entries (typer w at) (entries_of w.proof.now at.ctx) x (named_at w.proof.now.shapes p) (named_at w.proof.now.shapes q) (named_at w.proof.now.shapes b) (left w.meter.now)) r
    ∙ definition_fitted_is w.system.now w.front.now.entries (typer w at) (entries_of w.proof.now at.ctx) x (named_at w.proof.now.shapes p) (named_at w.proof.now.shapes q) (named_at w.proof.now.shapes b) (named_at v.proof.now.shapes a.claim) (left v.meter.now)
    ∙ rw (y, z, l, c, d, e) refl

pub definition_at_body : {w v u : Work} {at : At} {n p q b : ℕ} {d : Judged} {i : Definition} {run : Run Flaw (Unit {0})} {whole : Run Flaw Named} (x : Name) → Grown w v → Grown v u → u.meter.now ≡ v.meter.now → IsPlace w at → IsLetOf w n p q b → IsFitted v at p q d → IsDefinition u at d i → Gave v (λ j. tt) (Ok d) run → whole ≡ and_then run (definition_body w.system.now w.front.now.entries (typer w at) (entries_of w.proof.now at.ctx) x (named_at w.proof.now.shapes p) (named_at w.proof.now.shapes q) (named_at w.proof.now.shapes b)) → whole ≡ and_then (turned (under 2 x) (inferring u i.inner b)) (definition_type u.system.now u.front.now.entries (typer u at) (entries_of u.proof.now at.ctx) x (named_at u.proof.now.shapes d.subject) (named_at u.proof.now.shapes d.claim))
definition_at_body {w} {v} {u} {at} {n} {p} {q} {b} {d} {i} x g h m s t z o r e =
    let S = w.system.now in
    let G = w.front.now.entries in
    let L = entries_of w.proof.now at.ctx in
    let k = grown_trans g h in
    let A = named_at w.proof.now.shapes p in
    let T = named_at w.proof.now.shapes q in
    let B = named_at w.proof.now.shapes b in
    let y = k.system in
    let c = k.front in
    let l = defined_entries u.proof.now at.ctx d i.inner.ctx o.defined in
    let j = entries_stay w.proof.now u.proof.now at.ctx k.keeps s.there in
    let a = ap (named_at u.proof.now.shapes) z.judged.subject ∙ tree_stays w.proof.now u.proof.now p k.keeps t.value.there in
    let a2 = ap (named_at u.proof.now.shapes) z.claim ∙ tree_stays w.proof.now u.proof.now q k.keeps t.type.there in
    let a3 = tree_stays w.proof.now u.proof.now b k.keeps t.body.there in
    goes_on _ e r
    ∙ ap (λ k. definition_body S G (typer w at) L x A T B tt (left k)) (sym m)
    ∙ definition_body_is S G (typer w at) L x A T B tt (left u.meter.now)
    ∙ rw (y, c, o.allowed, l, j, a, a2, a3) refl

pub definition_at_type : {u v : Work} {at : At} {d b : Judged} {i : Definition} {run whole : Run Flaw Named} (x : Name) → Grown u v → IsDefinition u at d i → Gave v (type_of v.proof.now.shapes) (Ok b) run → whole ≡ and_then run (definition_type u.system.now u.front.now.entries (typer u at) (entries_of u.proof.now at.ctx) x (named_at u.proof.now.shapes d.subject) (named_at u.proof.now.shapes d.claim)) → whole ≡ closing v i.outer x i.value b.claim
definition_at_type {u} {v} {at} {d} {b} {i} x g o r e =
    let y = g.system in
    let z = g.front in
    let a = o.outer in
    let c = o.value in
    let n = entries_stay u.proof.now v.proof.now at.ctx g.keeps o.judged.place.there in
    let p = tree_stays u.proof.now v.proof.now d.subject g.keeps o.judged.judges.0 in
    let q = tree_stays u.proof.now v.proof.now d.claim g.keeps o.judged.claim.there in
    goes_on _ e r ∙ rw (a, c, y, z, n, p, q) refl

unsorted_is : (S : Specification) (G : Globals) (infer : Typer) (L : Entries) (x : Name) (v A B : Named) (k : ℕ) → None ≡ as_sort B → definition_type S G infer L x v A B k ≡ and_then (turned (unsorted 2 x B) (sorted S G infer (defined v A ∷ L) B k)) (λ s k. gives (made (named_let x v A B)) k)
unfolding definition_type definition_type_as
unsorted_is S G infer L x v A B k e = ap (λ o. definition_type_as S G infer L x v A B o k) (sym e)

-- Its type where that of the body is no sort: at the sort of that, and at its end.
pub closing_at_sort : {w : Work} {i : Definition} (x : Name) (b : ℕ) → IsDefinition w i.outer i.value i → None ≡ as_sort (named_at w.proof.now.shapes b) → closing w i.outer x i.value b ≡ and_then (turned (unsorted 2 x (named_at w.proof.now.shapes b)) (sorting w i.inner b)) (λ s k. gives (made (named_let x (named_at w.proof.now.shapes i.value.subject) (named_at w.proof.now.shapes i.value.claim) (named_at w.proof.now.shapes b))) k)
closing_at_sort {w} {i} x b o e =
    let l = defined_entries w.proof.now i.outer.ctx i.value i.inner.ctx o.defined in
    let a = o.allowed in
    unsorted_is w.system.now w.front.now.entries (typer w i.outer) (entries_of w.proof.now i.outer.ctx) x (named_at w.proof.now.shapes i.value.subject) (named_at w.proof.now.shapes i.value.claim) (named_at w.proof.now.shapes b) (left w.meter.now) e ∙ rw (l, a) refl

pub closing_at_end : {w v : Work} {i : Definition} {b : Judged} {t : ℕ} {s : Sorted} {run : Run Flaw ℕ} {whole : Run Flaw Named} (x : Name) → Grown w v → IsDefinition w i.outer i.value i → IsJudged w i.inner t b → Gave v (λ s. s.sort.0) (Ok s) run → whole ≡ and_then run (λ s k. gives (made (named_let x (named_at w.proof.now.shapes i.value.subject) (named_at w.proof.now.shapes i.value.claim) (named_at w.proof.now.shapes b.claim))) k) → whole ≡ gives (made (named_let x (named_at v.proof.now.shapes i.value.subject) (named_at v.proof.now.shapes i.value.claim) (named_at v.proof.now.shapes b.claim))) (left v.meter.now)
closing_at_end {w} {v} {i} {b} x g o j r e =
    let p = tree_stays w.proof.now v.proof.now i.value.subject g.keeps o.judged.judges.0 in
    let q = tree_stays w.proof.now v.proof.now i.value.claim g.keeps o.judged.claim.there in
    let m = tree_stays w.proof.now v.proof.now b.claim g.keeps j.claim.there in
    goes_on _ e r ∙ rw (p, q, m) refl
