-- The product that a goal is.
use Rattle.std.proofs.Common.{◌≡◌, ℕ, ◌+◌, refl, sym, ap, ◌∙◌, subst, arith, List, true, Option, Some, None, Result, Ok, Err}
use Rattle.std.specs.Prelude.{is_some}
use Rattle.std.specs.Result.{IsErr, IsErrAnd}
use Rattle.pts_names.specs.Name.{Name}
use Rattle.pts_terms.specs.Tree.{Named, bare, sort, const, var, app, named_lam, named_pi, named_let}
use Rattle.pts_ctx.specs.System.{Specification}
use Rattle.pts_record.specs.Table.{Tables, named_at}
use Rattle.pts_record.specs.Said.{Scope, named_told, judgement, scope_of, subject_of, claim_of}
use Rattle.pts_rules.specs.Meter.{left}
use Rattle.pts_rules.specs.Parts.{sort_in}
use Rattle.pts_reduce_cost.specs.Costs.{Globals, Entries, form, too_large, Reduces}
use Rattle.pts_reduce_cost.specs.Laws.{WithinBudget, AboveBudget}
use Rattle.pts_infer_cost.specs.Typing.{comes, as_sort, as_product, at_once, Infers, Sorts, term_stops, type_tested, inference_nesting}
use Rattle.pts_grow.specs.declared.compared.Compared.{Compared}
use Rattle.pts_grow.specs.declared.judged.Judged.{Judged}
use Rattle.pts_grow.specs.Keeps.{IsNode}
use Rattle.pts_grow.specs.Judges.{Judges, IsSort, IsProduct}
use Rattle.pts_grow.proofs.Grow.{tree_stays}
use Rattle.pts_grow.proofs.Plain.{plain}
use Rattle.pts_reduce.specs.Answered.{Refused as NotReduced}
use Rattle.pts_reduce.specs.Chain.{entries_of}
use Rattle.pts_reduce.specs.declared.fault.ReduceFault.{ReduceFault}
use Rattle.pts_reduce.specs.declared.fault.ReduceFault.TheVariants as reduce
use Rattle.pts_infer.specs.Answered.{Refused}
use Rattle.pts_infer.specs.declared.answer.InferFault.{InferFault}
use Rattle.pts_infer.specs.declared.answer.InferFault.TheVariants as infer
use Rattle.pts_infer.specs.declared.answer.ProductParts.{ProductParts}
use Rattle.pts_infer.specs.declared.part.Part.TheVariants.{Goal}
use Rattle.pts_goals.proofs.Kept.{still_joined, still_product}
use Rattle.pts_prove_cost.specs.Combining.{Free}
use Rattle.pts_prove_cost.specs.Commands.{not_product, flawed, of_goal, Forms, formed, form_too_large, Opened, opened, form_opens, opens_as}
use Rattle.pts_prove_cost.proofs.OnBudget.{after_goes, turned_comes, free_as}
use Rattle.pts_prove_cost.proofs.OneOutcome.{one_form}
use Rattle.pts_prove.specs.declared.fault.ProveFault.{ProveFault}
use Rattle.pts_prove.specs.declared.work.Work.{Work}
use Rattle.pts_prove.specs.declared.work.Opening.{Opening}
use Rattle.pts_prove.specs.declared.work.Place.{Place}
use Rattle.pts_prove.specs.Answered.{Refuses, Tells, of_reduction, put_in}
use Rattle.pts_prove.specs.Works.{Grown, IsPlace, IsOpening, IsFormed, Came, term_in, opened_in, product_in, sorting, forming, opening_form, opening, sorting_product}
use Rattle.pts_prove.proofs.Working.{place_later, term_later, asked_later}
use Rattle.pts_prove.proofs.Running.{stops, goes_on, comes_to, told}
use Rattle.pts_prove.proofs.Since.{entries_stay, ended}
use Rattle.pts_prove.proofs.Stages.{sorted_fault}

-- The form of a goal.
pub form_value : {a b : Work} {o : Compared} (p : Place) → WithinBudget (Reduces a.front.now.entries (entries_of a.proof.now p.ctx) (term_in a p.statement)) (left a.meter.now) (form (term_in b o.left)) (left b.meter.now) → Came a b (λ (o : Compared). term_in b o.left) (Ok o) (forming a p)
form_value p w = record { answers = (w.0, formed w.1, w.2) }

forms_above : (G : Globals) (L : Entries) (t : Named) (b : ℕ) → AboveBudget (Reduces G L t) b → AboveBudget (Forms G L t) b
forms_above G L t b f o n (formed r) = f _ n r
forms_above G L t b f o n (form_too_large r) = f _ n r

forms_refused : (xs : List Name) (G : Globals) (L : Entries) (t : Named) (e : ReduceFault) (b k : ℕ) → NotReduced (Reduces G L t) too_large e b k → Refuses xs (Forms G L t) (of_reduction e) b k
forms_refused xs G L t reduce.Spent b k w = (forms_above G L t b w.0, w.1)
forms_refused xs G L t reduce.Deep b k w = (w.0, form_too_large w.1, w.2)
forms_refused xs G L t reduce.Memory b k w = tt

pub form_fault : {X : Type 0} {a b : Work} {value : X → Named} {f : ProveFault} (p : Place) (e : ReduceFault) → f ≡ of_reduction e → NotReduced (Reduces a.front.now.entries (entries_of a.proof.now p.ctx) (term_in a p.statement)) too_large e (left a.meter.now) (left b.meter.now) → Came a b value (Err f) (forming a p)
form_fault {a = a} {b = b} p e q w = record {
  answers = subst (λ f. Refuses b.names.now (forming a p) f (left a.meter.now) (left b.meter.now)) (sym q) (forms_refused b.names.now _ _ _ e _ _ w);
}

-- A form that is a product, and one that is none.
pub form_product : {a : Work} {o : Opening} → as_product (term_in a o.product) ≡ Some (term_in a o.domain, term_in a o.body) → Came a a (opened_in a) (Ok o) (form_opens not_product (term_in a o.product) (as_product (term_in a o.product)))
form_product {a} {o} e = comes_to (ap (form_opens not_product (term_in a o.product)) (sym e)) (ended (opened_in a o) refl)

pub form_other : {a : Work} {e : ProveFault} (t : Named) → as_product t ≡ None → Tells a.names.now (not_product t) e → Came a a (opened_in a) (Err e) (form_opens not_product t (as_product t))
form_other t q d = comes_to (ap (form_opens not_product t) (sym q)) (told d)

-- The goal as it stands.
pub opens_at_once : {a : Work} (p : Place) {o : Opening} → o.product ≡ p.statement → as_product (term_in a o.product) ≡ Some (term_in a o.domain, term_in a o.body) → Came a a (opened_in a) (Ok o) (opening a p)
opens_at_once {a} p {o} s e =
    let q : as_product (term_in a p.statement) ≡ Some (term_in a o.domain, term_in a o.body) = ap (λ t. as_product (term_in a t)) (sym s) ∙ e in
    comes_to (ap (opens_as a.front.now.entries (entries_of a.proof.now p.ctx) not_product (term_in a p.statement)) (sym q)) (ended (opened (term_in a p.statement) (term_in a o.domain, term_in a o.body)) (ap (λ t. opened (term_in a t) (term_in a o.domain, term_in a o.body)) s))

pub opens_by_form : {a b : Work} {r : Result Opening ProveFault} (p : Place) → as_product (term_in a p.statement) ≡ None → Came a b (opened_in b) r (opening_form a p) → Came a b (opened_in b) r (opening a p)
opens_by_form {a} p q w = comes_to (ap (opens_as a.front.now.entries (entries_of a.proof.now p.ctx) not_product (term_in a p.statement)) (sym q)) w

-- The form, and then the product that it is.
pub form_stops : {a b : Work} {r : Result Opening ProveFault} {e : ProveFault} (p : Place) → IsErr r × IsErrAnd r (λ x. x ≡ e) → Came a b (λ (o : Compared). term_in b o.left) (Err e) (forming a p) → Came a b (opened_in b) r (opening_form a p)
form_stops p i w = stops _ i w

pub form_goes_on : {a b : Work} {r : Result Opening ProveFault} {o : Compared} (p : Place) → Came a b (λ (o : Compared). term_in b o.left) (Ok o) (forming a p) → Came b b (opened_in b) r (form_opens not_product (term_in b o.left) (as_product (term_in b o.left))) → Came a b (opened_in b) r (opening_form a p)
form_goes_on {a} p w u = goes_on _ (one_form a.front.now.entries (entries_of a.proof.now p.ctx) (term_in a p.statement)) w u

-- What stays.
pub opening_later : {a b : Work} {p : Place} {o : Opening} → Grown a b → IsOpening a p o → IsOpening b p o
opening_later {a} {b} {p} {o} g h =
    let x = tree_stays a.proof.now b.proof.now o.product g.keeps h.product.there in
    let y = tree_stays a.proof.now b.proof.now o.domain g.keeps h.domain.there in
    let z = tree_stays a.proof.now b.proof.now o.body g.keeps h.body.there in
    record {
      goal = asked_later g h.goal;
      product = term_later g h.product;
      domain = term_later g h.domain;
      body = term_later g h.body;
      parts = rw (x, y, z) h.parts;
      change = still_joined a.proof.now b.proof.now g.keeps p.ctx o.product p.statement o.change h.goal.place.there h.product.there h.goal.statement.there h.change;
    }

pub formed_later : {a b : Work} {c t : ℕ} {f : ProductParts} → Grown a b → IsFormed a c t f → IsFormed b c t f
formed_later {a} {b} {c} {t} {f} g h = record {
  place = place_later g h.place;
  product = term_later g h.product;
  is = tree_stays a.proof.now b.proof.now f.product.subject g.keeps h.formed.product.0.0 ∙ h.is ∙ sym (tree_stays a.proof.now b.proof.now t g.keeps h.product.there);
  formed = still_product a.proof.now b.proof.now g.keeps c f.product f.domain f.inner f.body h.place.there h.formed;
}

-- A product whose inferred type is a sort has that sort, at the same cost.
sort_of_plain : (t : Named) → is_some (sort_in (bare t)) ≡ true → (q : ℕ) × (t ≡ sort q)
sort_of_plain (sort q) e = (q, refl)
sort_of_plain (const c) e = absurd (cc e)
sort_of_plain (var i) e = absurd (cc e)
sort_of_plain (app f a) e = absurd (cc e)
sort_of_plain (named_lam x A b) e = absurd (cc e)
sort_of_plain (named_pi x A B) e = absurd (cc e)
sort_of_plain (named_let x d A b) e = absurd (cc e)

claim_sort : (r : Tables) (t : ℕ) → IsSort r t → (q : ℕ) × (named_at r.shapes t ≡ sort q)
claim_sort r t h = sort_of_plain (named_at r.shapes t) (ap (λ u. is_some (sort_in u)) (sym (plain r.shapes t (named_at r.shapes t) refl)) ∙ h)

module _ (S : Specification) (G : Globals) (d : ℕ) (L : Entries) (t : Named) where
  inferred_sorts : (b k q : ℕ) (T : Named) → T ≡ sort q → WithinBudget (Infers S G d L t) b (comes T) k → WithinBudget (Sorts S G d L t) b (comes q) k
  inferred_sorts b k q T e w = (w.0 + 0, type_tested w.1 (at_once (ap as_sort e)), omega (arith, w.2))

  sorts_above : (b : ℕ) → AboveBudget (Infers S G d L t) b → AboveBudget (Sorts S G d L t) b
  sorts_above b f o n (term_stops r) = f _ n r
  sorts_above b f o n (type_tested {m = i} {n = j} r s) = let l = f _ i r in omega (arith, l)

  not_sorted : (xs : List Name) (e : InferFault) (b k : ℕ) → Refused xs (Infers S G d L t) e b k → Refused xs (Sorts S G d L t) e b k
  not_sorted xs (infer.Flaw f) b k w = (w.0, w.1, (w.2.0, term_stops w.2.1, w.2.2))
  not_sorted xs infer.Spent b k w = (sorts_above b w.0, w.1)
  not_sorted xs infer.Deep b k w = (w.0, term_stops w.1, w.2)
  not_sorted xs infer.Memory b k w = tt

-- What the judgement of a product says of it.
product_subject : (r : Tables) (c n : ℕ) (s : Scope Name) (t T : Named) (j : Judged) → Judges r c j → j.node ≡ n → IsNode r n (judgement c s t T) → named_at r.shapes j.subject ≡ t
product_subject r c n s t T j h e i = sym (ap subject_of h.2.1) ∙ ap (λ k. subject_of (named_told r k)) e ∙ ap subject_of i.1

product_claim : (r : Tables) (c n : ℕ) (s : Scope Name) (t T : Named) (j : Judged) → Judges r c j → j.node ≡ n → IsNode r n (judgement c s t T) → named_at r.shapes j.claim ≡ T
product_claim r c n s t T j h e i = sym (ap claim_of h.2.1) ∙ ap (λ k. claim_of (named_told r k)) e ∙ ap claim_of i.1

same_parts : (A B C D t u : Named) (o : Option (Named × Named)) → o ≡ Some (A, B) → o ≡ Some (C, D) → t ≡ u → opened t (A, B) ≡ opened u (C, D)
same_parts A B C D t u o e f g =
    let h : Some (A, B) ≡ Some (C, D) = sym e ∙ f in
    let q : (A, B) ≡ (C, D) = cc h in
    ap (λ P. opened t P) q ∙ ap (λ v. opened v (C, D)) g

sorted_so : (a b : Work) (f : ProductParts) (c : ℕ) (o : Opening) (T : Named) → WithinBudget (Infers a.system.now a.front.now.entries inference_nesting (entries_of a.proof.now c) (term_in a o.product)) (left a.meter.now) (comes T) (left b.meter.now) → IsNode b.proof.now f.product.node (judgement c (scope_of (named_told a.proof.now c)) (term_in a o.product) T) → IsProduct b.proof.now c f.product f.domain f.inner f.body → (q : ℕ) × WithinBudget (sorting a c Goal o.product) (left a.meter.now) (comes q) (left b.meter.now)
sorted_so a b f c o T w i h =
    let q = claim_sort b.proof.now f.product.claim h.product.1 in
    let e : T ≡ sort q.0 = sym (product_claim b.proof.now c f.product.node _ _ T f.product h.product.0 refl i) ∙ q.1 in
    (q.0, turned_comes (flawed of_goal) _ (left a.meter.now) (left b.meter.now) q.0 (inferred_sorts _ _ _ _ _ (left a.meter.now) (left b.meter.now) q.0 T e w))

pub product_value : {a b : Work} {f : ProductParts} (c : ℕ) (o : Opening) (T : Named) → WithinBudget (Infers a.system.now a.front.now.entries inference_nesting (entries_of a.proof.now c) (term_in a o.product)) (left a.meter.now) (comes T) (left b.meter.now) → IsNode b.proof.now f.product.node (judgement c (scope_of (named_told a.proof.now c)) (term_in a o.product) T) → IsProduct b.proof.now c f.product f.domain f.inner f.body → as_product (term_in a o.product) ≡ Some (term_in a o.domain, term_in a o.body) → as_product (term_in a o.product) ≡ Some (term_in b f.domain.subject, term_in b f.body.subject) → Came a b (product_in b) (Ok f) (sorting_product a c (opened_in a o))
product_value {a} {b} {f} c o T w i h x y = record {
  answers =
      let p = sorted_so a b f c o T w i h in
      let e : opened_in a o ≡ product_in b f = same_parts _ _ _ _ _ _ _ x y (sym (product_subject b.proof.now c f.product.node _ _ T f.product h.product.0 refl i)) in
      after_goes (sorting a c Goal o.product) (λ s. Free (comes (opened_in a o))) (left a.meter.now) (left b.meter.now) (left b.meter.now) p.0 (comes (product_in b f)) p.1 (free_as (comes (product_in b f)) (comes (opened_in a o)) (left b.meter.now) (ap comes e));
}

pub product_fault : {X : Type 0} {a b : Work} {value : X → Opened} {h : ProveFault} (c : ℕ) (o : Opening) (e : InferFault) → b.names ≡ a.names → h ≡ put_in Goal e → Refused a.names.now (Infers a.system.now a.front.now.entries inference_nesting (entries_of a.proof.now c) (term_in a o.product)) e (left a.meter.now) (left b.meter.now) → Came a b value (Err h) (sorting_product a c (opened_in a o))
product_fault {a = a} {b = b} {h = h} c o e n q w =
    let v : Came a b (λ (s : ℕ). s) (Err h) (sorting a c Goal o.product) = sorted_fault c Goal o.product e n q (not_sorted _ _ _ _ _ a.names.now e (left a.meter.now) (left b.meter.now) w) in
    stops _ (refl, refl) v

pub product_since : {a b : Work} {c : ℕ} (o : Opened) → Grown a b → IsPlace a c → sorting_product b c o ≡ sorting_product a c o
product_since {a} {b} {c} o g h =
    let s = g.system in
    let f = g.front in
    let e = entries_stay a.proof.now b.proof.now c g.keeps h.there in
    rw (s, f, e) refl
