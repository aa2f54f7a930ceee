-- The product that the type of a function is, and one argument.
use Rattle.std.proofs.Common.{◌≡◌, ℕ, ◌<◌, length, Option, Some, None, Bool, true, false, Result, Ok, Err, refl, sym, ap, ap₂, ◌∙◌}
use Rattle.std.specs.Result.{IsErr, IsErrAnd}
use Rattle.pts_terms.specs.Tree.{Named, bare, pi, sort, const, var, app, named_lam, named_pi, named_let, lift, subst as subst_term}
use Rattle.pts_record.specs.Table.{Tables, bare_at}
use Rattle.pts_infer_cost.specs.Typing.{as_product}
use Rattle.pts_grow.specs.declared.compared.Compared.{Compared}
use Rattle.pts_grow.specs.declared.judged.Judged.{Judged}
use Rattle.pts_grow.specs.Keeps.{Keeps}
use Rattle.pts_grow.proofs.Grow.{bare_stays}
use Rattle.pts_grow.proofs.Instances.{still_compares}
use Rattle.pts_grow.proofs.Plain.{plain}
use Rattle.pts_terms.proofs.Unnamed.{bare_lift, bare_put}
use Rattle.pts_reduce.specs.Chain.{entries_of}
use Rattle.pts_infer.specs.declared.part.Part.TheVariants.{Goal as GoalPart}
use Rattle.pts_match.specs.declared.subterm.Subterm.{Subterm}
use Rattle.pts_match.specs.Lowering.{is_clear, lower}
use Rattle.pts_match.specs.Matching.{value_of}
use Rattle.pts_match.proofs.Lifted.{lift_lower}
use Rattle.pts_goals.specs.declared.step.Link.{Link}
use Rattle.pts_goals.specs.declared.step.Reduction.{Reduction}
use Rattle.pts_goals.specs.declared.step.Argument.TheVariants.{Given, Left}
use Rattle.pts_goals.specs.Steps.{ReducesTo}
use Rattle.pts_goals.proofs.Kept.{still_same, still_sorts}
use Rattle.pts_prove_cost.specs.Refinement.{given, asked}
use Rattle.pts_prove_cost.specs.Commands.{Refusal, of_goal, not_product, undetermined, limited, opened, form_opens, opens_as, asks_argument, takes_argument}
use Rattle.pts_prove_cost.proofs.OneOutcome.{one_form, one_opening_as, one_free, one_sorted, one_inferred, one_fitted, one_function}
use Rattle.pts_prove.specs.declared.fault.ProveFault.{ProveFault}
use Rattle.pts_prove.specs.declared.work.Work.{Work}
use Rattle.pts_prove.specs.declared.work.Product.{Product}
use Rattle.pts_prove.specs.declared.work.Function.{Function}
use Rattle.pts_prove.specs.declared.work.Application.{Application}
use Rattle.pts_prove.specs.declared.work.Sorted.{Sorted}
use Rattle.pts_prove.specs.Answered.{Tells}
use Rattle.pts_prove.specs.Works.{Grown, IsPlace, HasTerm, IsNumberOf, IsSorted, IsFitted, Came, term_in, claim_in, inferring, sorting, fitting}
use Rattle.pts_prove.specs.Applications.{IsFound, HasProduct, IsReduced, IsFunction, IsApplied, IsNext, part_in, product_at, function_in, application_in, link_in, reducing, opening_function, giving, applying, applying_next}
use Rattle.pts_prove.proofs.Running.{stops, goes_on, hands, comes_to, revalued, told}
use Rattle.pts_prove.proofs.Since.{entries_stay, term_stays, sorting_since, fitting_since, ended}
use Rattle.pts_prove.proofs.Working.{grown_trans, place_later, term_later}
use Rattle.pts_prove.proofs.OtherStatement.{is_sort}
use Rattle.pts_prove.proofs.LemmaFirst.{ended_later}
use Rattle.pts_prove.proofs.Applied.{product_later, value_stays}

-- A term that is a product, without printed names.
product_bare : (t A B : Named) → as_product t ≡ Some (A, B) → bare t ≡ pi (bare A) (bare B)
product_bare (named_pi x C D) A B e =
    let h : ◌≡◌ {A = Named × Named} (C, D) (A, B) = cc e in
    ap (λ P. pi (bare P.0) (bare P.1)) h
product_bare (sort s) A B e = absurd (cc e)
product_bare (const c) A B e = absurd (cc e)
product_bare (var i) A B e = absurd (cc e)
product_bare (app f a) A B e = absurd (cc e)
product_bare (named_lam x C b) A B e = absurd (cc e)
product_bare (named_let x d C b) A B e = absurd (cc e)

bare_product : {w : Work} {p : Product} → HasProduct w p → bare_at w.proof.now.shapes p.term ≡ pi (bare_at w.proof.now.shapes p.domain) (bare_at w.proof.now.shapes p.body)
bare_product {w} {p} h =
    let r = w.proof.now.shapes in
    plain r p.term _ refl ∙ product_bare _ _ _ h.parts ∙ ap₂ pi (sym (plain r p.domain _ refl)) (sym (plain r p.body _ refl))

-- The value of a product stays.
product_value : {a b : Work} {p : Product} → Grown a b → HasProduct a p → product_at b p ≡ product_at a p
product_value {a} {b} {p} g h =
    let x = term_stays g h.term in
    let y = term_stays g h.domain in
    let z = term_stays g h.body in
    rw (x, y, z) refl

-- The type as it stands.
pub is_function : {w : Work} {c : ℕ} {p : Product} → IsPlace w c → HasProduct w p → IsFunction w c p.term (record { product = p; change = None })
is_function h q = record { place = h; ty = q.term; product = q; change = bare_product q }

pub function_stands : {a : Work} {p : Product} (c t : ℕ) → as_product (term_in a t) ≡ Some (term_in a p.domain, term_in a p.body) → p.term ≡ t → Came a a (function_in a) (Ok (record { product = p; change = None })) (opening_function a c t (as_product (term_in a t)))
function_stands {a} {p} c t e h = comes_to (ap (opening_function a c t) (sym e)) (ended (opened (term_in a t) (term_in a p.domain, term_in a p.body)) (ap (λ n. opened (term_in a n) (term_in a p.domain, term_in a p.body)) h))

pub function_by_form : {a b : Work} {r : Result Function ProveFault} (c t : ℕ) → as_product (term_in a t) ≡ None → Came a b (function_in b) r (opening_function a c t None) → Came a b (function_in b) r (opening_function a c t (as_product (term_in a t)))
function_by_form {a} c t e w = comes_to (ap (opening_function a c t) (sym e)) w

-- The type by its form.
module _ {a b : Work} (c t : ℕ) (h : IsPlace a c) where
  pub function_unreduced : {r : Result Function ProveFault} {e : ProveFault} → IsErr r × IsErrAnd r (λ x. x ≡ e) → Came a b (λ (o : Compared). term_in b o.right) (Err e) (reducing a c t) → Came a b (function_in b) r (opening_function a c t None)
  function_unreduced {e = e} i v =
      let u : Came a b (product_at b) (Err e) (opens_as a.front.now.entries (entries_of a.proof.now c) not_product (term_in a t) None) = stops _ (refl, refl) v in
      stops _ i u

  module _ {o : Compared} (g : Grown a b) (v : Came a b (λ (o : Compared). term_in b o.right) (Ok o) (reducing a c t)) where
    form_opened : {r : Result Product ProveFault} → Came b b (product_at b) r (form_opens not_product (term_in b o.right) (as_product (term_in b o.right))) → Came a b (product_at b) r (opens_as a.front.now.entries (entries_of a.proof.now c) not_product (term_in a t) None)
    form_opened u = goes_on _ (one_form a.front.now.entries (entries_of a.proof.now c) (term_in a t)) v u

    pub function_no_product : {r : Result Function ProveFault} {e : ProveFault} → IsErr r × IsErrAnd r (λ x. x ≡ e) → Came b b (product_at b) (Err e) (form_opens not_product (term_in b o.right) (as_product (term_in b o.right))) → Came a b (function_in b) r (opening_function a c t None)
    function_no_product i u = stops _ i (form_opened u)

    module _ {p : Product} (u : Came b b (product_at b) (Ok p) (form_opens not_product (term_in b o.right) (as_product (term_in b o.right)))) where
      pub function_unsorted : {d : Work} {r : Result Function ProveFault} {e : ProveFault} → IsErr r × IsErrAnd r (λ x. x ≡ e) → Came b d (λ (s : Sorted). s.sort.0) (Err e) (sorting b c GoalPart p.term) → Came a d (function_in d) r (opening_function a c t None)
      function_unsorted i w =
          goes_on _ (one_opening_as a.front.now.entries (entries_of a.proof.now c) not_product (term_in a t) None) (form_opened u) (
          stops _ i (comes_to (sorting_since GoalPart p.term g h) w))

      pub function_comes : {d : Work} {s : Sorted} {q : Option Reduction} → Grown b d → HasProduct b p → Came b d (λ (s : Sorted). s.sort.0) (Ok s) (sorting b c GoalPart p.term) → Came a d (function_in d) (Ok (record { product = p; change = q })) (opening_function a c t None)
      function_comes k j w =
          goes_on _ (one_opening_as a.front.now.entries (entries_of a.proof.now c) not_product (term_in a t) None) (form_opened u) (
          goes_on _ (one_sorted a.system.now a.front.now.entries (entries_of a.proof.now c) of_goal (term_in b p.term)) (comes_to (sorting_since GoalPart p.term g h) w) (
          ended (product_at b p) (product_value k j)))

pub is_reduced_function : {a b d : Work} {c t : ℕ} {o : Compared} {p : Product} {s : Sorted} → Grown a b → Grown b d → IsPlace a c → HasTerm a t → IsReduced b c t o → p.term ≡ o.right → HasProduct b p → IsSorted d c p.term s → IsFunction d c t (record { product = p; change = Some (record { sorted = s.judged; compared = o }) })
is_reduced_function {a} {b} {d} {c} {t} {o} {p} {s} g k h q j e m i =
    let r = d.proof.now in
    let n = product_later k m in
    let y = still_compares b.proof.now r c o k.keeps (place_later g h).there j.compares in
    record {
      place = place_later (grown_trans g k) h;
      ty = term_later (grown_trans g k) q;
      product = n;
      change = ((i.judged.judges, is_sort i), ap (bare_at r.shapes) i.judged.subject ∙ bare_product n, y, ap (bare_at r.shapes) j.left, ap (bare_at r.shapes) (sym e) ∙ bare_product n);
    }

-- A function whose type reduced to a product, later.
changed_later : (a b : Tables) (k : Keeps a b) (c t A B : ℕ) (d : Option Reduction) → c < length a.nodes → t < length a.shapes → A < length a.shapes → B < length a.shapes → ReducesTo a c (bare_at a.shapes t) (pi (bare_at a.shapes A) (bare_at a.shapes B)) d → ReducesTo b c (bare_at b.shapes t) (pi (bare_at b.shapes A) (bare_at b.shapes B)) d
changed_later a b k c t A B None h p q s e = bare_stays a b t k p ∙ e ∙ ap₂ pi (sym (bare_stays a b A k q)) (sym (bare_stays a b B k s))
changed_later a b k c t A B (Some d) h p q s (m, e, o, x, y) =
    let u = ap₂ pi (sym (bare_stays a b A k q)) (sym (bare_stays a b B k s)) in
    (still_sorts a b k c d.sorted h m, bare_stays a b d.sorted.subject k m.0.0 ∙ e ∙ u, still_compares a b c d.compared k h o, still_same a b k d.compared.left t o.0 p x, bare_stays a b d.compared.right k o.1 ∙ y ∙ u)

pub function_later : {a b : Work} {c t : ℕ} {f : Function} → Grown a b → IsFunction a c t f → IsFunction b c t f
function_later {a} {b} {c} {t} {f} g h = record {
  place = place_later g h.place;
  ty = term_later g h.ty;
  product = product_later g h.product;
  change = changed_later a.proof.now b.proof.now g.keeps c t f.product.domain f.product.body f.change h.place.there h.ty.there h.product.domain.there h.product.body.there h.change;
}

pub function_product : {w : Work} {c t : ℕ} {f : Function} → IsFunction w c t f → HasProduct w f.product
function_product h = h.product

-- A term that is given.
module _ {a b : Work} {p : Product} (c t : ℕ) (h : IsPlace a c) (q : HasProduct a p) (x : HasTerm a t) where
  pub give_uninferred : {r : Result Application ProveFault} {e : ProveFault} → IsErr r × IsErrAnd r (λ y. y ≡ e) → Came a b (claim_in b) (Err e) (inferring a c GoalPart t) → Came a b (application_in b) r (giving a c p (term_in a t))
  give_uninferred i v = stops _ i v

  module _ {j : Judged} (g : Grown a b) (v : Came a b (claim_in b) (Ok j) (inferring a c GoalPart t)) where
    pub give_unfitted : {d : Work} {r : Result Application ProveFault} {e : ProveFault} → IsErr r × IsErrAnd r (λ y. y ≡ e) → Came b d (λ (j : Judged). tt) (Err e) (fitting b c GoalPart j.claim p.domain) → Came a d (application_in d) r (giving a c p (term_in a t))
    give_unfitted i u =
        goes_on _ (one_inferred a.system.now a.front.now.entries (entries_of a.proof.now c) of_goal (term_in a t)) v (
        stops _ i (comes_to (fitting_since GoalPart j.claim g h q.domain) u))

    module _ {d : Work} {f : Judged} (k : Grown b d) (u : Came b d (λ (j : Judged). tt) (Ok f) (fitting b c GoalPart j.claim p.domain)) where
      instance_since : limited {F = Refusal} (subst_term 0 (term_in d t) (term_in d p.body)) ≡ limited (subst_term 0 (term_in a t) (term_in a p.body))
      instance_since =
          let e = term_stays (grown_trans g k) x in
          let y = term_stays (grown_trans g k) q.body in
          rw (e, y) refl

      pub give_large : {m : Work} {r : Result Application ProveFault} {e : ProveFault} → IsErr r × IsErrAnd r (λ y. y ≡ e) → Came d m (term_in m) (Err e) (limited (subst_term 0 (term_in d t) (term_in d p.body))) → Came a m (application_in m) r (giving a c p (term_in a t))
      give_large i w =
          goes_on _ (one_inferred a.system.now a.front.now.entries (entries_of a.proof.now c) of_goal (term_in a t)) v (
          goes_on _ (one_fitted a.system.now a.front.now.entries (entries_of a.proof.now c) of_goal (term_in b j.claim) (term_in a p.domain)) (comes_to (fitting_since GoalPart j.claim g h q.domain) u) (
          stops _ i (comes_to instance_since w)))

      pub give_comes : {m : Work} {n : ℕ} → Grown d m → f.subject ≡ t → Came d m (term_in m) (Ok n) (limited (subst_term 0 (term_in d t) (term_in d p.body))) → Came a m (application_in m) (Ok (record { argument = Given f; after = n })) (giving a c p (term_in a t))
      give_comes {m} {n} l e w =
          let y : term_in m f.subject ≡ term_in a t = ap (term_in m) e ∙ term_stays (grown_trans (grown_trans g k) l) x in
          goes_on _ (one_inferred a.system.now a.front.now.entries (entries_of a.proof.now c) of_goal (term_in a t)) v (
          goes_on _ (one_fitted a.system.now a.front.now.entries (entries_of a.proof.now c) of_goal (term_in b j.claim) (term_in a p.domain)) (comes_to (fitting_since GoalPart j.claim g h q.domain) u) (
          goes_on _ (one_free _) (comes_to instance_since w) (
          ended (given (term_in a t), term_in m n) (ap (λ u. (given u, term_in m n)) y))))

pub is_given : {a d m : Work} {c t u n : ℕ} {p : Product} {f : Judged} → Grown a d → Grown d m → HasProduct a p → HasTerm a t → u ≡ t → IsFitted m c u p.domain f → IsNumberOf m n (subst_term 0 (term_in d t) (term_in d p.body)) → IsApplied m c p (record { argument = Given f; after = n })
is_given {a} {d} {m} {c} {t} {u} {n} {p} {f} g l q x o i e =
    let r = m.proof.now.shapes in
    let k = grown_trans g l in
    let y : term_in m n ≡ subst_term 0 (term_in m t) (term_in m p.body) = e.is ∙ ap₂ (subst_term 0) (sym (term_stays l (term_later g x))) (sym (term_stays l (product_later g q).body)) in
    let z : bare_at r n ≡ subst_term 0 (bare_at r f.subject) (bare_at r p.body) = plain r n _ y ∙ bare_put 0 0 (term_in m t) (term_in m p.body) ∙ ap₂ (subst_term 0) (sym (plain r t _ refl) ∙ ap (bare_at r) (sym (i.judged.subject ∙ o))) (sym (plain r p.body _ refl)) in
    record { place = i.judged.place; product = product_later k q; after = e.term; argument = (i.judged.judges, ap (bare_at r) i.claim, z) }

-- A part of the goal, taken out of its binders.
pub giving_since : {a b : Work} {p : Product} {c n : ℕ} {T : Named} → Grown a b → IsPlace a c → HasProduct a p → IsNumberOf b n T → giving b c p (term_in b n) ≡ giving a c p T
giving_since {a} {b} {p} {c} {n} {T} g h q i =
    let s = g.system in
    let f = g.front in
    let e = entries_stay a.proof.now b.proof.now c g.keeps h.there in
    let x = term_stays g q.domain in
    let y = term_stays g q.body in
    let z = i.is in
    rw (s, f, e, x, y, z) refl

-- A goal for the domain.
module _ {a : Work} (p : Product) (c i : ℕ) where
  pub ask_undetermined : {e : ProveFault} (b : Bool) → b ≡ false → Tells a.names.now (undetermined i) e → Came a a (application_in a) (Err e) (asks_argument a.system.now a.front.now.entries (entries_of a.proof.now c) i (term_in a p.domain) (term_in a p.body) b)
  ask_undetermined b h d = comes_to (ap (asks_argument a.system.now a.front.now.entries (entries_of a.proof.now c) i (term_in a p.domain) (term_in a p.body)) (sym h)) (told d)

  pub ask_unsorted : {b : Work} {r : Result Application ProveFault} {e : ProveFault} (t : Bool) → t ≡ true → IsErr r × IsErrAnd r (λ x. x ≡ e) → Came a b (λ (s : Sorted). s.sort.0) (Err e) (sorting a c GoalPart p.domain) → Came a b (application_in b) r (asks_argument a.system.now a.front.now.entries (entries_of a.proof.now c) i (term_in a p.domain) (term_in a p.body) t)
  ask_unsorted t h l v = comes_to (ap (asks_argument a.system.now a.front.now.entries (entries_of a.proof.now c) i (term_in a p.domain) (term_in a p.body)) (sym h)) (stops _ l v)

  pub ask_comes : {b d : Work} {s : Sorted} {n : ℕ} (t : Bool) → t ≡ true → Grown a b → Grown b d → d.meter ≡ b.meter → HasProduct a p → s.judged.subject ≡ p.domain → IsNumberOf d n (lower 0 1 (term_in b p.body)) → Came a b (λ (s : Sorted). s.sort.0) (Ok s) (sorting a c GoalPart p.domain) → Came a d (application_in d) (Ok (record { argument = Left s.judged; after = n })) (asks_argument a.system.now a.front.now.entries (entries_of a.proof.now c) i (term_in a p.domain) (term_in a p.body) t)
  ask_comes {b} {d} {s} {n} t h g k m q e j v =
      let x : term_in d s.judged.subject ≡ term_in a p.domain = ap (term_in d) e ∙ term_stays (grown_trans g k) q.domain in
      let y : term_in d n ≡ lower 0 1 (term_in a p.body) = j.is ∙ ap (lower 0 1) (term_stays g q.body) in
      let z : (asked (term_in d s.judged.subject), term_in d n) ≡ (asked (term_in a p.domain), lower 0 1 (term_in a p.body)) = rw (x, y) refl in
      comes_to (ap (asks_argument a.system.now a.front.now.entries (entries_of a.proof.now c) i (term_in a p.domain) (term_in a p.body)) (sym h)) (
      goes_on _ (one_sorted a.system.now a.front.now.entries (entries_of a.proof.now c) of_goal (term_in a p.domain)) v (
      ended_later (asked (term_in a p.domain), lower 0 1 (term_in a p.body)) m z))

pub is_asked : {a b d : Work} {c n : ℕ} {p : Product} {s : Sorted} → Grown a b → Grown b d → HasProduct a p → IsSorted d c p.domain s → is_clear 0 1 (term_in a p.body) ≡ true → IsNumberOf d n (lower 0 1 (term_in b p.body)) → IsApplied d c p (record { argument = Left s.judged; after = n })
is_asked {a} {b} {d} {c} {n} {p} {s} g k q i h j =
    let r = d.proof.now.shapes in
    let l = grown_trans g k in
    let y : term_in d n ≡ lower 0 1 (term_in a p.body) = j.is ∙ ap (lower 0 1) (term_stays g q.body) in
    let z : lift 0 1 (term_in d n) ≡ term_in d p.body = ap (lift 0 1) y ∙ lift_lower 0 1 (term_in a p.body) h ∙ sym (term_stays l q.body) in
    let u : bare_at r p.body ≡ lift 0 1 (bare_at r n) = plain r p.body _ (sym z) ∙ bare_lift 0 1 (term_in d n) ∙ ap (lift 0 1) (sym (plain r n _ refl)) in
    record { place = i.judged.place; product = product_later l q; after = j.term; argument = ((i.judged.judges, is_sort i), ap (bare_at r) i.judged.subject, u) }

-- The argument of a product.
module _ {a b : Work} {r : Result Application ProveFault} (p : Product) (c i : ℕ) where
  pub applied_part : (o : Option Subterm) (s : Subterm) → o ≡ Some s → Came a b (application_in b) r (giving a c p (value_of a.proof.now.shapes s)) → Came a b (application_in b) r (applying a c p o i)
  applied_part o s e w = comes_to (ap (λ o. applying a c p o i) (sym e)) w

  pub applied_goal : (o : Option Subterm) → o ≡ None → Came a b (application_in b) r (asks_argument a.system.now a.front.now.entries (entries_of a.proof.now c) i (term_in a p.domain) (term_in a p.body) (is_clear 0 1 (term_in a p.body))) → Came a b (application_in b) r (applying a c p o i)
  applied_goal o e w = comes_to (ap (λ o. applying a c p o i) (sym e)) w

part_stays : {a b : Work} (o : Option Subterm) → Grown a b → IsFound a o → part_in b o ≡ part_in a o
part_stays None g h = refl
part_stays {a} {b} (Some s) g h = ap Some (value_stays a.proof.now b.proof.now s g.keeps h.clear)

-- The function, and then its argument.
module _ {a b : Work} (c t i : ℕ) (o : Option Subterm) where
  pub next_closed : {r : Result Link ProveFault} {e : ProveFault} → IsErr r × IsErrAnd r (λ x. x ≡ e) → Came a b (function_in b) (Err e) (opening_function a c t (as_product (term_in a t))) → Came a b (link_in b) r (applying_next a c t o i)
  next_closed l v = stops _ l v

  module _ {f : Function} (h : IsPlace a c) (x : IsFound a o) (g : Grown a b) (v : Came a b (function_in b) (Ok f) (opening_function a c t (as_product (term_in a t)))) where
    applying_since : applying b c f.product o i ≡ takes_argument a.system.now a.front.now.entries (entries_of a.proof.now c) i (function_in b f) (part_in a o)
    applying_since =
        let s = g.system in
        let y = g.front in
        let e = entries_stay a.proof.now b.proof.now c g.keeps h.there in
        let z = part_stays o g x in
        rw (s, y, e, z) refl

    pub next_refused : {d : Work} {r : Result Link ProveFault} {e : ProveFault} → IsErr r × IsErrAnd r (λ x. x ≡ e) → Came b d (application_in d) (Err e) (applying b c f.product o i) → Came a d (link_in d) r (applying_next a c t o i)
    next_refused l u =
        goes_on _ (one_function a.system.now a.front.now.entries (entries_of a.proof.now c) (term_in a t) (as_product (term_in a t))) v (
        hands l (comes_to applying_since u))

    pub next_comes : {d : Work} {y : Application} {l : Link} → l.argument ≡ y.argument → l.after ≡ y.after → Came b d (application_in d) (Ok y) (applying b c f.product o i) → Came a d (link_in d) (Ok l) (applying_next a c t o i)
    next_comes {d} {y} {l} p q u =
        let z : application_in d y ≡ link_in d l = rw (p, q) refl in
        goes_on _ (one_function a.system.now a.front.now.entries (entries_of a.proof.now c) (term_in a t) (as_product (term_in a t))) v (
        revalued z (comes_to applying_since u))

pub is_next : {w : Work} {c t : ℕ} {f : Function} {y : Application} → IsFunction w c t f → IsApplied w c f.product y → IsNext w c t (record { change = f.change; domain = f.product.domain; codomain = f.product.body; argument = y.argument; after = y.after })
is_next h k = record {
  place = h.place;
  ty = h.ty;
  after = k.after;
  link = record { domain = h.product.domain.there; codomain = h.product.body.there; after = k.after.there; change = h.change; argument = k.argument };
}
