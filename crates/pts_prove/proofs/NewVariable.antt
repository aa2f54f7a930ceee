-- A variable for a goal that is a product.
use Rattle.std.proofs.Common.{◌≡◌, ℕ, refl, sym, ap, ◌∙◌, subst, Option, Some, None, Result, Ok, Err}
use Rattle.std.specs.Result.{IsErr, IsErrAnd}
use Rattle.pts_names.specs.Name.{Name}
use Rattle.pts_record.specs.Table.{bare_at}
use Rattle.pts_grow.proofs.Plain.{plain}
use Rattle.pts_grow.specs.Judges.{IsProduct}
use Rattle.pts_reduce.specs.Chain.{entries_of}
use Rattle.pts_infer.specs.declared.answer.ProductParts.{ProductParts}
use Rattle.pts_goals.specs.declared.step.Step.{Step}
use Rattle.pts_goals.specs.declared.step.Step.TheVariants.{Intro}
use Rattle.pts_goals.specs.Steps.{Converts}
use Rattle.pts_prove_cost.specs.Refinement.{Refinement, by_abstraction}
use Rattle.pts_prove_cost.specs.Commands.{Command, not_product, place_in_scope, unless_taken, intros}
use Rattle.pts_prove_cost.proofs.OneOutcome.{one_opening, one_product}
use Rattle.pts_prove.specs.declared.fault.ProveFault.{ProveFault}
use Rattle.pts_prove.specs.declared.work.Work.{Work}
use Rattle.pts_prove.specs.declared.work.Opening.{Opening}
use Rattle.pts_prove.specs.declared.work.Place.{Place}
use Rattle.pts_prove.specs.Answered.{IsTaken}
use Rattle.pts_prove.specs.Refining.{refinement_of}
use Rattle.pts_prove.specs.Works.{Grown, IsAsked, IsOpening, IsFormed, FitsAt, Came, term_in, opened_in, product_in, sequent_at, opening, sorting_product}
use Rattle.pts_prove.proofs.Running.{stops, goes_on, hands, comes_to, told}
use Rattle.pts_prove.proofs.Since.{ended}
use Rattle.pts_prove.proofs.Openings.{product_since}

-- The name exists, or it does not.
pub taken_first : {X : Type 0} {a : Work} {value : X → Refinement} {r : Result X ProveFault} (e : ProveFault) (x : Name) (o : Option ℕ) (R : Command → ℕ → Type 0) → IsErr r × IsErrAnd r (λ y. y ≡ e) → IsTaken a.names.now x o e → Came a a value r (unless_taken x o R)
taken_first e x None R i d = absurd d
taken_first {X} {value = value} e x (Some place) R i d = hands {Y = X} {shows = value} i (told d)

pub fresh_first : {X : Type 0} {a b : Work} {value : X → Refinement} {r : Result X ProveFault} {R : Command → ℕ → Type 0} (x : Name) (o : Option ℕ) → o ≡ None → Came a b value r R → Came a b value r (unless_taken x o R)
fresh_first {R = R} x o e w = comes_to (ap (λ o. unless_taken x o R) (sym e)) w

module _ {a b : Work} {p : Place} (x : Name) (n : place_in_scope a.front.now.entries a.names.now x ≡ None) (q : IsAsked a p) where
  -- the goal is no product
  pub intro_closed : {r : Result Step ProveFault} {e : ProveFault} → IsErr r × IsErrAnd r (λ y. y ≡ e) → Came a b (opened_in b) (Err e) (opening a p) → Came a b (refinement_of b.proof.now) r (intros a.system.now a.front.now.entries (sequent_at a p) x)
  intro_closed i v = fresh_first x _ n (stops _ i v)

  module _ {o : Opening} (g : Grown a b) (v : Came a b (opened_in b) (Ok o) (opening a p)) where
    -- it has no sort
    pub intro_unsorted : {c : Work} {r : Result Step ProveFault} {e : ProveFault} → IsErr r × IsErrAnd r (λ y. y ≡ e) → Came b c (product_in c) (Err e) (sorting_product b p.ctx (opened_in b o)) → Came a c (refinement_of c.proof.now) r (intros a.system.now a.front.now.entries (sequent_at a p) x)
    intro_unsorted i u =
        fresh_first x _ n (
        goes_on _ (one_opening a.front.now.entries (entries_of a.proof.now p.ctx) not_product (term_in a p.statement)) v (
        stops _ i (comes_to (product_since (opened_in b o) g q.place) u)))

    -- it has one
    pub intro_comes : {c : Work} {f : ProductParts} {y : Name} → y ≡ x → Came b c (product_in c) (Ok f) (sorting_product b p.ctx (opened_in b o)) → Came a c (refinement_of c.proof.now) (Ok (Intro y f.product f.domain f.inner f.body o.change)) (intros a.system.now a.front.now.entries (sequent_at a p) x)
    intro_comes {c} {f} e u =
        fresh_first x _ n (
        goes_on _ (one_opening a.front.now.entries (entries_of a.proof.now p.ctx) not_product (term_in a p.statement)) v (
        goes_on _ (one_product a.system.now a.front.now.entries (entries_of a.proof.now p.ctx) (opened_in b o)) (comes_to (product_since (opened_in b o) g q.place) u) (
        ended (by_abstraction x (product_in c f).domain (product_in c f).body) (ap (λ y. by_abstraction y (product_in c f).domain (product_in c f).body) e))))

pub intro_fits : {w : Work} {p : Place} {o : Opening} {f : ProductParts} (x : Name) → IsOpening w p o → IsFormed w p.ctx o.product f → FitsAt w p (Intro x f.product f.domain f.inner f.body o.change)
intro_fits {w} {p} {o} {f} x h i = record {
  fits = λ g c s.
      let r = w.proof.now in
      let e = plain r.shapes o.product _ refl in
      let m = plain r.shapes f.product.subject _ i.is ∙ sym e in
      let y = subst (λ c. IsProduct r c f.product f.domain f.inner f.body) (sym c) i.formed in
      let z1 = subst (λ t. Converts r p.ctx t (bare_at r.shapes p.statement) o.change) (sym m) h.change in
      let z2 = subst (λ c. Converts r c (bare_at r.shapes f.product.subject) (bare_at r.shapes p.statement) o.change) (sym c) z1 in
      (y, subst (λ t. Converts r g.ctx (bare_at r.shapes f.product.subject) (bare_at r.shapes t) o.change) (sym s) z2);
}
