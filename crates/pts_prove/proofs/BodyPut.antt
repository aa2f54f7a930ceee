-- The body of a constant for its occurrences in a goal.
use Rattle.std.proofs.Common.{◌≡◌, ℕ, sym, ap, ◌∙◌, Bool, true, false, Option, Some, None, Result, Ok, Err}
use Rattle.std.specs.Prelude.{is_some}
use Rattle.std.specs.List.{position}
use Rattle.std.specs.Result.{IsErr, IsErrAnd}
use Rattle.pts_names.specs.Name.{Name, same_name}
use Rattle.pts_terms.specs.Tree.{Named, subst_const}
use Rattle.pts_terms.specs.Limits.{within}
use Rattle.pts_ctx.specs.Front.{Global, find}
use Rattle.pts_record.specs.Table.{Tables, named_at}
use Rattle.pts_grow.specs.declared.fault.TermFault.{TermFault}
use Rattle.pts_grow.specs.Keeps.{IsTerm, WhyNot}
use Rattle.pts_goals.specs.declared.step.Step.{Step}
use Rattle.pts_prove_cost.specs.Commands.{of_goal, no_body, not_there, limited, mentions, changes, unfolds_body, unfolds_entry, unfolds}
use Rattle.pts_prove_cost.proofs.OneOutcome.{one_entry}
use Rattle.pts_prove.specs.declared.fault.ProveFault.{ProveFault}
use Rattle.pts_prove.specs.declared.work.Work.{Work}
use Rattle.pts_prove.specs.declared.work.Place.{Place}
use Rattle.pts_prove.specs.Answered.{Tells, of_making}
use Rattle.pts_prove.specs.Refining.{refinement_of}
use Rattle.pts_prove.specs.Works.{Grown, IsAsked, Came, term_in, sequent_at, putting_body}
use Rattle.pts_prove.proofs.Running.{stops, goes_on, comes_to, told}
use Rattle.pts_prove.proofs.Stages.{taken, untaken}
use Rattle.pts_prove.proofs.Since.{sequent_since}

module _ {a : Work} {e : ProveFault} (p : Place) (c : Name) where
  -- the name is that of a hypothesis
  pub hypothesis_refused : (o : Option ℕ) (n : ℕ) (f : Option (Global Name)) → Some n ≡ o → Tells a.names.now (no_body c) e → Came a a (term_in a) (Err e) (unfolds_entry a.system.now a.front.now.entries (sequent_at a p) c (is_some o) f)
  hypothesis_refused o n f h d = comes_to (ap (λ o. unfolds_entry a.system.now a.front.now.entries (sequent_at a p) c (is_some o) f) h) (told d)

  -- it is unknown
  pub unknown_refused : (f : Option (Global Name)) → None ≡ f → Tells a.names.now (not_there c) e → Came a a (term_in a) (Err e) (unfolds_entry a.system.now a.front.now.entries (sequent_at a p) c false f)
  unknown_refused f h d = comes_to (ap (unfolds_entry a.system.now a.front.now.entries (sequent_at a p) c false) h) (told d)

  -- it has no body
  pub assumption_refused : (o : Option Named) (b : Bool) → None ≡ o → Tells a.names.now (no_body c) e → Came a a (term_in a) (Err e) (unfolds_body a.system.now a.front.now.entries (sequent_at a p) c o b)
  assumption_refused o b h d = comes_to (ap (λ o. unfolds_body a.system.now a.front.now.entries (sequent_at a p) c o b) h) (told d)

  -- it does not occur
  pub absent_refused : (t : Named) (b : Bool) → b ≡ false → Tells a.names.now (not_there c) e → Came a a (term_in a) (Err e) (unfolds_body a.system.now a.front.now.entries (sequent_at a p) c (Some t) b)
  absent_refused t b h d = comes_to (ap (unfolds_body a.system.now a.front.now.entries (sequent_at a p) c (Some t)) (sym h)) (told d)

-- The new statement.
pub put_taken : {a b : Work} {n : ℕ} (m : Tables) (c : Name) (t s : ℕ) (T : Named) → b.meter ≡ a.meter → named_at m.shapes t ≡ T → named_at m.shapes s ≡ term_in a s → IsTerm b.proof.now n (subst_const c (named_at m.shapes t) (named_at m.shapes s)) → within (subst_const c (named_at m.shapes t) (named_at m.shapes s)) ≡ true → Came a b (term_in b) (Ok n) (limited (subst_const c T (term_in a s)))
put_taken {a} m c t s T k e f i w = comes_to (ap (λ x. limited (subst_const c x (named_at m.shapes s))) e ∙ ap (λ y. limited (subst_const c T y)) f) (taken k i.1 w)

pub put_untaken : {X : Type 0} {a b : Work} {value : X → Named} {h : ProveFault} (m : Tables) (c : Name) (t s : ℕ) (T : Named) (x : TermFault) → b.meter ≡ a.meter → h ≡ of_making x → named_at m.shapes t ≡ T → named_at m.shapes s ≡ term_in a s → WhyNot x (subst_const c (named_at m.shapes t) (named_at m.shapes s)) → Came a b value (Err h) (limited (subst_const c T (term_in a s)))
put_untaken {a = a} m c t s T x k q e f w = comes_to (ap (λ x. limited (subst_const c x (named_at m.shapes s))) e ∙ ap (λ y. limited (subst_const c T y)) f) (untaken x (subst_const c (named_at m.shapes t) (named_at m.shapes s)) k q w)

module _ {a b : Work} {r : Result ℕ ProveFault} (p : Place) (c : Name) where
  pub constant_goes_on : (o : Option ℕ) → None ≡ o → Came a b (term_in b) r (unfolds_entry a.system.now a.front.now.entries (sequent_at a p) c false (find c a.front.now.entries)) → Came a b (term_in b) r (unfolds_entry a.system.now a.front.now.entries (sequent_at a p) c (is_some o) (find c a.front.now.entries))
  constant_goes_on o h w = comes_to (ap (λ o. unfolds_entry a.system.now a.front.now.entries (sequent_at a p) c (is_some o) (find c a.front.now.entries)) h) w

  pub entry_goes_on : (g : Global Name) (f : Option (Global Name)) → Some g ≡ f → Came a b (term_in b) r (unfolds_body a.system.now a.front.now.entries (sequent_at a p) c g.body (mentions c (term_in a p.statement))) → Came a b (term_in b) r (unfolds_entry a.system.now a.front.now.entries (sequent_at a p) c false f)
  entry_goes_on g f h w = comes_to (ap (unfolds_entry a.system.now a.front.now.entries (sequent_at a p) c false) h) w

  pub body_goes_on : (t : Named) (o : Option Named) (m : Bool) → Some t ≡ o → Came a b (term_in b) r (unfolds_body a.system.now a.front.now.entries (sequent_at a p) c (Some t) m) → Came a b (term_in b) r (unfolds_body a.system.now a.front.now.entries (sequent_at a p) c o m)
  body_goes_on t o m h w = comes_to (ap (λ o. unfolds_body a.system.now a.front.now.entries (sequent_at a p) c o m) h) w

  pub occurs_goes_on : (t : Named) (m : Bool) → m ≡ true → Came a b (term_in b) r (limited (subst_const c t (term_in a p.statement))) → Came a b (term_in b) r (unfolds_body a.system.now a.front.now.entries (sequent_at a p) c (Some t) m)
  occurs_goes_on t m h w = comes_to (ap (unfolds_body a.system.now a.front.now.entries (sequent_at a p) c (Some t)) (sym h)) w

-- The whole command.
module _ {a b : Work} {p : Place} (c : Name) (q : IsAsked a p) where
  pub unfold_refused : {r : Result Step ProveFault} {e : ProveFault} → IsErr r × IsErrAnd r (λ x. x ≡ e) → Came a b (term_in b) (Err e) (putting_body a p c) → Came a b (refinement_of b.proof.now) r (unfolds a.system.now a.front.now.entries (sequent_at a p) c)
  unfold_refused i w = stops _ i w

  pub unfold_goes_on : {d : Work} {n : ℕ} {r : Result Step ProveFault} → Grown a b → Came a b (term_in b) (Ok n) (putting_body a p c) → Came b d (refinement_of d.proof.now) r (changes b.system.now b.front.now.entries (sequent_at b p) of_goal (term_in b n)) → Came a d (refinement_of d.proof.now) r (unfolds a.system.now a.front.now.entries (sequent_at a p) c)
  unfold_goes_on {n = n} g w u =
      let s = g.system in
      let f = g.front in
      let e = sequent_since g q in
      let x = ap (λ o. changes b.system.now b.front.now.entries o of_goal (term_in b n)) e in
      let y = ap (λ o. changes b.system.now o.now.entries (sequent_at a p) of_goal (term_in b n)) f in
      let z = ap (λ o. changes o.now a.front.now.entries (sequent_at a p) of_goal (term_in b n)) s in
      goes_on _ (one_entry a.system.now a.front.now.entries (sequent_at a p) c (is_some (position (same_name c) a.names.now)) (find c a.front.now.entries)) w (comes_to (x ∙ y ∙ z) u)
