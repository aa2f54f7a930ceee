-- A lemma, which the goal may use.
use Rattle.std.proofs.Common.{◌≡◌, ℕ, refl, sym, ap, ◌∙◌, subst, List, [], ◌∷◌, ◌++◌, true, Some, None, Result, Ok, Err}
use Rattle.std.proofs.lemmas.List.{append_assoc}
use Rattle.std.specs.Prelude.{is_some}
use Rattle.std.specs.Result.{IsErr, IsErrAnd}
use mathlib.Core.Path.{ap₂}
use Rattle.pts_names.specs.Name.{Name}
use Rattle.pts_terms.specs.declared.term.Sort.{Sort}
use Rattle.pts_terms.specs.Tree.{Named, sort, lift, pi, named_pi}
use Rattle.pts_terms.specs.Limits.{within}
use Rattle.pts_terms.proofs.Unnamed.{bare_lift}
use Rattle.pts_ctx.specs.System.{rule_of}
use Rattle.pts_ctx.specs.Front.{assumed}
use Rattle.pts_record.specs.Table.{Tables, named_at, bare_at}
use Rattle.pts_record.specs.Said.{scope_of}
use Rattle.pts_rules.specs.Meter.{left}
use Rattle.pts_rules.specs.Parts.{sort_in}
use Rattle.pts_reduce_cost.specs.Laws.{WithinBudget}
use Rattle.pts_infer_cost.specs.Typing as typing
use Rattle.pts_infer_cost.specs.Typing.{Flaw, Outcome, comes, by_flaw, here, no_rule, by_rule, Sorts, inference_nesting}
use Rattle.pts_infer_cost.proofs.Exact.{sorts_once}
use Rattle.pts_grow.specs.declared.judged.Judged.{Judged}
use Rattle.pts_grow.specs.declared.fault.TermFault.{TermFault}
use Rattle.pts_grow.specs.Keeps.{Keeps, IsTerm, WhyNot}
use Rattle.pts_grow.specs.Judges.{IsTypedContext, Judges, IsAssumeOf, IsProduct, IsSort}
use Rattle.pts_grow.proofs.Grow.{stays, node_stays, tree_stays, bare_stays}
use Rattle.pts_grow.proofs.Judgements.{still_typed, still_assume}
use Rattle.pts_grow.proofs.Plain.{plain, plain_sort}
use Rattle.pts_reduce.specs.Chain.{entries_of}
use Rattle.pts_infer.specs.Answered.{Refused}
use Rattle.pts_infer.specs.declared.answer.InferFault.{InferFault}
use Rattle.pts_infer.specs.declared.answer.InferFault.TheVariants as infer
use Rattle.pts_infer.proofs.Runs.{made_pi}
use Rattle.pts_infer.specs.declared.part.Part.TheVariants.{Ty, Goal}
use Rattle.pts_goals.specs.declared.step.Step.{Step}
use Rattle.pts_goals.specs.declared.step.Step.TheVariants.{Cut}
use Rattle.pts_prove_cost.specs.Combining.{Turned, Free}
use Rattle.pts_prove_cost.specs.Refinement.{by_lemma}
use Rattle.pts_prove_cost.specs.Commands.{Refusal, flawed, of_goal, of_type, in_goal_under, limited, place_in_scope, cuts}
use Rattle.pts_prove_cost.proofs.OnBudget.{turned_comes, turned_stops, turned_above, free_as}
use Rattle.pts_prove_cost.proofs.OneOutcome.{one_free, one_turned, one_sorted}
use Rattle.pts_prove.specs.declared.fault.ProveFault.{ProveFault}
use Rattle.pts_prove.specs.declared.work.Work.{Work}
use Rattle.pts_prove.specs.declared.work.LemmaParts.{LemmaParts}
use Rattle.pts_prove.specs.declared.work.Place.{Place}
use Rattle.pts_prove.specs.declared.work.Sorted.{Sorted}
use Rattle.pts_prove.specs.Answered.{Refuses, Answers, Tells, put_in, of_making}
use Rattle.pts_prove.specs.Refining.{refinement_of}
use Rattle.pts_prove.specs.Works.{Grown, HasTerm, IsAsked, IsSorted, IsUnder, AreParts, IsPi, IsCut, FitsAt, Came, term_in, sequent_at, sorting, sorting_under, sorting_lemma, ruling, cutting}
use Rattle.pts_prove.proofs.Working.{grown_trans, term_later, asked_later, sorted_later}
use Rattle.pts_prove.proofs.Running.{stops, goes_on, hands, comes_to, tells_within}
use Rattle.pts_prove.proofs.Since.{entries_stay, term_stays, sorting_since}
use Rattle.pts_prove.proofs.Stages.{taken, untaken}
use Rattle.pts_prove.proofs.OtherStatement.{is_sort}
use Rattle.pts_prove.proofs.NewVariable.{fresh_first}

-- What adds to the record alone costs nothing.
pub unpaid : {X A : Type 0} {a b c : Work} {value : X → A} {r : Result X ProveFault} {R : Outcome Refusal A → ℕ → Type 0} → b.meter ≡ a.meter → Came b c value r R → Came a c value r R
unpaid {a = a} {b = b} {c = c} {value = value} {r = r} {R = R} m w = record {
  answers = subst (λ x. Answers c.names.now value R r (left x.now) (left c.meter.now)) m w.answers;
}

pub ended_later : {X A : Type 0} {a b : Work} {value : X → A} {x : X} (v : A) → b.meter ≡ a.meter → value x ≡ v → Came a b value (Ok x) (Free (comes v))
ended_later {A = A} {a = a} {b = b} {value = value} {x = x} v m e = record {
  answers =
      let o : Outcome Refusal A = comes (value x) in
      let p : Outcome Refusal A = comes v in
      let q : p ≡ o = ap comes (sym e) in
      subst (λ y. WithinBudget (Free p) (left y.now) o (left b.meter.now)) m (free_as o p (left b.meter.now) q);
}

-- The place under the lemma.
pub is_under : {a b : Work} {p : Place} {l : Sorted} (m : Tables) (i t : ℕ) → Grown a b → IsAsked a p → IsSorted a p.ctx l.judged.subject l → Keeps a.proof.now m → Keeps m b.proof.now → IsAssumeOf m p.ctx l.judged i → IsTypedContext m i → IsTerm b.proof.now t (lift 0 1 (named_at m.shapes p.statement)) → IsUnder b p l (record { ctx = i; statement = t })
is_under {a} {b} {p} {l} m i t g q s k h x y z =
    let c = node_stays a.proof.now m p.ctx k q.place.there in
    let u = stays a.proof.now m l.judged.subject k s.judged.judges.0 in
    let v = stays a.proof.now m p.statement k q.statement.there in
    record {
      goal = asked_later g q;
      lemma = sorted_later g s;
      asked = record {
        place = record { there = node_stays m b.proof.now i h x.0; typed = still_typed m b.proof.now i h x.0 y };
        statement = record { there = z.0 };
      };
      inner = still_assume m b.proof.now p.ctx l.judged i h c u x;
      statement = z.1 ∙ ap (lift 0 1) (sym (tree_stays m b.proof.now p.statement h v));
    }

pub under_later : {a b : Work} {p u : Place} {l : Sorted} → Grown a b → IsUnder a p l u → IsUnder b p l u
under_later {a} {b} {p} {u} {l} g h = record {
  goal = asked_later g h.goal;
  lemma = sorted_later g h.lemma;
  asked = asked_later g h.asked;
  inner = still_assume a.proof.now b.proof.now p.ctx l.judged u.ctx g.keeps h.goal.place.there h.lemma.judged.judges.0 h.inner;
  statement = term_stays g h.asked.statement ∙ h.statement ∙ ap (lift 0 1) (sym (term_stays g h.goal.statement));
}

pub parts_later : {a b : Work} {p : Place} {l : LemmaParts} → Grown a b → AreParts a p l → AreParts b p l
parts_later {a} {b} {p} {l} g h = record {
  goal = asked_later g h.goal;
  lemma = sorted_later g h.lemma;
  inner = still_assume a.proof.now b.proof.now p.ctx l.lemma.judged l.inner g.keeps h.goal.place.there h.lemma.judged.judges.0 h.inner;
  body = sorted_later g h.body;
  statement = tree_stays a.proof.now b.proof.now l.body.judged.subject g.keeps h.body.judged.judges.0 ∙ h.statement ∙ ap (lift 0 1) (sym (term_stays g h.goal.statement));
}

pub pi_later : {a b : Work} {n t u : ℕ} → Grown a b → IsPi a n t u → IsPi b n t u
pi_later {a} {b} {n} {t} {u} g h = record {
  product = term_later g h.product;
  domain = term_later g h.domain;
  body = term_later g h.body;
  is = bare_stays a.proof.now b.proof.now n g.keeps h.product.there ∙ h.is ∙ ap₂ pi (sym (bare_stays a.proof.now b.proof.now t g.keeps h.domain.there)) (sym (bare_stays a.proof.now b.proof.now u g.keeps h.body.there));
}

pub under_asked : {w : Work} {p u : Place} {l : Sorted} → IsUnder w p l u → IsAsked w u
under_asked h = h.asked

pub parts_terms : {w : Work} {p : Place} {l : LemmaParts} → AreParts w p l → HasTerm w l.lemma.judged.subject × HasTerm w l.body.judged.subject
parts_terms h = (record { there = h.lemma.judged.judges.0 }, record { there = h.body.judged.judges.0 })

pub are_parts : {w : Work} {p u : Place} {l s : Sorted} → IsUnder w p l u → IsSorted w u.ctx u.statement s → AreParts w p (record { lemma = l; inner = u.ctx; body = s })
are_parts {w} {p} {u} {l} {s} h i = record {
  goal = h.goal;
  lemma = h.lemma;
  inner = h.inner;
  body = record { judged = record { place = i.judged.place; subject = refl; claim = i.judged.claim; judges = i.judged.judges }; sort = i.sort };
  statement = ap (term_in w) i.judged.subject ∙ h.statement;
}

-- The flaws of the goal under the lemma have its name first.
under_refused : {A : Type 0} (xs : List Name) (x : Name) (ys : List Name) (R : Outcome Flaw A → ℕ → Type 0) (e : InferFault) (b k : ℕ) → ys ≡ xs ++ x ∷ [] → Refused ys R e b k → Refuses xs (Turned (in_goal_under x) R) (put_in Goal e) b k
under_refused xs x ys R (infer.Flaw f) b k n w =
    let e : ys ++ w.0.names ≡ xs ++ x ∷ w.0.names = ap (λ ys. ys ++ w.0.names) n ∙ append_assoc xs (x ∷ []) w.0.names in
    (record { place = w.0.place; names = x ∷ w.0.names; kind = w.0.kind }, w.1 ∙ ap (λ zs. record { place = w.0.place; names = zs; kind = w.0.kind }) e, turned_stops (in_goal_under x) R b k _ w.2)
under_refused xs x ys R infer.Spent b k n w = (turned_above (in_goal_under x) R b w.0, w.1)
under_refused xs x ys R infer.Deep b k n w = turned_stops (in_goal_under x) R b k _ w
under_refused xs x ys R infer.Memory b k n w = tt

pub under_value : {a b : Work} {s : Sorted} (x : Name) (u : Place) (q : ℕ) → WithinBudget (Sorts a.system.now a.front.now.entries inference_nesting (entries_of a.proof.now u.ctx) (term_in a u.statement)) (left a.meter.now) (comes q) (left b.meter.now) → s.sort.0 ≡ q → Came a b (λ (s : Sorted). s.sort.0) (Ok s) (sorting_under a x u)
under_value {a} {b} {s} x u q w e = record {
  answers = subst (λ n. WithinBudget (sorting_under a x u) (left a.meter.now) (comes n) (left b.meter.now)) (sym e) (turned_comes (in_goal_under x) _ (left a.meter.now) (left b.meter.now) q w);
}

pub under_fault : {X : Type 0} {a b : Work} {value : X → ℕ} {h : ProveFault} (x : Name) (u : Place) (ys : List Name) (e : InferFault) → ys ≡ a.names.now ++ x ∷ [] → b.names ≡ a.names → h ≡ put_in Goal e → Refused ys (Sorts a.system.now a.front.now.entries inference_nesting (entries_of a.proof.now u.ctx) (term_in a u.statement)) e (left a.meter.now) (left b.meter.now) → Came a b value (Err h) (sorting_under a x u)
under_fault {a = a} {b = b} {h = h} x u ys e y n q w = record {
  answers =
      let r = under_refused a.names.now x ys _ e (left a.meter.now) (left b.meter.now) y w in
      let s = subst (λ z. Refuses z.now (sorting_under a x u) (put_in Goal e) (left a.meter.now) (left b.meter.now)) (sym n) r in
      subst (λ f. Refuses b.names.now (sorting_under a x u) f (left a.meter.now) (left b.meter.now)) (sym q) s;
}

-- The work under the lemma, seen from before it.
pub under_since : {a b : Work} {p u : Place} {l : Sorted} (x : Name) → Grown a b → IsAsked a p → IsSorted a p.ctx l.judged.subject l → IsUnder b p l u → sorting_under b x u ≡ sorting_lemma a x p (term_in a l.judged.subject)
under_since {a} {b} {p} {u} {l} x g q s h =
    let t : term_in b u.statement ≡ lift 0 1 (term_in a p.statement) = h.statement ∙ ap (lift 0 1) (term_stays g q.statement) in
    let d : term_in b l.judged.subject ≡ term_in a l.judged.subject = tree_stays a.proof.now b.proof.now l.judged.subject g.keeps s.judged.judges.0 in
    let e : entries_of b.proof.now u.ctx ≡ assumed (term_in a l.judged.subject) ∷ entries_of a.proof.now p.ctx = ap (λ m. (scope_of m).entries) h.inner.1 ∙ ap (λ L. assumed (term_in b l.judged.subject) ∷ L) (entries_stay a.proof.now b.proof.now p.ctx g.keeps q.place.there) ∙ ap (λ d. assumed d ∷ entries_of a.proof.now p.ctx) d in
    let y = g.system in
    let f = g.front in
    rw (y, f, e, t) refl

pub under_stops : {a b c : Work} {p u : Place} {l : Sorted} {r : Result LemmaParts ProveFault} {e : ProveFault} (x : Name) → b.meter ≡ a.meter → Grown a b → IsAsked a p → IsSorted a p.ctx l.judged.subject l → IsUnder b p l u → IsErr r × IsErrAnd r (λ y. y ≡ e) → Came b c (λ (s : Sorted). s.sort.0) (Err e) (sorting_under b x u) → Came a c (λ (o : LemmaParts). o.body.sort.0) r (sorting_lemma a x p (term_in a l.judged.subject))
under_stops x m g q s h i w = hands i (unpaid m (comes_to (under_since x g q s h) w))

pub under_comes : {a b c : Work} {p u : Place} {l s : Sorted} (x : Name) → b.meter ≡ a.meter → Grown a b → IsAsked a p → IsSorted a p.ctx l.judged.subject l → IsUnder b p l u → Came b c (λ (s : Sorted). s.sort.0) (Ok s) (sorting_under b x u) → Came a c (λ (o : LemmaParts). o.body.sort.0) (Ok (record { lemma = l; inner = u.ctx; body = s })) (sorting_lemma a x p (term_in a l.judged.subject))
under_comes {a} {c = c} {l = l} {s = j} x m g q s h w =
    let v : Came a c (λ (s : Sorted). s.sort.0) (Ok j) (sorting_lemma a x _ (term_in a l.judged.subject)) = unpaid m (comes_to (under_since x g q s h) w) in
    record { answers = v.answers }

-- The rule.
pub ruled : {a : Work} {q : Sort} (s r : ℕ) → Some q.0 ≡ rule_of a.system.now s r → Came a a (λ (q : Sort). sort q.0) (Ok q) (ruling a s r)
ruled {a} {q} s r e = record {
  answers = turned_comes (flawed of_goal) _ (left a.meter.now) (left a.meter.now) (sort q.0) (free_as (comes (sort q.0)) _ (left a.meter.now) (ap (λ o. by_rule s r o (λ q. comes (sort q))) (sym e)));
}

pub unruled : {X : Type 0} {a : Work} {value : X → Named} {e : ProveFault} (s r : ℕ) → None ≡ rule_of a.system.now s r → Tells a.names.now (flawed of_goal (here (no_rule s r))) e → Came a a value (Err e) (ruling a s r)
unruled {a = a} {e = e} s r h d = record {
  answers = tells_within a.names.now _ e (ruling a s r) (left a.meter.now) (left a.meter.now) d (turned_stops (flawed of_goal) _ (left a.meter.now) (left a.meter.now) _ (free_as (typing.stops (by_flaw (here (no_rule s r)))) _ (left a.meter.now) (ap (λ o. by_rule s r o (λ q. comes (sort q))) (sym h))));
}

-- The line of the product.
pub line_taken : {a b : Work} {n : ℕ} (t u : ℕ) (x y : Name) → y ≡ x → b.meter ≡ a.meter → IsTerm b.proof.now n (named_pi y (term_in a t) (term_in a u)) → within (named_pi y (term_in a t) (term_in a u)) ≡ true → Came a b (term_in b) (Ok n) (limited (named_pi x (term_in a t) (term_in a u)))
line_taken {a} t u x y e m i w = comes_to (ap (λ z. limited (named_pi z (term_in a t) (term_in a u))) e) (taken m i.1 w)

pub line_untaken : {X : Type 0} {a b : Work} {value : X → Named} {h : ProveFault} (t u : ℕ) (x y : Name) (e : TermFault) → y ≡ x → b.meter ≡ a.meter → h ≡ of_making e → WhyNot e (named_pi y (term_in a t) (term_in a u)) → Came a b value (Err h) (limited (named_pi x (term_in a t) (term_in a u)))
line_untaken {a = a} t u x y e q m f w = comes_to (ap (λ z. limited (named_pi z (term_in a t) (term_in a u))) q) (untaken e (named_pi y (term_in a t) (term_in a u)) m f w)

-- The product.
pub is_pi : {a b : Work} {n t u : ℕ} (x : Name) → Grown a b → HasTerm a t → HasTerm a u → IsTerm b.proof.now n (named_pi x (term_in a t) (term_in a u)) → IsPi b n t u
is_pi {a} {b} {n} {t} {u} x g h i e = record {
  product = record { there = e.0 };
  domain = term_later g h;
  body = term_later g i;
  is = made_pi a.proof.now b.proof.now n t u x g.keeps h.there i.there e.1;
}

cut_parts : {w : Work} {p : Place} {l : LemmaParts} {n : ℕ} {j : Judged} → AreParts w p l → IsPi w n l.lemma.judged.subject l.body.judged.subject → Judges w.proof.now p.ctx j → j.subject ≡ n → IsSort w.proof.now j.claim → IsProduct w.proof.now p.ctx j l.lemma.judged l.inner l.body.judged
cut_parts {w} h i g e s = record {
  product = (g, s);
  domain = (h.lemma.judged.judges, is_sort h.lemma);
  inner = h.inner;
  body = (h.body.judged.judges, is_sort h.body);
  parts = ap (bare_at w.proof.now.shapes) e ∙ i.is;
}

pub is_cut : {a b : Work} {p : Place} {l : LemmaParts} {n q : ℕ} {j : Judged} → Grown a b → AreParts a p l → IsPi a n l.lemma.judged.subject l.body.judged.subject → Judges b.proof.now p.ctx j → j.subject ≡ n → named_at b.proof.now.shapes j.claim ≡ sort q → IsCut b p l j
is_cut {b = b} {l = l} {q = q} {j = j} g h i k e s =
    let m = parts_later g h in
    record { parts = m; product = cut_parts m (pi_later g i) k e (ap (λ u. is_some (sort_in u)) (plain_sort b.proof.now.shapes j.claim q s)) }

pub cut_fits : {w : Work} {p : Place} {l : LemmaParts} {j : Judged} (x : Name) → IsCut w p l j → FitsAt w p (Cut x l.lemma.judged j l.inner l.body.judged)
cut_fits {w} {p} {l} {j} x h = record {
  fits = λ g c s.
      let r = w.proof.now in
      let e = plain r.shapes l.body.judged.subject _ h.parts.statement ∙ bare_lift 0 1 (term_in w p.statement) ∙ ap (lift 0 1) (sym (plain r.shapes p.statement _ refl)) ∙ ap (λ t. lift 0 1 (bare_at r.shapes t)) (sym s) in
      (subst (λ c. IsProduct r c j l.lemma.judged l.inner l.body.judged) (sym c) h.product, e);
}

-- The rule and the product, one after the other.
module _ {a : Work} {p : Place} {l : LemmaParts} (x : Name) (h : AreParts a p l) where
  pub cut_unruled : {r : Result Step ProveFault} {e : ProveFault} → IsErr r × IsErrAnd r (λ y. y ≡ e) → Came a a (λ (q : Sort). sort q.0) (Err e) (ruling a l.lemma.sort.0 l.body.sort.0) → Came a a (refinement_of a.proof.now) r (cutting a p x (term_in a l.lemma.judged.subject) l.lemma.sort.0 l.body.sort.0)
  cut_unruled i w = stops _ i w

  module _ {q : Sort} (w : Came a a (λ (q : Sort). sort q.0) (Ok q) (ruling a l.lemma.sort.0 l.body.sort.0)) where
    line_is : limited {F = Refusal} (named_pi x (term_in a l.lemma.judged.subject) (term_in a l.body.judged.subject)) ≡ limited (named_pi x (term_in a l.lemma.judged.subject) (lift 0 1 (term_in a p.statement)))
    line_is = ap (λ B. limited (named_pi x (term_in a l.lemma.judged.subject) B)) h.statement

    pub cut_large : {b : Work} {r : Result Step ProveFault} {e : ProveFault} → IsErr r × IsErrAnd r (λ y. y ≡ e) → Came a b (term_in b) (Err e) (limited (named_pi x (term_in a l.lemma.judged.subject) (term_in a l.body.judged.subject))) → Came a b (refinement_of b.proof.now) r (cutting a p x (term_in a l.lemma.judged.subject) l.lemma.sort.0 l.body.sort.0)
    cut_large i v = goes_on _ (one_turned _ _ (one_free _)) w (stops _ i (comes_to line_is v))

    pub cut_comes : {b c : Work} {n : ℕ} {j : Judged} {y : Name} → Grown a b → Grown b c → c.meter ≡ b.meter → y ≡ x → Came a b (term_in b) (Ok n) (limited (named_pi x (term_in a l.lemma.judged.subject) (term_in a l.body.judged.subject))) → Came a c (refinement_of c.proof.now) (Ok (Cut y l.lemma.judged j l.inner l.body.judged)) (cutting a p x (term_in a l.lemma.judged.subject) l.lemma.sort.0 l.body.sort.0)
    cut_comes {b} {c} {y = y} g k m e v =
        let f = grown_trans g k in
        let t = tree_stays a.proof.now c.proof.now l.lemma.judged.subject f.keeps h.lemma.judged.judges.0 in
        let u = tree_stays a.proof.now c.proof.now l.body.judged.subject f.keeps h.body.judged.judges.0 ∙ h.statement in
        let z : by_lemma y (term_in c l.lemma.judged.subject) (term_in c l.body.judged.subject) ≡ by_lemma x (term_in a l.lemma.judged.subject) (lift 0 1 (term_in a p.statement)) = rw (e, t, u) refl in
        goes_on _ (one_turned _ _ (one_free _)) w (
        goes_on _ (one_free _) (comes_to line_is v) (
        ended_later (by_lemma x (term_in a l.lemma.judged.subject) (lift 0 1 (term_in a p.statement))) m z))

-- The whole command.
module _ {a b : Work} {p : Place} (x : Name) (T : Named) (y : place_in_scope a.front.now.entries a.names.now x ≡ None) (q : IsAsked a p) where
  -- the lemma is too large
  pub cut_untaken : {r : Result Step ProveFault} {e : ProveFault} → IsErr r × IsErrAnd r (λ z. z ≡ e) → Came a b (term_in b) (Err e) (limited T) → Came a b (refinement_of b.proof.now) r (cuts a.system.now a.front.now.entries (sequent_at a p) x T)
  cut_untaken i w = fresh_first x _ y (stops _ i w)

  module _ {n : ℕ} (g : Grown a b) (w : Came a b (term_in b) (Ok n) (limited T)) where
    -- it has no sort
    pub cut_unsorted : {c : Work} {r : Result Step ProveFault} {e : ProveFault} → IsErr r × IsErrAnd r (λ z. z ≡ e) → Came b c (λ (s : Sorted). s.sort.0) (Err e) (sorting b p.ctx Ty n) → Came a c (refinement_of c.proof.now) r (cuts a.system.now a.front.now.entries (sequent_at a p) x T)
    cut_unsorted i v = fresh_first x _ y (goes_on _ (one_free _) w (stops _ i (comes_to (sorting_since Ty n g q.place) v)))

    module _ {c : Work} {l : Sorted} (h : Grown b c) (v : Came b c (λ (s : Sorted). s.sort.0) (Ok l) (sorting b p.ctx Ty n)) (e : l.judged.subject ≡ n) (t : HasTerm b n) where
      subject_is : term_in c l.judged.subject ≡ term_in b n
      subject_is = ap (term_in c) e ∙ term_stays h t

      lemma_since : sorting_lemma c x p (term_in c l.judged.subject) ≡ sorting_lemma a x p (term_in b n)
      lemma_since =
          let k = grown_trans g h in
          let s = k.system in
          let f = k.front in
          let m = entries_stay a.proof.now c.proof.now p.ctx k.keeps q.place.there in
          let u = term_stays k q.statement in
          let z = subject_is in
          rw (s, f, m, u, z) refl

      -- the goal under it has none
      pub cut_open : {d : Work} {r : Result Step ProveFault} {f : ProveFault} → IsErr r × IsErrAnd r (λ z. z ≡ f) → Came c d (λ (o : LemmaParts). o.body.sort.0) (Err f) (sorting_lemma c x p (term_in c l.judged.subject)) → Came a d (refinement_of d.proof.now) r (cuts a.system.now a.front.now.entries (sequent_at a p) x T)
      cut_open i u =
          fresh_first x _ y (
          goes_on _ (one_free _) w (
          goes_on _ (one_sorted a.system.now a.front.now.entries (entries_of a.proof.now p.ctx) of_type (term_in b n)) (comes_to (sorting_since Ty n g q.place) v) (
          stops _ i (comes_to lemma_since u))))

      -- it has one
      pub cut_goes_on : {d k : Work} {r : Result Step ProveFault} {o : LemmaParts} → Grown c d → o.lemma ≡ l → Came c d (λ (o : LemmaParts). o.body.sort.0) (Ok o) (sorting_lemma c x p (term_in c l.judged.subject)) → Came d k (refinement_of k.proof.now) r (cutting d p x (term_in d o.lemma.judged.subject) o.lemma.sort.0 o.body.sort.0) → Came a k (refinement_of k.proof.now) r (cuts a.system.now a.front.now.entries (sequent_at a p) x T)
      cut_goes_on {d} {o = o} i f u z =
          let m = grown_trans (grown_trans g h) i in
          let s = m.system in
          let j = term_stays m q.statement in
          let t1 = ap (λ l. term_in d l.judged.subject) f ∙ ap (term_in d) e ∙ term_stays (grown_trans h i) t in
          let t2 = ap (λ l. l.sort.0) f in
          let c1 : cutting d p x (term_in d o.lemma.judged.subject) o.lemma.sort.0 o.body.sort.0 ≡ cutting a p x (term_in b n) l.sort.0 o.body.sort.0 = rw (s, j, t1, t2) refl in
          fresh_first x _ y (
          goes_on _ (one_free _) w (
          goes_on _ (one_sorted a.system.now a.front.now.entries (entries_of a.proof.now p.ctx) of_type (term_in b n)) (comes_to (sorting_since Ty n g q.place) v) (
          goes_on _ (one_turned _ _ (sorts_once a.system.now a.front.now.entries 4000 (assumed (term_in b n) ∷ entries_of a.proof.now p.ctx) (lift 0 1 (term_in a p.statement)))) (comes_to lemma_since u) (
          comes_to c1 z))))

pub ruleset cutting_goes_on = (under_later, parts_later, pi_later, under_asked)
