-- Every filling-out of a sound open record can be closed: the lines that the code adds, as a law.
use Rattle.std.proofs.Common.{◌≡◌, ℕ, zero, suc, pred, ◌<◌, ◌≤◌, ◌+◌, ◌-◌, List, [], ◌∷◌, ◌++◌, length, refl, sym, ap, ◌∙◌, subst, Option, Some, None, true, arith}
use Rattle.std.specs.Prelude.{slice_get, take, drop}
use Rattle.std.proofs.lemmas.List.{length-append}
use mathlib.Core.Path.{ap₂}
use Rattle.pts_names.specs.Name.{Name}
use Rattle.pts_terms.specs.Limits.{within}
use Rattle.pts_terms.specs.Tree.{Named, Bare, bare, app, named_lam, lam, pi, lift, subst as put_in}
use Rattle.pts_terms.proofs.Same.{same_term_self}
use Rattle.pts_ctx.specs.System.{Specification}
use Rattle.pts_ctx.specs.Front.{Front}
use Rattle.pts_record.specs.declared.shape.Shape.{Shape}
use Rattle.pts_record.specs.declared.shape.Shape.TheVariants.{App as AppShape, Lam as LamShape}
use Rattle.pts_record.specs.declared.shape.Form.TheVariants.{LamAt, AppAt, Conv, Same}
use Rattle.pts_record.specs.declared.shape.Node.{Node}
use Rattle.pts_record.specs.Table.{Tables, named_at, bare_at, bare_trees, named_trees, NodesLinked, AllBelow, node_links, term_links, unfold_shape, the_name}
use Rattle.pts_record.specs.Said.{told, named_told, scope_of, row_of_node, say_as, judgement, comparison}
use Rattle.pts_record.proofs.Linked.{nodes_push, nodes_more}
use Rattle.pts_rules.specs.Conditions.{form_fault}
use Rattle.pts_grow.specs.declared.compared.Compared.{Compared}
use Rattle.pts_grow.specs.Keeps.{Keeps, StaysValid, IsTerm, IsNode, Compares}
use Rattle.pts_grow.proofs.Grow.{with_term, with_node, keeps_term, valid_term, term_new, keeps_node, node_new, valid_node, keeps_trans, keeps_refl, valid_refl, valid_trans, tree_stays, bare_stays, stays, node_stays}
use Rattle.pts_grow.proofs.Instances.{new_compares, same_ok}
use Rattle.pts_grow.specs.declared.judged.Judged.{Judged}
use Rattle.pts_grow.specs.Judges.{IsTypedContext, Judges, IsSort, JudgesSort, IsProduct}
use Rattle.pts_grow.proofs.Judgements.{still_judges, still_typed, still_sort, new_judges}
use Rattle.pts_grow.proofs.Plain.{plain_app, plain_lam}
use Rattle.pts_grow.proofs.Binders.{lam_ok, app_ok}
use Rattle.pts_grow.proofs.Converted.{conv_ok}
use Rattle.pts_goals.specs.declared.step.Goal.{Goal}
use Rattle.pts_goals.specs.Steps.{IsGoal, Closes, Converts}
use Rattle.pts_goals.specs.declared.step.FilledGoal.{FilledGoal}
use Rattle.pts_goals.specs.declared.step.Step.{Step}
use Rattle.pts_goals.specs.declared.step.Step.TheVariants.{Intro, Exact, Cut, Apply, Change}
use Rattle.pts_goals.specs.declared.step.Link.{Link}
use Rattle.pts_goals.specs.declared.step.Reduction.{Reduction}
use Rattle.pts_goals.specs.Steps.{Fits, ReducesTo, IsLink, LinksFit, subgoals, arity, step_term, argument_arity, links_arity, spine}
use Rattle.pts_goals.specs.OpenGoals.{AllClose, Makes, OpenAfter, ClosedAfter, IsOpenProof, subjects_of}
use Rattle.pts_goals.specs.Parts.{OnSpine}
use Rattle.pts_goals.specs.OpenProofs.{OpenProof}
use Rattle.pts_goals.specs.FillingOut.{IsLinked, FillsOut, IsSound}
use Rattle.pts_goals.proofs.Application.{starts, ends, the_argument, argument_facts, here_within, chain_on}
use Rattle.pts_goals.proofs.Backward.{enough, a_goal, a_fit, parts_close, part_within, went_on, place, all_done, chain_head}
use Rattle.pts_goals.proofs.Filling.{reached_kept}
use Rattle.pts_goals.proofs.Within.{put_back_at, function_within}
use Rattle.pts_goals.proofs.Kept.{still_goal, still_same, still_product, still_closes, still_joined}

-- A record that grew.
pub record Grown (a b : Tables) : Type 0 where
  pub keeps : Keeps a b
  pub linked : IsLinked b
  pub valid : StaysValid a b

pub grown_on : (a b c : Tables) → Grown a b → Grown b c → Grown a c
grown_on a b c g h = record { keeps = keeps_trans a b c g.keeps h.keeps; linked = h.linked; valid = valid_trans a b c g.valid h.valid }

with_term_grown : (r : Tables) (s : Shape) → IsLinked r → Grown r (with_term r s)
with_term_grown r s l = let n = length-append r.shapes (s ∷ []) in record {
  keeps = keeps_term r s l;
  linked = nodes_more r.nodes (length r.shapes) (length (r.shapes ++ s ∷ [])) 0 (omega (arith, n)) l;
  valid = valid_term r s l;
}

pub with_node_grown : (r : Tables) (n : Node) → IsLinked r → AllBelow (length r.nodes) (node_links n) → AllBelow (length r.shapes) (term_links n) → ((S : Specification) (G : Front) → form_fault S G n.form (row_of_node (bare_trees r.shapes) n) (told r n.ctx) (told r n.first) (told r n.second) (told r n.third) ≡ None) → Grown r (with_node r n)
with_node_grown r n l a b f = record {
  keeps = keeps_node r n;
  linked = nodes_push r.nodes (length r.shapes) 0 n l (subst (λ k. AllBelow k (node_links n)) (let e : length r.nodes ≡ 0 + length r.nodes = omega arith in e) a) b;
  valid = λ S G v. valid_node r n S G (f S G) v;
}

-- A record that grew, with a judgement of the term t in the context c, whose claim is the tree T.
pub record Judging (a : Tables) (c : ℕ) (t : Named) (T : Bare) : Type 0 where
  pub record_of : Tables
  pub grown : Grown a record_of
  pub judged : Judged
  pub judges : Judges record_of c judged
  pub term : named_at record_of.shapes judged.subject ≡ t
  pub claim : bare_at record_of.shapes judged.claim ≡ T

module _ (r : Tables) (l : IsLinked r) (c : ℕ) (h : c < length r.nodes) (k : IsTypedContext r c) where
  -- the abstraction
  lam_grows : (x : Name) (p d : Judged) (i : ℕ) (s b : Judged) → IsProduct r c p d i s → Judges r i b → bare_at r.shapes b.claim ≡ bare_at r.shapes s.subject → Judging r c (named_lam x (named_at r.shapes d.subject) (named_at r.shapes b.subject)) (bare_at r.shapes p.subject)
  lam_grows x p d i s b q j e =
      let shape = LamShape x d.subject b.subject in
      let u = with_term r shape in
      let g = with_term_grown r shape l in
      let f = length r.shapes in
      let y = term_new r shape in
      let w = still_product r u g.keeps c p d i s h q in
      let hu = node_stays r u c g.keeps h in
      let ku = still_typed r u c g.keeps h k in
      let ju = still_judges r u i b g.keeps q.inner.0 j in
      let eu = still_same r u g.keeps b.claim s.subject j.1 q.body.0.0 e in
      let parts = plain_lam r u f g.keeps x d.subject b.subject q.domain.0.0 j.0 y.1 in
      let n : Node = record { form = LamAt; ctx = c; subject = f; claim = p.subject; first = b.node; second = p.node; third = 0 } in
      let ty = w.parts ∙ ap (pi (bare_at u.shapes d.subject)) (sym eu) in
      let v = with_node_grown u n g.linked (hu, (ju.2.0, (w.product.0.2.0, tt))) (y.0, (w.product.0.0, tt)) (λ S G. lam_ok u c ku S G f p.subject d i b p w.inner ju w.product.0 parts ty refl w.product.1) in
      let z = with_node u n in
      let m = new_judges u z c f p.subject (length u.nodes) v.keeps refl hu y.0 w.product.0.0 (node_new u n) in
      record {
        record_of = z;
        grown = grown_on r u z g v;
        judged = record { subject = f; claim = p.subject; node = length u.nodes };
        judges = m;
        term = tree_stays u z f v.keeps y.0 ∙ y.1;
        claim = bare_stays u z p.subject v.keeps w.product.0.0 ∙ bare_stays r u p.subject g.keeps q.product.0.0;
      }

  -- the application
  app_grows : (f a : Judged) (A B C : ℕ) → Judges r c f → Judges r c a → A < length r.shapes → B < length r.shapes → C < length r.shapes → bare_at r.shapes f.claim ≡ pi (bare_at r.shapes A) (bare_at r.shapes B) → bare_at r.shapes a.claim ≡ bare_at r.shapes A → bare_at r.shapes C ≡ put_in 0 (bare_at r.shapes a.subject) (bare_at r.shapes B) → Judging r c (app (named_at r.shapes f.subject) (named_at r.shapes a.subject)) (bare_at r.shapes C)
  app_grows f a A B C jf ja hA hB hC e d t =
      let shape = AppShape f.subject a.subject in
      let u = with_term r shape in
      let g = with_term_grown r shape l in
      let s = length r.shapes in
      let y = term_new r shape in
      let hu = node_stays r u c g.keeps h in
      let ku = still_typed r u c g.keeps h k in
      let fu = still_judges r u c f g.keeps h jf in
      let au = still_judges r u c a g.keeps h ja in
      let CU = stays r u C g.keeps hC in
      let parts = plain_app r u s g.keeps f.subject a.subject jf.0 ja.0 y.1 in
      let eu = bare_stays r u f.claim g.keeps jf.1 ∙ e ∙ ap₂ pi (sym (bare_stays r u A g.keeps hA)) (sym (bare_stays r u B g.keeps hB)) in
      let du = still_same r u g.keeps a.claim A ja.1 hA d in
      let tu = bare_stays r u C g.keeps hC ∙ t ∙ ap₂ (put_in 0) (sym (bare_stays r u a.subject g.keeps ja.0)) (sym (bare_stays r u B g.keeps hB)) in
      let n : Node = record { form = AppAt; ctx = c; subject = s; claim = C; first = f.node; second = a.node; third = 0 } in
      let v = with_node_grown u n g.linked (hu, (fu.2.0, (au.2.0, tt))) (y.0, (CU, tt)) (λ S G. app_ok u c ku S G s C f a A B fu au eu du parts tu) in
      let z = with_node u n in
      record {
        record_of = z;
        grown = grown_on r u z g v;
        judged = record { subject = s; claim = C; node = length u.nodes };
        judges = new_judges u z c s C (length u.nodes) v.keeps refl hu y.0 CU (node_new u n);
        term = tree_stays u z s v.keeps y.0 ∙ y.1;
        claim = bare_stays u z C v.keeps CU ∙ bare_stays r u C g.keeps hC;
      }

  -- the conversion
  conv_grows : (j s : Judged) (C : ℕ) (o : Compared) → Judges r c j → JudgesSort r c s → C < length r.shapes → Compares r c o → bare_at r.shapes C ≡ bare_at r.shapes s.subject → bare_at r.shapes o.left ≡ bare_at r.shapes j.claim → bare_at r.shapes o.right ≡ bare_at r.shapes C → Judging r c (named_at r.shapes j.subject) (bare_at r.shapes C)
  conv_grows j s C o jj js hC jo e x y =
      let n : Node = record { form = Conv; ctx = c; subject = j.subject; claim = C; first = j.node; second = s.node; third = o.node } in
      let v = with_node_grown r n l (h, (jj.2.0, (js.0.2.0, (jo.2.0, tt)))) (jj.0, (hC, tt)) (λ S G. conv_ok r c k S G j.subject C j s o jj js.0 jo refl e js.1 x y) in
      let z = with_node r n in
      record {
        record_of = z;
        grown = v;
        judged = record { subject = j.subject; claim = C; node = length r.nodes };
        judges = new_judges r z c j.subject C (length r.nodes) v.keeps refl h jj.0 hC (node_new r n);
        term = tree_stays r z j.subject v.keeps jj.0;
        claim = bare_stays r z C v.keeps hC;
      }

stay : (r : Tables) (c : ℕ) (t : Named) (T : Bare) (j : Judged) → IsLinked r → Judges r c j → named_at r.shapes j.subject ≡ t → bare_at r.shapes j.claim ≡ T → Judging r c t T
stay r c t T j l q e f = record { record_of = r; grown = record { keeps = keeps_refl r; linked = l; valid = valid_refl r }; judged = j; judges = q; term = e; claim = f }

-- What comes after what came.
after : (a b : Tables) (c : ℕ) (t : Named) (T : Bare) → Grown a b → Judging b c t T → Judging a c t T
after a b c t T g d = record { record_of = d.record_of; grown = grown_on a b d.record_of g d.grown; judged = d.judged; judges = d.judges; term = d.term; claim = d.claim }

same_judging : (a : Tables) (c : ℕ) (t u : Named) (T U : Bare) → t ≡ u → T ≡ U → Judging a c t T → Judging a c u U
same_judging a c t u T U e f d = record { record_of = d.record_of; grown = d.grown; judged = d.judged; judges = d.judges; term = d.term ∙ e; claim = d.claim ∙ f }

-- The judgement with the claim that it is compared with.
change_grows : (r : Tables) → IsLinked r → (g : Goal) → IsGoal r g → (j : Judged) (o : Option Compared) → Judges r g.ctx j → Converts r g.ctx (bare_at r.shapes j.claim) (bare_at r.shapes g.statement) o → Judging r g.ctx (named_at r.shapes j.subject) (bare_at r.shapes g.statement)
change_grows r l g n j None q e = stay r g.ctx (named_at r.shapes j.subject) (bare_at r.shapes g.statement) j l q refl e
change_grows r l g n j (Some o) q (m, x, y) = conv_grows r l g.ctx n.ctx n.typed j g.sorted g.statement o q n.sorted n.statement m (sym n.same) x y

reduced_grows : (r : Tables) → IsLinked r → (c : ℕ) → c < length r.nodes → IsTypedContext r c → (j : Judged) (P : Bare) (d : Option Reduction) → Judges r c j → ReducesTo r c (bare_at r.shapes j.claim) P d → Judging r c (named_at r.shapes j.subject) P
reduced_grows r l c h k j P None q e = stay r c (named_at r.shapes j.subject) P j l q refl e
reduced_grows r l c h k j P (Some d) q (m, e, o, x, y) =
    same_judging r c (named_at r.shapes j.subject) (named_at r.shapes j.subject) (bare_at r.shapes d.sorted.subject) P refl e (conv_grows r l c h k j d.sorted d.sorted.subject d.compared q m m.0.0 o refl x (y ∙ sym e))

-- One application of a spine.
link_grows : (r : Tables) → IsLinked r → (c : ℕ) → c < length r.nodes → IsTypedContext r c → (j : Judged) (l : Link) (a : Judged) → Judges r c j → IsLink r c (bare_at r.shapes j.claim) l → Judges r c a → bare_at r.shapes a.claim ≡ bare_at r.shapes l.domain → bare_at r.shapes l.after ≡ put_in 0 (bare_at r.shapes a.subject) (bare_at r.shapes l.codomain) → Judging r c (app (named_at r.shapes j.subject) (named_at r.shapes a.subject)) (bare_at r.shapes l.after)
link_grows r w c h k j l a q i ja d t =
    let m = reduced_grows r w c h k j (pi (bare_at r.shapes l.domain) (bare_at r.shapes l.codomain)) l.change q i.change in
    let u = m.record_of in
    let g = m.grown.keeps in
    let A = stays r u l.domain g i.domain in
    let B = stays r u l.codomain g i.codomain in
    let C = stays r u l.after g i.after in
    let au = still_judges r u c a g h ja in
    let e = m.claim ∙ ap₂ pi (sym (bare_stays r u l.domain g i.domain)) (sym (bare_stays r u l.codomain g i.codomain)) in
    let du = still_same r u g a.claim l.domain ja.1 i.domain d in
    let tu = bare_stays r u l.after g i.after ∙ t ∙ ap₂ (put_in 0) (sym (bare_stays r u a.subject g ja.0)) (sym (bare_stays r u l.codomain g i.codomain)) in
    let z = app_grows u m.grown.linked c (node_stays r u c g h) (still_typed r u c g h k) m.judged a l.domain l.codomain l.after m.judges au A B C e du tu in
    after r u c (app (named_at r.shapes j.subject) (named_at r.shapes a.subject)) (bare_at r.shapes l.after) m.grown
    (same_judging u c (app (named_at u.shapes m.judged.subject) (named_at u.shapes a.subject)) (app (named_at r.shapes j.subject) (named_at r.shapes a.subject)) (bare_at u.shapes l.after) (bare_at r.shapes l.after) (ap₂ app m.term (tree_stays r u a.subject g ja.0)) (bare_stays r u l.after g i.after) z)

-- A record that grew, with a judgement of the term t that closes the goal.
pub record Closing (a : Tables) (g : Goal) (t : Named) : Type 0 where
  pub record_of : Tables
  pub grown : Grown a record_of
  pub judged : Judged
  pub closes : Closes record_of g judged
  pub term : named_at record_of.shapes judged.subject ≡ t

closing : (a : Tables) (g : Goal) (t : Named) → IsGoal a g → Judging a g.ctx t (bare_at a.shapes g.statement) → Closing a g t
closing a g t n d = record {
  record_of = d.record_of;
  grown = d.grown;
  judged = d.judged;
  closes = record { judges = d.judges; claim = d.claim ∙ sym (bare_stays a d.record_of g.statement d.grown.keeps n.statement) };
  term = d.term;
}

closing_after : (a b : Tables) (g : Goal) (t : Named) → Grown a b → Closing b g t → Closing a g t
closing_after a b g t k d = record { record_of = d.record_of; grown = grown_on a b d.record_of k d.grown; judged = d.judged; closes = d.closes; term = d.term }

chain_grows : (r : Tables) (w : IsLinked r) (g : Goal) (n : IsGoal r g) (j : Judged) (ls : List Link) (parts : List Judged) (t : Named) → within t ≡ true → links_arity ls ≤ length parts → OnSpine r g j ls parts t → Closing r g t
chain_grows r w g n j [] parts t v h c =
    let e = ends r g j [] parts t c refl in
    record { record_of = r; grown = record { keeps = keeps_refl r; linked = w; valid = valid_refl r }; judged = j; closes = e.0; term = e.1 }
chain_grows r w g n j (l ∷ ls) parts t v h c =
    let f = argument_facts r g n j l ls parts t v h c in
    let a = the_argument r g n j l ls parts t v h c in
    let m = link_grows r w g.ctx n.ctx n.typed j l a c.judges c.fits.0 f.0 f.1 f.2 in
    let u = m.record_of in
    let o = chain_on r g n j l ls parts t v h c u m.judged m.grown.keeps m.judges (m.claim ∙ sym (bare_stays r u l.after m.grown.keeps c.fits.0.after)) m.term in
    closing_after r u g t m.grown (chain_grows u m.grown.linked g (still_goal r u m.grown.keeps g n) m.judged ls parts t v (omega (arith, h)) o)

step_grows : (r : Tables) (w : IsLinked r) (g : Goal) (n : IsGoal r g) (s : Step) (parts : List Judged) → Fits r g s → AllClose r (subgoals g s) parts → within (step_term r s (subjects_of r parts)) ≡ true → Closing r g (step_term r s (subjects_of r parts))
step_grows r w g n (Intro x p d i s o) (b ∷ []) q c v =
    let m = lam_grows r w g.ctx n.ctx n.typed x p d i s b q.0 c.0.judges c.0.claim in
    let u = m.record_of in
    let k = m.grown.keeps in
    let nu = still_goal r u k g n in
    let J = still_joined r u k g.ctx p.subject g.statement o n.ctx q.0.product.0.0 n.statement q.1 in
    let e : bare_at u.shapes m.judged.claim ≡ bare_at u.shapes p.subject = m.claim ∙ sym (bare_stays r u p.subject k q.0.product.0.0) in
    let z = change_grows u m.grown.linked g nu m.judged o m.judges (subst (λ T. Converts u g.ctx T (bare_at u.shapes g.statement) o) (sym e) J) in
    let t = named_lam x (named_at r.shapes d.subject) (named_at r.shapes b.subject) in
    closing_after r u g t m.grown (closing u g t nu (same_judging u g.ctx (named_at u.shapes m.judged.subject) t (bare_at u.shapes g.statement) (bare_at u.shapes g.statement) m.term refl z))
step_grows r w g n (Exact j) [] q c v = record { record_of = r; grown = record { keeps = keeps_refl r; linked = w; valid = valid_refl r }; judged = j; closes = q; term = refl }
step_grows r w g n (Cut x l p i s) (b ∷ a ∷ []) q c v =
    let m = lam_grows r w g.ctx n.ctx n.typed x p l i s b q.0 c.0.judges c.0.claim in
    let u = m.record_of in
    let k = m.grown.keeps in
    let nu = still_goal r u k g n in
    let P = still_product r u k g.ctx p l i s n.ctx q.0 in
    let L = bare_stays r u s.subject k q.0.body.0.0 ∙ q.1 ∙ ap (lift 0 1) (sym (bare_stays r u g.statement k n.statement)) in
    let au = still_judges r u g.ctx a k n.ctx c.1.0.judges in
    let e : bare_at u.shapes m.judged.claim ≡ pi (bare_at u.shapes l.subject) (bare_at u.shapes s.subject) = m.claim ∙ sym (bare_stays r u p.subject k q.0.product.0.0) ∙ P.parts in
    let d = still_same r u k a.claim l.subject c.1.0.judges.1 q.0.domain.0.0 c.1.0.claim in
    let t = put_back_at (bare_at u.shapes a.subject) (bare_at u.shapes g.statement) (bare_at u.shapes s.subject) (bare_at u.shapes g.statement) L refl in
    let z = app_grows u m.grown.linked g.ctx nu.ctx nu.typed m.judged a l.subject s.subject g.statement m.judges au P.domain.0.0 P.body.0.0 nu.statement e d t in
    let f = app (named_lam x (named_at r.shapes l.subject) (named_at r.shapes b.subject)) (named_at r.shapes a.subject) in
    closing_after r u g f m.grown (closing u g f nu (same_judging u g.ctx (app (named_at u.shapes m.judged.subject) (named_at u.shapes a.subject)) f (bare_at u.shapes g.statement) (bare_at u.shapes g.statement) (ap₂ app m.term (tree_stays r u a.subject k c.1.0.judges.0)) refl z))
step_grows r w g n (Apply f ls) parts q c v =
    let s = starts r g f ls parts q.0 q.2 c in
    let e = s.1 in
    chain_grows r w g n f ls parts (spine r (named_at r.shapes f.subject) ls (subjects_of r parts)) v (omega (arith, e)) s.0
step_grows r w g n (Change t s o) (j ∷ []) q c v =
    let e : Converts r g.ctx (bare_at r.shapes j.claim) (bare_at r.shapes g.statement) (Some o) = subst (λ T. Converts r g.ctx T (bare_at r.shapes g.statement) (Some o)) (sym c.0.claim) q.3 in
    closing r g (named_at r.shapes j.subject) n (change_grows r w g n j (Some o) c.0.judges e)
step_grows r w g n (Intro x p d i s o) [] q c v = absurd c
step_grows r w g n (Intro x p d i s o) (a ∷ b ∷ ps) q c v = absurd c.1
step_grows r w g n (Exact j) (b ∷ ps) q c v = absurd c
step_grows r w g n (Cut x l p i s) [] q c v = absurd c
step_grows r w g n (Cut x l p i s) (a ∷ []) q c v = absurd c.1
step_grows r w g n (Cut x l p i s) (a ∷ b ∷ d ∷ ps) q c v = absurd c.1.1
step_grows r w g n (Change t s o) [] q c v = absurd c
step_grows r w g n (Change t s o) (a ∷ b ∷ ps) q c v = absurd c.1

-- All steps, from the last one on.
pub steps_grow : (r : Tables) (root : Goal) (n : IsGoal r root) (ss : List FilledGoal) (i : ℕ) (p : Tables) (w : IsLinked p) (js : List Judged) (us : List Named) → Keeps r p → ClosedAfter r root ss i p js us → (z : Tables) × Grown p z × (j : Judged) × Closes z root j × Makes r ss (length ss) us (named_at z.shapes j.subject)
steps_grow r root n ss zero p w js us k d =
    let (j, e, c, o) = all_done r root ss p js us d in
    (p, record { keeps = keeps_refl p; linked = w; valid = valid_refl p }, j, c, o)
steps_grow r root n ss (suc i) p w js us k d =
    let f = d.reached.0 in
    let u = d.reached.2 in
    let e = u.found in
    let m = place r root n ss i p js us f k e d in
    let c = step_grows p w f.goal (a_goal r root n ss i p js us f k e d) f.step (drop m js) (a_fit r root n ss i p js us f k e d) (parts_close r root n ss i p js us f k e d) (part_within r root n ss i p js us f k e d) in
    let z = c.record_of in
    let q = went_on r root n ss i p js us f k e d z c.judged c.grown.keeps c.closes c.term in
    let (y, g, j, h, o) = steps_grow r root n ss i z c.grown.linked (take m js ++ c.judged ∷ []) us (keeps_trans r p z k c.grown.keeps) q in
    (y, grown_on p z y c.grown g, j, h, o)
