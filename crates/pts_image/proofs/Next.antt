-- One more argument after the earlier ones.
use Rattle.std.proofs.Common.{ℕ, List, [], ◌∷◌, ◌++◌, ◌⊎◌, inl, inr, map, length, Bool, true, false, ◌≡◌, ◌<◌, ◌+◌, refl, sym, ap, ◌∙◌, arith, subst, Option, Some, None}
use Rattle.std.specs.Prelude.{if◌then◌else◌, pred}
use mathlib.Core.Path.{ap₂}
use Rattle.std.proofs.lemmas.List.{length-append, length-map}
use Rattle.pts_names.specs.Name.{Name, same_name}
use Rattle.pts_names.proofs.Same.{same_name-self}
use Rattle.pts_terms.specs.Tree.{Tree, Bare, sort, const, Below}
use Rattle.pts_terms.specs.Replaced.{replaced}
use Rattle.pts_ctx.specs.System.{Specification}
use Rattle.pts_ctx.specs.Front.{Global, Front, Fresh, find, assumption, definition}
use Rattle.pts_ctx.proofs.Find.{find_split}
use Rattle.pts_record.specs.Table.{Tables, at, bare_trees}
use Rattle.pts_record.specs.Said.{nothing, context, judgement, told, is_context}
use Rattle.pts_rules.specs.Derives.{Derives, Legal, legal_empty, legal_assumption, legal_definition}
use Rattle.pts_rules.specs.Conditions.{Link}
use Rattle.pts_rules.specs.Valid.{IsValid, concludes, last_said}
use Rattle.pts_rules.proofs.Prefix.{prefix_legal}
use Rattle.pts_rules.proofs.ThinRecord.{thin_record}
use Rattle.pts_rules.proofs.Thinning.{longer_has_entries}
use Rattle.pts_image.specs.declared.replacement.Replacement.{Replacement}
use Rattle.pts_image.specs.declared.replacement.Replacement.TheVariants.{Constant, Argument}
use Rattle.pts_image.specs.Image.{entry_image, empty_scope, Closed, scope_image, said_image}
use Rattle.pts_image.specs.Appending.{IsLinked, IsAmong, term_for, term_of, shape_image, new_number, numbering_after, image_after}
use Rattle.pts_image.specs.Interpretation.{Interprets, Interpretation}
use Rattle.pts_image.specs.Graft.{same_constant}
use Rattle.pts_image.specs.Substitution.{last_node}
use Rattle.pts_image.specs.Following.{replace_also, with_argument, replace_next, Follow, instance_pair, AreFresh, AreNamed}
use Rattle.pts_image.proofs.Appended.{there, below_or}
use Rattle.pts_image.proofs.ImageTrees.{at_new_number, at_old_number}
use Rattle.pts_image.proofs.Fixed.{replaced_const, agree, types_agree, entries_agree, base_interpreted, entry_interpreted}
use Rattle.pts_image.proofs.Last.{closed_something, last_closed, last_judges, last_scoped, last_root}
use Rattle.pts_image.proofs.Numbered.{after, after_valid, after_old, after_root, after_last, after_concludes, after_empties, empty_is_root}
use Rattle.pts_image.proofs.Substituted.{found_differs, last_fresh, last_same, not_empty}

closed_const : Closed const
closed_const c = tt

module _ (S : Specification) (H : Front) (a b : Tables) (e : ℕ) (u U : Bare) (lh : Legal S H) (la : IsLinked a) (top : told a e ≡ context (empty_scope e))
    (va : IsValid S H a) (lb : IsLinked b) (vb : IsValid S H b) (x : Name) (concluded : concludes b (definition x u U) ≡ true) where
  stays : Interpretation H a e same_constant H
  stays = base_interpreted S H H a e same_constant lh (λ x i q. q) la top (λ c. tt) closed_const (λ x i q. refl)

  abbrev pub more : Tables
  more = image_after a same_constant e b

  abbrev ρ : ℕ → ℕ
  ρ = new_number b.nodes (numbering_after a e)

  abbrev d : ℕ
  d = (last_node b).ctx

  pub more_valid : IsValid S H more
  more_valid = after_valid S H H a b e same_constant stays lb va vb

  pub more_root : told more e ≡ context (empty_scope e)
  more_root = after_root S H H a b e same_constant stays lb va vb

  root_is : ρ d ≡ e
  root_is = after_empties S H H a b e same_constant stays lb va d (empty_is_root b d (empty_scope d) lb (last_root S H b x u U lb vb concluded) refl).1

  judged : last_said b ≡ judgement d (empty_scope d) u U
  judged = last_judges S H b x u U lb vb concluded

  pub more_judges : last_said more ≡ judgement e (empty_scope e) u U
  more_judges =
      let q = closed_something (last_said b) (last_closed S H b x u U lb vb concluded) in
      (after_last S H H a b e same_constant stays lb va vb q).1 (ap is_context judged)
      ∙ ap (said_image const ρ) judged
      ∙ ap₂ (judgement (ρ d) (scope_image const ρ (empty_scope d))) (replaced_const u) (replaced_const U)
      ∙ ap (λ k. judgement k (empty_scope k) u U) root_is

  pub more_stays : (k : ℕ) (m : Link) → told a k ≡ m → (m ≡ nothing → ⊥) → told more k ≡ m
  more_stays k m q n = after_old S H H a b e same_constant stays lb va vb k (there a k m q n (below_or k (length a.nodes))) ∙ q

  -- The new argument for one more assumption.
  module _ (F : Front) (w : Name → Replacement) (c : Interpretation H a e w F) (lf : Legal S F) (p : Name) (A : Bare) (s : ℕ) (typed : Derives S F [] A (sort s)) (fresh : Fresh p F) (t : ℕ)
      (low : t < length b.shapes) (here : at (bare_trees b.shapes) t ≡ u) (type_is : U ≡ replaced (term_for (bare_trees a.shapes) w) A) (closed_u : Below 0 u) (closed_U : Below 0 U)
      (lm : IsLinked more) where
    abbrev ta : List Bare
    ta = bare_trees a.shapes

    abbrev tm : List Bare
    tm = bare_trees more.shapes

    abbrev t1 : ℕ
    t1 = length a.shapes + t

    abbrev n1 : ℕ
    n1 = pred (length more.nodes)

    abbrev w1 : Name → Replacement
    w1 = replace_also p t1 n1 w

    abbrev f : Name → Bare
    f = term_for ta w

    abbrev f1 : Name → Bare
    f1 = term_for tm w1

    term_here : at tm t1 ≡ u
    term_here = at_new_number a.shapes same_constant la.shapes (λ x. tt) b.shapes t ∙ replaced_const (at (bare_trees b.shapes) t) ∙ here

    old_term : (o : Replacement) → IsAmong (length a.shapes) o → term_of tm o ≡ term_of ta o
    old_term (Constant y) h = refl
    old_term (Argument k n) h = at_old_number a.shapes same_constant la.shapes (λ x. tt) b.shapes k h

    other : (x : Name) → same_name p x ≡ false → w1 x ≡ w x
    other x h = ap (λ z. if z then Argument t1 n1 else w x) h

    same_there : (x : Name) (i : Global (Unit {0})) → find x F ≡ Some i → f x ≡ f1 x
    same_there x i q = sym (ap (term_of tm) (other x (found_differs x p F i fresh q)) ∙ old_term (w x) (c.terms x))

    closed_at : (x : Name) (z : Bool) → Below 0 (term_of tm (if z then Argument t1 n1 else w x))
    closed_at x true = subst (Below 0) (sym term_here) closed_u
    closed_at x false = subst (Below 0) (sym (old_term (w x) (c.terms x))) (c.closed x)

    closed1 : Closed f1
    closed1 x = closed_at x (same_name p x)

    long : length more.shapes ≡ length a.shapes + length b.shapes
    long = length-append a.shapes (map (shape_image a.shapes same_constant) b.shapes) ∙ ap (λ k. length a.shapes + k) (length-map b.shapes (shape_image a.shapes same_constant))

    there_more : (o : Replacement) → IsAmong (length a.shapes) o → IsAmong (length more.shapes) o
    there_more (Constant y) h = tt
    there_more (Argument k n) h = let l = long in omega (arith, h, l)

    there_at : (x : Name) (z : Bool) → IsAmong (length more.shapes) (if z then Argument t1 n1 else w x)
    there_at x true = let l = long in omega (arith, low, l)
    there_at x false = there_more (w x) (c.terms x)

    interprets_more : (x : Name) (i : Global (Unit {0})) → find x F ≡ Some i → (o : Replacement) → IsAmong (length a.shapes) o → Interprets H a e f i o → Interprets H more e f1 i o
    interprets_more x i q (Constant y) l z = z ∙ ap Some (entries_agree f f1 c.closed closed1 lf same_there x i q y)
    interprets_more x i q (Argument k n) l z =
        let same = types_agree f f1 c.closed closed1 lf same_there x i q in
        (z.0, more_stays n (judgement e (empty_scope e) (at ta k) (replaced f i.type)) z.1 (λ h. cc h) ∙ ap₂ (judgement e (empty_scope e)) (sym (old_term (Argument k n) l)) same, subst (Below 0) same z.2)

    same_type : replaced f1 A ≡ U
    same_type = sym (type_is ∙ (agree f f1 c.closed closed1 same_there typed).0)

    new_interprets : Interprets H more e f1 (assumption p A) (Argument t1 n1)
    new_interprets = (refl, more_judges ∙ ap₂ (judgement e (empty_scope e)) (sym term_here) (sym same_type), subst (Below 0) (sym same_type) closed_U)

    by_split : (x : Name) (i : Global (Unit {0})) → (find x F ≡ Some i) ⊎ ((x ≡ p) × (i ≡ assumption p A)) → Interprets H more e f1 i (w1 x)
    by_split x i (inl q) = subst (Interprets H more e f1 i) (sym (other x (found_differs x p F i fresh q))) (interprets_more x i q (w x) (c.terms x) (c.entries x i q))
    by_split x i (inr q) =
        subst (λ y. Interprets H more e f1 i (w1 y)) (sym q.0)
        (subst (λ j. Interprets H more e f1 j (w1 p)) (sym q.1) (subst (Interprets H more e f1 (assumption p A)) (sym (ap (λ z. if z then Argument t1 n1 else w p) (same_name-self p))) new_interprets))

    pub argument_interpreted : Interpretation H more e w1 (F ++ assumption p A ∷ [])
    argument_interpreted = record {
      linked = lm;
      empty = more_root;
      terms = λ x. there_at x (same_name p x);
      closed = closed1;
      entries = λ x i q. by_split x i (find_split x F (assumption p A) i q);
    }

-- The parts of a legal front with an assumption at its end.
typed_last : {S : Specification} {H : Front} (F : Front) (p : Name) (A : Bare) → H ≡ F ++ assumption p A ∷ [] → Legal S H → (s : ℕ) × Derives S F [] A (sort s)
typed_last F p A q legal_empty = absurd (not_empty F (assumption p A) q)
typed_last {S} F p A q (legal_assumption x {G = G} {A = B} {s = s} l f j) =
    let (i, o) = last_same G F (assumption x B) (assumption p A) q in
    (s, subst (λ K. Derives S K [] A (sort s)) i (subst (λ T. Derives S G [] T (sort s)) (ap (λ (d : Global (Unit {0})). d.type) o) j))
typed_last F p A q (legal_definition x {G = G} {a = a} {A = B} l f j) =
    let (i, o) = last_same G F (definition x a B) (assumption p A) q in
    absurd (cc (ap (λ (d : Global (Unit {0})). d.body) o))

pub arguments_interpreted : (S : Specification) (F H : Front) (a b : Tables) (e : ℕ) (w : Name → Replacement) (p : Name) (A u : Bare) (t : ℕ) (x : Name) → Legal S H → Legal S (F ++ assumption p A ∷ []) → Interpretation H a e w F → IsValid S H a
    → IsLinked b → IsValid S H b → concludes b (definition x u (replaced (term_for (bare_trees a.shapes) w) A)) ≡ true → t < length b.shapes → at (bare_trees b.shapes) t ≡ u
    → IsLinked (with_argument a e b)
    → IsValid S H (with_argument a e b) × Interpretation H (with_argument a e b) e (replace_next a e b p t w) (F ++ assumption p A ∷ [])
arguments_interpreted S F H a b e w p A u t x lh l c va lb vb k low here lm =
    let U = replaced (term_for (bare_trees a.shapes) w) A in
    let lf = prefix_legal S F (assumption p A ∷ []) l in
    let (s, d) = typed_last F p A refl l in
    let z = last_scoped S H b x u U lb vb k lh in (
      more_valid S H a b e u U lh c.linked c.empty va lb vb x k,
      argument_interpreted S H a b e u U lh c.linked c.empty va lb vb x k F w c lf p A s d (last_fresh F (assumption p A) refl l) t low here refl z.0 z.1 lm,
    )

pub instances_follow : (S : Specification) (F H : Front) (a : Tables) (e : ℕ) (w : Name → Replacement) (y : Name → Name) (ds : List (Global (Unit {0}) × Tables)) → Interpretation H a e w F → IsValid S H a → AreNamed w y ds → Follow S F ds → AreFresh H (map (instance_pair a e w y) ds) → Follow S H (map (instance_pair a e w y) ds)
instances_follow S F H a e w y [] c va n f m = tt
instances_follow S F H a e w y (d ∷ ds) c va n f m =
    let i = entry_image (term_for (bare_trees a.shapes) w) (y d.0.name) d.0 in (
      (m.0, after_valid S F H a d.1 e w c n.0.1 va f.0.1, after_concludes S F H a d.1 e w c n.0.1 va f.0.1 d.0 (y d.0.name) f.0.2),
      instances_follow S (F ++ d.0 ∷ []) (H ++ i ∷ []) a e w y ds (entry_interpreted F H a e w d.0 (y d.0.name) c f.0.0 m.0 n.0.0) (thin_record S H (H ++ i ∷ []) a (longer_has_entries H (i ∷ [])) va) n.1 f.1 m.1,
    )
