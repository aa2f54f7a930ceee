-- A constant that is an assumption replaced in records by a term that has its type.
use Rattle.std.proofs.Common.{ℕ, List, [], ◌∷◌, ◌++◌, map, length, Bool, true, false, ◌≡◌, ◌<◌, refl, sym, ap, ◌∙◌, subst, Option, Some, None}
use Rattle.std.specs.Prelude.{if◌then◌else◌, pred}
use Rattle.std.specs.Option.{option_map}
use mathlib.Core.List.{append_assoc, append-nil}
use mathlib.Core.Path.{ap₂}
use Rattle.pts_names.specs.Name.{Name, same_name}
use Rattle.pts_names.proofs.Same.{same_name-true, same_name-self}
use Rattle.pts_terms.specs.Tree.{Bare, const, Below, subst_const}
use Rattle.pts_terms.specs.Replaced.{replaced, among}
use Rattle.pts_terms.proofs.Replaced.{subst_const_is_replaced}
use Rattle.pts_ctx.specs.System.{Specification}
use Rattle.pts_ctx.specs.Front.{Global, Front, Fresh, find, assumption, definition}
use Rattle.pts_record.specs.Table.{Tables, at, bare_trees}
use Rattle.pts_record.specs.declared.shape.Node.{Node}
use Rattle.pts_record.specs.Said.{context, judgement, subject_of, told}
use Rattle.pts_rules.specs.Derives.{Derives, Legal, legal_empty, legal_assumption, legal_definition}
use Rattle.pts_rules.specs.Valid.{IsValid, concludes, last_said}
use Rattle.pts_rules.specs.Laws.{Stands}
use Rattle.pts_rules.proofs.Sound.{sound}
use Rattle.pts_rules.proofs.ThinRecord.{thin_record}
use Rattle.pts_rules.proofs.Thinning.{longer_has_entries}
use Rattle.pts_rules.proofs.Prefix.{prefix_legal}
use Rattle.pts_image.specs.declared.replacement.Replacement.{Replacement}
use Rattle.pts_image.specs.declared.replacement.Replacement.TheVariants.{Constant, Argument}
use Rattle.pts_image.specs.Image.{entry_image, empty_scope, Closed}
use Rattle.pts_image.specs.Appending.{IsLinked, IsAmong, term_of, term_for, all_within, is_image_within, image_after}
use Rattle.pts_image.specs.Interpretation.{Interprets, Interpretation}
use Rattle.pts_image.specs.Substitution.{last_node, replace_one, by_argument, subst_record, subst_entry, is_subst_within}
use Rattle.pts_image.proofs.Fixed.{fixed, base_interpreted, entry_interpreted, assumption_interpreted}
use Rattle.pts_image.proofs.Last.{last_subject, last_root, last_judges, last_low, last_scoped}
use Rattle.pts_image.proofs.Numbered.{after_valid, after_concludes}

-- The last entry of a legal front has a fresh name.
rest_same : {A : Type 0} (x y : A) (xs ys : List A) → x ∷ xs ≡ y ∷ ys → (x ≡ y) × (xs ≡ ys)
rest_same x y xs ys p = (cc p, cc p)

pub not_empty : {A : Type 0} (xs : List A) (x : A) → [] ≡ xs ++ x ∷ [] → ⊥
not_empty [] x p = cc p
not_empty (y ∷ ys) x p = cc p

pub last_same : {A : Type 0} (xs ys : List A) (x y : A) → xs ++ x ∷ [] ≡ ys ++ y ∷ [] → (xs ≡ ys) × (x ≡ y)
last_same [] [] x y p = (refl, (rest_same x y [] [] p).0)
last_same [] (z ∷ ys) x y p = absurd (not_empty ys y (rest_same x z [] (ys ++ y ∷ []) p).1)
last_same (z ∷ xs) [] x y p = absurd (not_empty xs x (sym (rest_same z y (xs ++ x ∷ []) [] p).1))
last_same (z ∷ xs) (u ∷ ys) x y p =
    let (h, q) = rest_same z u (xs ++ x ∷ []) (ys ++ y ∷ []) p in
    let (i, j) = last_same xs ys x y q in
    (ap₂ ◌∷◌ h i, j)

pub last_fresh : {S : Specification} {H : Front} (F : Front) (d : Global (Unit {0})) → H ≡ F ++ d ∷ [] → Legal S H → Fresh d.name F
last_fresh F d p legal_empty = absurd (not_empty F d p)
last_fresh F d p (legal_assumption x {G = G} {A = A} l f j) = let (q, o) = last_same G F (assumption x A) d p in subst (λ K. Fresh d.name K) q (subst (λ e. Fresh e.name G) o f)
last_fresh F d p (legal_definition x {G = G} {a = a} {A = A} l f j) = let (q, o) = last_same G F (definition x a A) d p in subst (λ K. Fresh d.name K) q (subst (λ e. Fresh e.name G) o f)

-- Names that are found nowhere.
fresh_parts : (x : Name) (G M : Front) → Fresh x (G ++ M) → Fresh x G × Fresh x M
unfolding find
fresh_parts x [] M f = (refl, f)
fresh_parts x (d ∷ G) M f = by_case (same_name x d.name) refl f (λ o. fresh_parts x G M o)
  where
    by_case : (b : Bool) → same_name x d.name ≡ b → ◌≡◌ {A = Option (Global (Unit {0}))} (if b then Some d else find x (G ++ M)) None → (Fresh x (G ++ M) → Fresh x G × Fresh x M) → Fresh x (d ∷ G) × Fresh x M
    by_case true q h i = absurd (cc h)
    by_case false q h i = let (o, n) = i h in (rw (q, find) o, n)

fresh_joined : (x : Name) (G M : Front) → Fresh x G → Fresh x M → Fresh x (G ++ M)
unfolding find
fresh_joined x [] M f g = g
fresh_joined x (d ∷ G) M f g = by_case (same_name x d.name) refl f (λ o. fresh_joined x G M o g)
  where
    by_case : (b : Bool) → same_name x d.name ≡ b → ◌≡◌ {A = Option (Global (Unit {0}))} (if b then Some d else find x G) None → (Fresh x G → Fresh x (G ++ M)) → Fresh x (d ∷ (G ++ M))
    by_case true q h i = absurd (cc h)
    by_case false q h i = rw (q, find) (i h)

fresh_image : (x : Name) (g : Global (Unit {0}) → Global (Unit {0})) → ((d : Global (Unit {0})) → (g d).name ≡ d.name) → (M : Front) → Fresh x M → Fresh x (map g M)
unfolding find
fresh_image x g n [] f = refl
fresh_image x g n (d ∷ M) f = by_case (same_name x d.name) refl f (λ o. fresh_image x g n M o)
  where
    by_case : (b : Bool) → same_name x d.name ≡ b → ◌≡◌ {A = Option (Global (Unit {0}))} (if b then Some d else find x M) None → (Fresh x M → Fresh x (map g M)) → Fresh x (map g (d ∷ M))
    by_case true q h i = absurd (cc h)
    by_case false q h i = rw (ap (same_name x) (n d) ∙ q, find) (i h)

fresh_first : (x : Name) (d : Global (Unit {0})) (M : Front) → Fresh x (d ∷ M) → (same_name x d.name ≡ false) × Fresh x M
unfolding find
fresh_first x d M f = by_case (same_name x d.name) refl f
  where
    by_case : (b : Bool) → same_name x d.name ≡ b → ◌≡◌ {A = Option (Global (Unit {0}))} (if b then Some d else find x M) None → (same_name x d.name ≡ false) × Fresh x M
    by_case true q h = absurd (cc h)
    by_case false q h = (q, h)

pub found_differs : (x y : Name) (G : Front) (e : Global (Unit {0})) → Fresh y G → find x G ≡ Some e → same_name y x ≡ false
found_differs x y G e n p = by_case (same_name y x) refl
  where
    by_case : (b : Bool) → same_name y x ≡ b → b ≡ false
    by_case false q = refl
    by_case true q = absurd (cc (sym p ∙ ap (λ d. find d G) (sym (same_name-true y x q)) ∙ n))

turned : (x y : Name) → same_name x y ≡ false → same_name y x ≡ false
turned x y h = by_case (same_name y x) refl
  where
    by_case : (b : Bool) → same_name y x ≡ b → b ≡ false
    by_case false q = refl
    by_case true q = absurd (cc (sym (same_name-self x) ∙ ap (same_name x) (sym (same_name-true y x q)) ∙ h))

-- Replacing one constant by a term of the record is the substitution for it.
module _ (ts : List Bare) (p : Name) (t n : ℕ) (u : Bare) (is : at ts t ≡ u) where
  one_by : (c : Name) (b : Bool) → term_of ts (if b then Argument t n else Constant c) ≡ (if b then u else const c)
  one_by c true = is
  one_by c false = refl

  one_term : term_for ts (replace_one p t n) ≡ among ((p, u) ∷ [])
  one_term = λ i c. one_by c (same_name p c) i

  pub one_substituted : replaced (term_for ts (replace_one p t n)) ≡ subst_const p u
  one_substituted = ap replaced one_term ∙ (λ i t. sym (subst_const_is_replaced p u t) i)

  pub one_entry : (d : Global (Unit {0})) → entry_image (term_for ts (replace_one p t n)) d.name d ≡ subst_entry p u d
  one_entry d = ap (λ g. record { name = d.name; body = option_map g d.body; type = g d.type }) one_substituted

  pub one_within : (r : Tables) → all_within (map (replaced (term_for ts (replace_one p t n))) (bare_trees r.shapes)) ≡ all_within (map (subst_const p u) (bare_trees r.shapes))
  one_within r = ap (λ g. all_within (map g (bare_trees r.shapes))) one_substituted

module _ (S : Specification) (G : Front) (p x : Name) (u A : Bare) (a : Tables) (legal : Legal S (G ++ assumption p A ∷ [])) (linked : IsLinked a) (va : IsValid S G a) (concluded : concludes a (definition x u A) ≡ true) where
  abbrev t : ℕ
  t = (last_node a).subject

  abbrev e : ℕ
  e = (last_node a).ctx

  abbrev n : ℕ
  n = pred (length a.nodes)

  abbrev w : Name → Replacement
  w = by_argument a p

  abbrev f : Name → Bare
  f = term_for (bare_trees a.shapes) w

  subject_is : at (bare_trees a.shapes) t ≡ u
  subject_is = last_subject S G a x u A linked va concluded

  judges : last_said a ≡ judgement e (empty_scope e) u A
  judges = last_judges S G a x u A linked va concluded

  before : Legal S G
  before = prefix_legal S G (assumption p A ∷ []) legal

  derived : Derives S G [] u A
  derived = (subst (Stands S G) judges (sound S G a before va n)).1

  scoped : Below 0 u × Below 0 A
  scoped = last_scoped S G a x u A linked va concluded before

  closed_by : (c : Name) (b : Bool) → Below 0 (term_of (bare_trees a.shapes) (if b then Argument t n else Constant c))
  closed_by c true = subst (Below 0) (sym subject_is) scoped.0
  closed_by c false = tt

  closed : Closed f
  closed c = closed_by c (same_name p c)

  among_by : (c : Name) (b : Bool) → IsAmong (length a.shapes) (if b then Argument t n else Constant c)
  among_by c true = last_low S G a x u A linked va concluded
  among_by c false = tt

  other : (c : Name) → same_name p c ≡ false → w c ≡ Constant c
  other c h = ap (λ b. if b then Argument t n else Constant c) h

  fresh : Fresh p G
  fresh = last_fresh G (assumption p A) refl legal

  stay : (x : Name) (i : Global (Unit {0})) → find x G ≡ Some i → w x ≡ Constant x
  stay x i q = other x (found_differs x p G i fresh q)

  base : Interpretation G a e w G
  base = base_interpreted S G G a e w before (λ x i q. q) linked (last_root S G a x u A linked va concluded) (λ c. among_by c (same_name p c)) closed stay

  same_type : replaced f A ≡ A
  same_type = (fixed f closed (λ x i q. ap (term_of (bare_trees a.shapes)) (stay x i q)) derived).1

  put_in : Interprets G a e f (assumption p A) (Argument t n)
  put_in = (refl, judges ∙ ap₂ (judgement e (empty_scope e)) (sym subject_is) (sym same_type), subst (Below 0) (sym same_type) scoped.1)

  with_constant : Interpretation G a e w (G ++ assumption p A ∷ [])
  with_constant = assumption_interpreted G G a e w (assumption p A) base fresh (subst (Interprets G a e f (assumption p A)) (sym (ap (λ b. if b then Argument t n else Constant p) (same_name-self p))) put_in)

  abbrev image : Global (Unit {0}) → Global (Unit {0})
  image d = entry_image f d.name d

  rest_interpreted : (K T : Front) → Interpretation T a e w K → (M : Front) → Legal S (K ++ M) → ((x : Name) → Fresh x K → Fresh x T × (same_name p x ≡ false)) → Interpretation (T ++ map image M) a e w (K ++ M)
  rest_interpreted K T c [] l h = subst (λ K2. Interpretation (T ++ []) a e w K2) (sym (append-nil K)) (subst (λ T2. Interpretation T2 a e w K) (sym (append-nil T)) c)
  rest_interpreted K T c (d ∷ M) l h =
      let l2 : Legal S ((K ++ d ∷ []) ++ M) = subst (Legal S) (sym (append_assoc K (d ∷ []) M)) l in
      let new = last_fresh K d refl (prefix_legal S (K ++ d ∷ []) M l2) in
      let c2 = entry_interpreted K T a e w d d.name c new (h d.name new).0 (other d.name (h d.name new).1) in
      let again = rest_interpreted (K ++ d ∷ []) (T ++ image d ∷ []) c2 M l2 (λ x q. let (o, m) = fresh_parts x K (d ∷ []) q in (fresh_joined x T (image d ∷ []) (h x o).0 (fresh_image x image (λ k. refl) (d ∷ []) m), (h x o).1)) in
      subst (λ K2. Interpretation (T ++ map image (d ∷ M)) a e w K2) (append_assoc K (d ∷ []) M) (subst (λ T2. Interpretation T2 a e w ((K ++ d ∷ []) ++ M)) (append_assoc T (image d ∷ []) (map image M)) again)

  started : (x : Name) → Fresh x (G ++ assumption p A ∷ []) → Fresh x G × (same_name p x ≡ false)
  started x q = let (o, m) = fresh_parts x G (assumption p A ∷ []) q in (o, turned x p (fresh_first x (assumption p A) [] m).0)

  images : (H : Front) → map image H ≡ map (subst_entry p u) H
  images H = ap (λ g. map g H) (λ i d. one_entry (bare_trees a.shapes) p t n u subject_is d i)

  pub all_interpreted : (H : Front) → Legal S (G ++ assumption p A ∷ H) → Interpretation (G ++ map (subst_entry p u) H) a e w (G ++ assumption p A ∷ H)
  all_interpreted H l =
      subst (λ M. Interpretation (G ++ M) a e w (G ++ assumption p A ∷ H)) (images H)
      (subst (λ K. Interpretation (G ++ map image H) a e w K) (append_assoc G (assumption p A ∷ []) H)
      (rest_interpreted (G ++ assumption p A ∷ []) G with_constant H (subst (Legal S) (sym (append_assoc G (assumption p A ∷ []) H)) l) started))

  pub entry_substituted : (i : Global (Unit {0})) → entry_image f i.name i ≡ subst_entry p u i
  entry_substituted i = one_entry (bare_trees a.shapes) p t n u subject_is i

module _ (S : Specification) (G H : Front) (p x : Name) (u A : Bare) (a r : Tables) (l : Legal S (G ++ assumption p A ∷ H)) (linked : IsLinked a) (lr : IsLinked r) (va : IsValid S G a) (concluded : concludes a (definition x u A) ≡ true) (vr : IsValid S (G ++ assumption p A ∷ H) r) where
  abbrev target : Front
  target = G ++ map (subst_entry p u) H

  first_legal : Legal S (G ++ assumption p A ∷ [])
  first_legal = prefix_legal S (G ++ assumption p A ∷ []) H (subst (Legal S) (sym (append_assoc G (assumption p A ∷ []) H)) l)

  interpreted : Interpretation target a (last_node a).ctx (by_argument a p) (G ++ assumption p A ∷ H)
  interpreted = all_interpreted S G p x u A a first_legal linked va concluded H l

  argument_valid : IsValid S target a
  argument_valid = thin_record S G target a (longer_has_entries G (map (subst_entry p u) H)) va

  pub substituted_valid : IsValid S target (subst_record a p r)
  substituted_valid = after_valid S (G ++ assumption p A ∷ H) target a r (last_node a).ctx (by_argument a p) interpreted lr argument_valid vr

  pub substituted_concludes : (i : Global (Unit {0})) → concludes r i ≡ true → concludes (subst_record a p r) (subst_entry p u i) ≡ true
  substituted_concludes i h =
      subst (λ j. concludes (subst_record a p r) j ≡ true) (entry_substituted S G p x u A a first_legal linked va concluded i)
      (after_concludes S (G ++ assumption p A ∷ H) target a r (last_node a).ctx (by_argument a p) interpreted lr argument_valid vr i i.name h)

-- The same with what the program has: a copy b of a, whose last node is the node x with the number k.
module _ (a b r : Tables) (p : Name) (x : Node) (k : ℕ) (copy : b ≡ a) (here : k ≡ pred (length a.nodes)) (last : x ≡ last_node a) where
  pub substituted_made : image_after b (replace_one p x.subject k) x.ctx r ≡ subst_record a p r
  substituted_made = λ i. image_after (copy i) (replace_one p (last i).subject (here i)) (last i).ctx r

  pub substituted_within : at (bare_trees a.shapes) x.subject ≡ subject_of (last_said a) → is_image_within b (replace_one p x.subject k) r ≡ is_subst_within a p r
  substituted_within is = ap (λ c. is_image_within c (replace_one p x.subject k) r) copy ∙ one_within (bare_trees a.shapes) p x.subject k (subject_of (last_said a)) is r
