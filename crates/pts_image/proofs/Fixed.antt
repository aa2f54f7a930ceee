-- Fronts whose constants stay, and interpretations while fronts grow.
use Rattle.std.proofs.Common.{ℕ, List, [], ◌∷◌, ◌++◌, ◌⊎◌, inl, inr, map, length, Bool, true, false, ◌≡◌, ◌<◌, refl, sym, ap, ◌∙◌, arith, subst, Option, Some, None}
use Rattle.std.specs.Option.{option_map}
use mathlib.Core.Path.{ap₂}
use Rattle.pts_names.specs.Name.{Name, same_name}
use Rattle.pts_names.proofs.Same.{same_name-true}
use Rattle.pts_terms.specs.Tree.{Tree, Bare, sort, const, var, app, lam, pi, let_in, lift, subst as put_for, Below}
use Rattle.pts_terms.proofs.Lifting.{ap₃}
use Rattle.pts_ctx.specs.System.{Specification}
use Rattle.pts_ctx.specs.Front.{Global, Front, Fresh, find, HasEntries, assumption, definition, Local, assumed, defined, Locals}
use Rattle.pts_ctx.proofs.Find.{find_before, find_last, find_split, some_same}
use Rattle.pts_record.specs.Table.{Tables, bare_trees}
use Rattle.pts_record.specs.Said.{context, told}
use Rattle.pts_rules.specs.Derives.{Derives, axioms, global_start, global_start_defined, global_weakening, global_weakening_defined, local_start, local_start_defined, local_weakening, local_weakening_defined, product, application, abstraction, formation, introduction, conversion, Legal, legal_empty, legal_assumption, legal_definition}
use Rattle.pts_terms.specs.Replaced.{replaced}
use Rattle.pts_image.specs.Image.{entry_image, empty_scope, Closed, local_image}
use Rattle.pts_image.specs.declared.replacement.Replacement.{Replacement}
use Rattle.pts_image.specs.declared.replacement.Replacement.TheVariants.{Constant, Argument}
use Rattle.pts_image.specs.Appending.{IsLinked, IsAmong, term_for, term_of}
use Rattle.pts_image.specs.Interpretation.{Interpretation, Interprets}
use Rattle.pts_image.specs.Renaming.{renamed_entry, Renames}
use Rattle.pts_image.specs.Following.{Fixes, Follow, AreFresh, renamed_pair}
use Rattle.pts_image.proofs.Renamed.{renamed_valid, renamed_concludes}
use Rattle.pts_image.proofs.Replacing.{replaced_lift, replaced_put}

pi_parts : {A B C D : Bare} → pi A B ≡ pi C D → (A ≡ C) × (B ≡ D)
pi_parts p = (cc p, cc p)

let_parts : {a A B b C D : Bare} → let_in a A B ≡ let_in b C D → (a ≡ b) × (A ≡ C) × (B ≡ D)
let_parts p = (cc p, cc p, cc p)

defined_parts : {a A b B : Bare} {L M : Locals} → defined a A ∷ L ≡ defined b B ∷ M → (a ≡ b) × (A ≡ B) × (L ≡ M)
defined_parts p = (cc p, cc p, cc p)

none_there : (x : Name) (e : Global (Unit {0})) → find x [] ≡ Some e → ⊥
unfolding find
none_there x e p = cc p

pub replaced_const : (t : Bare) → replaced const t ≡ t
replaced_const (sort s) = refl
replaced_const (const c) = refl
replaced_const (var i) = refl
replaced_const (app g a) = ap₂ app (replaced_const g) (replaced_const a)
replaced_const (lam A b) = ap₂ lam (replaced_const A) (replaced_const b)
replaced_const (pi A b) = ap₂ pi (replaced_const A) (replaced_const b)
replaced_const (let_in a A b) = ap₃ let_in (replaced_const a) (replaced_const A) (replaced_const b)

-- Two functions that put the same for the constants of a front.
module _ (f g : Name → Bare) (cf : Closed f) (cg : Closed g) where
  abbrev pub Agree : Front → Type 0
  Agree G = (x : Name) (e : Global (Unit {0})) → find x G ≡ Some e → f x ≡ g x

  agree_before : (G M : Front) → Agree (G ++ M) → Agree G
  agree_before G M h x e p = h x e (find_before x G M e p)

  lifts : (A : Bare) → replaced f A ≡ replaced g A → replaced f (lift 0 1 A) ≡ replaced g (lift 0 1 A)
  lifts A u = replaced_lift f cf 0 1 A ∙ ap (lift 0 1) u ∙ sym (replaced_lift g cg 0 1 A)

  pub agree : {S : Specification} {G : Front} {L : Locals} {t T : Bare} → Agree G → Derives S G L t T → (replaced f t ≡ replaced g t) × (replaced f T ≡ replaced g T) × (map (local_image f) L ≡ map (local_image g) L)
  agree h (axioms p) = (refl, refl, refl)
  agree h (global_start x {G = G} {A = A} d k) = (h x (assumption x A) (find_last x G (assumption x A) k refl), (agree (agree_before G (assumption x A ∷ []) h) d).0, refl)
  agree h (global_start_defined x {G = G} {a = a} {A = A} d k) = (h x (definition x a A) (find_last x G (definition x a A) k refl), (agree (agree_before G (definition x a A ∷ []) h) d).1, refl)
  agree h (global_weakening x {G = G} {A = A} b d k) = agree (agree_before G (assumption x A ∷ []) h) b
  agree h (global_weakening_defined x {G = G} {a = a} {A = A} b d k) = agree (agree_before G (definition x a A ∷ []) h) b
  agree h (local_start {A = A} d) = let u = agree h d in (refl, lifts A u.0, ap₂ ◌∷◌ (ap assumed u.0) u.2)
  agree h (local_start_defined {a = a} {A = A} d) = let u = agree h d in (refl, lifts A u.1, ap₂ ◌∷◌ (ap₂ defined u.0 u.1) u.2)
  agree h (local_weakening {b = b} {B = B} j d) = let u = agree h j in let v = agree h d in (lifts b u.0, lifts B u.1, ap₂ ◌∷◌ (ap assumed v.0) v.2)
  agree h (local_weakening_defined {b = b} {B = B} j d) = let u = agree h j in let v = agree h d in (lifts b u.0, lifts B u.1, ap₂ ◌∷◌ (ap₂ defined v.0 v.1) v.2)
  agree h (product d b r) = let u = agree h d in (ap₂ pi u.0 (agree h b).0, refl, u.2)
  agree h (application {a = a} {B = B} k j) =
      let u = agree h k in
      let v = agree h j in
      (ap₂ app u.0 v.0, replaced_put f cf 0 0 a B ∙ ap₂ (λ x y. put_for 0 x y) v.0 (pi_parts u.1).1 ∙ sym (replaced_put g cg 0 0 a B), u.2)
  agree h (abstraction b p) = let u = agree h p in (ap₂ lam (pi_parts u.0).0 (agree h b).0, u.0, u.2)
  agree h (formation b) = let u = agree h b in let v = defined_parts u.2 in (ap₃ let_in v.0 v.1 u.0, refl, v.2)
  agree h (introduction b p) = let u = agree h p in (ap₃ let_in (let_parts u.0).0 (let_parts u.0).1 (agree h b).0, u.0, u.2)
  agree h (conversion b d v) = let u = agree h b in (u.0, (agree h d).0, u.2)

module _ (f : Name → Bare) (closed : Closed f) where
  fixes_before : (G M : Front) → Fixes f (G ++ M) → Fixes f G
  fixes_before G M h x e p = h x e (find_before x G M e p)

  pub fixed : {S : Specification} {G : Front} {t T : Bare} → Fixes f G → Derives S G [] t T → (replaced f t ≡ t) × (replaced f T ≡ T)
  fixed {S} {G} {t} {T} h d = let u = agree f const closed (λ c. tt) h d in (u.0 ∙ replaced_const t, u.1 ∙ replaced_const T)

  abbrev IsFixed : Global (Unit {0}) → Type 0
  IsFixed e = (option_map (replaced f) e.body ≡ e.body) × (replaced f e.type ≡ e.type)

  fixed_in : {S : Specification} {G : Front} → Legal S G → Fixes f G → (x : Name) (e : Global (Unit {0})) → find x G ≡ Some e → (x ≡ e.name) × IsFixed e
  fixed_in legal_empty h x e p = absurd (none_there x e p)
  fixed_in (legal_assumption y {G = G} {A = A} l g d) h x e p = by_split (find_split x G (assumption y A) e p)
      (λ q. fixed_in l (fixes_before G (assumption y A ∷ []) h) x e q) (refl, (fixed (fixes_before G (assumption y A ∷ []) h) d).0)
    where
      by_split : (find x G ≡ Some e) ⊎ ((x ≡ y) × (e ≡ assumption y A)) → (find x G ≡ Some e → (x ≡ e.name) × IsFixed e) → IsFixed (assumption y A) → (x ≡ e.name) × IsFixed e
      by_split (inl q) i n = i q
      by_split (inr q) i n = subst (λ e. (x ≡ e.name) × IsFixed e) (sym q.1) (q.0, n)
  fixed_in (legal_definition y {G = G} {a = a} {A = A} l g d) h x e p = by_split (find_split x G (definition y a A) e p)
      (λ q. fixed_in l (fixes_before G (definition y a A ∷ []) h) x e q) (let u = fixed (fixes_before G (definition y a A ∷ []) h) d in (ap Some u.0, u.1))
    where
      by_split : (find x G ≡ Some e) ⊎ ((x ≡ y) × (e ≡ definition y a A)) → (find x G ≡ Some e → (x ≡ e.name) × IsFixed e) → IsFixed (definition y a A) → (x ≡ e.name) × IsFixed e
      by_split (inl q) i n = i q
      by_split (inr q) i n = subst (λ e. (x ≡ e.name) × IsFixed e) (sym q.1) (q.0, n)

  pub entry_fixed : {S : Specification} {G : Front} → Legal S G → Fixes f G → (x : Name) (e : Global (Unit {0})) → find x G ≡ Some e → entry_image f x e ≡ e
  entry_fixed l h x e p =
      let (n, (b, t)) = fixed_in l h x e p in
      λ i. record { name = n i; body = b i; type = t i }

pub judgement_fixed : (S : Specification) (G : Front) (t T : Bare) (f : Name → Bare) → Closed f → Fixes f G → Derives S G [] t T → (replaced f t ≡ t) × (replaced f T ≡ T)
judgement_fixed S G t T f k h d = fixed f k h d

-- A front whose constants stay is interpreted in every front that has its entries.
pub base_interpreted : (S : Specification) (G H : Front) (a : Tables) (e : ℕ) (w : Name → Replacement) → Legal S G → HasEntries G H → IsLinked a → told a e ≡ context (empty_scope e) → ((c : Name) → IsAmong (length a.shapes) (w c)) → Closed (term_for (bare_trees a.shapes) w) → ((x : Name) (i : Global (Unit {0})) → find x G ≡ Some i → w x ≡ Constant x) → Interpretation H a e w G
base_interpreted S G H a e w legal has linked top there closed stay =
    let f = term_for (bare_trees a.shapes) w in
    let fixes : Fixes f G = λ x i p. ap (term_of (bare_trees a.shapes)) (stay x i p) in
    record {
      linked = linked;
      empty = top;
      terms = there;
      closed = closed;
      entries = λ x i p. subst (Interprets H a e f i) (sym (stay x i p)) (has x i p ∙ ap Some (sym (entry_fixed f closed legal fixes x i p)));
    }

interprets_later : (H M : Front) (a : Tables) (e : ℕ) (f : Name → Bare) (i : Global (Unit {0})) (o : Replacement) → Interprets H a e f i o → Interprets (H ++ M) a e f i o
interprets_later H M a e f i (Constant y) s = find_before y H M (entry_image f y i) s
interprets_later H M a e f i (Argument t p) s = s

pub entry_interpreted : (F H : Front) (a : Tables) (e : ℕ) (w : Name → Replacement) (i : Global (Unit {0})) (y : Name) → Interpretation H a e w F → Fresh i.name F → Fresh y H → w i.name ≡ Constant y → Interpretation (H ++ entry_image (term_for (bare_trees a.shapes) w) y i ∷ []) a e w (F ++ i ∷ [])
entry_interpreted F H a e w i y c n m is =
    let f = term_for (bare_trees a.shapes) w in
    record {
      linked = c.linked;
      empty = c.empty;
      terms = c.terms;
      closed = c.closed;
      entries = λ x j p. by_split x j (find_split x F i j p);
    }
  where
    by_split : (x : Name) (j : Global (Unit {0})) → (find x F ≡ Some j) ⊎ ((x ≡ i.name) × (j ≡ i)) → Interprets (H ++ entry_image (term_for (bare_trees a.shapes) w) y i ∷ []) a e (term_for (bare_trees a.shapes) w) j (w x)
    by_split x j (inl q) = interprets_later H (entry_image (term_for (bare_trees a.shapes) w) y i ∷ []) a e (term_for (bare_trees a.shapes) w) j (w x) (c.entries x j q)
    by_split x j (inr q) =
        subst (λ o. Interprets (H ++ entry_image (term_for (bare_trees a.shapes) w) y i ∷ []) a e (term_for (bare_trees a.shapes) w) j o) (sym (ap w q.0 ∙ is))
        (subst (λ k. find y (H ++ entry_image (term_for (bare_trees a.shapes) w) y i ∷ []) ≡ Some (entry_image (term_for (bare_trees a.shapes) w) y k)) (sym q.1) (find_last y H (entry_image (term_for (bare_trees a.shapes) w) y i) m refl))

pub assumption_interpreted : (F H : Front) (a : Tables) (e : ℕ) (w : Name → Replacement) (i : Global (Unit {0})) → Interpretation H a e w F → Fresh i.name F → Interprets H a e (term_for (bare_trees a.shapes) w) i (w i.name) → Interpretation H a e w (F ++ i ∷ [])
assumption_interpreted F H a e w i c n s =
    record {
      linked = c.linked;
      empty = c.empty;
      terms = c.terms;
      closed = c.closed;
      entries = λ x j p. by_split x j (find_split x F i j p);
    }
  where
    by_split : (x : Name) (j : Global (Unit {0})) → (find x F ≡ Some j) ⊎ ((x ≡ i.name) × (j ≡ i)) → Interprets H a e (term_for (bare_trees a.shapes) w) j (w x)
    by_split x j (inl q) = c.entries x j q
    by_split x j (inr q) = subst (λ z. Interprets H a e (term_for (bare_trees a.shapes) w) j (w z)) (sym q.0) (subst (λ k. Interprets H a e (term_for (bare_trees a.shapes) w) k (w i.name)) (sym q.1) s)

-- Entries where two functions agree.
module _ (f g : Name → Bare) (cf : Closed f) (cg : Closed g) where
  abbrev SameIn : Global (Unit {0}) → Type 0
  SameIn e = (option_map (replaced f) e.body ≡ option_map (replaced g) e.body) × (replaced f e.type ≡ replaced g e.type)

  agree_in : {S : Specification} {G : Front} → Legal S G → Agree f g cf cg G → (x : Name) (e : Global (Unit {0})) → find x G ≡ Some e → SameIn e
  agree_in legal_empty h x e p = absurd (none_there x e p)
  agree_in (legal_assumption y {G = G} {A = A} l k d) h x e p = by_split (find_split x G (assumption y A) e p)
      (λ q. agree_in l (agree_before f g cf cg G (assumption y A ∷ []) h) x e q) (refl, (agree f g cf cg (agree_before f g cf cg G (assumption y A ∷ []) h) d).0)
    where
      by_split : (find x G ≡ Some e) ⊎ ((x ≡ y) × (e ≡ assumption y A)) → (find x G ≡ Some e → SameIn e) → SameIn (assumption y A) → SameIn e
      by_split (inl q) i n = i q
      by_split (inr q) i n = subst SameIn (sym q.1) n
  agree_in (legal_definition y {G = G} {a = a} {A = A} l k d) h x e p = by_split (find_split x G (definition y a A) e p)
      (λ q. agree_in l (agree_before f g cf cg G (definition y a A ∷ []) h) x e q) (let u = agree f g cf cg (agree_before f g cf cg G (definition y a A ∷ []) h) d in (ap Some u.0, u.1))
    where
      by_split : (find x G ≡ Some e) ⊎ ((x ≡ y) × (e ≡ definition y a A)) → (find x G ≡ Some e → SameIn e) → SameIn (definition y a A) → SameIn e
      by_split (inl q) i n = i q
      by_split (inr q) i n = subst SameIn (sym q.1) n

  pub types_agree : {S : Specification} {G : Front} → Legal S G → Agree f g cf cg G → (x : Name) (e : Global (Unit {0})) → find x G ≡ Some e → replaced f e.type ≡ replaced g e.type
  types_agree l h x e p = (agree_in l h x e p).1

  pub entries_agree : {S : Specification} {G : Front} → Legal S G → Agree f g cf cg G → (x : Name) (e : Global (Unit {0})) → find x G ≡ Some e → (y : Name) → entry_image f y e ≡ entry_image g y e
  entries_agree l h x e p y = let u = agree_in l h x e p in ap₂ (λ b t. record { name = y; body = b; type = t }) u.0 u.1

-- New names alone.
pub base_renamed : (S : Specification) (G H : Front) (g : Name → Name) → Legal S G → HasEntries G H → ((x : Name) (e : Global (Unit {0})) → find x G ≡ Some e → g x ≡ x) → Renames g G H
base_renamed S G H g l has stay x e p =
    let f : Name → Bare = λ c. const (g c) in
    let fixes : Fixes f G = λ y i q. ap const (stay y i q) in
    let (n, rest) = fixed_in f (λ c. tt) l fixes x e p in
    let same : renamed_entry g e ≡ e = ap (λ y. entry_image f y e) (ap g (sym n) ∙ stay x e p) ∙ entry_fixed f (λ c. tt) l fixes x e p in
    ap (λ y. find y H) (stay x e p) ∙ has x e p ∙ ap Some (sym same)

pub renames_more : (g : Name → Name) (F H : Front) (i : Global (Unit {0})) → Renames g F H → Fresh (g i.name) H → Renames g (F ++ i ∷ []) (H ++ renamed_entry g i ∷ [])
renames_more g F H i n m x e p = by_split (find_split x F i e p)
  where
    by_split : (find x F ≡ Some e) ⊎ ((x ≡ i.name) × (e ≡ i)) → find (g x) (H ++ renamed_entry g i ∷ []) ≡ Some (renamed_entry g e)
    by_split (inl q) = find_before (g x) H (renamed_entry g i ∷ []) (renamed_entry g e) (n x e q)
    by_split (inr q) =
        ap (λ y. find y (H ++ renamed_entry g i ∷ [])) (ap g q.0) ∙ find_last (g i.name) H (renamed_entry g i) m refl ∙ ap (λ j. Some (renamed_entry g j)) (sym q.1)

pub renamed_follow : (S : Specification) (F H : Front) (g : Name → Name) (ds : List (Global (Unit {0}) × Tables)) → Renames g F H → Follow S F ds → AreFresh H (map (renamed_pair g) ds) → Follow S H (map (renamed_pair g) ds)
renamed_follow S F H g [] n f m = tt
renamed_follow S F H g (d ∷ ds) n f m = (
  (m.0, renamed_valid S F H g d.1 n f.0.1, renamed_concludes g d.1 d.0 f.0.2),
  renamed_follow S (F ++ d.0 ∷ []) (H ++ renamed_entry g d.0 ∷ []) g ds (renames_more g F H d.0 n m.0) f.1 m.1,
)
