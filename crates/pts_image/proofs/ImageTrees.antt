-- The trees of the images of terms, after those of the arguments.
use Rattle.std.proofs.Common.{ℕ, suc, zero, List, [], ◌∷◌, ◌++◌, map, length, Bool, true, false, ◌≡◌, ◌<◌, ◌≤◌, ◌+◌, refl, sym, ap, ◌∙◌, arith, subst}
use Rattle.std.specs.Prelude.{get_or}
use Rattle.std.proofs.lemmas.List.{map-append, get_or_append_left}
use Rattle.std.proofs.lemmas.Option.{slice_get-get_or}
use mathlib.Core.List.{append_assoc, append-nil}
use Rattle.pts_names.specs.Name.{Name}
use Rattle.pts_terms.specs.Tree.{Bare, sort}
use Rattle.pts_record.specs.declared.shape.Shape.{Shape}
use Rattle.pts_record.specs.declared.shape.Shape.TheVariants.{Sort, Const, Var, App, Lam, Pi, Let}
use Rattle.pts_record.specs.Table.{at, unfold_shape, no_name, bare_trees, values_behind, AllBelow, shape_links, ShapesLinked}
use Rattle.pts_record.proofs.Linked.{shape_linked}
use Rattle.pts_record.proofs.Trees.{unfold_by_links, bare_here, bare_long}
use Rattle.pts_image.specs.declared.replacement.Replacement.{Replacement}
use Rattle.pts_image.specs.declared.replacement.Replacement.TheVariants.{Constant, Argument}
use Rattle.pts_terms.specs.Replaced.{replaced}
use Rattle.pts_image.specs.Appending.{term_of, term_for, replaced_shape, shape_image, IsAmong}

at_front : (us ts : List Bare) (k : ℕ) → k < length us → at (us ++ ts) k ≡ at us k
at_front us ts k h = get_or_append_left us ts (sort 0) k h

at_mapped : (f : Name → Bare) (ts : List Bare) (k : ℕ) → at (map (replaced f) ts) k ≡ replaced f (at ts k)
at_mapped f [] k = refl
at_mapped f (t ∷ ts) zero = refl
at_mapped f (t ∷ ts) (suc k) = at_mapped f ts k

at_after : (f : Name → Bare) (us ts : List Bare) (k : ℕ) → at (us ++ map (replaced f) ts) (length us + k) ≡ replaced f (at ts k)
at_after f [] ts k =
    let e : 0 + k ≡ k = omega arith in
    ap (at (map (replaced f) ts)) e ∙ at_mapped f ts k
at_after f (u ∷ us) ts k =
    let e : suc (length us) + k ≡ suc (length us + k) = omega arith in
    ap (at (u ∷ (us ++ map (replaced f) ts))) e ∙ at_after f us ts k

values_parts : {A D : Type 0} (v : List D → A → D) (ds : List D) (xs ys : List A) → values_behind v ds (xs ++ ys) ≡ values_behind v (values_behind v ds xs) ys
values_parts v ds [] ys = refl
values_parts v ds (x ∷ xs) ys = values_parts v (ds ++ v ds x ∷ []) xs ys

module _ (ss0 : List Shape) (w : Name → Replacement) (linked : ShapesLinked 0 ss0) (there : (c : Name) → IsAmong (length ss0) (w c)) where
  abbrev ta : List Bare
  ta = bare_trees ss0

  abbrev f : Name → Bare
  f = term_for ta w

  abbrev θ : Bare → Bare
  θ = replaced f

  after_first : (ts : List Bare) (k : ℕ) → at (ta ++ map θ ts) (length ss0 + k) ≡ θ (at ts k)
  after_first ts k = ap (λ n. at (ta ++ map θ ts) (n + k)) (sym (bare_long ss0)) ∙ at_after f ta ts k

  line_there : (ts : List Bare) (t : ℕ) → t < length ss0 → unfold_shape no_name (ta ++ map θ ts) (get_or ss0 t (Const [])) ≡ at ta t
  line_there ts t h =
      let s = get_or ss0 t (Const []) in
      let z : 0 + t ≡ t = omega arith in
      let b : AllBelow t (shape_links s) = subst (λ k. AllBelow k (shape_links s)) z (shape_linked ss0 0 t (Const []) linked h) in
      unfold_by_links no_name t (ta ++ map θ ts) ta s b (λ k l. at_front ta (map θ ts) k (let q = bare_long ss0 in omega (arith, h, l, q)))
      ∙ sym (bare_here ss0 t s h (slice_get-get_or ss0 t (Const []) h) b)

  const_there : (ts : List Bare) (i : Replacement) → IsAmong (length ss0) i → unfold_shape no_name (ta ++ map θ ts) (replaced_shape ss0 i) ≡ term_of ta i
  const_there ts (Constant y) h = refl
  const_there ts (Argument t p) h = line_there ts t h

  unfold_image : (ts : List Bare) (s : Shape) → unfold_shape no_name (ta ++ map θ ts) (shape_image ss0 w s) ≡ θ (unfold_shape no_name ts s)
  unfold_image ts (Sort s) = refl
  unfold_image ts (Const x) = const_there ts (w x) (there x)
  unfold_image ts (Var i) = refl
  unfold_image ts (App g b) = let p = after_first ts g in let q = after_first ts b in cc
  unfold_image ts (Lam x A b) = let p = after_first ts A in let q = after_first ts b in cc
  unfold_image ts (Pi x A b) = let p = after_first ts A in let q = after_first ts b in cc
  unfold_image ts (Let x d A b) = let p = after_first ts d in let q = after_first ts A in let o = after_first ts b in cc

  trees_after : (ss : List Shape) (ts : List Bare) → values_behind (unfold_shape no_name) (ta ++ map θ ts) (map (shape_image ss0 w) ss) ≡ ta ++ map θ (values_behind (unfold_shape no_name) ts ss)
  trees_after [] ts = refl
  trees_after (s ∷ ss) ts =
      ap (λ us. values_behind (unfold_shape no_name) us (map (shape_image ss0 w) ss))
      (ap (λ t. (ta ++ map θ ts) ++ t ∷ []) (unfold_image ts s) ∙ append_assoc ta (map θ ts) (θ (unfold_shape no_name ts s) ∷ []) ∙ ap (λ us. ta ++ us) (sym (map-append θ ts (unfold_shape no_name ts s ∷ []))))
      ∙ trees_after ss (ts ++ unfold_shape no_name ts s ∷ [])

  pub trees_image : (ss : List Shape) → bare_trees (ss0 ++ map (shape_image ss0 w) ss) ≡ ta ++ map θ (bare_trees ss)
  unfolding bare_trees
  trees_image ss =
      values_parts (unfold_shape no_name) [] ss0 (map (shape_image ss0 w) ss)
      ∙ ap (λ us. values_behind (unfold_shape no_name) us (map (shape_image ss0 w) ss)) (sym (append-nil ta))
      ∙ trees_after ss []

  pub at_new_number : (ss : List Shape) (k : ℕ) → at (bare_trees (ss0 ++ map (shape_image ss0 w) ss)) (length ss0 + k) ≡ θ (at (bare_trees ss) k)
  at_new_number ss k = ap (λ ts. at ts (length ss0 + k)) (trees_image ss) ∙ after_first (bare_trees ss) k

  pub at_old_number : (ss : List Shape) (k : ℕ) → k < length ss0 → at (bare_trees (ss0 ++ map (shape_image ss0 w) ss)) k ≡ at ta k
  at_old_number ss k h = ap (λ ts. at ts k) (trees_image ss) ∙ at_front ta (map θ (bare_trees ss)) k (let q = bare_long ss0 in omega (arith, h, q))

  -- The next term.
  pub tree_next : (ss : List Shape) (s : Shape) → unfold_shape no_name (bare_trees (ss0 ++ map (shape_image ss0 w) ss)) (shape_image ss0 w s) ≡ θ (unfold_shape no_name (bare_trees ss) s)
  tree_next ss s = ap (λ ts. unfold_shape no_name ts (shape_image ss0 w s)) (trees_image ss) ∙ unfold_image (bare_trees ss) s
