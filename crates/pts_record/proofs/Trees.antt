-- The trees of a table of terms.
use Rattle.std.proofs.Common.{◌≡◌, ℕ, zero, suc, ◌+◌, ◌<◌, ◌≤◌, List, [], ◌∷◌, ◌++◌, length, get_or, take, map, refl, sym, ap, ◌∙◌, arith}
use Rattle.std.specs.Prelude.{slice_get, Some}
use Rattle.std.proofs.lemmas.Option.{slice_get-get_or}
use Rattle.std.proofs.lemmas.List.{get_or_append_left, get_or_push, map-append}
use Rattle.pts_names.specs.Name.{Name}
use Rattle.pts_terms.specs.Tree.{Tree, Named, sort, bare}
use Rattle.pts_record.specs.declared.shape.Shape.{Shape}
use Rattle.pts_record.specs.declared.shape.Shape.TheVariants.{Sort, Const, Var, App, Lam, Pi, Let}
use Rattle.pts_record.specs.Table.{at, unfold_shape, values_behind, named_trees, bare_trees, named_at, bare_at, no_name, the_name, AllBelow, shape_links}
use Rattle.pts_record.proofs.Values.{values_long, values_here, values_take, values_push}

module _ {B : Type 0} (mark : Name → B) where
  -- only the parts that a line is linked to count
  pub unfold_by_links : (n : ℕ) (ts us : List (Tree B)) (s : Shape) → AllBelow n (shape_links s) → ((k : ℕ) → k < n → at ts k ≡ at us k) → unfold_shape mark ts s ≡ unfold_shape mark us s
  unfold_by_links n ts us (Sort s) b e = refl
  unfold_by_links n ts us (Const c) b e = refl
  unfold_by_links n ts us (Var i) b e = refl
  unfold_by_links n ts us (App f a) b e = let p = e f b.0 in let q = e a b.1.0 in cc
  unfold_by_links n ts us (Lam x A t) b e = let p = e A b.0 in let q = e t b.1.0 in cc
  unfold_by_links n ts us (Pi x A t) b e = let p = e A b.0 in let q = e t b.1.0 in cc
  unfold_by_links n ts us (Let x a A t) b e = let p = e a b.0 in let q = e A b.1.0 in let r = e t b.1.1.0 in cc

  trees : List Shape → List (Tree B)
  trees ss = values_behind (unfold_shape mark) [] ss

  unfold_here : (ss : List Shape) (k : ℕ) (s : Shape) → k < length ss → get_or ss k s ≡ s → AllBelow k (shape_links s) → at (values_behind (unfold_shape mark) [] ss) k ≡ unfold_shape mark (values_behind (unfold_shape mark) [] ss) s
  unfold_here ss k s h e b =
      let z : k ≡ 0 + k = omega arith in
      let v = unfold_shape mark in
      let le : k ≤ length ss = omega (arith, h) in
      ap (at (values_behind v [] ss)) z ∙ values_here v ss [] k s (sort 0) h ∙ ap (v (values_behind v [] (take k ss))) e
      ∙ unfold_by_links k (values_behind v [] (take k ss)) (values_behind v [] ss) s b (λ i lt. values_take v ss [] k i (sort 0) (omega (arith, lt)) le)

-- the line of a term says its tree
pub bare_here : (ss : List Shape) (k : ℕ) (s : Shape) → k < length ss → slice_get ss k ≡ Some s → AllBelow k (shape_links s) → bare_at ss k ≡ unfold_shape no_name (bare_trees ss) s
unfolding bare_trees
bare_here ss k s h e b =
    let g = slice_get-get_or ss k s h in
    let same : get_or ss k s ≡ s = cc in
    unfold_here no_name ss k s h same b

pub named_here : (ss : List Shape) (k : ℕ) (s : Shape) → k < length ss → slice_get ss k ≡ Some s → AllBelow k (shape_links s) → named_at ss k ≡ unfold_shape the_name (named_trees ss) s
unfolding named_trees
named_here ss k s h e b =
    let g = slice_get-get_or ss k s h in
    let same : get_or ss k s ≡ s = cc in
    unfold_here the_name ss k s h same b

-- a tree without its printed names is the one that the table without them unfolds to
pub at_bare : (ts : List Named) (k : ℕ) → at (map bare ts) k ≡ bare (at ts k)
at_bare [] k = refl
at_bare (t ∷ ts) zero = refl
at_bare (t ∷ ts) (suc k) = at_bare ts k

pub unfold_bare : (ts : List Named) (s : Shape) → unfold_shape no_name (map bare ts) s ≡ bare (unfold_shape the_name ts s)
unfold_bare ts (Sort s) = refl
unfold_bare ts (Const c) = refl
unfold_bare ts (Var i) = refl
unfold_bare ts (App f a) = let p = at_bare ts f in let q = at_bare ts a in cc
unfold_bare ts (Lam x A b) = let p = at_bare ts A in let q = at_bare ts b in cc
unfold_bare ts (Pi x A b) = let p = at_bare ts A in let q = at_bare ts b in cc
unfold_bare ts (Let x a A b) = let p = at_bare ts a in let q = at_bare ts A in let r = at_bare ts b in cc

pub bare_behind : (ss : List Shape) (ts : List Named) → values_behind (unfold_shape no_name) (map bare ts) ss ≡ map bare (values_behind (unfold_shape the_name) ts ss)
bare_behind [] ts = refl
bare_behind (s ∷ ss) ts =
    ap (λ b. values_behind (unfold_shape no_name) (map bare ts ++ b ∷ []) ss) (unfold_bare ts s)
    ∙ ap (λ us. values_behind (unfold_shape no_name) us ss) (sym (map-append bare ts (unfold_shape the_name ts s ∷ [])))
    ∙ bare_behind ss (ts ++ unfold_shape the_name ts s ∷ [])

pub bare_of_named : (ss : List Shape) (k : ℕ) → bare (named_at ss k) ≡ bare_at ss k
unfolding bare_trees named_trees
bare_of_named ss k =
    sym (at_bare (values_behind (unfold_shape the_name) [] ss) k) ∙ ap (λ ts. at ts k) (sym (bare_behind ss []))

pub bare_long : (ss : List Shape) → length (bare_trees ss) ≡ length ss
unfolding bare_trees
bare_long ss = values_long (unfold_shape no_name) ss [] ∙ omega arith

pub bare_push : (ss : List Shape) (s : Shape) → bare_trees (ss ++ s ∷ []) ≡ bare_trees ss ++ unfold_shape no_name (bare_trees ss) s ∷ []
unfolding bare_trees
bare_push ss s = values_push (unfold_shape no_name) ss [] s

-- a table that grows keeps its trees
pub bare_stays : (ss : List Shape) (s : Shape) (k : ℕ) → k < length ss → bare_at (ss ++ s ∷ []) k ≡ bare_at ss k
bare_stays ss s k h =
    let l = bare_long ss in
    ap (λ ts. at ts k) (bare_push ss s) ∙ get_or_append_left (bare_trees ss) (unfold_shape no_name (bare_trees ss) s ∷ []) (sort 0) k (omega (arith, h, l))

pub bare_new : (ss : List Shape) (s : Shape) → bare_at (ss ++ s ∷ []) (length ss) ≡ unfold_shape no_name (bare_trees ss) s
bare_new ss s =
    ap (λ ts. at ts (length ss)) (bare_push ss s) ∙ get_or_push (bare_trees ss) (unfold_shape no_name (bare_trees ss) s) (sort 0) (length ss) (bare_long ss)
