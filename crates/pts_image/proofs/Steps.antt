-- The steps of the loops that append an image.
use Rattle.std.proofs.Common.{ℕ, suc, zero, List, [], ◌∷◌, ◌++◌, map, length, take, drop, Bool, true, false, ◌≡◌, ◌<◌, ◌≤◌, ◌+◌, refl, sym, ap, ◌∙◌, arith, subst, Option, Some, None}
use Rattle.std.specs.Prelude.{if◌then◌else◌, slice_get, nat_lt, ◌&&◌}
use Rattle.std.proofs.lemmas.List.{map-append, take-append-drop, take_at}
use mathlib.Core.List.{append_assoc, append-nil}
use mathlib.Core.Path.{ap₂}
use Rattle.pts_names.specs.Name.{Name}
use Rattle.pts_terms.specs.Tree.{Bare}
use Rattle.pts_terms.specs.Limits.{within}
use Rattle.pts_record.specs.declared.shape.Shape.{Shape}
use Rattle.pts_record.specs.declared.shape.Node.{Node}
use Rattle.pts_record.specs.declared.shape.RecordFault.{RecordFault}
use Rattle.pts_record.specs.declared.shape.RecordFault.TheVariants.{Link, TooLarge}
use Rattle.pts_record.specs.Table.{UnlessMemory, Tables, unfold_shape, no_name, bare_trees, values_behind, term_fault, first_wrong, or_wrong, fields_before, shape_links, ShapesLinked}
use Rattle.pts_record.proofs.Trees.{bare_push}
use Rattle.pts_image.specs.declared.replacement.Replacement.{Replacement}
use Rattle.pts_terms.specs.Replaced.{replaced}
use Rattle.pts_image.specs.Appending.{term_for, shape_image, IsAmong, all_within}
use Rattle.pts_image.proofs.ImageTrees.{tree_next}

taken : {A : Type 0} (xs : List A) (i : ℕ) (x : A) → slice_get xs i ≡ Some x → take (suc i) xs ≡ take i xs ++ x ∷ []
taken [] i x h = absurd (cc h)
taken (y ∷ ys) zero x h = ap (λ z. z ∷ []) (same h)
  where
    same : Some y ≡ Some x → y ≡ x
    same p = cc p
taken (y ∷ ys) (suc i) x h = ap (λ zs. y ∷ zs) (taken ys i x h)

pub take_next : {A : Type 0} (xs : List A) (i : ℕ) (x : A) → slice_get xs i ≡ Some x → take (i + 1) xs ≡ take i xs ++ x ∷ []
take_next xs i x h =
    let e : i + 1 ≡ suc i = omega arith in
    ap (λ k. take k xs) e ∙ taken xs i x h

map_next : {A B : Type 0} (g : A → B) (bs : List B) (xs : List A) (i : ℕ) (x : A) (y : B) → slice_get xs i ≡ Some x → y ≡ g x → (bs ++ map g (take i xs)) ++ y ∷ [] ≡ bs ++ map g (take (i + 1) xs)
map_next g bs xs i x y h e =
    append_assoc bs (map g (take i xs)) (y ∷ []) ∙ ap (λ zs. bs ++ zs) (ap (λ z. map g (take i xs) ++ z ∷ []) e ∙ sym (map-append g (take i xs) (x ∷ [])) ∙ ap (map g) (sym (take_next xs i x h)))

pub next_node : (a q n : Tables) (g : Node → Node) (ns : List Node) (i : ℕ) (x y : Node) → q ≡ record { shapes = a.shapes; nodes = a.nodes ++ map g (take i ns) } → slice_get ns i ≡ Some x → y ≡ g x → n ≡ record { shapes = q.shapes; nodes = q.nodes ++ y ∷ [] } → n ≡ record { shapes = a.shapes; nodes = a.nodes ++ map g (take (i + 1) ns) }
next_node a q n g ns i x y p h e k =
    k ∙ ap (λ (r : Tables). record { shapes = r.shapes; nodes = r.nodes ++ y ∷ [] }) p
    ∙ ap (λ ms. record { shapes = a.shapes; nodes = ms }) (map_next g a.nodes ns i x y h e)

pub next_shape : (a q n : Tables) (g : Shape → Shape) (ss : List Shape) (i : ℕ) (x y : Shape) → q ≡ record { shapes = a.shapes ++ map g (take i ss); nodes = a.nodes } → slice_get ss i ≡ Some x → y ≡ g x → n ≡ record { shapes = q.shapes ++ y ∷ []; nodes = q.nodes } → n ≡ record { shapes = a.shapes ++ map g (take (i + 1) ss); nodes = a.nodes }
next_shape a q n g ss i x y p h e k =
    k ∙ ap (λ (r : Tables). record { shapes = r.shapes ++ y ∷ []; nodes = r.nodes }) p
    ∙ ap (λ ms. record { shapes = ms; nodes = a.nodes }) (map_next g a.shapes ss i x y h e)

-- What the fault of a term's line says of its tree.
passed : (b : Bool) (o : Option RecordFault) (k : ℕ) → (if b then o else Some (Link k)) ≡ Some TooLarge → o ≡ Some TooLarge
passed true o k h = h
passed false o k h = absurd (cc h)

no_size : (n k : ℕ) (ls : List ℕ) → first_wrong n k ls ≡ Some TooLarge → ⊥
no_size n k [] h = absurd (cc h)
no_size n k (l ∷ ls) h = no_size n (suc k) ls (passed (nat_lt l n) (first_wrong n (suc k) ls) k h)

large_tree : (o : Option RecordFault) (w : Bool) → (o ≡ Some TooLarge → ⊥) → or_wrong o (if w then None else Some TooLarge) ≡ Some TooLarge → w ≡ false
large_tree None true n h = absurd (cc h)
large_tree None false n h = refl
large_tree (Some e) w n h = absurd (n h)

fit_tree : (o : Option RecordFault) (w : Bool) → or_wrong o (if w then None else Some TooLarge) ≡ None → w ≡ true
fit_tree None true h = refl
fit_tree None false h = absurd (cc h)
fit_tree (Some e) w h = absurd (cc h)

large_line : (ss : List Shape) (s : Shape) → term_fault ss s ≡ Some TooLarge → within (unfold_shape no_name (bare_trees ss) s) ≡ false
unfolding term_fault
large_line ss s h = large_tree (first_wrong (length ss) (fields_before s) (shape_links s)) (within (unfold_shape no_name (bare_trees ss) s)) (no_size (length ss) (fields_before s) (shape_links s)) h

fit_line : (ss : List Shape) (s : Shape) → term_fault ss s ≡ None → within (unfold_shape no_name (bare_trees ss) s) ≡ true
unfolding term_fault
fit_line ss s h = fit_tree (first_wrong (length ss) (fields_before s) (shape_links s)) (within (unfold_shape no_name (bare_trees ss) s)) h

-- Limits of all terms.
all_more : (ts us : List Bare) → all_within (ts ++ us) ≡ all_within ts && all_within us
all_more [] us = refl
all_more (t ∷ ts) us = ap (λ b. within t && b) (all_more ts us) ∙ grind arith

one_more : (b w : Bool) → b ≡ true → w ≡ true → (b && (w && true)) ≡ true
one_more b w p q = grind arith

one_less : (b w c : Bool) → w ≡ false → ((b && (w && true)) && c) ≡ false
one_less b w c p = grind arith

values_more : {A D : Type 0} (v : List D → A → D) (ds : List D) (xs : List A) → (es : List D) × (values_behind v ds xs ≡ ds ++ es)
values_more v ds [] = ([], sym (append-nil ds))
values_more v ds (x ∷ xs) = let (es, e) = values_more v (ds ++ v ds x ∷ []) xs in (v ds x ∷ es, e ∙ append_assoc ds (v ds x ∷ []) es)

values_parts : {A D : Type 0} (v : List D → A → D) (ds : List D) (xs ys : List A) → values_behind v ds (xs ++ ys) ≡ values_behind v (values_behind v ds xs) ys
values_parts v ds [] ys = refl
values_parts v ds (x ∷ xs) ys = values_parts v (ds ++ v ds x ∷ []) xs ys

trees_more : (ss ks : List Shape) → (es : List Bare) × (bare_trees (ss ++ ks) ≡ bare_trees ss ++ es)
unfolding bare_trees
trees_more ss ks =
    let (es, e) = values_more (unfold_shape no_name) (values_behind (unfold_shape no_name) [] ss) ks in
    (es, values_parts (unfold_shape no_name) [] ss ks ∙ e)

module _ (f : Name → Bare) where
  trees_of : List Shape → List Bare
  trees_of ss = map (replaced f) (bare_trees ss)

  all_next : (ss : List Shape) (i : ℕ) (x : Shape) → slice_get ss i ≡ Some x → all_within (map (replaced f) (bare_trees (take (i + 1) ss))) ≡ (all_within (map (replaced f) (bare_trees (take i ss))) && (within (replaced f (unfold_shape no_name (bare_trees (take i ss)) x)) && true))
  all_next ss i x h =
      ap (λ zs. all_within (map (replaced f) (bare_trees zs))) (take_next ss i x h)
      ∙ ap (λ ts. all_within (map (replaced f) ts)) (bare_push (take i ss) x)
      ∙ ap all_within (map-append (replaced f) (bare_trees (take i ss)) (unfold_shape no_name (bare_trees (take i ss)) x ∷ []))
      ∙ all_more (map (replaced f) (bare_trees (take i ss))) (replaced f (unfold_shape no_name (bare_trees (take i ss)) x) ∷ [])

  -- One that is too large makes all too large.
  all_fail : (ss : List Shape) (i : ℕ) (x : Shape) → slice_get ss i ≡ Some x → within (replaced f (unfold_shape no_name (bare_trees (take i ss)) x)) ≡ false → all_within (map (replaced f) (bare_trees ss)) ≡ false
  all_fail ss i x h w =
      let front = take (i + 1) ss in
      let (es, e) = trees_more front (drop (i + 1) ss) in
      ap (λ zs. all_within (map (replaced f) (bare_trees zs))) (sym (take-append-drop (i + 1) ss))
      ∙ ap (λ ts. all_within (map (replaced f) ts)) e
      ∙ ap all_within (map-append (replaced f) (bare_trees front) es)
      ∙ all_more (map (replaced f) (bare_trees front)) (map (replaced f) es)
      ∙ ap (λ b. b && all_within (map (replaced f) es)) (all_next ss i x h)
      ∙ one_less (all_within (map (replaced f) (bare_trees (take i ss)))) (within (replaced f (unfold_shape no_name (bare_trees (take i ss)) x))) (all_within (map (replaced f) es)) w

module _ (a : Tables) (w : Name → Replacement) (linked : ShapesLinked 0 a.shapes) (there : (c : Name) → IsAmong (length a.shapes) (w c)) (ss : List Shape) (i : ℕ) (x y : Shape) (q : Tables)
    (now : q ≡ record { shapes = a.shapes ++ map (shape_image a.shapes w) (take i ss); nodes = a.nodes }) (h : slice_get ss i ≡ Some x) (e : y ≡ shape_image a.shapes w x) where
  tree_is : unfold_shape no_name (bare_trees q.shapes) y ≡ replaced (term_for (bare_trees a.shapes) w) (unfold_shape no_name (bare_trees (take i ss)) x)
  tree_is = ap (λ s. unfold_shape no_name (bare_trees q.shapes) s) e ∙ ap (λ (r : Tables). unfold_shape no_name (bare_trees r.shapes) (shape_image a.shapes w x)) now ∙ tree_next a.shapes w linked there (take i ss) x

  pub still_fits : term_fault q.shapes y ≡ None → all_within (map (replaced (term_for (bare_trees a.shapes) w)) (bare_trees (take i ss))) ≡ true → all_within (map (replaced (term_for (bare_trees a.shapes) w)) (bare_trees (take (i + 1) ss))) ≡ true
  still_fits f b = all_next (term_for (bare_trees a.shapes) w) ss i x h ∙ one_more _ _ b (sym (ap within tree_is) ∙ fit_line q.shapes y f)

  pub fits_no_more : term_fault q.shapes y ≡ Some TooLarge → all_within (map (replaced (term_for (bare_trees a.shapes) w)) (bare_trees ss)) ≡ false
  fits_no_more f = all_fail (term_for (bare_trees a.shapes) w) ss i x h (sym (ap within tree_is) ∙ large_line q.shapes y f)

pub starts : (a : Tables) → a ≡ record { shapes = a.shapes ++ []; nodes = a.nodes }
starts a = ap (λ ss. record { shapes = ss; nodes = a.nodes }) (sym (append-nil a.shapes))

pub starts_fitting : (f : Name → Bare) → all_within (map (replaced f) (bare_trees [])) ≡ true
unfolding bare_trees
starts_fitting f = refl

-- The first lines are still there.
pub first_lines : (a q : Tables) (more : List Shape) (n : ℕ) (w : Name → Replacement) (x y : Shape) → q ≡ record { shapes = a.shapes ++ more; nodes = a.nodes } → n ≡ length a.shapes → y ≡ shape_image (take n q.shapes) w x → y ≡ shape_image a.shapes w x
first_lines a q more n w x y p l e = e ∙ ap (λ ss. shape_image ss w x) (ap (λ (r : Tables). take n r.shapes) p ∙ take_at a.shapes more n (sym l))

pub too_large : (e : RecordFault) (o : Option RecordFault) → e ≡ TooLarge → UnlessMemory e (o ≡ Some e) → o ≡ Some TooLarge
too_large e o p h = subst (λ f. UnlessMemory f (o ≡ Some f)) p h
