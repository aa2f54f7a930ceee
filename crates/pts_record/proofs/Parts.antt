-- Tables that grow by the parts of a term, and tables that are cut back.
use Rattle.std.proofs.Common.{◌≡◌, ℕ, zero, suc, ◌+◌, ◌<◌, ◌≤◌, List, [], ◌∷◌, ◌++◌, length, take, map, refl, sym, ap, ◌∙◌, subst, arith, length-append, length-take, All, true, None}
use Rattle.std.proofs.Math.Seq.{take-append_seam}
use Rattle.std.proofs.lemmas.List.{length-take-le, take_all, get_or-take, get_or_push}
use Rattle.std.proofs.lemmas.List.Elements.{All-take}
use Rattle.pts_names.specs.Name.{Name}
use Rattle.pts_terms.specs.Tree.{Named, sort, app, named_lam, named_pi, named_let, bare}
use Rattle.pts_terms.specs.Limits.{within}
use Rattle.std.specs.Prelude.{IfOk, IfErr, OnOk, Result, Ok, Err}
use mathlib.Core.Path.{ap₂}
use Rattle.pts_terms.specs.declared.term.Term.{Term}
use Rattle.pts_terms.specs.declared.term.Term.TheVariants.{App, Lam, Pi, Let, rolls-App, rolls-Lam, rolls-Pi, rolls-Let}
use Rattle.pts_terms.specs.declared.term.Term.TheOpen.{Term-F}
use Rattle.pts_terms.specs.declared.term.Term.TheFolds.{fold-roll-Term}
use Rattle.pts_terms.specs.Seen.{named, named_step}
use Rattle.pts_terms.proofs.Unnamed.{bare_within}
use Rattle.pts_record.specs.declared.shape.Shape.{Shape}
use Rattle.pts_record.specs.declared.measure.Measure.{Measure}
use Rattle.pts_record.specs.declared.shape.Node.{Node}
use Rattle.pts_record.specs.declared.shape.Extent.{Extent}
use Rattle.pts_record.specs.declared.shape.RecordFault.{RecordFault}
use Rattle.pts_record.specs.declared.shape.RecordFault.TheVariants.{Link, TooLarge, Memory}
use Rattle.std.specs.Prelude.{Some}
use Rattle.pts_record.specs.Table.{first_wrong, fields_before, term_fault, UnlessMemory, Tables, at, values_behind, unfold_shape, the_name, no_name, named_trees, bare_trees, named_at, bare_at, AllBelow, shape_links, ShapesLinked, NodesLinked, measure}
use Rattle.pts_record.specs.Said.{said_behind, extent}
use Rattle.pts_record.specs.Kept.{Kept, tables}
use Rattle.pts_record.proofs.Values.{values_long, values_take, values_push}
use Rattle.pts_record.proofs.Trees.{bare_behind, unfold_bare}
use Rattle.pts_record.proofs.Grow.{lines_same}

ap₄ : {A B C D E : Type 0} (f : A → B → C → D → E) {a a' : A} {b b' : B} {c c' : C} {d d' : D} → a ≡ a' → b ≡ b' → c ≡ c' → d ≡ d' → f a b c d ≡ f a' b' c' d'
ap₄ f p q r s = λ i. f (p i) (q i) (r i) (s i)

ap₃ : {A B C D : Type 0} (f : A → B → C → D) {a a' : A} {b b' : B} {c c' : C} → a ≡ a' → b ≡ b' → c ≡ c' → f a b c ≡ f a' b' c'
ap₃ f p q r = λ i. f (p i) (q i) (r i)

-- a table that has another in front has no fewer lines
pub long_kept : {A : Type 0} (xs ys : List A) → take (length xs) ys ≡ xs → length xs ≤ length ys
long_kept xs ys e = omega (arith, ap length e, length-take (length xs) ys)

pub below_kept : {A : Type 0} (xs ys : List A) (k : ℕ) → take (length xs) ys ≡ xs → k < length xs → k < length ys
below_kept xs ys k e h = omega (arith, h, long_kept xs ys e)

-- and the trees of the other
pub named_kept : (ss rs : List Shape) (k : ℕ) → take (length ss) rs ≡ ss → k < length ss → named_at rs k ≡ named_at ss k
unfolding named_trees
named_kept ss rs k e h =
    sym (values_take (unfold_shape the_name) rs [] (length ss) k (sort 0) (omega (arith, h)) (long_kept ss rs e)) ∙ ap (λ xs. at (values_behind (unfold_shape the_name) [] xs) k) e

take_take : {A : Type 0} (i j : ℕ) (zs : List A) → i ≤ j → take i (take j zs) ≡ take i zs
take_take zero j zs h = refl
take_take (suc i) zero zs h = absurd (omega (arith, h))
take_take (suc i) (suc j) [] h = refl
take_take (suc i) (suc j) (z ∷ zs) h = ap (λ l. z ∷ l) (take_take i j zs (omega (arith, h)))

pub front_kept : {A : Type 0} (xs ys zs : List A) → take (length xs) ys ≡ xs → take (length ys) zs ≡ ys → take (length xs) zs ≡ xs
front_kept xs ys zs e f =
    sym (take_take (length xs) (length ys) zs (long_kept xs ys e)) ∙ ap (take (length xs)) f ∙ e

-- A term of the program whose parts stand.
pub app_is : (ss rs : List Shape) (f a : ℕ) (t g b : Term) → t ≡ App g b → f < length ss → named_at ss f ≡ named g → take (length ss) rs ≡ ss → named_at rs a ≡ named b → app (named_at rs f) (named_at rs a) ≡ named t
app_is ss rs f a t g b e h p q r =
    ap₂ app (named_kept ss rs f q h ∙ p) r ∙ sym (ap named (e ∙ sym (rolls-App g b)) ∙ fold-roll-Term Named named_step (Term-F.App g b))

pub lam_is : (ss rs : List Shape) (A a : ℕ) (x y : Name) (t B b : Term) → t ≡ Lam x B b → y ≡ x → A < length ss → named_at ss A ≡ named B → take (length ss) rs ≡ ss → named_at rs a ≡ named b → named_lam y (named_at rs A) (named_at rs a) ≡ named t
lam_is ss rs A a x y t B b e o h p q r =
    ap₃ named_lam o (named_kept ss rs A q h ∙ p) r ∙ sym (ap named (e ∙ sym (rolls-Lam x B b)) ∙ fold-roll-Term Named named_step (Term-F.Lam x B b))

pub pi_is : (ss rs : List Shape) (A a : ℕ) (x y : Name) (t B b : Term) → t ≡ Pi x B b → y ≡ x → A < length ss → named_at ss A ≡ named B → take (length ss) rs ≡ ss → named_at rs a ≡ named b → named_pi y (named_at rs A) (named_at rs a) ≡ named t
pi_is ss rs A a x y t B b e o h p q r =
    ap₃ named_pi o (named_kept ss rs A q h ∙ p) r ∙ sym (ap named (e ∙ sym (rolls-Pi x B b)) ∙ fold-roll-Term Named named_step (Term-F.Pi x B b))

pub let_is : (ss rs us : List Shape) (d A a : ℕ) (x y : Name) (t D B b : Term) → t ≡ Let x D B b → y ≡ x → d < length ss → named_at ss d ≡ named D → take (length ss) rs ≡ ss → A < length rs → named_at rs A ≡ named B → take (length rs) us ≡ rs → named_at us a ≡ named b → named_let y (named_at us d) (named_at us A) (named_at us a) ≡ named t
let_is ss rs us d A a x y t D B b e o h p q i r v w =
    ap₄ named_let o (named_kept rs us d v (below_kept ss rs d q h) ∙ named_kept ss rs d q h ∙ p) (named_kept rs us A v i ∙ r) w ∙ sym (ap named (e ∙ sym (rolls-Let x D B b)) ∙ fold-roll-Term Named named_step (Term-F.Let x D B b))

pub number_of : {E : Type 0} (r : Result ℕ E) (ss : List Shape) (t u : Named) → t ≡ u → IfOk r (λ n. (n < length ss) × (named_at ss n ≡ t)) → IfOk r (λ n. (n < length ss) × (named_at ss n ≡ u))
number_of r ss t u e h = subst (λ x. IfOk r (λ n. (n < length ss) × (named_at ss n ≡ x))) e h

-- The first values are those of the first lines.
values_first : {A D : Type 0} (value : List D → A → D) (xs : List A) (ds : List D) → take (length ds) (values_behind value ds xs) ≡ ds
values_first value [] ds = take_all (length ds) ds (omega arith)
values_first value (x ∷ xs) ds =
    let v = value ds x in
    front_kept ds (ds ++ v ∷ []) (values_behind value (ds ++ v ∷ []) xs) (take-append_seam ds (v ∷ [])) (values_first value xs (ds ++ v ∷ []))

values_cut : {A D : Type 0} (value : List D → A → D) (xs : List A) (ds : List D) (i j : ℕ) → j ≡ length ds + i → values_behind value ds (take i xs) ≡ take j (values_behind value ds xs)
values_cut value xs ds zero j e = sym (ap (λ n. take n (values_behind value ds xs)) (omega (arith, e)) ∙ values_first value xs ds)
values_cut value [] ds (suc i) j e = sym (take_all j ds (omega (arith, e)))
values_cut value (x ∷ xs) ds (suc i) j e =
    let v = value ds x in
    values_cut value xs (ds ++ v ∷ []) i j (omega (arith, e, length-append ds (v ∷ [])))

bare_cut : (ss : List Shape) (n : ℕ) → bare_trees (take n ss) ≡ take n (bare_trees ss)
unfolding bare_trees
bare_cut ss n = values_cut (unfold_shape no_name) ss [] n n (omega arith)

take_map : {A B : Type 0} (f : A → B) (n : ℕ) (xs : List A) → take n (map f xs) ≡ map f (take n xs)
take_map f zero xs = refl
take_map f (suc n) [] = refl
take_map f (suc n) (x ∷ xs) = ap (λ l. f x ∷ l) (take_map f n xs)

linked_cut : (ss : List Shape) (n k : ℕ) → ShapesLinked k ss → ShapesLinked k (take n ss)
linked_cut ss zero k b = tt
linked_cut [] (suc n) k b = tt
linked_cut (s ∷ ss) (suc n) k b = (b.0, linked_cut ss n (suc k) b.1)

at_cut : (ss : List Shape) (n k : ℕ) → k < n → bare_at (take n ss) k ≡ bare_at ss k
at_cut ss n k h = ap (λ ts. at ts k) (bare_cut ss n) ∙ get_or-take n (bare_trees ss) k (sort 0) h

-- A record is kept in order where terms that no node names are taken out.
pub kept_cut : (ss : List Shape) (ms : List Measure) (ns : List Node) (es : List Extent) (r : Tables) (n : ℕ) (ss2 : List Shape) (ms2 : List Measure) → Kept ss ms ns es → tables ss ns ≡ r → n ≤ length r.shapes → NodesLinked n 0 r.nodes → ss2 ≡ take n ss → ms2 ≡ take n ms → Kept ss2 ms2 ns es
kept_cut ss ms ns es r n ss2 ms2 kept v few b p q =
    let le : n ≤ length ss = omega (arith, few, ap (λ t. length t.shapes) v) in
    let long : length (take n ss) ≡ n = length-take-le n ss le in
    let linked : NodesLinked n 0 ns = subst (λ t. NodesLinked n 0 t.nodes) (sym v) b in
    rw (p, q) (record {
      terms_fit = omega (arith, long, le, kept.terms_fit);
      nodes_fit = kept.nodes_fit;
      shapes = linked_cut ss n 0 kept.shapes;
      nodes = subst (λ k. NodesLinked k 0 ns) (sym long) linked;
      measures = ap (take n) kept.measures ∙ take_map measure n (bare_trees ss) ∙ ap (map measure) (sym (bare_cut ss n));
      limits = subst (All (λ u. within u ≡ true)) (sym (bare_cut ss n)) (All-take (λ u. within u ≡ true) n (bare_trees ss) kept.limits);
      extents = kept.extents ∙ ap (λ ls. map extent (said_behind [] ls)) (sym (lines_same (bare_trees (take n ss)) (bare_trees ss) ns n 0 linked (λ i h. at_cut ss n i h)));
    })

no_wrong : (n k : ℕ) (ls : List ℕ) → AllBelow n ls → first_wrong n k ls ≡ None
no_wrong n k [] b = refl
no_wrong n k (l ∷ ls) b = let h : l < n = b.0 in let r = no_wrong n (suc k) ls b.1 in grind arith

fits : (ss : List Shape) (s : Shape) → AllBelow (length ss) (shape_links s) → within (unfold_shape the_name (named_trees ss) s) ≡ true → term_fault ss s ≡ None
unfolding term_fault named_trees bare_trees
fits ss s b w =
    let ts = values_behind (unfold_shape the_name) [] ss in
    let p = no_wrong (length ss) (fields_before s) (shape_links s) b in
    let e : unfold_shape no_name (values_behind (unfold_shape no_name) [] ss) s ≡ bare (unfold_shape the_name ts s) = ap (λ us. unfold_shape no_name us s) (bare_behind ss []) ∙ unfold_bare ts s in
    let q : within (unfold_shape no_name (values_behind (unfold_shape no_name) [] ss) s) ≡ true = ap within e ∙ bare_within (unfold_shape the_name ts s) ∙ w in
    rw (p, q) refl

refuted : (ss : List Shape) (s : Shape) (e : RecordFault) → AllBelow (length ss) (shape_links s) → within (unfold_shape the_name (named_trees ss) s) ≡ true → term_fault ss s ≡ Some e → ⊥
refuted ss s e b w h = let p : None ≡ Some e = sym (fits ss s b w) ∙ h in cc

-- A line whose parts stand and whose term is within limits is added, unless memory ends.
pub only_memory : (ss : List Shape) (s : Shape) (e : RecordFault) → AllBelow (length ss) (shape_links s) → within (unfold_shape the_name (named_trees ss) s) ≡ true → UnlessMemory e (term_fault ss s ≡ Some e) → e ≡ Memory
only_memory ss s Memory b w h = refl
only_memory ss s (Link k) b w h = absurd (refuted ss s (Link k) b w h)
only_memory ss s TooLarge b w h = absurd (refuted ss s TooLarge b w h)

pub named_new : (ss : List Shape) (s : Shape) → named_at (ss ++ s ∷ []) (length ss) ≡ unfold_shape the_name (named_trees ss) s
unfolding named_trees
named_new ss s =
    let ts = values_behind (unfold_shape the_name) [] ss in
    ap (λ us. at us (length ss)) (values_push (unfold_shape the_name) ss [] s) ∙ get_or_push ts (unfold_shape the_name ts s) (sort 0) (length ss) (values_long (unfold_shape the_name) ss [] ∙ omega arith)

pub put_number : (r q : Tables) (s : Shape) (o : Result ℕ RecordFault) → IfOk o (λ n. n ≡ length r.shapes) → OnOk o (q ≡ record { shapes = r.shapes ++ s ∷ []; nodes = r.nodes }) → IfOk o (λ n. (n < length q.shapes) × (named_at q.shapes n ≡ unfold_shape the_name (named_trees r.shapes) s))
put_number r q s (Ok n) e h =
    let grown : q.shapes ≡ r.shapes ++ s ∷ [] = ap (λ t. t.shapes) h in
    let long : length q.shapes ≡ length (r.shapes ++ s ∷ []) = ap length grown in
    (omega (arith, e, long, length-append r.shapes (s ∷ [])), ap (λ ss. named_at ss n) grown ∙ ap (named_at (r.shapes ++ s ∷ [])) e ∙ named_new r.shapes s)
put_number r q s (Err w) e h = tt

pub put_refused : (r : Tables) (s : Shape) (o : Result ℕ RecordFault) → AllBelow (length r.shapes) (shape_links s) → within (unfold_shape the_name (named_trees r.shapes) s) ≡ true → IfErr o (λ e. UnlessMemory e (term_fault r.shapes s ≡ Some e)) → IfErr o (λ e. e ≡ Memory)
put_refused r s (Ok n) b w h = tt
put_refused r s (Err e) b w h = only_memory r.shapes s e b w h
