-- What the line of a term and the line of a node say, in a record that is kept in order.
use Rattle.std.proofs.Common.{◌≡◌, ℕ, zero, suc, ◌+◌, ◌<◌, ◌≤◌, List, [], ◌∷◌, ◌++◌, length, get_or, refl, sym, ap, ◌∙◌, subst, arith, true}
use Rattle.std.specs.Prelude.{slice_get, Some}
use Rattle.std.proofs.lemmas.Option.{slice_get-get_or}
use Rattle.std.proofs.lemmas.List.{get_or-map, length-map}
use Rattle.pts_terms.specs.Tree.{sort}
use Rattle.pts_record.specs.declared.shape.Shape.{Shape}
use Rattle.pts_record.specs.declared.measure.Measure.{Measure}
use Rattle.pts_record.specs.declared.shape.Node.{Node}
use Rattle.pts_record.specs.declared.shape.Extent.{Extent}
use Rattle.pts_record.specs.Table.{Tables, bare_trees, bare_at, named_trees, named_at, AllBelow, shape_links, node_links, term_links, measure, unfold_shape, no_name, the_name}
use Rattle.pts_record.specs.Said.{nothing, look, say, rows_of, said_behind, told, named_told, extent, say_as, row_of_node}
use Rattle.pts_record.specs.Kept.{Kept, tables}
use Rattle.pts_record.proofs.Linked.{shape_linked, node_linked, below_more}
use Rattle.pts_record.proofs.Trees.{bare_here, named_here, bare_long}
use Rattle.pts_record.proofs.Told.{told_here, named_told_here, lines_long}
use Rattle.pts_record.proofs.Values.{values_long}
use Rattle.pts_record.proofs.Faults.{within_bounds}
use Rattle.pts_terms.specs.Limits.{within, depth_of, size_of}
use Rattle.pts_record.specs.declared.shape.Form.{Form}
use Rattle.pts_record.specs.declared.shape.Form.TheVariants.{Empty, Assume, Define}
use Rattle.pts_record.specs.Table.{contexts_as, premises_as}
use Rattle.pts_record.specs.Said.{scope_of}
use Rattle.pts_record.proofs.Told.{Plain, Link}

module _ (ss : List Shape) (ms : List Measure) (ns : List Node) (es : List Extent) (r : Tables) where
  pub shape_links_are : Kept ss ms ns es → tables ss ns ≡ r → (k : ℕ) (s : Shape) → k < length r.shapes → s ≡ get_or ss k s → AllBelow k (shape_links s)
  shape_links_are kept v k s h e =
      let same : ss ≡ r.shapes = ap (λ t. t.shapes) v in
      let l : length ss ≡ length r.shapes = ap (λ t. length t.shapes) v in
      let b = shape_linked ss 0 k s kept.shapes (omega (arith, h, l)) in
      below_more (0 + k) k (shape_links s) (omega arith) (subst (λ x. AllBelow (0 + k) (shape_links x)) (sym e) b)

  pub shape_tree_is : Kept ss ms ns es → tables ss ns ≡ r → (k : ℕ) (s : Shape) → k < length r.shapes → s ≡ get_or ss k s → bare_at r.shapes k ≡ unfold_shape no_name (bare_trees r.shapes) s
  shape_tree_is kept v k s h e =
      let same : ss ≡ r.shapes = ap (λ t. t.shapes) v in
      let g = slice_get-get_or r.shapes k s h in
      let at_k : get_or r.shapes k s ≡ get_or ss k s = ap (λ xs. get_or xs k s) (sym same) in
      let item : slice_get r.shapes k ≡ Some s = g ∙ ap Some (at_k ∙ sym e) in
      bare_here r.shapes k s h item (shape_links_are kept v k s h e)

  pub shape_named_is : Kept ss ms ns es → tables ss ns ≡ r → (k : ℕ) (s : Shape) → k < length r.shapes → s ≡ get_or ss k s → named_at r.shapes k ≡ unfold_shape the_name (named_trees r.shapes) s
  shape_named_is kept v k s h e =
      let same : ss ≡ r.shapes = ap (λ t. t.shapes) v in
      let g = slice_get-get_or r.shapes k s h in
      let at_k : get_or r.shapes k s ≡ get_or ss k s = ap (λ xs. get_or xs k s) (sym same) in
      let item : slice_get r.shapes k ≡ Some s = g ∙ ap Some (at_k ∙ sym e) in
      named_here r.shapes k s h item (shape_links_are kept v k s h e)

  pub node_links_are : Kept ss ms ns es → tables ss ns ≡ r → (k : ℕ) (n : Node) → k < length r.nodes → n ≡ get_or ns k n → AllBelow k (node_links n)
  node_links_are kept v k n h e =
      let l : length ns ≡ length r.nodes = ap (λ t. length t.nodes) v in
      let b = node_linked ns (length ss) 0 k n kept.nodes (omega (arith, h, l)) in
      below_more (0 + k) k (node_links n) (omega arith) (subst (λ x. AllBelow (0 + k) (node_links x)) (sym e) b.0)

  pub node_terms_are : Kept ss ms ns es → tables ss ns ≡ r → (k : ℕ) (n : Node) → k < length r.nodes → n ≡ get_or ns k n → AllBelow (length r.shapes) (term_links n)
  node_terms_are kept v k n h e =
      let l : length ns ≡ length r.nodes = ap (λ t. length t.nodes) v in
      let m : length ss ≡ length r.shapes = ap (λ t. length t.shapes) v in
      let b = node_linked ns (length ss) 0 k n kept.nodes (omega (arith, h, l)) in
      below_more (length ss) (length r.shapes) (term_links n) (omega (arith, m)) (subst (λ x. AllBelow (length ss) (term_links x)) (sym e) b.1)

  pub node_says : Kept ss ms ns es → tables ss ns ≡ r → (k : ℕ) (n : Node) → k < length r.nodes → n ≡ get_or ns k n → told r k ≡ say_as n.form k (row_of_node (bare_trees r.shapes) n) (told r n.ctx) (told r n.first)
  node_says kept v k n h e =
      let same : ns ≡ r.nodes = ap (λ t. t.nodes) v in
      let g = slice_get-get_or r.nodes k n h in
      let at_k : get_or r.nodes k n ≡ get_or ns k n = ap (λ xs. get_or xs k n) (sym same) in
      let item : slice_get r.nodes k ≡ Some n = g ∙ ap Some (at_k ∙ sym e) in
      told_here r k n h item (node_links_are kept v k n h e)

  pub node_says_named : Kept ss ms ns es → tables ss ns ≡ r → (k : ℕ) (n : Node) → k < length r.nodes → n ≡ get_or ns k n → named_told r k ≡ say_as n.form k (row_of_node (named_trees r.shapes) n) (named_told r n.ctx) (named_told r n.first)
  node_says_named kept v k n h e =
      let same : ns ≡ r.nodes = ap (λ t. t.nodes) v in
      let g = slice_get-get_or r.nodes k n h in
      let at_k : get_or r.nodes k n ≡ get_or ns k n = ap (λ xs. get_or xs k n) (sym same) in
      let item : slice_get r.nodes k ≡ Some n = g ∙ ap Some (at_k ∙ sym e) in
      named_told_here r k n h item (node_links_are kept v k n h e)

  pub measures_long : Kept ss ms ns es → tables ss ns ≡ r → length ms ≡ length r.shapes
  measures_long kept v =
      ap length kept.measures ∙ length-map (bare_trees ss) measure ∙ bare_long ss ∙ ap (λ t. length t.shapes) v

  pub measure_is : Kept ss ms ns es → tables ss ns ≡ r → (k : ℕ) (m : Measure) → k < length r.shapes → m ≡ get_or ms k m → m ≡ measure (bare_at r.shapes k)
  measure_is kept v k m h e =
      let same : ss ≡ r.shapes = ap (λ t. t.shapes) v in
      let long : k < length (bare_trees ss) = omega (arith, h, bare_long ss, ap (λ t. length t.shapes) v) in
      e ∙ ap (λ xs. get_or xs k m) kept.measures ∙ get_or-map measure (bare_trees ss) k (sort 0) m long ∙ ap (λ xs. measure (bare_at xs k)) same

  said_long : length (said_behind [] (rows_of (tables ss ns))) ≡ length ns
  said_long = values_long say (rows_of (tables ss ns)) [] ∙ omega (arith, lines_long (tables ss ns))

  pub extents_long : Kept ss ms ns es → tables ss ns ≡ r → length es ≡ length r.nodes
  extents_long kept v =
      ap length kept.extents ∙ length-map (said_behind [] (rows_of (tables ss ns))) extent ∙ said_long ∙ ap (λ t. length t.nodes) v

  pub extent_is : Kept ss ms ns es → tables ss ns ≡ r → (k : ℕ) (x : Extent) → k < length r.nodes → x ≡ get_or es k x → x ≡ extent (told r k)
  unfolding told
  extent_is kept v k x h e =
      let all = said_behind [] (rows_of (tables ss ns)) in
      let long : k < length all = omega (arith, h, said_long, ap (λ t. length t.nodes) v) in
      e ∙ ap (λ xs. get_or xs k x) kept.extents ∙ get_or-map extent all k nothing x long ∙ ap (λ t. extent (look (said_behind [] (rows_of t)) k)) v

  pub measure_small : Kept ss ms ns es → tables ss ns ≡ r → (k : ℕ) (m : Measure) → k < length r.shapes → m ≡ get_or ms k m → (m.depth ≤ 2000) × (m.size ≤ 1000000)
  measure_small kept v k m h e =
      let same : ss ≡ r.shapes = ap (λ t. t.shapes) v in
      let long : k < length (bare_trees ss) = omega (arith, h, bare_long ss, ap (λ t. length t.shapes) v) in
      let w : within (bare_at ss k) ≡ true = kept.limits k (sort 0) long in
      let b = within_bounds (depth_of (bare_at ss k)) (size_of (bare_at ss k)) w in
      let is : m ≡ measure (bare_at ss k) = measure_is kept v k m h e ∙ ap (λ xs. measure (bare_at xs k)) (sym same) in
      (subst (λ x. x.depth ≤ 2000) (sym is) b.0, subst (λ x. x.size ≤ 1000000) (sym is) b.1)

-- a context is no longer than the number of its node
say_long : (f : Form) (k : ℕ) (l : Plain) (c p : Link) (x y z w : ℕ) → AllBelow k (contexts_as f x ++ premises_as f y z w) → (x < k → length (scope_of c).entries ≤ x) → (y < k → length (scope_of p).entries ≤ y) → length (scope_of (say_as f k l c p)).entries ≤ k
say_long Empty k l c p x y z w b e g = omega arith
say_long Assume k l c p x y z w b e g = let h : y < k = b.0 in omega (arith, h, g h)
say_long Define k l c p x y z w b e g = let h : y < k = b.0 in omega (arith, h, g h)
say_long _ k l c p x y z w b e g = let h : x < k = b.0 in omega (arith, h, e h)

get_or_any : (ns : List Node) (k : ℕ) (d e : Node) → k < length ns → get_or ns k d ≡ get_or ns k e
get_or_any [] k d e h = absurd (omega (arith, h))
get_or_any (n ∷ ns) zero d e h = refl
get_or_any (n ∷ ns) (suc k) d e h = get_or_any ns k d e (omega (arith, h))

entries_long : (ss : List Shape) (ms : List Measure) (ns : List Node) (es : List Extent) → Kept ss ms ns es → (b k : ℕ) (d : Node) → k < length ns → k < b → length (scope_of (told (tables ss ns) k)).entries ≤ k
entries_long ss ms ns es kept zero k d h lt = absurd (omega (arith, lt))
entries_long ss ms ns es kept (suc b) k d h lt =
    let r = tables ss ns in
    let n = get_or ns k d in
    let here : n ≡ get_or ns k n = get_or_any ns k d n h in
    let links = node_links_are ss ms ns es r kept refl k n h here in
    let says = node_says ss ms ns es r kept refl k n h here in
    let le = say_long n.form k (row_of_node (bare_trees ss) n) (told r n.ctx) (told r n.first) n.ctx n.first n.second n.third links
    (λ g. entries_long ss ms ns es kept b n.ctx d (omega (arith, g, h)) (omega (arith, g, lt)))
    (λ g. entries_long ss ms ns es kept b n.first d (omega (arith, g, h)) (omega (arith, g, lt))) in
    subst (λ m. length (scope_of m).entries ≤ k) (sym says) le

pub extent_small : (ss : List Shape) (ms : List Measure) (ns : List Node) (es : List Extent) (r : Tables) → Kept ss ms ns es → tables ss ns ≡ r → (k : ℕ) (x : Extent) → k < length r.nodes → x ≡ get_or es k x → (x.length < 4294967296) × (x.length ≤ k)
extent_small ss ms ns es r kept v k x h e =
    let is : x ≡ extent (told r k) = extent_is ss ms ns es r kept v k x h e in
    let long : k < length ns = omega (arith, h, ap (λ t. length t.nodes) v) in
    let d : Node = record { form = Empty; ctx = 0; subject = 0; claim = 0; first = 0; second = 0; third = 0 } in
    let le : length (scope_of (told (tables ss ns) k)).entries ≤ k = entries_long ss ms ns es kept (suc k) k d long (omega arith) in
    let same : x.length ≡ length (scope_of (told (tables ss ns) k)).entries = ap (λ y. y.length) is ∙ ap (λ t. length (scope_of (told t k)).entries) (sym v) in
    (omega (arith, le, same, long, kept.nodes_fit), omega (arith, le, same))
