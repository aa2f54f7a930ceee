-- Tables that grow by a line are kept in order.
use Rattle.std.proofs.Common.{◌≡◌, ℕ, zero, suc, ◌+◌, ◌<◌, List, [], ◌∷◌, ◌++◌, length, map, refl, sym, ap, ◌∙◌, subst, arith, length-append, true, All}
use Rattle.std.proofs.lemmas.List.{map-append, get_or_append_left, get_or_push}
use Rattle.pts_terms.specs.Tree.{Tree, Bare}
use Rattle.pts_terms.specs.Limits.{within}
use Rattle.pts_record.specs.declared.shape.Form.{Form}
use Rattle.pts_record.specs.declared.shape.Form.TheVariants.{Empty, Assume, Define, Bare as BareForm}
use Rattle.pts_record.specs.declared.shape.Shape.{Shape}
use Rattle.pts_record.specs.declared.measure.Measure.{Measure}
use Rattle.pts_record.specs.declared.shape.Node.{Node}
use Rattle.pts_record.specs.declared.shape.Extent.{Extent}
use Rattle.pts_record.specs.Table.{Tables, at, bare_trees, AllBelow, shape_links, node_links, term_links, terms_as, NodesLinked, measure, unfold_shape, no_name}
use Rattle.pts_record.specs.Said.{row_of_node, nothing, look, say, say_as, rows_of, said_behind, told, extent}
use Rattle.pts_record.specs.Kept.{Kept, tables}
use Rattle.pts_record.proofs.Linked.{shapes_push, nodes_push, nodes_more, below_more}
use Rattle.pts_record.proofs.Trees.{bare_push, bare_stays}
use Rattle.pts_record.proofs.Told.{Link, lines_long}
use Rattle.pts_record.proofs.Values.{values_long, values_push}

pub kept_empty : Kept [] [] [] []
unfolding bare_trees
kept_empty = record { terms_fit = omega arith; nodes_fit = omega arith; shapes = tt; nodes = tt; measures = refl; limits = λ k d h. absurd (omega (arith, h)); extents = refl }

pub kept_new : (ss : List Shape) (ms : List Measure) (ns : List Node) (es : List Extent) → ss ≡ [] → ms ≡ [] → ns ≡ [] → es ≡ [] → Kept ss ms ns es
kept_new ss ms ns es a b c d = rw (a, b, c, d) kept_empty

-- a line does not change where its terms do not
line_same : {B : Type 0} (ts us : List (Tree B)) (f : Form) (t u n : ℕ) (c p q w : ℕ) → AllBelow n (terms_as f t u) → ((k : ℕ) → k < n → at ts k ≡ at us k) → row_of_node ts (record { form = f; ctx = c; subject = t; claim = u; first = p; second = q; third = w }) ≡ row_of_node us (record { form = f; ctx = c; subject = t; claim = u; first = p; second = q; third = w })
line_same ts us Empty t u n c p q w b e = refl
line_same ts us Assume t u n c p q w b e = refl
line_same ts us Define t u n c p q w b e = refl
line_same ts us BareForm t u n c p q w b e = refl
line_same ts us _ t u n c p q w b e = let x = e t b.0 in let y = e u b.1.0 in cc

pub lines_same : {B : Type 0} (ts us : List (Tree B)) (ns : List Node) (n k : ℕ) → NodesLinked n k ns → ((i : ℕ) → i < n → at ts i ≡ at us i) → map (row_of_node ts) ns ≡ map (row_of_node us) ns
lines_same ts us [] n k b e = refl
lines_same ts us (m ∷ ns) n k b e =
    let here : row_of_node ts m ≡ row_of_node us m = line_same ts us m.form m.subject m.claim n m.ctx m.first m.second m.third b.0.1 e in
    let rest = lines_same ts us ns n (suc k) b.1 e in
    cc

-- a term more changes no line
pub lines_stay : (ss : List Shape) (ns : List Node) (s : Shape) → NodesLinked (length ss) 0 ns → rows_of (tables (ss ++ s ∷ []) ns) ≡ rows_of (tables ss ns)
lines_stay ss ns s b = lines_same (bare_trees (ss ++ s ∷ [])) (bare_trees ss) ns (length ss) 0 b (λ i h. bare_stays ss s i h)

all_push : (ts : List Bare) (t : Bare) → All (λ u. within u ≡ true) ts → within t ≡ true → All (λ u. within u ≡ true) (ts ++ t ∷ [])
all_push [] t a h zero d lt = h
all_push [] t a h (suc k) d lt = absurd (omega (arith, lt))
all_push (u ∷ ts) t a h zero d lt = a 0 d (omega arith)
all_push (u ∷ ts) t a h (suc k) d lt = all_push ts t (λ i e g. a (suc i) e (omega (arith, g))) h k d (omega (arith, lt))

pub kept_term : (ss : List Shape) (ms : List Measure) (ns : List Node) (es : List Extent) (s : Shape) (m : Measure) → Kept ss ms ns es → length ss < 4294967296 → AllBelow (length ss) (shape_links s) → m ≡ measure (unfold_shape no_name (bare_trees ss) s) → within (unfold_shape no_name (bare_trees ss) s) ≡ true → Kept (ss ++ s ∷ []) (ms ++ m ∷ []) ns es
kept_term ss ms ns es s m kept few b e w =
    let t = unfold_shape no_name (bare_trees ss) s in
    let grown : bare_trees (ss ++ s ∷ []) ≡ bare_trees ss ++ t ∷ [] = bare_push ss s in
    record {
      terms_fit = omega (arith, few, length-append ss (s ∷ []));
      nodes_fit = kept.nodes_fit;
      shapes = shapes_push ss 0 s kept.shapes (below_more (length ss) (0 + length ss) (shape_links s) (omega arith) b);
      nodes = nodes_more ns (length ss) (length (ss ++ s ∷ [])) 0 (omega (arith, length-append ss (s ∷ []))) kept.nodes;
      measures = ap (λ l. l ++ m ∷ []) kept.measures ∙ ap (λ x. map measure (bare_trees ss) ++ x ∷ []) e ∙ sym (map-append measure (bare_trees ss) (t ∷ [])) ∙ ap (map measure) (sym grown);
      limits = subst (All (λ u. within u ≡ true)) (sym grown) (all_push (bare_trees ss) t kept.limits w);
      extents = kept.extents ∙ ap (λ ls. map extent (said_behind [] ls)) (sym (lines_stay ss ns s kept.nodes));
    }

-- the lines and what they say, with a node more
pub lines_push : (ss : List Shape) (ns : List Node) (n : Node) → rows_of (tables ss (ns ++ n ∷ [])) ≡ rows_of (tables ss ns) ++ row_of_node (bare_trees ss) n ∷ []
lines_push ss ns n = map-append (row_of_node (bare_trees ss)) ns (n ∷ [])

pub said_push : (ss : List Shape) (ns : List Node) (n : Node) → said_behind [] (rows_of (tables ss (ns ++ n ∷ []))) ≡ said_behind [] (rows_of (tables ss ns)) ++ say (said_behind [] (rows_of (tables ss ns))) (row_of_node (bare_trees ss) n) ∷ []
said_push ss ns n = ap (said_behind []) (lines_push ss ns n) ∙ values_push say (rows_of (tables ss ns)) [] (row_of_node (bare_trees ss) n)

pub said_long : (ss : List Shape) (ns : List Node) → length (said_behind [] (rows_of (tables ss ns))) ≡ length ns
said_long ss ns = values_long say (rows_of (tables ss ns)) [] ∙ omega (arith, lines_long (tables ss ns))

-- what a new node says
abbrev pub says_next : List Shape → List Node → Node → Link
says_next ss ns n = say_as n.form (length ns) (row_of_node (bare_trees ss) n) (told (tables ss ns) n.ctx) (told (tables ss ns) n.first)

pub said_next : (ss : List Shape) (ns : List Node) (n : Node) → say (said_behind [] (rows_of (tables ss ns))) (row_of_node (bare_trees ss) n) ≡ says_next ss ns n
unfolding told
said_next ss ns n =
    ap (λ i. say_as n.form i (row_of_node (bare_trees ss) n) (told (tables ss ns) n.ctx) (told (tables ss ns) n.first)) (said_long ss ns)

pub kept_with_node : (ss : List Shape) (ms : List Measure) (ns : List Node) (es : List Extent) (n : Node) (x : Extent) → Kept ss ms ns es → length ns < 4294967296 → AllBelow (length ns) (node_links n) → AllBelow (length ss) (term_links n) → x ≡ extent (says_next ss ns n) → Kept ss ms (ns ++ n ∷ []) (es ++ x ∷ [])
kept_with_node ss ms ns es n x kept few b t e =
    let all = said_behind [] (rows_of (tables ss ns)) in
    record {
      terms_fit = kept.terms_fit;
      nodes_fit = omega (arith, few, length-append ns (n ∷ []));
      shapes = kept.shapes;
      nodes = nodes_push ns (length ss) 0 n kept.nodes (below_more (length ns) (0 + length ns) (node_links n) (omega arith) b) t;
      measures = kept.measures;
      limits = kept.limits;
      extents = ap (λ l. l ++ x ∷ []) kept.extents ∙ ap (λ y. map extent all ++ y ∷ []) (e ∙ ap extent (sym (said_next ss ns n))) ∙ sym (map-append extent all (say all (row_of_node (bare_trees ss) n) ∷ [])) ∙ ap (map extent) (sym (said_push ss ns n));
    }

-- what a new node says, and what the others say, in the longer table
pub told_new : (ss : List Shape) (ns : List Node) (n : Node) → told (tables ss (ns ++ n ∷ [])) (length ns) ≡ says_next ss ns n
unfolding told
told_new ss ns n =
    let all = said_behind [] (rows_of (tables ss ns)) in
    ap (λ ms. look ms (length ns)) (said_push ss ns n) ∙ get_or_push all (say all (row_of_node (bare_trees ss) n)) nothing (length ns) (said_long ss ns) ∙ said_next ss ns n

pub told_old : (ss : List Shape) (ns : List Node) (n : Node) (k : ℕ) → k < length ns → told (tables ss (ns ++ n ∷ [])) k ≡ told (tables ss ns) k
unfolding told
told_old ss ns n k h =
    let all = said_behind [] (rows_of (tables ss ns)) in
    ap (λ ms. look ms k) (said_push ss ns n) ∙ get_or_append_left all (say all (row_of_node (bare_trees ss) n) ∷ []) nothing k (omega (arith, h, said_long ss ns))

pub told_with_term : (ss : List Shape) (ns : List Node) (s : Shape) (k : ℕ) → NodesLinked (length ss) 0 ns → told (tables (ss ++ s ∷ []) ns) k ≡ told (tables ss ns) k
unfolding told
told_with_term ss ns s k b = ap (λ ls. look (said_behind [] ls) k) (lines_stay ss ns s b)

-- the same, as the program adds a line to a record that is seen as r
pub node_added : (ss : List Shape) (ms : List Measure) (ns : List Node) (es : List Extent) (r : Tables) (n : Node) (x : Extent) (ns2 : List Node) (es2 : List Extent) → Kept ss ms ns es → tables ss ns ≡ r → length ns < 4294967296 → AllBelow (length r.nodes) (node_links n) → AllBelow (length r.shapes) (term_links n) → x ≡ extent (say_as n.form (length r.nodes) (row_of_node (bare_trees r.shapes) n) (told r n.ctx) (told r n.first)) → ns2 ≡ ns ++ n ∷ [] → es2 ≡ es ++ x ∷ [] → Kept ss ms ns2 es2
node_added ss ms ns es r n x ns2 es2 kept v few b t e p q =
    let b' = subst (λ s. AllBelow (length s.nodes) (node_links n)) (sym v) b in
    let t' = subst (λ s. AllBelow (length s.shapes) (term_links n)) (sym v) t in
    let e' = subst (λ s. x ≡ extent (say_as n.form (length s.nodes) (row_of_node (bare_trees s.shapes) n) (told s n.ctx) (told s n.first))) (sym v) e in
    rw (p, q) (kept_with_node ss ms ns es n x kept few b' t' e')

pub term_added : (ss : List Shape) (ms : List Measure) (ns : List Node) (es : List Extent) (r : Tables) (s : Shape) (m : Measure) (ss2 : List Shape) (ms2 : List Measure) → Kept ss ms ns es → tables ss ns ≡ r → length ss < 4294967296 → AllBelow (length r.shapes) (shape_links s) → m ≡ measure (unfold_shape no_name (bare_trees r.shapes) s) → within (unfold_shape no_name (bare_trees r.shapes) s) ≡ true → ss2 ≡ ss ++ s ∷ [] → ms2 ≡ ms ++ m ∷ [] → Kept ss2 ms2 ns es
term_added ss ms ns es r s m ss2 ms2 kept v few b e w p q =
    let b' = subst (λ t. AllBelow (length t.shapes) (shape_links s)) (sym v) b in
    let e' = subst (λ t. m ≡ measure (unfold_shape no_name (bare_trees t.shapes) s)) (sym v) e in
    let w' = subst (λ t. within (unfold_shape no_name (bare_trees t.shapes) s) ≡ true) (sym v) w in
    rw (p, q) (kept_term ss ms ns es s m kept few b' e' w')
