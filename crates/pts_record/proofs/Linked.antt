-- Links that lead to earlier lines.
use Rattle.std.proofs.Common.{ℕ, zero, suc, ◌+◌, ◌<◌, ◌≤◌, List, [], ◌∷◌, ◌++◌, length, get_or, arith}
use Rattle.pts_record.specs.declared.shape.Shape.{Shape}
use Rattle.pts_record.specs.declared.shape.Node.{Node}
use Rattle.pts_record.specs.Table.{AllBelow, shape_links, ShapesLinked, node_links, term_links, NodesLinked}

pub below_more : (m n : ℕ) (ks : List ℕ) → m ≤ n → AllBelow m ks → AllBelow n ks
below_more m n [] le b = tt
below_more m n (k ∷ ks) le b = let h : k < m = b.0 in (omega (arith, h, le), below_more m n ks le b.1)

pub shape_linked : (ss : List Shape) (n k : ℕ) (d : Shape) → ShapesLinked n ss → k < length ss → AllBelow (n + k) (shape_links (get_or ss k d))
shape_linked [] n k d b h = absurd (omega (arith, h))
shape_linked (s ∷ ss) n zero d b h = below_more n (n + 0) (shape_links s) (omega arith) b.0
shape_linked (s ∷ ss) n (suc k) d b h =
    below_more (suc n + k) (n + suc k) (shape_links (get_or ss k d)) (omega arith) (shape_linked ss (suc n) k d b.1 (omega (arith, h)))

pub shapes_push : (ss : List Shape) (n : ℕ) (s : Shape) → ShapesLinked n ss → AllBelow (n + length ss) (shape_links s) → ShapesLinked n (ss ++ s ∷ [])
shapes_push [] n s b h = (below_more (n + 0) n (shape_links s) (omega arith) h, tt)
shapes_push (x ∷ ss) n s b h =
    (b.0, shapes_push ss (suc n) s b.1 (below_more (n + suc (length ss)) (suc n + length ss) (shape_links s) (omega arith) h))

pub node_linked : (ns : List Node) (t n k : ℕ) (d : Node) → NodesLinked t n ns → k < length ns → AllBelow (n + k) (node_links (get_or ns k d)) × AllBelow t (term_links (get_or ns k d))
node_linked [] t n k d b h = absurd (omega (arith, h))
node_linked (m ∷ ns) t n zero d b h = (below_more n (n + 0) (node_links m) (omega arith) b.0.0, b.0.1)
node_linked (m ∷ ns) t n (suc k) d b h =
    let r = node_linked ns t (suc n) k d b.1 (omega (arith, h)) in
    (below_more (suc n + k) (n + suc k) (node_links (get_or ns k d)) (omega arith) r.0, r.1)

pub nodes_push : (ns : List Node) (t n : ℕ) (m : Node) → NodesLinked t n ns → AllBelow (n + length ns) (node_links m) → AllBelow t (term_links m) → NodesLinked t n (ns ++ m ∷ [])
nodes_push [] t n m b h g = ((below_more (n + 0) n (node_links m) (omega arith) h, g), tt)
nodes_push (x ∷ ns) t n m b h g =
    (b.0, nodes_push ns t (suc n) m b.1 (below_more (n + suc (length ns)) (suc n + length ns) (node_links m) (omega arith) h) g)

pub nodes_more : (ns : List Node) (t u n : ℕ) → t ≤ u → NodesLinked t n ns → NodesLinked u n ns
nodes_more [] t u n le b = tt
nodes_more (m ∷ ns) t u n le b = ((b.0.0, below_more t u (term_links m) le b.0.1), nodes_more ns t u (suc n) le b.1)
