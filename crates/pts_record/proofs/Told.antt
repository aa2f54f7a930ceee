-- What a node says, by its form and by what its links say.
use Rattle.std.proofs.Common.{◌≡◌, ℕ, zero, suc, ◌+◌, ◌<◌, ◌≤◌, List, [], ◌∷◌, ◌++◌, length, get_or, take, map, refl, ap, ◌∙◌, arith, length-take}
use Rattle.std.specs.Prelude.{slice_get, Some}
use Rattle.std.proofs.lemmas.Option.{slice_get-get_or}
use Rattle.pts_terms.specs.Tree.{Tree}
use Rattle.pts_record.specs.declared.shape.Form.{Form}
use Rattle.pts_record.specs.declared.shape.Form.TheVariants.{Empty, Assume, Define}
use Rattle.pts_record.specs.declared.shape.Node.{Node}
use Rattle.pts_record.specs.Table.{Tables, bare_trees, named_trees, AllBelow, contexts_as, premises_as, node_links}
use Rattle.pts_record.specs.Said.{Row, row_of_node, rows_of, Said, nothing, look, say_as, say, said_behind, told, named_told}
use Rattle.pts_record.proofs.Values.{values_long, values_here, values_take}

abbrev pub Plain : Type 0
Plain = Row (Unit {0})

abbrev pub Link : Type 0
Link = Said (Unit {0})

-- only the links that a form uses count
pub say_by_links : {B : Type 0} (f : Form) (k : ℕ) (l : Row B) (c p d q : Said B) (n x y z w : ℕ) → AllBelow n (contexts_as f x ++ premises_as f y z w) → (x < n → c ≡ d) → (y < n → p ≡ q) → say_as f k l c p ≡ say_as f k l d q
say_by_links Empty k l c p d q n x y z w b e g = refl
say_by_links Assume k l c p d q n x y z w b e g = let h = g b.0 in cc
say_by_links Define k l c p d q n x y z w b e g = let h = g b.0 in cc
say_by_links _ k l c p d q n x y z w b e g = let h = e b.0 in cc

lines_length : {B : Type 0} (ts : List (Tree B)) (ns : List Node) → length (map (row_of_node ts) ns) ≡ length ns
lines_length ts [] = refl
lines_length ts (n ∷ ns) = ap suc (lines_length ts ns)

line_at : {B : Type 0} (ts : List (Tree B)) (ns : List Node) (k : ℕ) (d : Node) → get_or (map (row_of_node ts) ns) k (row_of_node ts d) ≡ row_of_node ts (get_or ns k d)
line_at ts [] k d = refl
line_at ts (n ∷ ns) zero d = refl
line_at ts (n ∷ ns) (suc k) d = line_at ts ns k d

pub lines_long : (r : Tables) → length (rows_of r) ≡ length r.nodes
lines_long r = lines_length (bare_trees r.shapes) r.nodes

pub line_is : (r : Tables) (k : ℕ) (d : Node) → get_or (rows_of r) k (row_of_node (bare_trees r.shapes) d) ≡ row_of_node (bare_trees r.shapes) (get_or r.nodes k d)
line_is r k d = line_at (bare_trees r.shapes) r.nodes k d

-- an earlier number says the same in the front part of the lines
pub told_take : (r : Tables) (i k : ℕ) → k < i → i ≤ length (rows_of r) → look (said_behind [] (take i (rows_of r))) k ≡ told r k
unfolding told
told_take r i k h le = values_take say (rows_of r) [] i k nothing (omega (arith, h)) le

pub length_before : (r : Tables) (i : ℕ) → i ≤ length (rows_of r) → length (said_behind [] (take i (rows_of r))) ≡ i
length_before r i le = values_long say (take i (rows_of r)) [] ∙ omega (arith, length-take i (rows_of r))

-- what a line says among others, where its links are smaller
said_is : {B : Type 0} (ts : List (Tree B)) (ns : List Node) (k : ℕ) (n : Node) → k < length ns → get_or ns k n ≡ n → AllBelow k (node_links n) → look (said_behind [] (map (row_of_node ts) ns)) k ≡ say_as n.form k (row_of_node ts n) (look (said_behind [] (map (row_of_node ts) ns)) n.ctx) (look (said_behind [] (map (row_of_node ts) ns)) n.first)
said_is ts ns k n h e b =
    let ls = map (row_of_node ts) ns in
    let hl : k < length ls = omega (arith, h, lines_length ts ns) in
    let le : k ≤ length ls = omega (arith, hl) in
    let before = said_behind [] (take k ls) in
    let here : look (said_behind [] ls) (0 + k) ≡ say before (get_or ls k (row_of_node ts n)) = values_here say ls [] k (row_of_node ts n) nothing hl in
    let z : k ≡ 0 + k = omega arith in
    let line : get_or ls k (row_of_node ts n) ≡ row_of_node ts n = line_at ts ns k n ∙ ap (row_of_node ts) e in
    let long : length before ≡ k = values_long say (take k ls) [] ∙ omega (arith, length-take k ls, le) in
    let early : (i : ℕ) → i < k → look before i ≡ look (said_behind [] ls) i = λ i lt. values_take say ls [] k i nothing (omega (arith, lt)) le in
    ap (look (said_behind [] ls)) z ∙ here ∙ ap (say before) line
    ∙ ap (λ i. say_as n.form i (row_of_node ts n) (look before n.ctx) (look before n.first)) long
    ∙ say_by_links n.form k (row_of_node ts n) _ _ _ _ k n.ctx n.first n.second n.third b (early n.ctx) (early n.first)

-- what a node says
pub told_here : (r : Tables) (k : ℕ) (n : Node) → k < length r.nodes → slice_get r.nodes k ≡ Some n → AllBelow k (node_links n) → told r k ≡ say_as n.form k (row_of_node (bare_trees r.shapes) n) (told r n.ctx) (told r n.first)
unfolding told
told_here r k n h e b =
    let g = slice_get-get_or r.nodes k n h in
    let same : get_or r.nodes k n ≡ n = cc in
    said_is (bare_trees r.shapes) r.nodes k n h same b

pub named_told_here : (r : Tables) (k : ℕ) (n : Node) → k < length r.nodes → slice_get r.nodes k ≡ Some n → AllBelow k (node_links n) → named_told r k ≡ say_as n.form k (row_of_node (named_trees r.shapes) n) (named_told r n.ctx) (named_told r n.first)
unfolding named_told
named_told_here r k n h e b =
    let g = slice_get-get_or r.nodes k n h in
    let same : get_or r.nodes k n ≡ n = cc in
    said_is (named_trees r.shapes) r.nodes k n h same b
