-- What is said with printed names is what is said without them, and stays so while a record grows.
use Rattle.std.proofs.Common.{◌≡◌, ℕ, zero, suc, List, [], ◌∷◌, ◌++◌, length, map, refl, sym, ap, ◌∙◌}
use Rattle.std.proofs.lemmas.List.{map-append}
use Rattle.pts_terms.specs.Tree.{Named, bare}
use Rattle.pts_record.specs.declared.shape.Shape.{Shape}
use Rattle.pts_record.specs.declared.shape.Form.{Form}
use Rattle.pts_record.specs.declared.shape.Form.TheVariants.{Empty, Assume, Define, Bare as BareForm}
use Rattle.pts_record.specs.declared.shape.Node.{Node}
use Rattle.pts_record.specs.Table.{Tables, named_trees, bare_trees}
use Rattle.pts_record.specs.Said.{Row, row_of_node, named_lines_of, Said, nothing, context, judgement, comparison, look, say_as, say, said_behind, told, named_told, bare_local, bare_scope, bare_said, scope_of, place_of, assumed_by, defined_by}
use Rattle.pts_record.proofs.Trees.{bare_behind, at_bare}

-- A line without printed names.
abbrev bare_line : {B : Type 0} → Row B → Row (Unit {0})
bare_line l = record { form = l.form; ctx = l.ctx; subject = bare l.subject; claim = bare l.claim; first = l.first; second = l.second; third = l.third }

pub scope_bare : {B : Type 0} (m : Said B) → scope_of (bare_said m) ≡ bare_scope (scope_of m)
scope_bare nothing = refl
scope_bare (context s) = refl
scope_bare (judgement c s t T) = refl
scope_bare (comparison c s t u) = refl

place_bare : {B : Type 0} (m : Said B) → place_of (bare_said m) ≡ place_of m
place_bare nothing = refl
place_bare (context s) = refl
place_bare (judgement c s t T) = refl
place_bare (comparison c s t u) = refl

assumed_bare : {B : Type 0} (m : Said B) → assumed_by (bare_said m) ≡ bare_local (assumed_by m)
assumed_bare nothing = refl
assumed_bare (context s) = refl
assumed_bare (judgement c s t T) = refl
assumed_bare (comparison c s t u) = refl

defined_bare : {B : Type 0} (m : Said B) → defined_by (bare_said m) ≡ bare_local (defined_by m)
defined_bare nothing = refl
defined_bare (context s) = refl
defined_bare (judgement c s t T) = refl
defined_bare (comparison c s t u) = refl

say_as_bare : {B : Type 0} (f : Form) (k : ℕ) (l : Row B) (c p : Said B) → say_as f k (bare_line l) (bare_said c) (bare_said p) ≡ bare_said (say_as f k l c p)
say_as_bare Empty k l c p = refl
say_as_bare Assume k l c p = rw (scope_bare p, place_bare p, assumed_bare p) refl
say_as_bare Define k l c p = rw (scope_bare p, place_bare p, defined_bare p) refl
say_as_bare _ k l c p = rw (scope_bare c) refl

look_bare : {B : Type 0} (ms : List (Said B)) (k : ℕ) → look (map bare_said ms) k ≡ bare_said (look ms k)
look_bare [] k = refl
look_bare (m ∷ ms) zero = refl
look_bare (m ∷ ms) (suc k) = look_bare ms k

map_length : {A C : Type 0} (f : A → C) (xs : List A) → length (map f xs) ≡ length xs
map_length f [] = refl
map_length f (x ∷ xs) = ap suc (map_length f xs)

say_bare : {B : Type 0} (ms : List (Said B)) (l : Row B) → say (map bare_said ms) (bare_line l) ≡ bare_said (say ms l)
say_bare ms l =
    ap (λ n. say_as l.form n (bare_line l) (look (map bare_said ms) l.ctx) (look (map bare_said ms) l.first)) (map_length bare_said ms)
    ∙ ap (λ c. say_as l.form (length ms) (bare_line l) c (look (map bare_said ms) l.first)) (look_bare ms l.ctx)
    ∙ ap (say_as l.form (length ms) (bare_line l) (bare_said (look ms l.ctx))) (look_bare ms l.first)
    ∙ say_as_bare l.form (length ms) l (look ms l.ctx) (look ms l.first)

said_bare : {B : Type 0} (ms : List (Said B)) (ls : List (Row B)) → said_behind (map bare_said ms) (map bare_line ls) ≡ map bare_said (said_behind ms ls)
said_bare ms [] = refl
said_bare ms (l ∷ ls) =
    ap (λ m. said_behind (map bare_said ms ++ m ∷ []) (map bare_line ls)) (say_bare ms l)
    ∙ ap (λ qs. said_behind qs (map bare_line ls)) (sym (map-append bare_said ms (say ms l ∷ [])))
    ∙ said_bare (ms ++ say ms l ∷ []) ls

line_as_bare : (ts : List Named) (f : Form) (c t u p q w : ℕ) → row_of_node (map bare ts) (record { form = f; ctx = c; subject = t; claim = u; first = p; second = q; third = w }) ≡ bare_line (row_of_node ts (record { form = f; ctx = c; subject = t; claim = u; first = p; second = q; third = w }))
line_as_bare ts Empty c t u p q w = refl
line_as_bare ts Assume c t u p q w = refl
line_as_bare ts Define c t u p q w = refl
line_as_bare ts BareForm c t u p q w = refl
line_as_bare ts _ c t u p q w = rw (at_bare ts t, at_bare ts u) refl

lines_bare : (ts : List Named) (ns : List Node) → map (row_of_node (map bare ts)) ns ≡ map bare_line (map (row_of_node ts) ns)
lines_bare ts [] = refl
lines_bare ts (n ∷ ns) =
    let here : row_of_node (map bare ts) n ≡ bare_line (row_of_node ts n) = line_as_bare ts n.form n.ctx n.subject n.claim n.first n.second n.third in
    let rest = lines_bare ts ns in
    cc

trees_bare : (ss : List Shape) → bare_trees ss ≡ map bare (named_trees ss)
unfolding bare_trees named_trees
trees_bare ss = bare_behind ss []

-- What a node says without printed names is what it says with them, without them.
pub told_bare : (r : Tables) (k : ℕ) → told r k ≡ bare_said (named_told r k)
unfolding told named_told
told_bare r k =
    ap (λ ts. look (said_behind [] (map (row_of_node ts) r.nodes)) k) (trees_bare r.shapes)
    ∙ ap (λ ls. look (said_behind [] ls) k) (lines_bare (named_trees r.shapes) r.nodes)
    ∙ ap (λ ms. look ms k) (said_bare [] (named_lines_of r))
    ∙ look_bare (said_behind [] (named_lines_of r)) k
