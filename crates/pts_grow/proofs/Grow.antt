-- How facts about a record stay while it grows.
use Rattle.std.proofs.Common.{◌≡◌, ℕ, suc, ◌<◌, List, [], ◌∷◌, ◌++◌, length, refl, sym, ◌∙◌, ap, arith, Option, Some, None, true, false, Bool}
use Rattle.std.specs.Prelude.{if◌then◌else◌, nat_lt}
use Rattle.std.proofs.Math.Seq.{take-length, take-append_seam}
use Rattle.std.proofs.lemmas.List.{map-append, length-map, length-append}
use Rattle.pts_terms.specs.Tree.{bare}
use Rattle.pts_terms.specs.Limits.{within}
use Rattle.pts_terms.proofs.Unnamed.{bare_within}
use Rattle.pts_ctx.specs.System.{Specification}
use Rattle.pts_ctx.specs.Front.{Front}
use Rattle.pts_record.specs.declared.shape.Shape.{Shape}
use Rattle.pts_record.specs.declared.shape.Node.{Node}
use Rattle.pts_record.specs.declared.shape.RecordFault.{RecordFault}
use Rattle.pts_record.specs.declared.shape.RecordFault.TheVariants.{Link, TooLarge}
use Rattle.pts_record.specs.Table.{Tables, values_behind, named_at, named_trees, bare_trees, bare_at, NodesLinked, unfold_shape, the_name, no_name, term_fault, first_wrong, or_wrong, fields_before, shape_links}
use Rattle.pts_record.specs.Said.{row_of_node, rows_of, named_lines_of, look, say, say_as, said_behind, told, named_told}
use Rattle.pts_record.proofs.Parts.{below_kept, front_kept, named_kept, named_new}
use Rattle.pts_record.proofs.Trees.{bare_behind, unfold_bare, bare_of_named}
use Rattle.pts_record.proofs.Looked.{said_length, said_parts, said_stays, look_at}
use Rattle.pts_record.proofs.Grow.{lines_same, lines_stay, lines_push}
use Rattle.pts_rules.specs.Conditions.{Plain, Link as Told, form_fault}
use Rattle.pts_rules.specs.Valid.{first_fault_behind, first_fault, fault, IsValid}
use Rattle.pts_rules.proofs.Sound.{faultless}
use Rattle.pts_grow.specs.Keeps.{Keeps, StaysValid, IsTerm, IsNode}

pub keeps_refl : (a : Tables) → Keeps a a
keeps_refl a = record { shapes = take-length a.shapes; nodes = take-length a.nodes; says = λ k h. refl }

pub stays : (a b : Tables) (k : ℕ) → Keeps a b → k < length a.shapes → k < length b.shapes
stays a b k g h = below_kept a.shapes b.shapes k g.shapes h

pub node_stays : (a b : Tables) (k : ℕ) → Keeps a b → k < length a.nodes → k < length b.nodes
node_stays a b k g h = below_kept a.nodes b.nodes k g.nodes h

-- a term that stood is the same
pub tree_stays : (a b : Tables) (k : ℕ) → Keeps a b → k < length a.shapes → named_at b.shapes k ≡ named_at a.shapes k
tree_stays a b k g h = named_kept a.shapes b.shapes k g.shapes h

pub bare_stays : (a b : Tables) (k : ℕ) → Keeps a b → k < length a.shapes → bare_at b.shapes k ≡ bare_at a.shapes k
bare_stays a b k g h = sym (bare_of_named b.shapes k) ∙ ap bare (named_kept a.shapes b.shapes k g.shapes h) ∙ bare_of_named a.shapes k

pub told_stays : (a b : Tables) (k : ℕ) → Keeps a b → k < length a.nodes → named_told b k ≡ named_told a k
told_stays a b k g h = g.says k h

pub keeps_trans : (a b c : Tables) → Keeps a b → Keeps b c → Keeps a c
keeps_trans a b c g h = record {
  shapes = front_kept a.shapes b.shapes c.shapes g.shapes h.shapes;
  nodes = front_kept a.nodes b.nodes c.nodes g.nodes h.nodes;
  says = λ k l. h.says k (node_stays a b k g l) ∙ g.says k l;
}

pub valid_refl : (a : Tables) → StaysValid a a
valid_refl a S G v = v

pub valid_trans : (a b c : Tables) → StaysValid a b → StaysValid b c → StaysValid a c
valid_trans a b c f g S G v = g S G (f S G v)

pub ruleset keeping = (stays, node_stays, tree_stays, told_stays, keeps_trans, keeps_refl, valid_trans, valid_refl)

-- A record with a term more.
abbrev pub with_term : Tables → Shape → Tables
with_term r s = record { shapes = r.shapes ++ s ∷ []; nodes = r.nodes }

pub keeps_term : (r : Tables) (s : Shape) → NodesLinked (length r.shapes) 0 r.nodes → Keeps r (with_term r s)
unfolding named_told
keeps_term r s b = record {
  shapes = take-append_seam r.shapes (s ∷ []);
  nodes = take-length r.nodes;
  says = λ k h. ap (λ ls. look (said_behind [] ls) k) (lines_same (named_trees (r.shapes ++ s ∷ [])) (named_trees r.shapes) r.nodes (length r.shapes) 0 b (λ i l. named_kept r.shapes (r.shapes ++ s ∷ []) i (take-append_seam r.shapes (s ∷ [])) l));
}

pub valid_term : (r : Tables) (s : Shape) → NodesLinked (length r.shapes) 0 r.nodes → StaysValid r (with_term r s)
unfolding first_fault
valid_term r s b S G v = ap (first_fault_behind S G []) (lines_stay r.shapes r.nodes s b) ∙ v

pub term_new : (r : Tables) (s : Shape) → IsTerm (with_term r s) (length r.shapes) (unfold_shape the_name (named_trees r.shapes) s)
term_new r s = (omega (arith, length-append r.shapes (s ∷ [])), named_new r.shapes s)

-- A record with a node more.
abbrev pub with_node : Tables → Node → Tables
with_node r n = record { shapes = r.shapes; nodes = r.nodes ++ n ∷ [] }

named_push : (r : Tables) (n : Node) → said_behind [] (named_lines_of (with_node r n)) ≡ said_behind [] (named_lines_of r) ++ say (said_behind [] (named_lines_of r)) (row_of_node (named_trees r.shapes) n) ∷ []
named_push r n =
    ap (said_behind []) (map-append (row_of_node (named_trees r.shapes)) r.nodes (n ∷ []))
    ∙ said_parts [] (named_lines_of r) (row_of_node (named_trees r.shapes) n ∷ [])

named_long : (r : Tables) → length (said_behind [] (named_lines_of r)) ≡ length r.nodes
named_long r = said_length [] (named_lines_of r) ∙ omega (arith, length-map r.nodes (row_of_node (named_trees r.shapes)))

pub keeps_node : (r : Tables) (n : Node) → Keeps r (with_node r n)
unfolding named_told
keeps_node r n = record {
  shapes = take-length r.shapes;
  nodes = take-append_seam r.nodes (n ∷ []);
  says = λ k h.
      ap (λ ms. look ms k) (named_push r n)
      ∙ said_stays (said_behind [] (named_lines_of r)) (row_of_node (named_trees r.shapes) n ∷ []) k (omega (arith, h, named_long r));
}

pub node_new : (r : Tables) (n : Node) → IsNode (with_node r n) (length r.nodes) (say_as n.form (length r.nodes) (row_of_node (named_trees r.shapes) n) (named_told r n.ctx) (named_told r n.first))
unfolding named_told
node_new r n =
    let all = said_behind [] (named_lines_of r) in
    let line = row_of_node (named_trees r.shapes) n in (
      omega (arith, length-append r.nodes (n ∷ [])),
      ap (λ ms. look ms (length r.nodes)) (named_push r n)
          ∙ ap (look (all ++ say all line ∷ [])) (sym (named_long r))
          ∙ look_at all (say all line) []
          ∙ ap (λ i. say_as n.form i line (look all n.ctx) (look all n.first)) (named_long r),
    )

faultless_push : (S : Specification) (G : Front) (ms : List Told) (ls : List Plain) (l : Plain) → first_fault_behind S G ms ls ≡ None → fault S G (said_behind ms ls) l ≡ None → first_fault_behind S G ms (ls ++ l ∷ []) ≡ None
faultless_push S G ms [] l v h = rw h refl
faultless_push S G ms (k ∷ ls) l v h =
    let (p, q) = faultless S G ms k ls v in
    rw p (faultless_push S G (ms ++ say ms k ∷ []) ls l q h)

pub valid_node : (r : Tables) (n : Node) (S : Specification) (G : Front) → form_fault S G n.form (row_of_node (bare_trees r.shapes) n) (told r n.ctx) (told r n.first) (told r n.second) (told r n.third) ≡ None → IsValid S G r → IsValid S G (with_node r n)
unfolding first_fault told
valid_node r n S G h v =
    ap (first_fault_behind S G []) (lines_push r.shapes r.nodes n)
    ∙ faultless_push S G [] (rows_of r) (row_of_node (bare_trees r.shapes) n) v h

pub ruleset grown = (keeps_term, valid_term, term_new, keeps_node, node_new, valid_node)

-- What the fault of a term's line says of its tree.
passed : (b : Bool) (o : Option RecordFault) (k : ℕ) → (if b then o else Some (Link k)) ≡ Some TooLarge → o ≡ Some TooLarge
passed true o k h = h
passed false o k h = absurd (cc h)

no_size : (n k : ℕ) (ls : List ℕ) → first_wrong n k ls ≡ Some TooLarge → ⊥
no_size n k [] h = absurd (cc h)
no_size n k (l ∷ ls) h = no_size n (suc k) ls (passed (nat_lt l n) (first_wrong n (suc k) ls) k h)

large_tree : (o : Option RecordFault) (w : Bool) → (o ≡ Some TooLarge → ⊥) → or_wrong o (if w then None else Some TooLarge) ≡ Some TooLarge → w ≡ false
large_tree None true n h = absurd (cc h)
large_tree None false n h = refl
large_tree (Some e) w n h = absurd (n h)

fit_tree : (o : Option RecordFault) (w : Bool) → or_wrong o (if w then None else Some TooLarge) ≡ None → w ≡ true
fit_tree None true h = refl
fit_tree None false h = absurd (cc h)
fit_tree (Some e) w h = absurd (cc h)

unfolded : (ss : List Shape) (s : Shape) → within (unfold_shape the_name (named_trees ss) s) ≡ within (unfold_shape no_name (bare_trees ss) s)
unfolding bare_trees named_trees
unfolded ss s =
    let ts = values_behind (unfold_shape the_name) [] ss in
    sym (bare_within (unfold_shape the_name ts s)) ∙ ap within (sym (unfold_bare ts s)) ∙ ap (λ us. within (unfold_shape no_name us s)) (sym (bare_behind ss []))

pub line_large : (ss : List Shape) (s : Shape) → term_fault ss s ≡ Some TooLarge → within (unfold_shape the_name (named_trees ss) s) ≡ false
unfolding term_fault
line_large ss s h = unfolded ss s ∙ large_tree (first_wrong (length ss) (fields_before s) (shape_links s)) (within (unfold_shape no_name (bare_trees ss) s)) (no_size (length ss) (fields_before s) (shape_links s)) h

pub line_fits : (ss : List Shape) (s : Shape) → term_fault ss s ≡ None → within (unfold_shape the_name (named_trees ss) s) ≡ true
unfolding term_fault
line_fits ss s h = unfolded ss s ∙ fit_tree (first_wrong (length ss) (fields_before s) (shape_links s)) (within (unfold_shape no_name (bare_trees ss) s)) h

-- The same of a record that was made so.
pub line_keeps : (r q : Tables) (s : Shape) → NodesLinked (length r.shapes) 0 r.nodes → q ≡ with_term r s → Keeps r q
line_keeps r q s b e = rw e (keeps_term r s b)

pub line_valid : (r q : Tables) (s : Shape) → NodesLinked (length r.shapes) 0 r.nodes → q ≡ with_term r s → StaysValid r q
line_valid r q s b e = rw e (valid_term r s b)

pub line_term : (r q : Tables) (s : Shape) (n : ℕ) → n ≡ length r.shapes → q ≡ with_term r s → IsTerm q n (unfold_shape the_name (named_trees r.shapes) s)
line_term r q s n h e = rw (h, e) (term_new r s)

pub same_keeps : (r q : Tables) → q ≡ r → Keeps r q
same_keeps r q e = rw e (keeps_refl r)

pub same_valid : (r q : Tables) → q ≡ r → StaysValid r q
same_valid r q e = rw e (valid_refl r)

pub ruleset lines = (line_keeps, line_valid, line_term, line_fits, line_large, same_keeps, same_valid)

pub node_keeps : (r q : Tables) (n : Node) → q ≡ with_node r n → Keeps r q
node_keeps r q n e = rw e (keeps_node r n)

pub node_says : (r q : Tables) (n : Node) (k : ℕ) → k ≡ length r.nodes → q ≡ with_node r n → IsNode q k (say_as n.form k (row_of_node (named_trees r.shapes) n) (named_told r n.ctx) (named_told r n.first))
node_says r q n k h e = rw (h, e) (node_new r n)

pub node_valid : (r q : Tables) (n : Node) (S : Specification) (G : Front) → q ≡ with_node r n → form_fault S G n.form (row_of_node (bare_trees r.shapes) n) (told r n.ctx) (told r n.first) (told r n.second) (told r n.third) ≡ None → IsValid S G r → IsValid S G q
node_valid r q n S G e h v = rw e (valid_node r n S G h v)

pub ruleset pushed = (node_keeps, node_says, node_valid, same_keeps, same_valid)
