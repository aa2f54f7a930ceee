-- The last node of a record that grew by one.
use Rattle.std.proofs.Common.{◌≡◌, ◌<◌, ◌∙◌, ℕ, ◌+◌, suc, ap, List, [], ◌∷◌, ◌++◌, length, Some, get_or, arith}
use Rattle.std.specs.List.{slice_get}
use Rattle.std.proofs.Math.Seq.{get_or-append_seam}
use Rattle.std.proofs.lemmas.Option.{slice_get-get_or}
use Rattle.std.proofs.lemmas.List.{length-append}
use Rattle.pts_record.specs.declared.shape.Form.TheVariants.{Thin}
use Rattle.pts_record.specs.declared.shape.Node.{Node}
use Rattle.pts_record.specs.Table.{Tables}
use Rattle.pts_grow.proofs.Grow.{with_node}
use Rattle.pts_grow.specs.declared.judged.Judged.{Judged}

-- A node that was added is the last.
pub last_node : (r q : Tables) (n : Node) (k : ℕ) → q ≡ with_node r n → k ≡ length r.nodes → suc k ≡ length q.nodes
last_node r q n k e p = let l = length-append r.nodes (n ∷ []) in let m : length q.nodes ≡ length (r.nodes ++ n ∷ []) = ap (λ t. length t.nodes) e in let s : length (r.nodes ++ n ∷ []) ≡ length r.nodes + 1 = l in omega (arith, p, m, s)

-- It is there.
pub node_there : (r q : Tables) (n : Node) (k : ℕ) → k ≡ length r.nodes → q ≡ with_node r n → slice_get q.nodes k ≡ Some n
node_there r q n k p e =
    let l = length-append r.nodes (n ∷ []) in
    let h : k < length (r.nodes ++ n ∷ []) = omega (arith, p, l) in
    let g : get_or (r.nodes ++ n ∷ []) k n ≡ n = ap (λ i. get_or (r.nodes ++ n ∷ []) i n) p ∙ get_or-append_seam r.nodes n [] n in
    ap (λ t. slice_get t.nodes k) e ∙ slice_get-get_or (r.nodes ++ n ∷ []) k n h ∙ ap Some g

pub same_shapes : (r q : Tables) (n : Node) → q ≡ with_node r n → q.shapes ≡ r.shapes
same_shapes r q n e = ap (λ t. t.shapes) e

-- The node that says a judgement again.
abbrev pub thin_of : ℕ → Judged → Node
thin_of c j = record { form = Thin; ctx = c; subject = j.subject; claim = j.claim; first = j.node; second = 0; third = 0 }
