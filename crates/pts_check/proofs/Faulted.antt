-- The first fault of a record, node by node.
use Rattle.std.proofs.Common.{◌≡◌, ℕ, zero, suc, ◌<◌, ◌≤◌, List, [], ◌∷◌, ◌++◌, length, get_or, take, drop, pred, false, Option, Some, None, refl, sym, ap, ◌∙◌, arith}
use Rattle.std.specs.Prelude.{slice_get}
use Rattle.std.proofs.lemmas.Option.{slice_get-get_or}
use Rattle.std.proofs.Common.{drop-cons}
use Rattle.std.proofs.Math.Seq.{take-suc}
use Rattle.pts_ctx.specs.System.{Specification}
use Rattle.pts_ctx.specs.Front.{Front, Global}
use Rattle.pts_record.specs.declared.shape.Form.{Form}
use Rattle.pts_record.specs.declared.shape.Form.TheVariants.{Empty, Assume, Define, Bare as BareForm, SortAt, ConstAt, VarAt, Thin, PiAt, LamAt, AppAt, LetSort, LetAt, Conv, Same, Left, Right, CongApp, CongLam, CongPi}
use Rattle.pts_record.specs.declared.shape.Node.{Node}
use Rattle.pts_record.specs.Table.{Tables, bare_trees, AllBelow, contexts_as, premises_as, node_links}
use Rattle.pts_record.specs.Said.{row_of_node, rows_of, nothing, look, say, said_behind, told}
use Rattle.pts_record.proofs.Values.{values_push}
use Rattle.pts_record.proofs.Told.{told_take, length_before, line_is, lines_long}
use Rattle.pts_rules.specs.declared.why.Why.{Why}
use Rattle.pts_rules.specs.Conditions.{Plain, Link, form_fault}
use Rattle.pts_rules.specs.Valid.{fault, or_later, first_fault_behind, first_fault, concludes, concludes_as}
use Rattle.pts_record.proofs.Looked.{look_past, said_length}
use Rattle.pts_check.specs.declared.verdict.Verdict.TheVariants.{Valid, Faulty}
use Rattle.pts_check.specs.Verdicts.{verdict_of}

-- only the links that a form uses count
fault_by_links : (S : Specification) (G : Front) (f : Form) (l : Plain) (c p q r c' p' q' r' : Link) (n x y z w : ℕ) → AllBelow n (contexts_as f x ++ premises_as f y z w) → (x < n → c ≡ c') → (y < n → p ≡ p') → (z < n → q ≡ q') → (w < n → r ≡ r') → form_fault S G f l c p q r ≡ form_fault S G f l c' p' q' r'
fault_by_links S G Empty l c p q r c' p' q' r' n x y z w b e g h k = refl
fault_by_links S G Assume l c p q r c' p' q' r' n x y z w b e g h k = let p1 = g b.0 in cc
fault_by_links S G Define l c p q r c' p' q' r' n x y z w b e g h k = let p1 = g b.0 in cc
fault_by_links S G BareForm l c p q r c' p' q' r' n x y z w b e g h k = let c1 = e b.0 in cc
fault_by_links S G SortAt l c p q r c' p' q' r' n x y z w b e g h k = let c1 = e b.0 in cc
fault_by_links S G ConstAt l c p q r c' p' q' r' n x y z w b e g h k = let c1 = e b.0 in cc
fault_by_links S G VarAt l c p q r c' p' q' r' n x y z w b e g h k = let c1 = e b.0 in cc
fault_by_links S G Thin l c p q r c' p' q' r' n x y z w b e g h k = let c1 = e b.0 in let p1 = g b.1.0 in cc
fault_by_links S G PiAt l c p q r c' p' q' r' n x y z w b e g h k = let c1 = e b.0 in let p1 = g b.1.0 in let q1 = h b.1.1.0 in cc
fault_by_links S G LamAt l c p q r c' p' q' r' n x y z w b e g h k = let c1 = e b.0 in let p1 = g b.1.0 in let q1 = h b.1.1.0 in cc
fault_by_links S G AppAt l c p q r c' p' q' r' n x y z w b e g h k = let c1 = e b.0 in let p1 = g b.1.0 in let q1 = h b.1.1.0 in cc
fault_by_links S G LetSort l c p q r c' p' q' r' n x y z w b e g h k = let c1 = e b.0 in let p1 = g b.1.0 in cc
fault_by_links S G LetAt l c p q r c' p' q' r' n x y z w b e g h k = let c1 = e b.0 in let p1 = g b.1.0 in let q1 = h b.1.1.0 in cc
fault_by_links S G Conv l c p q r c' p' q' r' n x y z w b e g h k = let c1 = e b.0 in let p1 = g b.1.0 in let q1 = h b.1.1.0 in let r1 = k b.1.1.1.0 in cc
fault_by_links S G Same l c p q r c' p' q' r' n x y z w b e g h k = let c1 = e b.0 in cc
fault_by_links S G Left l c p q r c' p' q' r' n x y z w b e g h k = let c1 = e b.0 in let p1 = g b.1.0 in cc
fault_by_links S G Right l c p q r c' p' q' r' n x y z w b e g h k = let c1 = e b.0 in let p1 = g b.1.0 in cc
fault_by_links S G CongApp l c p q r c' p' q' r' n x y z w b e g h k = let c1 = e b.0 in let p1 = g b.1.0 in let q1 = h b.1.1.0 in cc
fault_by_links S G CongLam l c p q r c' p' q' r' n x y z w b e g h k = let c1 = e b.0 in let p1 = g b.1.0 in let q1 = h b.1.1.0 in cc
fault_by_links S G CongPi l c p q r c' p' q' r' n x y z w b e g h k = let c1 = e b.0 in let p1 = g b.1.0 in let q1 = h b.1.1.0 in cc

-- The first fault of the lines from i on, over what was said before them.
unfoldable pub rest : Specification → Front → Tables → ℕ → Option (ℕ × Why)
rest S G r i = first_fault_behind S G (said_behind [] (take i (rows_of r))) (drop i (rows_of r))

pub rest_all : (S : Specification) (G : Front) (r : Tables) → rest S G r 0 ≡ first_fault S G r
unfolding rest first_fault
rest_all S G r = refl

drop_all : {A : Type 0} (xs : List A) (i : ℕ) → length xs ≤ i → drop i xs ≡ []
drop_all [] zero h = refl
drop_all [] (suc i) h = refl
drop_all (x ∷ xs) zero h = absurd (omega (arith, h))
drop_all (x ∷ xs) (suc i) h = drop_all xs i (omega (arith, h))

pub rest_none : (S : Specification) (G : Front) (r : Tables) (i : ℕ) → length r.nodes ≤ i → rest S G r i ≡ None
unfolding rest
rest_none S G r i h = ap (first_fault_behind S G (said_behind [] (take i (rows_of r)))) (drop_all (rows_of r) i (omega (arith, h, lines_long r)))

-- The fault of a node, by what its links say.
abbrev pub fault_of : Specification → Front → Tables → Node → Option Why
fault_of S G r n = form_fault S G n.form (row_of_node (bare_trees r.shapes) n) (told r n.ctx) (told r n.first) (told r n.second) (told r n.third)

rest_by : (S : Specification) (G : Front) (r : Tables) (k : ℕ) (n : Node) → k < length r.nodes → get_or r.nodes k n ≡ n → AllBelow k (node_links n) → rest S G r k ≡ or_later k (fault_of S G r n) (rest S G r (suc k))
unfolding rest
rest_by S G r k n h e b =
    let ls = rows_of r in
    let l = row_of_node (bare_trees r.shapes) n in
    let before = said_behind [] (take k ls) in
    let hl : k < length ls = omega (arith, h, lines_long r) in
    let le : k ≤ length ls = omega (arith, hl) in
    let line : get_or ls k l ≡ l = line_is r k n ∙ ap (row_of_node (bare_trees r.shapes)) e in
    let cut : drop k ls ≡ l ∷ drop (suc k) ls = drop-cons ls k l hl ∙ ap (λ x. x ∷ drop (suc k) ls) line in
    let more : take (suc k) ls ≡ take k ls ++ l ∷ [] = take-suc ls k l hl ∙ ap (λ x. take k ls ++ x ∷ []) line in
    let said : said_behind [] (take (suc k) ls) ≡ before ++ say before l ∷ [] = ap (said_behind []) more ∙ values_push say (take k ls) [] l in
    let same : fault S G before l ≡ fault_of S G r n = fault_by_links S G n.form l (look before n.ctx) (look before n.first) (look before n.second) (look before n.third) (told r n.ctx) (told r n.first) (told r n.second) (told r n.third) k n.ctx n.first n.second n.third b (λ lt. told_take r k n.ctx lt le) (λ lt. told_take r k n.first lt le) (λ lt. told_take r k n.second lt le) (λ lt. told_take r k n.third lt le) in
    ap (first_fault_behind S G before) cut
    ∙ ap (λ i. or_later i (fault S G before l) (first_fault_behind S G (before ++ say before l ∷ []) (drop (suc k) ls))) (length_before r k le)
    ∙ ap (λ f. or_later k f (first_fault_behind S G (before ++ say before l ∷ []) (drop (suc k) ls))) same
    ∙ ap (λ ms. or_later k (fault_of S G r n) (first_fault_behind S G ms (drop (suc k) ls))) (sym said)

pub rest_step : (S : Specification) (G : Front) (r : Tables) (k : ℕ) (n : Node) → k < length r.nodes → slice_get r.nodes k ≡ Some n → AllBelow k (node_links n) → rest S G r k ≡ or_later k (fault_of S G r n) (rest S G r (suc k))
rest_step S G r k n h e b =
    let g = slice_get-get_or r.nodes k n h in
    let same : get_or r.nodes k n ≡ n = cc in
    rest_by S G r k n h same b

pub is_faulty : (S : Specification) (G : Front) (r : Tables) (k : ℕ) (n : Node) (w : Why) → rest S G r k ≡ first_fault S G r → k < length r.nodes → slice_get r.nodes k ≡ Some n → AllBelow k (node_links n) → Some w ≡ fault_of S G r n → Faulty k w ≡ verdict_of (first_fault S G r)
is_faulty S G r k n w i h e b f =
    ap (λ o. verdict_of (or_later k o (rest S G r (suc k)))) f ∙ ap verdict_of (sym (rest_step S G r k n h e b) ∙ i)

pub goes_on : (S : Specification) (G : Front) (r : Tables) (k j : ℕ) (n : Node) → rest S G r k ≡ first_fault S G r → k < length r.nodes → slice_get r.nodes k ≡ Some n → AllBelow k (node_links n) → None ≡ fault_of S G r n → j ≡ suc k → rest S G r j ≡ first_fault S G r
goes_on S G r k j n i h e b f p =
    ap (rest S G r) p ∙ ap (λ o. or_later k o (rest S G r (suc k))) f ∙ sym (rest_step S G r k n h e b) ∙ i

pub is_valid : (S : Specification) (G : Front) (r : Tables) (k : ℕ) → rest S G r k ≡ first_fault S G r → length r.nodes ≤ k → Valid ≡ verdict_of (first_fault S G r)
is_valid S G r k i h = ap verdict_of (sym (rest_none S G r k h) ∙ i)

-- a record without nodes concludes nothing
pub nothing_concluded : (r : Tables) (e : Global (Unit {0})) → length r.nodes ≡ 0 → concludes r e ≡ false
unfolding told
nothing_concluded r e h =
    let past : look (said_behind [] (rows_of r)) (pred (length r.nodes)) ≡ nothing = look_past (said_behind [] (rows_of r)) (pred (length r.nodes)) (omega (arith, h, said_length [] (rows_of r), lines_long r)) in
    ap (λ m. concludes_as m e.body e.type) past
