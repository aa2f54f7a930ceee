-- The fields of a line that its form does not use count for nothing.
use Rattle.std.proofs.Common.{ℕ, List, ◌++◌, ◌≡◌, ◌<◌, refl}
use Rattle.pts_terms.specs.Tree.{Bare}
use Rattle.pts_ctx.specs.System.{Specification}
use Rattle.pts_ctx.specs.Front.{Front}
use Rattle.pts_record.specs.declared.shape.Form.{Form}
use Rattle.pts_record.specs.declared.shape.Form.TheVariants.{Empty, Assume, Define, Bare as BareForm, SortAt, ConstAt, VarAt, Thin, PiAt, LamAt, AppAt, LetSort, LetAt, Conv, Same, Left, Right, CongApp, CongLam, CongPi}
use Rattle.pts_record.specs.Table.{AllBelow, contexts_as, premises_as, kept_node}
use Rattle.pts_record.specs.Said.{row_of_node, say}
use Rattle.pts_rules.specs.Conditions.{Plain, Link, form_fault}
use Rattle.pts_rules.specs.Valid.{fault}

pub kept_faults : (S : Specification) (G : Front) (ms : List Link) (ts : List Bare) (g : Form) (c t u p q w : ℕ) →
    fault S G ms (row_of_node ts (kept_node (record { form = g; ctx = c; subject = t; claim = u; first = p; second = q; third = w }))) ≡ fault S G ms (row_of_node ts (record { form = g; ctx = c; subject = t; claim = u; first = p; second = q; third = w }))
kept_faults S G ms ts Empty c t u p q w = refl
kept_faults S G ms ts Assume c t u p q w = refl
kept_faults S G ms ts Define c t u p q w = refl
kept_faults S G ms ts BareForm c t u p q w = refl
kept_faults S G ms ts SortAt c t u p q w = refl
kept_faults S G ms ts ConstAt c t u p q w = refl
kept_faults S G ms ts VarAt c t u p q w = refl
kept_faults S G ms ts Thin c t u p q w = refl
kept_faults S G ms ts PiAt c t u p q w = refl
kept_faults S G ms ts LamAt c t u p q w = refl
kept_faults S G ms ts AppAt c t u p q w = refl
kept_faults S G ms ts LetSort c t u p q w = refl
kept_faults S G ms ts LetAt c t u p q w = refl
kept_faults S G ms ts Conv c t u p q w = refl
kept_faults S G ms ts Same c t u p q w = refl
kept_faults S G ms ts Left c t u p q w = refl
kept_faults S G ms ts Right c t u p q w = refl
kept_faults S G ms ts CongApp c t u p q w = refl
kept_faults S G ms ts CongLam c t u p q w = refl
kept_faults S G ms ts CongPi c t u p q w = refl

pub kept_says : (ms : List Link) (ts : List Bare) (g : Form) (c t u p q w : ℕ) →
    say ms (row_of_node ts (kept_node (record { form = g; ctx = c; subject = t; claim = u; first = p; second = q; third = w }))) ≡ say ms (row_of_node ts (record { form = g; ctx = c; subject = t; claim = u; first = p; second = q; third = w }))
kept_says ms ts Empty c t u p q w = refl
kept_says ms ts Assume c t u p q w = refl
kept_says ms ts Define c t u p q w = refl
kept_says ms ts BareForm c t u p q w = refl
kept_says ms ts SortAt c t u p q w = refl
kept_says ms ts ConstAt c t u p q w = refl
kept_says ms ts VarAt c t u p q w = refl
kept_says ms ts Thin c t u p q w = refl
kept_says ms ts PiAt c t u p q w = refl
kept_says ms ts LamAt c t u p q w = refl
kept_says ms ts AppAt c t u p q w = refl
kept_says ms ts LetSort c t u p q w = refl
kept_says ms ts LetAt c t u p q w = refl
kept_says ms ts Conv c t u p q w = refl
kept_says ms ts Same c t u p q w = refl
kept_says ms ts Left c t u p q w = refl
kept_says ms ts Right c t u p q w = refl
kept_says ms ts CongApp c t u p q w = refl
kept_says ms ts CongLam c t u p q w = refl
kept_says ms ts CongPi c t u p q w = refl

-- Only the links that a form uses count.
pub fault_by_links : (S : Specification) (G : Front) (g : Form) (l : Plain) (c p q w c' p' q' w' : Link) (n x y z u : ℕ) → AllBelow n (contexts_as g x ++ premises_as g y z u) → (x < n → c ≡ c') → (y < n → p ≡ p') → (z < n → q ≡ q') → (u < n → w ≡ w') → form_fault S G g l c p q w ≡ form_fault S G g l c' p' q' w'
fault_by_links S G Empty l c p q w c' p' q' w' n x y z u b e f g h = refl
fault_by_links S G Assume l c p q w c' p' q' w' n x y z u b e f g h = let i = f b.0 in rw i refl
fault_by_links S G Define l c p q w c' p' q' w' n x y z u b e f g h = let i = f b.0 in rw i refl
fault_by_links S G BareForm l c p q w c' p' q' w' n x y z u b e f g h = let i = e b.0 in rw i refl
fault_by_links S G SortAt l c p q w c' p' q' w' n x y z u b e f g h = let i = e b.0 in rw i refl
fault_by_links S G ConstAt l c p q w c' p' q' w' n x y z u b e f g h = let i = e b.0 in rw i refl
fault_by_links S G VarAt l c p q w c' p' q' w' n x y z u b e f g h = let i = e b.0 in rw i refl
fault_by_links S G Same l c p q w c' p' q' w' n x y z u b e f g h = let i = e b.0 in rw i refl
fault_by_links S G Thin l c p q w c' p' q' w' n x y z u b e f g h = let i = e b.0 in let j = f b.1.0 in rw (i, j) refl
fault_by_links S G LetSort l c p q w c' p' q' w' n x y z u b e f g h = let i = e b.0 in let j = f b.1.0 in rw (i, j) refl
fault_by_links S G Left l c p q w c' p' q' w' n x y z u b e f g h = let i = e b.0 in let j = f b.1.0 in rw (i, j) refl
fault_by_links S G Right l c p q w c' p' q' w' n x y z u b e f g h = let i = e b.0 in let j = f b.1.0 in rw (i, j) refl
fault_by_links S G PiAt l c p q w c' p' q' w' n x y z u b e f g h = let i = e b.0 in let j = f b.1.0 in let k = g b.1.1.0 in rw (i, j, k) refl
fault_by_links S G LamAt l c p q w c' p' q' w' n x y z u b e f g h = let i = e b.0 in let j = f b.1.0 in let k = g b.1.1.0 in rw (i, j, k) refl
fault_by_links S G AppAt l c p q w c' p' q' w' n x y z u b e f g h = let i = e b.0 in let j = f b.1.0 in let k = g b.1.1.0 in rw (i, j, k) refl
fault_by_links S G LetAt l c p q w c' p' q' w' n x y z u b e f g h = let i = e b.0 in let j = f b.1.0 in let k = g b.1.1.0 in rw (i, j, k) refl
fault_by_links S G CongApp l c p q w c' p' q' w' n x y z u b e f g h = let i = e b.0 in let j = f b.1.0 in let k = g b.1.1.0 in rw (i, j, k) refl
fault_by_links S G CongLam l c p q w c' p' q' w' n x y z u b e f g h = let i = e b.0 in let j = f b.1.0 in let k = g b.1.1.0 in rw (i, j, k) refl
fault_by_links S G CongPi l c p q w c' p' q' w' n x y z u b e f g h = let i = e b.0 in let j = f b.1.0 in let k = g b.1.1.0 in rw (i, j, k) refl
fault_by_links S G Conv l c p q w c' p' q' w' n x y z u b e f g h = let i = e b.0 in let j = f b.1.0 in let k = g b.1.1.0 in let m = h b.1.1.1.0 in rw (i, j, k, m) refl
