-- Terms that an operation leaves as they are.
use Rattle.std.proofs.Common.{◌≡◌, ℕ, suc, ◌+◌, ◌≤◌, Result, Ok, Err, List, refl, sym, ap, ◌∙◌, arith, true}
use Rattle.std.specs.Prelude.{IfOk, Some, slice_get}
use Rattle.pts_names.specs.Name.{Name}
use Rattle.pts_terms.specs.Tree.{Tree, Named, bare, sort, const, var, app, named_lam, named_pi, named_let, lift, put}
use Rattle.pts_terms.specs.Limits.{free_of, depth_of, size_of, within}
use Rattle.pts_terms.proofs.Free.{lift_past, put_past}
use Rattle.pts_terms.proofs.Unnamed.{bare_depth, bare_size}
use Rattle.pts_record.specs.declared.shape.Shape.{Shape}
use Rattle.pts_record.specs.Table.{Tables, named_at, named_trees, bare_at, unfold_shape, the_name}
use Rattle.pts_record.proofs.Trees.{bare_of_named}
use Rattle.pts_record.proofs.Faults.{within_true}
use Rattle.pts_record.proofs.Compared.{free_below}
use Rattle.pts_grow.specs.declared.fault.TermFault.{TermFault}
use Rattle.pts_grow.specs.Keeps.{IsTerm}

free_bare : {B : Type 0} (t : Tree B) → free_of (bare t) ≡ free_of t
free_bare (sort s) = refl
free_bare (const c) = refl
free_bare (var i) = refl
free_bare (app f a) = rw (free_bare f, free_bare a) refl
free_bare (named_lam x A b) = rw (free_bare A, free_bare b) refl
free_bare (named_pi x A b) = rw (free_bare A, free_bare b) refl
free_bare (named_let x a A b) = rw (free_bare a, free_bare A, free_bare b) refl

free_named : (ss : List Shape) (k : ℕ) → free_of (bare_at ss k) ≡ free_of (named_at ss k)
free_named ss k = ap free_of (sym (bare_of_named ss k)) ∙ free_bare (named_at ss k)

pub lift_same : (ss : List Shape) (k from by : ℕ) → free_of (bare_at ss k) ≤ from → lift from by (named_at ss k) ≡ named_at ss k
lift_same ss k from by h = lift_past from from by (named_at ss k) (omega arith) (free_below from (named_at ss k) (omega (arith, h, free_named ss k)))

pub put_same : (ss : List Shape) (k index passed : ℕ) (a : Named) → free_of (bare_at ss k) ≤ index → put index passed a (named_at ss k) ≡ named_at ss k
put_same ss k index passed a h = put_past index index passed a (named_at ss k) (omega arith) (free_below index (named_at ss k) (omega (arith, h, free_named ss k)))

pub depth_named : (ss : List Shape) (k : ℕ) → depth_of (bare_at ss k) ≡ depth_of (named_at ss k)
depth_named ss k = ap depth_of (sym (bare_of_named ss k)) ∙ bare_depth (named_at ss k)

pub size_named : (ss : List Shape) (k : ℕ) → size_of (bare_at ss k) ≡ size_of (named_at ss k)
size_named ss k = ap size_of (sym (bare_of_named ss k)) ∙ bare_size (named_at ss k)

-- A term that stands is within limits.
pub stands_within : (ss : List Shape) (k : ℕ) → (depth_of (bare_at ss k) ≤ 2000) × (size_of (bare_at ss k) ≤ 1000000) → within (named_at ss k) ≡ true
stands_within ss k h =
    let d : depth_of (named_at ss k) ≤ 2000 = omega (arith, h.0, depth_named ss k) in
    let s : size_of (named_at ss k) ≤ 1000000 = omega (arith, h.1, size_named ss k) in
    within_true (depth_of (named_at ss k)) (size_of (named_at ss k)) d s

-- So is a line that is that of a term which stands.
pub known_within : (ss : List Shape) (k : ℕ) (s r : Shape) → slice_get ss k ≡ Some s → slice_get ss k ≡ Some r → named_at ss k ≡ unfold_shape the_name (named_trees ss) r → (depth_of (bare_at ss k) ≤ 2000) × (size_of (bare_at ss k) ≤ 1000000) → within (unfold_shape the_name (named_trees ss) s) ≡ true
known_within ss k s r e f n h =
    let q : Some s ≡ Some r = sym e ∙ f in
    let p : s ≡ r = cc in
    ap (λ u. within (unfold_shape the_name (named_trees ss) u)) p ∙ ap within (sym n) ∙ stands_within ss k h

-- A local definition is lifted part by part.
pub let_lifted : (k n : ℕ) (x y : Name) (t D A B d a b : Named) → t ≡ named_let y D A B → x ≡ y → d ≡ lift k n D → a ≡ lift k n A → b ≡ lift (k + 1) n B → named_let x d a b ≡ lift k n t
let_lifted k n x y t D A B d a b e f p q s =
    let i : k + 1 ≡ suc k = omega arith in
    let z : b ≡ lift (suc k) n B = s ∙ ap (λ j. lift j n B) i in
    let w : lift k n t ≡ named_let y (lift k n D) (lift k n A) (lift (suc k) n B) = ap (lift k n) e in
    cc

pub if_term : (r : Result ℕ TermFault) (q : Tables) (t u : Named) → t ≡ u → IfOk r (λ n. IsTerm q n t) → IfOk r (λ n. IsTerm q n u)
if_term (Ok n) q t u e h = (h.0, h.1 ∙ e)
if_term (Err w) q t u e h = tt

pub ruleset left_alone = (lift_same, put_same, stands_within)
