-- The lines that the program adds are those of the image.
use Rattle.std.proofs.Common.{ℕ, suc, zero, List, [], ◌∷◌, ◌++◌, map, length, Bool, true, false, ◌≡◌, ◌<◌, ◌≤◌, ◌+◌, refl, sym, ap, ◌∙◌, arith, subst, Option, Some, None}
use Rattle.std.specs.Prelude.{if◌then◌else◌, slice_get, nat_eq}
use Rattle.pts_names.specs.Name.{Name}
use Rattle.pts_terms.specs.Tree.{Bare, sort}
use Rattle.pts_terms.proofs.Same.{nat_eq_same, nat_eq_self}
use Rattle.pts_record.specs.declared.shape.Form.{Form}
use Rattle.pts_record.specs.declared.shape.Form.TheVariants.{Empty, ConstAt, Thin}
use Rattle.pts_record.specs.declared.shape.Shape.{Shape}
use Rattle.pts_record.specs.declared.shape.Shape.TheVariants.{Sort, Const, Var, App, Lam, Pi, Let}
use Rattle.pts_record.specs.declared.shape.Node.{Node}
use Rattle.pts_record.specs.Table.{Tables, at, unfold_shape, no_name, bare_trees, kept_node}
use Rattle.pts_record.proofs.Trees.{bare_long}
use Rattle.pts_rules.specs.Parts.{const_in}
use Rattle.pts_image.specs.declared.replacement.Replacement.{Replacement}
use Rattle.pts_image.specs.declared.replacement.Replacement.TheVariants.{Constant, Argument}
use Rattle.pts_image.specs.declared.append.Graft.{Graft}
use Rattle.pts_image.specs.declared.append.Numbering.{Numbering}
use Rattle.pts_image.specs.Appending.{replacement_in, argument_node, is_empty_form, is_empty_node, graft_number, new_number, image_as}

pub empty_here : (ns : List Node) (k : ℕ) (n : Node) → slice_get ns k ≡ Some n → is_empty_form n.form ≡ is_empty_node ns k
empty_here [] k n h = absurd (cc h)
empty_here (m ∷ ns) zero n h = ap is_empty_form (ap (λ x. x.form) (sym (same h)))
  where
    same : Some m ≡ Some n → m ≡ n
    same p = cc p
empty_here (m ∷ ns) (suc k) n h = empty_here ns k n h

pub empty_past : (ns : List Node) (k : ℕ) → length ns ≤ k → is_empty_node ns k ≡ false
empty_past [] k h = refl
empty_past (n ∷ ns) zero h = absurd (omega (arith, h))
empty_past (n ∷ ns) (suc k) h = empty_past ns k (omega (arith, h))

pub root_number : (ns : List Node) (e m k : ℕ) → true ≡ is_empty_node ns k → e ≡ (if is_empty_node ns k then e else (m + k))
root_number ns e m k h = ap (λ b. if b then e else (m + k)) h

pub later_number : (ns : List Node) (e m k n : ℕ) → false ≡ is_empty_node ns k → n ≡ m + k → n ≡ (if is_empty_node ns k then e else (m + k))
later_number ns e m k n h p = p ∙ ap (λ b. if b then e else (m + k)) h

pub past_number : (ns : List Node) (e m k n : ℕ) → length ns ≤ k → n ≡ m + k → n ≡ (if is_empty_node ns k then e else (m + k))
past_number ns e m k n h p = p ∙ ap (λ b. if b then e else (m + k)) (sym (empty_past ns k h))

pub no_graft : (ns : List Node) (z : Numbering) (k n : ℕ) → None ≡ z.graft → n ≡ (if is_empty_node ns k then z.root else (z.start + k)) → n ≡ new_number ns z k
no_graft ns z k n h p = p ∙ ap (λ g. graft_number g k (if is_empty_node ns k then z.root else (z.start + k))) h

pub other_number : (ns : List Node) (z : Numbering) (g : Graft) (k n : ℕ) → Some g ≡ z.graft → (g.node ≡ k → ⊥) → n ≡ (if is_empty_node ns k then z.root else (z.start + k)) → n ≡ new_number ns z k
other_number ns z g k n h d p = p ∙ apart (nat_eq k g.node) refl ∙ ap (λ o. graft_number o k (if is_empty_node ns k then z.root else (z.start + k))) h
  where
    apart : (b : Bool) → nat_eq k g.node ≡ b → (if is_empty_node ns k then z.root else (z.start + k)) ≡ (if nat_eq k g.node then g.place else (if is_empty_node ns k then z.root else (z.start + k)))
    apart true q = absurd (d (sym (nat_eq_same k g.node q)))
    apart false q = ap (λ b. if b then g.place else (if is_empty_node ns k then z.root else (z.start + k))) (sym q)

pub grafted_number : (ns : List Node) (z : Numbering) (g : Graft) (k : ℕ) → Some g ≡ z.graft → g.node ≡ k → g.place ≡ new_number ns z k
grafted_number ns z g k h e = ap (λ b. if b then g.place else (if is_empty_node ns k then z.root else (z.start + k))) (sym (ap (nat_eq k) e ∙ nat_eq_self k)) ∙ ap (λ o. graft_number o k (if is_empty_node ns k then z.root else (z.start + k))) h

pub other_form : (g : Form) (x : Node) (i : Replacement) → ¬ (g ≡ ConstAt) → kept_node x ≡ image_as g x i
other_form ConstAt x i h = absurd (h refl)
other_form _ x i h = refl

pub const_kept : (g : Form) (x : Node) (i : Replacement) → g ≡ ConstAt → None ≡ argument_node i → kept_node x ≡ image_as g x i
const_kept g x (Constant y) p h = ap (λ f. image_as f x (Constant y)) (sym p)
const_kept g x (Argument t n) p h = absurd (cc h)

pub const_thinned : (g : Form) (x : Node) (i : Replacement) (n : ℕ) → g ≡ ConstAt → Some n ≡ argument_node i → kept_node (record { form = Thin; ctx = x.ctx; subject = x.subject; claim = x.claim; first = n; second = 0; third = 0 }) ≡ image_as g x i
const_thinned g x (Constant y) n p h = absurd (cc h)
const_thinned g x (Argument t q) n p h = ap (λ k. record { form = Thin; ctx = x.ctx; subject = x.subject; claim = x.claim; first = k; second = 0; third = 0 }) (same h) ∙ ap (λ f. image_as f x (Argument t q)) (sym p)
  where
    same : Some n ≡ Some q → n ≡ q
    same p = cc p

pub not_const : (w : Name → Replacement) (ts : List Bare) (s : Shape) (t : Bare) → t ≡ unfold_shape no_name ts s → ((c : Name) → ¬ (s ≡ Const c)) → None ≡ argument_node (replacement_in w (const_in t))
not_const w ts (Const c) t p h = absurd (h c refl)
not_const w ts (Sort s) t p h = ap (λ u. argument_node (replacement_in w (const_in u))) (sym p)
not_const w ts (Var i) t p h = ap (λ u. argument_node (replacement_in w (const_in u))) (sym p)
not_const w ts (App f a) t p h = ap (λ u. argument_node (replacement_in w (const_in u))) (sym p)
not_const w ts (Lam x A b) t p h = ap (λ u. argument_node (replacement_in w (const_in u))) (sym p)
not_const w ts (Pi x A b) t p h = ap (λ u. argument_node (replacement_in w (const_in u))) (sym p)
not_const w ts (Let x a A b) t p h = ap (λ u. argument_node (replacement_in w (const_in u))) (sym p)

pub const_past : (w : Name → Replacement) (ss : List Shape) (k : ℕ) → length ss ≤ k → None ≡ argument_node (replacement_in w (const_in (at (bare_trees ss) k)))
const_past w ss k h = ap (λ t. argument_node (replacement_in w (const_in t))) (sym (at_past (bare_trees ss) k (let n = bare_long ss in omega (arith, h, n))))
  where
    at_past : (ts : List Bare) (k : ℕ) → length ts ≤ k → at ts k ≡ sort 0
    at_past [] k h = refl
    at_past (t ∷ ts) zero h = absurd (omega (arith, h))
    at_past (t ∷ ts) (suc k) h = at_past ts k (omega (arith, h))
