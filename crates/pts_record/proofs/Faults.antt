-- Why a line is not added, and what holds where it is.
use Rattle.std.proofs.Common.{◌≡◌, ℕ, suc, ◌<◌, ◌≤◌, List, [], ◌∷◌, ◌++◌, length, refl, sym, ap, ◌∙◌, subst, arith, Bool, true, false, nat_lt, nat_le, Option, Some, None}
use Rattle.std.specs.Prelude.{◌&&◌, if◌then◌else◌}
use Rattle.std.proofs.lemmas.Bool.Decides.{nat_tests}
use Rattle.pts_terms.specs.Tree.{Bare}
use Rattle.pts_terms.specs.Limits.{within, depth_of, size_of}
use Rattle.pts_record.specs.declared.shape.Form.{Form}
use Rattle.pts_record.specs.declared.shape.Form.TheVariants.{Empty}
use Rattle.pts_record.specs.declared.shape.Shape.{Shape}
use Rattle.pts_record.specs.declared.shape.Node.{Node}
use Rattle.pts_record.specs.declared.shape.RecordFault.{RecordFault}
use Rattle.pts_record.specs.declared.shape.RecordFault.TheVariants.{Link, TooLarge, Memory}
use Rattle.pts_record.specs.Table.{Tables, bare_trees, unfold_shape, no_name, AllBelow, shape_links, fields_before, contexts_as, premises_as, premises_from, terms_as, node_links, term_links, number_in, kept_node, first_wrong, or_wrong, term_fault, node_fault, UnlessMemory}

pub unless_memory : (e : RecordFault) (P : Type 0) → P → UnlessMemory e P
unless_memory Memory P p = tt
unless_memory (Link k) P p = p
unless_memory TooLarge P p = p

passed : (n k l : ℕ) (ls : List ℕ) → first_wrong n k (l ∷ ls) ≡ None → (l < n) × (first_wrong n (suc k) ls ≡ None)
passed n k l ls e = passed_by (nat_lt l n) refl
  where
    passed_by : (b : Bool) → nat_lt l n ≡ b → (l < n) × (first_wrong n (suc k) ls ≡ None)
    passed_by true q = (grind (arith, nat_tests), sym (ap (λ b. if b then first_wrong n (suc k) ls else Some (Link k)) q) ∙ e)
    passed_by false q = let x : Some (Link k) ≡ None = sym (ap (λ b. if b then first_wrong n (suc k) ls else Some (Link k)) q) ∙ e in cc

-- no field is wrong exactly where each leads to an earlier line
pub none_wrong : (n k : ℕ) (ks : List ℕ) → first_wrong n k ks ≡ None → AllBelow n ks
none_wrong n k [] e = tt
none_wrong n k (l ∷ ls) e = let p = passed n k l ls e in (p.0, none_wrong n (suc k) ls p.1)

pub links_of_kept : (f : Form) (c p q w : ℕ) → contexts_as f (number_in (contexts_as f c) 0) ++ premises_as f (number_in (premises_as f p q w) 0) (number_in (premises_as f p q w) 1) (number_in (premises_as f p q w) 2) ≡ contexts_as f c ++ premises_as f p q w
links_of_kept Empty c p q w = refl
links_of_kept _ c p q w = refl

pub terms_of_kept : (f : Form) (t u : ℕ) → terms_as f (number_in (terms_as f t u) 0) (number_in (terms_as f t u) 1) ≡ terms_as f t u
terms_of_kept Empty t u = refl
terms_of_kept _ t u = refl

pub below_both : (n : ℕ) (ks ls : List ℕ) → AllBelow n ks → AllBelow n ls → AllBelow n (ks ++ ls)
below_both n [] ls a b = b
below_both n (k ∷ ks) ls a b = (a.0, below_both n ks ls a.1 b)

or_none : (a b : Option RecordFault) → or_wrong a b ≡ None → (a ≡ None) × (b ≡ None)
or_none None b e = (refl, e)
or_none (Some w) b e = cc

pub node_fits : (r : Tables) (n : Node) → node_fault r n ≡ None → AllBelow (length r.nodes) (node_links (kept_node n)) × AllBelow (length r.shapes) (term_links (kept_node n))
unfolding node_fault
node_fits r n e =
    let ps = premises_as n.form n.first n.second n.third in
    let a = or_none (first_wrong (length r.nodes) 0 (contexts_as n.form n.ctx)) _ e in
    let b = or_none (first_wrong (length r.shapes) 1 (term_links n)) (first_wrong (length r.nodes) (premises_from n.form) ps) a.1 in
    let cs = none_wrong (length r.nodes) 0 (contexts_as n.form n.ctx) a.0 in
    let ts = none_wrong (length r.shapes) 1 (term_links n) b.0 in
    let qs = none_wrong (length r.nodes) (premises_from n.form) ps b.1 in (
      subst (AllBelow (length r.nodes)) (sym (links_of_kept n.form n.ctx n.first n.second n.third)) (below_both (length r.nodes) (contexts_as n.form n.ctx) ps cs qs),
      subst (AllBelow (length r.shapes)) (sym (terms_of_kept n.form n.subject n.claim)) ts,
    )

pub part_wrong : (ss : List Shape) (s : Shape) (e : RecordFault) → first_wrong (length ss) (fields_before s) (shape_links s) ≡ Some e → term_fault ss s ≡ Some e
unfolding term_fault
part_wrong ss s e h = ap (λ o. or_wrong o (if within (unfold_shape no_name (bare_trees ss) s) then None else Some TooLarge)) h

pub too_large : (ss : List Shape) (s : Shape) → first_wrong (length ss) (fields_before s) (shape_links s) ≡ None → within (unfold_shape no_name (bare_trees ss) s) ≡ false → term_fault ss s ≡ Some TooLarge
unfolding term_fault
too_large ss s h w = ap (λ o. or_wrong o (if within (unfold_shape no_name (bare_trees ss) s) then None else Some TooLarge)) h ∙ ap (λ b. if b then None else Some TooLarge) w

pub term_fits : (ss : List Shape) (s : Shape) → first_wrong (length ss) (fields_before s) (shape_links s) ≡ None → within (unfold_shape no_name (bare_trees ss) s) ≡ true → term_fault ss s ≡ None
unfolding term_fault
term_fits ss s h w = ap (λ o. or_wrong o (if within (unfold_shape no_name (bare_trees ss) s) then None else Some TooLarge)) h ∙ ap (λ b. if b then None else Some TooLarge) w

pub within_true : (d s : ℕ) → d ≤ 2000 → s ≤ 1000000 → (nat_le d 2000 && nat_le s 1000000) ≡ true
within_true d s a b = grind (arith, nat_tests)

pub within_deep : (d s : ℕ) → 2000 < d → (nat_le d 2000 && nat_le s 1000000) ≡ false
within_deep d s a = grind (arith, nat_tests)

pub within_wide : (d s : ℕ) → 1000000 < s → (nat_le d 2000 && nat_le s 1000000) ≡ false
within_wide d s a = grind (arith, nat_tests)

pub within_bounds : (d s : ℕ) → (nat_le d 2000 && nat_le s 1000000) ≡ true → (d ≤ 2000) × (s ≤ 1000000)
within_bounds d s e = (grind (arith, nat_tests), grind (arith, nat_tests))

-- the limits of a measured tree
pub measured_within : (t : Bare) (d s : ℕ) → d ≡ depth_of t → s ≡ size_of t → d ≤ 2000 → s ≤ 1000000 → within t ≡ true
measured_within t d s e f a b = within_true (depth_of t) (size_of t) (omega (arith, e, a)) (omega (arith, f, b))

pub measured_deep : (t : Bare) (d : ℕ) → d ≡ depth_of t → 2000 < d → within t ≡ false
measured_deep t d e a = within_deep (depth_of t) (size_of t) (omega (arith, e, a))

pub measured_wide : (t : Bare) (s : ℕ) → s ≡ size_of t → 1000000 < s → within t ≡ false
measured_wide t s e a = within_wide (depth_of t) (size_of t) (omega (arith, e, a))

pub parts_below : (ss : List Shape) (s : Shape) → first_wrong (length ss) (fields_before s) (shape_links s) ≡ None → AllBelow (length ss) (shape_links s)
parts_below ss s e = none_wrong (length ss) (fields_before s) (shape_links s) e
