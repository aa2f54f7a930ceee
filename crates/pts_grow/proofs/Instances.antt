-- Nodes that compare terms are instances of their forms where their premises say so.
use Rattle.std.proofs.Common.{◌≡◌, ℕ, ◌<◌, List, length, map, refl, sym, ap, ◌∙◌, Some, None, true}
use Rattle.std.specs.Option.{option_map}
use Rattle.pts_names.specs.Name.{Name}
use Rattle.pts_terms.specs.Tree.{bare, app, lam, pi, same_term}
use Rattle.pts_terms.proofs.Same.{same_term_self, nat_eq_self}
use Rattle.pts_ctx.specs.System.{Specification}
use Rattle.pts_ctx.specs.Front.{Global, Front, bare_front, unknown}
use Rattle.pts_record.specs.declared.shape.Form.TheVariants.{Bare as BareForm, Same, Left, Right, CongApp, CongLam, CongPi}
use Rattle.pts_record.specs.Table.{Tables, named_at, bare_at, bare_trees}
use Rattle.pts_record.specs.Said.{Said, Scope, nothing, context, judgement, comparison, scope_of, longer, by_bare, row_of_node, told, named_told, bare_local, bare_scope, bare_said, is_context}
use Rattle.pts_record.proofs.Named.{told_bare, scope_bare}
use Rattle.pts_record.proofs.Trees.{bare_of_named}
use Rattle.pts_rules.specs.Step.{head_step}
use Rattle.pts_rules.specs.Conditions.{form_fault, comparison_kinds, both_places, binder_places, same_conditions, left_conditions, right_conditions, bare_conditions, capp_terms, clam_terms, cpi_terms}
use Rattle.pts_rules.specs.Parts.{is_that, is_bare_of}
use Rattle.pts_rules.proofs.HeadBare.{head_step_bare}
use Rattle.pts_rules.proofs.Passing.{AllPass, none_fails, is_same, all_in_order}
use Rattle.pts_grow.specs.declared.compared.Compared.{Compared}
use Rattle.pts_grow.specs.Keeps.{Keeps, Compares, IsBareOf, IsNode}
use Rattle.pts_grow.proofs.Grow.{stays, node_stays, tree_stays, told_stays}

-- What is compared stays so while the record grows.
pub still_compares : (a b : Tables) (c : ℕ) (p : Compared) → Keeps a b → c < length a.nodes → Compares a c p → Compares b c p
still_compares a b c p g h q =
    let x = tree_stays a b p.left g q.0 in
    let y = tree_stays a b p.right g q.1 in
    let s = told_stays a b c g h in
    let n = told_stays a b p.node g q.2.0 in
    (stays a b p.left g q.0, stays a b p.right g q.1, (node_stays a b p.node g q.2.0, rw (n, s, x, y) q.2.1))

pub still_bare : (a b : Tables) (c n : ℕ) → Keeps a b → c < length a.nodes → IsBareOf a c n → IsBareOf b c n
still_bare a b c n g h q =
    let s = told_stays a b c g h in
    let m = told_stays a b n g q.0 in
    (node_stays a b n g q.0, rw (m, s) q.1)

-- A node that says so compares two terms.
pub new_compares : (a b : Tables) (c left right n : ℕ) → Keeps a b → b.shapes ≡ a.shapes → c < length a.nodes → left < length a.shapes → right < length a.shapes → IsNode b n (comparison c (scope_of (named_told a c)) (named_at a.shapes left) (named_at a.shapes right)) → Compares b c (record { left = left; right = right; node = n })
new_compares a b c left right n g e h l r q =
    let x = tree_stays a b left g l in
    let y = tree_stays a b right g r in
    let s = told_stays a b c g h in
    (stays a b left g l, stays a b right g r, (q.0, rw (s, x, y) q.1))

pub new_bare : (a b : Tables) (c n : ℕ) → Keeps a b → c < length a.nodes → IsNode b n (context (longer n (by_bare c) unknown (scope_of (named_told a c)))) → IsBareOf b c n
new_bare a b c n g h q =
    let s = told_stays a b c g h in
    (q.0, rw s q.1)

context_bare : {B : Type 0} (m : Said B) → is_context (bare_said m) ≡ is_context m
context_bare nothing = refl
context_bare (context s) = refl
context_bare (judgement c s t T) = refl
context_bare (comparison c s t u) = refl

-- The scope of a context, and what a comparison says, without printed names.
abbrev pub scope_at : Tables → ℕ → Scope (Unit {0})
scope_at r c = bare_scope (scope_of (named_told r c))

abbrev pub comparing : Tables → ℕ → Compared → Said (Unit {0})
comparing r c p = comparison c (scope_at r c) (bare_at r.shapes p.left) (bare_at r.shapes p.right)

pub compared_bare : (r : Tables) (c : ℕ) (p : Compared) → Compares r c p → told r p.node ≡ comparing r c p
compared_bare r c p q =
    told_bare r p.node ∙ ap bare_said q.2.1
    ∙ ap (λ t. comparison c (scope_at r c) t (bare (named_at r.shapes p.right))) (bare_of_named r.shapes p.left)
    ∙ ap (comparison c (scope_at r c) (bare_at r.shapes p.left)) (bare_of_named r.shapes p.right)

module _ (r : Tables) (c : ℕ) (k : is_context (named_told r c) ≡ true) where
  typed : is_context (told r c) ≡ true
  typed = ap is_context (told_bare r c) ∙ context_bare (named_told r c) ∙ k

  entries_bare : (scope_of (told r c)).entries ≡ map bare_local (scope_of (named_told r c)).entries
  entries_bare = ap (λ m. (scope_of m).entries) (told_bare r c) ∙ ap (λ s. s.entries) (scope_bare (named_told r c))

  module _ (S : Specification) where
    pub bare_ok : (G : Front) → form_fault S G BareForm (row_of_node (bare_trees r.shapes) (record { form = BareForm; ctx = c; subject = 0; claim = 0; first = 0; second = 0; third = 0 })) (told r c) (told r 0) (told r 0) (told r 0) ≡ None
    bare_ok G = none_fails (bare_conditions (told r c)) (typed, tt)

    pub same_ok : (G : Front) (left right : ℕ) → same_term (bare_at r.shapes left) (bare_at r.shapes right) ≡ true → form_fault S G Same (row_of_node (bare_trees r.shapes) (record { form = Same; ctx = c; subject = left; claim = right; first = 0; second = 0; third = 0 })) (told r c) (told r 0) (told r 0) (told r 0) ≡ None
    same_ok G left right h =
        let l = row_of_node (bare_trees r.shapes) (record { form = Same; ctx = c; subject = left; claim = right; first = 0; second = 0; third = 0 }) in
        none_fails (same_conditions l (told r c)) (typed, (h, tt))

    -- the step without printed names
    stepped : (G : List (Global Name)) (t u : ℕ) → head_step G (scope_of (named_told r c)).entries (named_at r.shapes t) ≡ Some (named_at r.shapes u) → is_that (bare_at r.shapes u) (head_step (bare_front G) (scope_of (told r c)).entries (bare_at r.shapes t)) ≡ true
    stepped G t u h =
        let e : head_step (bare_front G) (scope_of (told r c)).entries (bare_at r.shapes t) ≡ Some (bare_at r.shapes u) =
        ap (λ L. head_step (bare_front G) L (bare_at r.shapes t)) entries_bare
        ∙ ap (head_step (bare_front G) (map bare_local (scope_of (named_told r c)).entries)) (sym (bare_of_named r.shapes t))
        ∙ head_step_bare G (scope_of (named_told r c)).entries (named_at r.shapes t)
        ∙ ap (option_map bare) h ∙ ap Some (bare_of_named r.shapes u) in
        ap (is_that (bare_at r.shapes u)) e ∙ same_term_self (bare_at r.shapes u)

    pub left_ok : (G : List (Global Name)) (left : ℕ) (p : Compared) → Compares r c p → head_step G (scope_of (named_told r c)).entries (named_at r.shapes left) ≡ Some (named_at r.shapes p.left) → form_fault S (bare_front G) Left (row_of_node (bare_trees r.shapes) (record { form = Left; ctx = c; subject = left; claim = p.right; first = p.node; second = 0; third = 0 })) (told r c) (told r p.node) (told r 0) (told r 0) ≡ None
    left_ok G left p q h =
        let l = row_of_node (bare_trees r.shapes) (record { form = Left; ctx = c; subject = left; claim = p.right; first = p.node; second = 0; third = 0 }) in
        let e = compared_bare r c p q in
        let tests : AllPass (left_conditions (bare_front G) l (told r c) (comparison c (bare_scope (scope_of (named_told r c))) (bare_at r.shapes p.left) (bare_at r.shapes p.right))) =
        (typed, (refl, (nat_eq_self c, (same_term_self (bare_at r.shapes p.right), (stepped G left p.left h, tt))))) in
        rw e (none_fails (left_conditions (bare_front G) l (told r c) (comparison c (bare_scope (scope_of (named_told r c))) (bare_at r.shapes p.left) (bare_at r.shapes p.right))) tests)

    pub right_ok : (G : List (Global Name)) (right : ℕ) (p : Compared) → Compares r c p → head_step G (scope_of (named_told r c)).entries (named_at r.shapes right) ≡ Some (named_at r.shapes p.right) → form_fault S (bare_front G) Right (row_of_node (bare_trees r.shapes) (record { form = Right; ctx = c; subject = p.left; claim = right; first = p.node; second = 0; third = 0 })) (told r c) (told r p.node) (told r 0) (told r 0) ≡ None
    right_ok G right p q h =
        let l = row_of_node (bare_trees r.shapes) (record { form = Right; ctx = c; subject = p.left; claim = right; first = p.node; second = 0; third = 0 }) in
        let e = compared_bare r c p q in
        let tests : AllPass (right_conditions (bare_front G) l (told r c) (comparison c (bare_scope (scope_of (named_told r c))) (bare_at r.shapes p.left) (bare_at r.shapes p.right))) =
        (typed, (refl, (nat_eq_self c, (same_term_self (bare_at r.shapes p.left), (stepped G right p.right h, tt))))) in
        rw e (none_fails (right_conditions (bare_front G) l (told r c) (comparison c (bare_scope (scope_of (named_told r c))) (bare_at r.shapes p.left) (bare_at r.shapes p.right))) tests)

    pub capp_ok : (G : Front) (left right : ℕ) (p q : Compared) → Compares r c p → Compares r c q → bare_at r.shapes left ≡ app (bare_at r.shapes p.left) (bare_at r.shapes q.left) → bare_at r.shapes right ≡ app (bare_at r.shapes p.right) (bare_at r.shapes q.right) → form_fault S G CongApp (row_of_node (bare_trees r.shapes) (record { form = CongApp; ctx = c; subject = left; claim = right; first = p.node; second = q.node; third = 0 })) (told r c) (told r p.node) (told r q.node) (told r 0) ≡ None
    capp_ok G left right p q h g a b =
        let l = row_of_node (bare_trees r.shapes) (record { form = CongApp; ctx = c; subject = left; claim = right; first = p.node; second = q.node; third = 0 }) in
        let m = comparison c (bare_scope (scope_of (named_told r c))) (bare_at r.shapes p.left) (bare_at r.shapes p.right) in
        let n = comparison c (bare_scope (scope_of (named_told r c))) (bare_at r.shapes q.left) (bare_at r.shapes q.right) in
        let kinds : AllPass (comparison_kinds (told r c) m n) = (typed, (refl, (refl, tt))) in
        let places : AllPass (both_places l m n) = (nat_eq_self c, (nat_eq_self c, tt)) in
        let terms : AllPass (capp_terms l m n) = (is_same a, (is_same b, tt)) in
        rw (compared_bare r c p h, compared_bare r c q g) (all_in_order (comparison_kinds (told r c) m n) (both_places l m n) (capp_terms l m n) kinds places terms)

    module _ (left right i : ℕ) (p q : Compared) (h : Compares r c p) (n : IsBareOf r c i) (g : Compares r i q) where
      inner : told r q.node ≡ comparison i (bare_scope (scope_of (named_told r i))) (bare_at r.shapes q.left) (bare_at r.shapes q.right)
      inner =
          told_bare r q.node ∙ ap bare_said g.2.1
          ∙ ap (λ t. comparison i (bare_scope (scope_of (named_told r i))) t (bare (named_at r.shapes q.right))) (bare_of_named r.shapes q.left)
          ∙ ap (comparison i (bare_scope (scope_of (named_told r i))) (bare_at r.shapes q.left)) (bare_of_named r.shapes q.right)

      made : (scope_of (named_told r i)).made ≡ by_bare c
      made = ap (λ m. (scope_of m).made) n.1

      pub clam_ok : (G : Front) → bare_at r.shapes left ≡ lam (bare_at r.shapes p.left) (bare_at r.shapes q.left) → bare_at r.shapes right ≡ lam (bare_at r.shapes p.right) (bare_at r.shapes q.right) → form_fault S G CongLam (row_of_node (bare_trees r.shapes) (record { form = CongLam; ctx = c; subject = left; claim = right; first = p.node; second = q.node; third = 0 })) (told r c) (told r p.node) (told r q.node) (told r 0) ≡ None
      clam_ok G a b =
          let l = row_of_node (bare_trees r.shapes) (record { form = CongLam; ctx = c; subject = left; claim = right; first = p.node; second = q.node; third = 0 }) in
          let m = comparison c (bare_scope (scope_of (named_told r c))) (bare_at r.shapes p.left) (bare_at r.shapes p.right) in
          let k = comparison i (bare_scope (scope_of (named_told r i))) (bare_at r.shapes q.left) (bare_at r.shapes q.right) in
          let kinds : AllPass (comparison_kinds (told r c) m k) = (typed, (refl, (refl, tt))) in
          let places : AllPass (binder_places l m k) = (nat_eq_self c, (ap (is_bare_of c) made ∙ nat_eq_self c, tt)) in
          let terms : AllPass (clam_terms l m k) = (is_same a, (is_same b, tt)) in
          rw (compared_bare r c p h, inner) (all_in_order (comparison_kinds (told r c) m k) (binder_places l m k) (clam_terms l m k) kinds places terms)

      pub cpi_ok : (G : Front) → bare_at r.shapes left ≡ pi (bare_at r.shapes p.left) (bare_at r.shapes q.left) → bare_at r.shapes right ≡ pi (bare_at r.shapes p.right) (bare_at r.shapes q.right) → form_fault S G CongPi (row_of_node (bare_trees r.shapes) (record { form = CongPi; ctx = c; subject = left; claim = right; first = p.node; second = q.node; third = 0 })) (told r c) (told r p.node) (told r q.node) (told r 0) ≡ None
      cpi_ok G a b =
          let l = row_of_node (bare_trees r.shapes) (record { form = CongPi; ctx = c; subject = left; claim = right; first = p.node; second = q.node; third = 0 }) in
          let m = comparison c (bare_scope (scope_of (named_told r c))) (bare_at r.shapes p.left) (bare_at r.shapes p.right) in
          let k = comparison i (bare_scope (scope_of (named_told r i))) (bare_at r.shapes q.left) (bare_at r.shapes q.right) in
          let kinds : AllPass (comparison_kinds (told r c) m k) = (typed, (refl, (refl, tt))) in
          let places : AllPass (binder_places l m k) = (nat_eq_self c, (ap (is_bare_of c) made ∙ nat_eq_self c, tt)) in
          let terms : AllPass (cpi_terms l m k) = (is_same a, (is_same b, tt)) in
          rw (compared_bare r c p h, inner) (all_in_order (comparison_kinds (told r c) m k) (binder_places l m k) (cpi_terms l m k) kinds places terms)
