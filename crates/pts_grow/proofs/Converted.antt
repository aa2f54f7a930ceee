-- Thinned and converted judgements are instances of their forms.
use Rattle.std.proofs.Common.{◌≡◌, ℕ, suc, List, [], ◌∷◌, refl, sym, ap, ◌∙◌, Some, None, true}
use Rattle.std.specs.Prelude.{is_some, nat_eq, position, if◌then◌else◌}
use Rattle.std.specs.Option.{option_map}
use Rattle.pts_terms.specs.Tree.{Tree, lift}
use Rattle.pts_terms.proofs.Same.{nat_eq_self, both_hold}
use Rattle.pts_terms.proofs.Lifting.{lift_zero}
use Rattle.pts_ctx.specs.System.{Specification}
use Rattle.pts_ctx.proofs.Positions.{position-step}
use Rattle.pts_ctx.specs.Front.{Front}
use Rattle.pts_record.specs.declared.shape.Form.{Form}
use Rattle.pts_record.specs.declared.shape.Form.TheVariants.{Empty, Assume, Define, Bare as BareForm, Thin, Conv}
use Rattle.pts_record.specs.Table.{Tables, bare_at, bare_trees}
use Rattle.pts_record.specs.Said.{Said, Row, say_as, scope_of, is_context, named_told, told, row_of_node}
use Rattle.pts_rules.specs.Parts.{is_that, distance}
use Rattle.pts_rules.specs.Conditions.{form_fault, thin_conditions, judgement_kinds, conv_places, conv_terms}
use Rattle.pts_rules.proofs.Passing.{AllPass, none_fails, is_same, all_in_order}
use Rattle.pts_grow.specs.declared.compared.Compared.{Compared}
use Rattle.pts_grow.specs.Keeps.{Compares}
use Rattle.pts_grow.specs.declared.judged.Judged.{Judged}
use Rattle.pts_grow.specs.Judges.{IsTypedContext, Judges, IsSort}
use Rattle.pts_grow.proofs.Instances.{comparing, compared_bare}
use Rattle.pts_grow.proofs.Judgements.{typed_at, scope_told, judging, judged_bare}

-- A context leads to itself first.
first_place : (k : ℕ) (ks : List ℕ) → position (nat_eq k) (k ∷ ks) ≡ Some 0
first_place k ks = position-step (nat_eq k) k ks ∙ ap (λ b. if b then Some 0 else option_map suc (position (nat_eq k) ks)) (nat_eq_self k)

pub itself : {B : Type 0} (f : Form) (k : ℕ) (l : Row B) (c p : Said B) → is_context (say_as f k l c p) ≡ true → position (nat_eq k) (scope_of (say_as f k l c p)).trail ≡ Some 0
itself Empty k l c p h = first_place k []
itself Assume k l c p h = first_place k (scope_of p).trail
itself Define k l c p h = first_place k (scope_of p).trail
itself BareForm k l c p h = first_place k (scope_of c).trail
itself _ k l c p h = absurd (cc h)

pub itself_told : {B : Type 0} (m : Said B) (f : Form) (k : ℕ) (l : Row B) (c p : Said B) → m ≡ say_as f k l c p → is_context m ≡ true → position (nat_eq k) (scope_of m).trail ≡ Some 0
itself_told m f k l c p e h = ap (λ s. position (nat_eq k) (scope_of s).trail) e ∙ itself f k l c p (sym (ap is_context e) ∙ h)

pub unlifted : {B : Type 0} (t u : Tree B) → t ≡ u → t ≡ lift 0 0 u
unlifted t u e = e ∙ sym (lift_zero 0 u)

pub ruleset again = (itself_told, unlifted)

module _ (r : Tables) (c : ℕ) (k : IsTypedContext r c) (S : Specification) (G : Front) (subject claim : ℕ) where
  pub thin_ok : (f : ℕ) (p : Judged) (n : ℕ) → Judges r f p → position (nat_eq f) (scope_of (named_told r c)).trail ≡ Some n → bare_at r.shapes subject ≡ lift 0 n (bare_at r.shapes p.subject) → bare_at r.shapes claim ≡ lift 0 n (bare_at r.shapes p.claim) → form_fault S G Thin (row_of_node (bare_trees r.shapes) (record { form = Thin; ctx = c; subject = subject; claim = claim; first = p.node; second = 0; third = 0 })) (told r c) (told r p.node) (told r 0) (told r 0) ≡ None
  thin_ok f p n h e t u =
      let l = row_of_node (bare_trees r.shapes) (record { form = Thin; ctx = c; subject = subject; claim = claim; first = p.node; second = 0; third = 0 }) in
      let m = judging r f p in
      let d : distance (told r c) m ≡ Some n = ap (λ s. position (nat_eq f) s.trail) (scope_told r c) ∙ e in
      let term = ap (λ o. is_that (bare_at r.shapes subject) (option_map (λ i. lift 0 i (bare_at r.shapes p.subject)) o)) d ∙ is_same t in
      let that = ap (λ o. is_that (bare_at r.shapes claim) (option_map (λ i. lift 0 i (bare_at r.shapes p.claim)) o)) d ∙ is_same u in
      let tests : AllPass (thin_conditions l (told r c) m) = (typed_at r c k, (refl, (ap is_some d, (term, (that, tt))))) in
      rw (judged_bare r f p h) (none_fails (thin_conditions l (told r c) m) tests)

  pub conv_ok : (p q : Judged) (o : Compared) → Judges r c p → Judges r c q → Compares r c o → bare_at r.shapes subject ≡ bare_at r.shapes p.subject → bare_at r.shapes claim ≡ bare_at r.shapes q.subject → IsSort r q.claim → bare_at r.shapes o.left ≡ bare_at r.shapes p.claim → bare_at r.shapes o.right ≡ bare_at r.shapes claim → form_fault S G Conv (row_of_node (bare_trees r.shapes) (record { form = Conv; ctx = c; subject = subject; claim = claim; first = p.node; second = q.node; third = o.node })) (told r c) (told r p.node) (told r q.node) (told r o.node) ≡ None
  conv_ok p q o h g f t u s x y =
      let l = row_of_node (bare_trees r.shapes) (record { form = Conv; ctx = c; subject = subject; claim = claim; first = p.node; second = q.node; third = o.node }) in
      let m = judging r c p in
      let n = judging r c q in
      let w = comparing r c o in
      let kinds : AllPass (judgement_kinds (told r c) m n) = (typed_at r c k, (refl, (refl, tt))) in
      let places : AllPass (conv_places l m n w) = (refl, (nat_eq_self c, (nat_eq_self c, (nat_eq_self c, tt)))) in
      let sides = both_hold _ _ (is_same x) (is_same y) in
      let terms : AllPass (conv_terms l m n w) = (is_same t, (is_same u, (s, (sides, tt)))) in
      rw (judged_bare r c p h, judged_bare r c q g, compared_bare r c o f) (all_in_order (judgement_kinds (told r c) m n) (conv_places l m n w) (conv_terms l m n w) kinds places terms)
