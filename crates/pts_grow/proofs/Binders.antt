-- Judgements of products, abstractions and applications are instances of their forms.
use Rattle.std.proofs.Common.{◌≡◌, ℕ, refl, ap, ◌∙◌, Some, None}
use Rattle.std.specs.Prelude.{is_some}
use Rattle.std.specs.Option.{option_map, option_and_then}
use Rattle.pts_terms.specs.Tree.{sort, app, lam, pi, subst}
use Rattle.pts_terms.proofs.Same.{nat_eq_self}
use Rattle.pts_ctx.specs.System.{Specification, rule_of}
use Rattle.pts_ctx.specs.Front.{Front}
use Rattle.pts_record.specs.declared.shape.Form.TheVariants.{PiAt, LamAt, AppAt}
use Rattle.pts_record.specs.Table.{Tables, bare_at, bare_trees}
use Rattle.pts_record.specs.Said.{told, row_of_node}
use Rattle.pts_rules.specs.Parts.{sort_in, domain_in, codomain_in, is_that, is_assume_of, is_assume_in}
use Rattle.pts_rules.specs.Conditions.{form_fault, judgement_kinds, pi_places, pi_terms, product_sort, lam_places, lam_terms, both_places, app_terms}
use Rattle.pts_rules.proofs.Passing.{AllPass, is_same, all_in_order}
use Rattle.pts_grow.specs.declared.judged.Judged.{Judged}
use Rattle.pts_grow.specs.Judges.{IsTypedContext, Judges, IsAssumeOf, IsSort}
use Rattle.pts_grow.proofs.Judgements.{typed_at, judging, judged_bare, assume_made, assume_newest}

module _ (r : Tables) (c : ℕ) (k : IsTypedContext r c) (S : Specification) (G : Front) (subject claim : ℕ) where
  pub pi_ok : (d : Judged) (i : ℕ) (b : Judged) (s t q : ℕ) → Judges r c d → IsAssumeOf r c d i → Judges r i b → bare_at r.shapes subject ≡ pi (bare_at r.shapes d.subject) (bare_at r.shapes b.subject) → bare_at r.shapes d.claim ≡ sort s → bare_at r.shapes b.claim ≡ sort t → rule_of S s t ≡ Some q → bare_at r.shapes claim ≡ sort q → form_fault S G PiAt (row_of_node (bare_trees r.shapes) (record { form = PiAt; ctx = c; subject = subject; claim = claim; first = d.node; second = b.node; third = 0 })) (told r c) (told r d.node) (told r b.node) (told r 0) ≡ None
  pi_ok d i b s t q h n g e x y u z =
      let l = row_of_node (bare_trees r.shapes) (record { form = PiAt; ctx = c; subject = subject; claim = claim; first = d.node; second = b.node; third = 0 }) in
      let m = judging r c d in
      let o = judging r i b in
      let p : product_sort S m o ≡ Some q =
      ap (λ w. option_and_then (λ s. option_and_then (rule_of S s) (sort_in (bare_at r.shapes b.claim))) (sort_in w)) x
      ∙ ap (λ w. option_and_then (rule_of S s) (sort_in w)) y ∙ u in
      let kinds : AllPass (judgement_kinds (told r c) m o) = (typed_at r c k, (refl, (refl, tt))) in
      let places : AllPass (pi_places l m o) = (nat_eq_self c, (ap (is_assume_of d.node) (assume_made r c d i n) ∙ nat_eq_self d.node, tt)) in
      let that = ap (λ w. is_that (bare_at r.shapes claim) (option_map sort w)) p ∙ is_same z in
      let terms : AllPass (pi_terms S l m o) =
      (is_same e, (ap (λ w. is_some (sort_in w)) x, (ap (λ w. is_some (sort_in w)) y, (ap is_some p, (that, tt))))) in
      rw (judged_bare r c d h, judged_bare r i b g) (all_in_order (judgement_kinds (told r c) m o) (pi_places l m o) (pi_terms S l m o) kinds places terms)

  pub lam_ok : (d : Judged) (i : ℕ) (b p : Judged) → IsAssumeOf r c d i → Judges r i b → Judges r c p → bare_at r.shapes subject ≡ lam (bare_at r.shapes d.subject) (bare_at r.shapes b.subject) → bare_at r.shapes claim ≡ pi (bare_at r.shapes d.subject) (bare_at r.shapes b.claim) → bare_at r.shapes p.subject ≡ bare_at r.shapes claim → IsSort r p.claim → form_fault S G LamAt (row_of_node (bare_trees r.shapes) (record { form = LamAt; ctx = c; subject = subject; claim = claim; first = b.node; second = p.node; third = 0 })) (told r c) (told r b.node) (told r p.node) (told r 0) ≡ None
  lam_ok d i b p n g h e f u s =
      let l = row_of_node (bare_trees r.shapes) (record { form = LamAt; ctx = c; subject = subject; claim = claim; first = b.node; second = p.node; third = 0 }) in
      let m = judging r i b in
      let o = judging r c p in
      let newest = assume_newest r c d i n in
      let kinds : AllPass (judgement_kinds (told r c) m o) = (typed_at r c k, (refl, (refl, tt))) in
      let places : AllPass (lam_places l m o) = (ap (is_assume_in c) (assume_made r c d i n) ∙ nat_eq_self c, (nat_eq_self c, tt)) in
      let term = ap (λ w. is_that (bare_at r.shapes subject) (option_map (λ A. lam A (bare_at r.shapes b.subject)) w)) newest ∙ is_same e in
      let that = ap (λ w. is_that (bare_at r.shapes claim) (option_map (λ A. pi A (bare_at r.shapes b.claim)) w)) newest ∙ is_same f in
      let terms : AllPass (lam_terms l m o) = (term, (that, (is_same u, (s, tt)))) in
      rw (judged_bare r i b g, judged_bare r c p h) (all_in_order (judgement_kinds (told r c) m o) (lam_places l m o) (lam_terms l m o) kinds places terms)

  pub app_ok : (f a : Judged) (A B : ℕ) → Judges r c f → Judges r c a → bare_at r.shapes f.claim ≡ pi (bare_at r.shapes A) (bare_at r.shapes B) → bare_at r.shapes a.claim ≡ bare_at r.shapes A → bare_at r.shapes subject ≡ app (bare_at r.shapes f.subject) (bare_at r.shapes a.subject) → bare_at r.shapes claim ≡ subst 0 (bare_at r.shapes a.subject) (bare_at r.shapes B) → form_fault S G AppAt (row_of_node (bare_trees r.shapes) (record { form = AppAt; ctx = c; subject = subject; claim = claim; first = f.node; second = a.node; third = 0 })) (told r c) (told r f.node) (told r a.node) (told r 0) ≡ None
  app_ok f a A B h g e d s t =
      let l = row_of_node (bare_trees r.shapes) (record { form = AppAt; ctx = c; subject = subject; claim = claim; first = f.node; second = a.node; third = 0 }) in
      let m = judging r c f in
      let o = judging r c a in
      let kinds : AllPass (judgement_kinds (told r c) m o) = (typed_at r c k, (refl, (refl, tt))) in
      let places : AllPass (both_places l m o) = (nat_eq_self c, (nat_eq_self c, tt)) in
      let argument = ap (λ w. is_that (bare_at r.shapes a.claim) (domain_in w)) e ∙ is_same d in
      let that = ap (λ w. is_that (bare_at r.shapes claim) (option_map (subst 0 (bare_at r.shapes a.subject)) (codomain_in w))) e ∙ is_same t in
      let terms : AllPass (app_terms l m o) = (ap (λ w. is_some (domain_in w)) e, (argument, (is_same s, (that, tt)))) in
      rw (judged_bare r c f h, judged_bare r c a g) (all_in_order (judgement_kinds (told r c) m o) (both_places l m o) (app_terms l m o) kinds places terms)
