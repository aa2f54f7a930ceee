-- Judgements of local definitions are instances of their forms.
use Rattle.std.proofs.Common.{◌≡◌, ℕ, List, refl, ap, ◌∙◌, None, Bool}
use Rattle.pts_terms.specs.Tree.{let_in}
use Rattle.pts_terms.proofs.Same.{nat_eq_self}
use Rattle.pts_ctx.specs.System.{Specification}
use Rattle.pts_ctx.specs.Front.{Front}
use Rattle.pts_record.specs.declared.shape.Form.TheVariants.{LetSort, LetAt}
use Rattle.pts_record.specs.Table.{Tables, bare_at, bare_trees}
use Rattle.pts_record.specs.Said.{told, row_of_node}
use Rattle.pts_rules.specs.declared.why.Why.{Why}
use Rattle.pts_rules.specs.Parts.{is_that, is_define_in}
use Rattle.pts_rules.specs.Conditions.{form_fault, first_failing, or_fault, judgement_kinds, let_kinds, letsort_terms, let_places, let_terms}
use Rattle.pts_rules.proofs.Passing.{AllPass, none_fails, is_same, all_in_order}
use Rattle.pts_grow.specs.declared.judged.Judged.{Judged}
use Rattle.pts_grow.specs.Judges.{IsTypedContext, Judges, IsDefineOf, IsSort}
use Rattle.pts_grow.proofs.Judgements.{typed_at, judging, judged_bare, define_made, define_newest}

pair_in_order : (kinds terms : List (Bool × Why)) → AllPass kinds → AllPass terms → or_fault (first_failing kinds) (first_failing terms) ≡ None
pair_in_order kinds terms k t = rw (none_fails kinds k, none_fails terms t) refl

module _ (r : Tables) (c : ℕ) (k : IsTypedContext r c) (S : Specification) (G : Front) (subject claim : ℕ) (d : Judged) (i : ℕ) (b : Judged) where
  pub letsort_ok : IsDefineOf r c d i → Judges r i b → bare_at r.shapes subject ≡ let_in (bare_at r.shapes d.subject) (bare_at r.shapes d.claim) (bare_at r.shapes b.subject) → bare_at r.shapes claim ≡ bare_at r.shapes b.claim → IsSort r b.claim → form_fault S G LetSort (row_of_node (bare_trees r.shapes) (record { form = LetSort; ctx = c; subject = subject; claim = claim; first = b.node; second = 0; third = 0 })) (told r c) (told r b.node) (told r 0) (told r 0) ≡ None
  letsort_ok n g e f s =
      let l = row_of_node (bare_trees r.shapes) (record { form = LetSort; ctx = c; subject = subject; claim = claim; first = b.node; second = 0; third = 0 }) in
      let m = judging r i b in
      let kinds : AllPass (let_kinds (told r c) m) = (typed_at r c k, (refl, tt)) in
      let place = ap (is_define_in c) (define_made r c d i n) ∙ nat_eq_self c in
      let term = ap (is_that (bare_at r.shapes subject)) (define_newest r c d i n (bare_at r.shapes b.subject)) ∙ is_same e in
      let terms : AllPass (letsort_terms l m) = (place, (term, (s, (is_same f, tt)))) in
      rw (judged_bare r i b g) (pair_in_order (let_kinds (told r c) m) (letsort_terms l m) kinds terms)

  pub let_ok : (p : Judged) → IsDefineOf r c d i → Judges r i b → Judges r c p → bare_at r.shapes subject ≡ let_in (bare_at r.shapes d.subject) (bare_at r.shapes d.claim) (bare_at r.shapes b.subject) → bare_at r.shapes claim ≡ let_in (bare_at r.shapes d.subject) (bare_at r.shapes d.claim) (bare_at r.shapes b.claim) → bare_at r.shapes p.subject ≡ bare_at r.shapes claim → IsSort r p.claim → form_fault S G LetAt (row_of_node (bare_trees r.shapes) (record { form = LetAt; ctx = c; subject = subject; claim = claim; first = b.node; second = p.node; third = 0 })) (told r c) (told r b.node) (told r p.node) (told r 0) ≡ None
  let_ok p n g h e f u s =
      let l = row_of_node (bare_trees r.shapes) (record { form = LetAt; ctx = c; subject = subject; claim = claim; first = b.node; second = p.node; third = 0 }) in
      let m = judging r i b in
      let o = judging r c p in
      let kinds : AllPass (judgement_kinds (told r c) m o) = (typed_at r c k, (refl, (refl, tt))) in
      let places : AllPass (let_places l m o) = (ap (is_define_in c) (define_made r c d i n) ∙ nat_eq_self c, (nat_eq_self c, tt)) in
      let term = ap (is_that (bare_at r.shapes subject)) (define_newest r c d i n (bare_at r.shapes b.subject)) ∙ is_same e in
      let that = ap (is_that (bare_at r.shapes claim)) (define_newest r c d i n (bare_at r.shapes b.claim)) ∙ is_same f in
      let terms : AllPass (let_terms l m o) = (term, (that, (is_same u, (s, tt)))) in
      rw (judged_bare r i b g, judged_bare r c p h) (all_in_order (judgement_kinds (told r c) m o) (let_places l m o) (let_terms l m o) kinds places terms)
