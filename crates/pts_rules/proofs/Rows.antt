-- One lemma for each form: where a line has no fault, what it says is so, if what its links say is so.
use Rattle.std.proofs.Common.{ℕ, suc, List, ◌∷◌, true, ◌≡◌, refl, sym, ap, ◌∙◌, Some}
use Rattle.std.specs.Prelude.{get_or, nat_eq}
use Rattle.std.proofs.lemmas.List.Quantifiers.{position-Some}
use mathlib.Core.Path.{subst}
use Rattle.pts_terms.specs.Tree.{Bare, sort, lam, pi, let_in, lift, same_term}
use Rattle.pts_terms.proofs.Same.{both, nat_eq_same, same_term_eq}
use Rattle.pts_ctx.specs.System.{Specification, rule_of}
use Rattle.pts_ctx.specs.Front.{Front, find, assumed, defined, unknown, Locals}
use Rattle.pts_ctx.proofs.Find.{some_same}
use Rattle.pts_record.specs.Said.{Made, by_empty, by_assume, by_define, by_bare, Scope, nothing, context, judgement, comparison, look, scope_of, place_of, subject_of, claim_of, all_known}
use Rattle.pts_rules.specs.Step.{Convertible, equal, forwards, backwards}
use Rattle.pts_rules.specs.Derives.{Derives, product, application, abstraction, formation, introduction, conversion, Legal}
use Rattle.pts_rules.specs.WellFormed.{WellFormed}
use Rattle.pts_rules.specs.Parts.{sort_in, is_typed_context, is_in, is_assume_of, is_bare_of, is_assume_in, is_define_in, newest_assumption, let_with, type_of, distance}
use Rattle.pts_record.specs.Said.{is_context, is_judgement, is_comparison}
use Rattle.pts_rules.specs.Conditions.{Plain, Link, sort_conditions, const_conditions, var_conditions, thin_conditions, judgement_kinds, comparison_kinds, pi_places, pi_terms, lam_places, lam_terms, both_places, app_terms, let_kinds, letsort_terms, let_places, let_terms, conv_places, conv_terms, same_conditions, left_conditions, right_conditions, capp_terms, binder_places, clam_terms, cpi_terms}
use Rattle.pts_rules.specs.Laws.{Stands}
use Rattle.pts_rules.proofs.Passing.{AllPass, some_is, map_is, then_is, map_of, that_is, sort_is, const_is, var_is, pi_is}
use Rattle.pts_rules.proofs.Moved.{moved, moved_in, compared, compared_in}
use Rattle.pts_rules.proofs.HeadStep.{head_is_step}
use Rattle.pts_rules.proofs.Conversion.{joined, convertible_app, convertible_lam, convertible_pi}
use Rattle.pts_rules.proofs.Weakening.{weaken_by, sort_derives, const_derives, typed_derives}
use Rattle.pts_rules.proofs.Linked.{Rooted, Linked, AllLinked, is_context_scope, judged_in, compared_at, context_trailing}

abbrev pub AllStand : Specification → Front → List Link → Type 0
AllStand S G ms = (k : ℕ) → Stands S G (look ms k)

abbrev pub Judged : Specification → Front → Link → Type 0
Judged S G m = WellFormed S G (scope_of m).entries × Derives S G (scope_of m).entries (subject_of m) (claim_of m)

abbrev Compared : Front → Link → Type 0
Compared G m = Convertible G (scope_of m).entries (subject_of m) (claim_of m)

pub judged : {S : Specification} {G : Front} (m : Link) → is_judgement m ≡ true → Stands S G m → Judged S G m
judged nothing h s = absurd (cc h)
judged (context o) h s = absurd (cc h)
judged (judgement c o t T) h s = s
judged (comparison c o t u) h s = absurd (cc h)

compares : (S : Specification) {G : Front} (m : Link) → is_comparison m ≡ true → Stands S G m → Compared G m
compares S nothing h s = absurd (cc h)
compares S (context o) h s = absurd (cc h)
compares S (judgement c o t T) h s = absurd (cc h)
compares S (comparison c o t u) h s = s

formed : {S : Specification} {G : Front} (m : Link) → is_typed_context m ≡ true → Stands S G m → WellFormed S G (scope_of m).entries
formed nothing h s = absurd (cc h)
formed (context o) h s = s (both true (all_known o.entries) h).1
formed (judgement c o t T) h s = absurd (cc h)
formed (comparison c o t u) h s = absurd (cc h)

assume_of : (p : ℕ) (m : Made) → is_assume_of p m ≡ true → (d : ℕ) × (m ≡ by_assume p d)
assume_of p (by_assume q d) h = (d, ap (λ i. by_assume i d) (nat_eq_same q p h))
assume_of p by_empty h = absurd (cc h)
assume_of p (by_define q d) h = absurd (cc h)
assume_of p (by_bare d) h = absurd (cc h)

bare_of : (c : ℕ) (m : Made) → is_bare_of c m ≡ true → m ≡ by_bare c
bare_of c (by_bare d) h = ap by_bare (nat_eq_same d c h)
bare_of c by_empty h = absurd (cc h)
bare_of c (by_assume q d) h = absurd (cc h)
bare_of c (by_define q d) h = absurd (cc h)

assume_in : (c : ℕ) (m : Made) → is_assume_in c m ≡ true → (p : ℕ) × (m ≡ by_assume p c)
assume_in c (by_assume q d) h = (q, ap (λ i. by_assume q i) (nat_eq_same d c h))
assume_in c by_empty h = absurd (cc h)
assume_in c (by_define q d) h = absurd (cc h)
assume_in c (by_bare d) h = absurd (cc h)

define_in : (c : ℕ) (m : Made) → is_define_in c m ≡ true → (p : ℕ) × (m ≡ by_define p c)
define_in c (by_define q d) h = (q, ap (λ i. by_define q i) (nat_eq_same d c h))
define_in c by_empty h = absurd (cc h)
define_in c (by_assume q d) h = absurd (cc h)
define_in c (by_bare d) h = absurd (cc h)

let_of : (L : Locals) (a A t u : Bare) (M : Locals) → L ≡ defined a A ∷ M → let_with L t ≡ Some u → let_in a A t ≡ u
let_of L a A t u M p q = some_same (sym (ap (λ K. let_with K t) p) ∙ q)

assumption_of : (L : Locals) (A : Bare) (M : Locals) → L ≡ assumed A ∷ M → newest_assumption L ≡ Some A
assumption_of L A M p = ap newest_assumption p

same_scope : (s o : Scope (Unit {0})) → Path Link (context s) (context o) → s ≡ o
same_scope s o p = ap scope_of p

module _ (S : Specification) (G : Front) (legal : Legal S G) (ms : List Link) (linked : AllLinked ms) (stand : AllStand S G ms) (l : Plain) where
  abbrev pub home : Locals
  home = (scope_of (look ms l.ctx)).entries

  abbrev pub Here : Type 0
  Here = WellFormed S G home × Derives S G home l.subject l.claim

  abbrev pub Equal : Type 0
  Equal = Convertible G home l.subject l.claim

  typed : is_typed_context (look ms l.ctx) ≡ true → WellFormed S G home
  typed h = formed (look ms l.ctx) h (stand l.ctx)

  -- A premise in a context with a known number is in that context.
  scope_at : (m : Link) (c : ℕ) → look ms (place_of m) ≡ context (scope_of m) → is_in c m ≡ true → scope_of m ≡ scope_of (look ms c)
  scope_at m c e h = sym (ap scope_of e) ∙ ap (λ k. scope_of (look ms k)) (nat_eq_same (place_of m) c h)

  premise : (p : ℕ) → is_judgement (look ms p) ≡ true → is_in l.ctx (look ms p) ≡ true → Derives S G home (subject_of (look ms p)) (claim_of (look ms p))
  premise p h i = moved_in (ap (λ o. o.entries) (scope_at (look ms p) l.ctx (judged_in ms (look ms p) h (linked p)) i)) refl refl (judged (look ms p) h (stand p)).1

  comparison_at : (p : ℕ) → is_comparison (look ms p) ≡ true → is_in l.ctx (look ms p) ≡ true → Convertible G home (subject_of (look ms p)) (claim_of (look ms p))
  comparison_at p h i = compared_in (ap (λ o. o.entries) (scope_at (look ms p) l.ctx (compared_at ms (look ms p) h (linked p)) i)) refl refl (compares S (look ms p) h (stand p))

  -- How the context of a premise was made.
  root : (m : Link) → look ms (place_of m) ≡ context (scope_of m) → Rooted ms (scope_of m).made (scope_of m).entries
  root m e = (subst (Linked ms) e (linked (place_of m))).0

  -- A premise under an assumption over the line's own context.
  assumed_over : (p : ℕ) → is_judgement (look ms p) ≡ true → is_assume_in l.ctx (scope_of (look ms p)).made ≡ true → (A : Bare) × ((scope_of (look ms p)).entries ≡ assumed A ∷ home)
  assumed_over p h i =
      let (q, e) = assume_in l.ctx (scope_of (look ms p)).made i in
      let (j, d, is) = subst (λ m. Rooted ms m (scope_of (look ms p)).entries) e (root (look ms p) (judged_in ms (look ms p) h (linked p))) in
      (subject_of (look ms q), is ∙ ap (λ o. assumed (subject_of (look ms q)) ∷ o.entries) (sym (ap scope_of (judged_in ms (look ms q) j (linked q))) ∙ ap (λ k. scope_of (look ms k)) d))

  defined_over : (p : ℕ) → is_judgement (look ms p) ≡ true → is_define_in l.ctx (scope_of (look ms p)).made ≡ true → (a : Bare) × (A : Bare) × ((scope_of (look ms p)).entries ≡ defined a A ∷ home)
  defined_over p h i =
      let (q, e) = define_in l.ctx (scope_of (look ms p)).made i in
      let (j, d, is) = subst (λ m. Rooted ms m (scope_of (look ms p)).entries) e (root (look ms p) (judged_in ms (look ms p) h (linked p))) in
      (subject_of (look ms q), claim_of (look ms q), is ∙ ap (λ o. defined (subject_of (look ms q)) (claim_of (look ms q)) ∷ o.entries) (sym (ap scope_of (judged_in ms (look ms q) j (linked q))) ∙ ap (λ k. scope_of (look ms k)) d))

  pub sort_row : AllPass (sort_conditions S l (look ms l.ctx)) → Here
  sort_row h =
      let (r, p, u) = map_is sort _ l.claim (that_is l.claim _ h.1.1.1.0) in
      let (s, q, a) = then_is _ (sort_in l.subject) r p in
      (typed h.0, moved (sym (sort_is l.subject s q)) u (sort_derives legal (typed h.0) a))

  pub const_row : AllPass (const_conditions G l (look ms l.ctx)) → Here
  const_row h =
      let (e, p, u) = map_is (λ e. e.type) _ l.claim (that_is l.claim _ h.1.1.1.0) in
      let (x, q, at) = then_is (λ x. find x G) _ e p in
      (typed h.0, moved (sym (const_is l.subject x q)) u (const_derives x e legal (typed h.0) at))

  pub var_row : AllPass (var_conditions l (look ms l.ctx)) → Here
  var_row h =
      let (i, p, q) = then_is _ _ l.claim (that_is l.claim _ h.1.1.1.0) in
      let (A, r, u) = map_is (lift 0 (suc i)) _ l.claim q in
      let (e, at, t) = then_is type_of _ A r in
      (typed h.0, moved (sym (var_is l.subject i p)) u (typed_derives i e A (typed h.0) at t))

  pub thin_row : AllPass (thin_conditions l (look ms l.ctx) (look ms l.first)) → Here
  thin_row h =
      let p = look ms l.first in
      let o = scope_of (look ms l.ctx) in
      let (d, e) = some_is (distance (look ms l.ctx) p) h.1.1.0 in
      let (within, same, _) = position-Some (nat_eq (place_of p)) o.trail d 0 e in
      let at = is_context_scope (look ms l.ctx) (both (is_context (look ms l.ctx)) (all_known home) h.0).0 in
      let (q, M, there, is, long) = context_trailing ms l.ctx o linked at d within in
      let old : scope_of p ≡ q = sym (ap scope_of (judged_in ms p h.1.0 (linked l.first))) ∙ ap (λ k. scope_of (look ms k)) (nat_eq_same (place_of p) (get_or o.trail d 0) same) ∙ ap scope_of there in
      let j = moved_in (ap (λ s. s.entries) old) refl refl (judged p h.1.0 (stand l.first)).1 in
      let t = map_of (λ n. lift 0 n (subject_of p)) e (that_is l.subject _ h.1.1.1.0) in
      let u = map_of (λ n. lift 0 n (claim_of p)) e (that_is l.claim _ h.1.1.1.1.0) in
      (typed h.0, moved_in (sym is) (ap (λ n. lift 0 n (subject_of p)) long ∙ t) (ap (λ n. lift 0 n (claim_of p)) long ∙ u) (weaken_by M q.entries (subst (WellFormed S G) is (typed h.0)) j))

  pub pi_row : AllPass (judgement_kinds (look ms l.ctx) (look ms l.first) (look ms l.second)) → AllPass (pi_places l (look ms l.first) (look ms l.second)) → AllPass (pi_terms S l (look ms l.first) (look ms l.second)) → Here
  pi_row k i h =
      let q = look ms l.second in
      let (d, e) = assume_of l.first (scope_of q).made i.1.0 in
      let (_, _, is) = subst (λ m. Rooted ms m (scope_of q).entries) e (root q (judged_in ms q k.1.1.0 (linked l.second))) in
      let there = is ∙ ap (λ o. assumed (subject_of (look ms l.first)) ∷ o.entries) (scope_at (look ms l.first) l.ctx (judged_in ms (look ms l.first) k.1.0 (linked l.first)) i.0) in
      let (z, y, u) = map_is sort _ l.claim (that_is l.claim _ h.1.1.1.1.0) in
      let (s, a, x) = then_is _ (sort_in (claim_of (look ms l.first))) z y in
      let (r, b, c) = then_is (rule_of S s) (sort_in (claim_of q)) z x in
      (typed k.0, moved (sym (same_term_eq l.subject _ h.0)) u (product (moved refl (sort_is _ s a) (premise l.first k.1.0 i.0)) (moved_in there refl (sort_is _ r b) (judged q k.1.1.0 (stand l.second)).1) c))

  pub lam_row : AllPass (judgement_kinds (look ms l.ctx) (look ms l.first) (look ms l.second)) → AllPass (lam_places l (look ms l.first) (look ms l.second)) → AllPass (lam_terms l (look ms l.first) (look ms l.second)) → Here
  lam_row k i h =
      let p = look ms l.first in
      let (A, is) = assumed_over l.first k.1.0 i.0 in
      let newest = assumption_of (scope_of p).entries A home is in
      let t : lam A (subject_of p) ≡ l.subject = map_of (λ B. lam B (subject_of p)) newest (that_is l.subject _ h.0) in
      let u : pi A (claim_of p) ≡ l.claim = map_of (λ B. pi B (claim_of p)) newest (that_is l.claim _ h.1.0) in
      let (s, e) = some_is (sort_in (claim_of (look ms l.second))) h.1.1.1.0 in
      (typed k.0, moved t u (abstraction (moved_in is refl refl (judged p k.1.0 (stand l.first)).1) (moved (same_term_eq _ l.claim h.1.1.0 ∙ sym u) (sort_is _ s e) (premise l.second k.1.1.0 i.1.0))))

  pub app_row : AllPass (judgement_kinds (look ms l.ctx) (look ms l.first) (look ms l.second)) → AllPass (both_places l (look ms l.first) (look ms l.second)) → AllPass (app_terms l (look ms l.first) (look ms l.second)) → Here
  app_row k i h =
      let (B, b, u) = map_is _ _ l.claim (that_is l.claim _ h.1.1.1.0) in
      let a = that_is (claim_of (look ms l.second)) _ h.1.0 in
      (typed k.0, moved (sym (same_term_eq l.subject _ h.1.1.0)) u (application (moved refl (pi_is _ _ B a b) (premise l.first k.1.0 i.0)) (premise l.second k.1.1.0 i.1.0)))

  pub letsort_row : AllPass (let_kinds (look ms l.ctx) (look ms l.first)) → AllPass (letsort_terms l (look ms l.first)) → Here
  letsort_row k h =
      let p = look ms l.first in
      let (a, A, is) = defined_over l.first k.1.0 h.0 in
      let (s, e) = some_is (sort_in (claim_of p)) h.1.1.0 in
      let t = let_of (scope_of p).entries a A (subject_of p) l.subject home is (that_is l.subject _ h.1.0) in
      (typed k.0, moved t (sym (sort_is _ s e) ∙ sym (same_term_eq l.claim _ h.1.1.1.0)) (formation (moved_in is refl (sort_is _ s e) (judged p k.1.0 (stand l.first)).1)))

  pub let_row : AllPass (judgement_kinds (look ms l.ctx) (look ms l.first) (look ms l.second)) → AllPass (let_places l (look ms l.first) (look ms l.second)) → AllPass (let_terms l (look ms l.first) (look ms l.second)) → Here
  let_row k i h =
      let p = look ms l.first in
      let (a, A, is) = defined_over l.first k.1.0 i.0 in
      let t = let_of (scope_of p).entries a A (subject_of p) l.subject home is (that_is l.subject _ h.0) in
      let u = let_of (scope_of p).entries a A (claim_of p) l.claim home is (that_is l.claim _ h.1.0) in
      let (s, e) = some_is (sort_in (claim_of (look ms l.second))) h.1.1.1.0 in
      (typed k.0, moved t u (introduction (moved_in is refl refl (judged p k.1.0 (stand l.first)).1) (moved (same_term_eq _ l.claim h.1.1.0 ∙ sym u) (sort_is _ s e) (premise l.second k.1.1.0 i.1.0))))

  pub conv_row : AllPass (judgement_kinds (look ms l.ctx) (look ms l.first) (look ms l.second)) → AllPass (conv_places l (look ms l.first) (look ms l.second) (look ms l.third)) → AllPass (conv_terms l (look ms l.first) (look ms l.second) (look ms l.third)) → Here
  conv_row k i h =
      let (s, e) = some_is (sort_in (claim_of (look ms l.second))) h.1.1.0 in
      let (x, y) = both (same_term (subject_of (look ms l.third)) (claim_of (look ms l.first))) (same_term (claim_of (look ms l.third)) l.claim) h.1.1.1.0 in
      (typed k.0, moved (sym (same_term_eq l.subject _ h.0)) refl (conversion (premise l.first k.1.0 i.1.0) (moved (sym (same_term_eq l.claim _ h.1.0)) (sort_is _ s e) (premise l.second k.1.1.0 i.1.1.0)) (compared (same_term_eq _ _ x) (same_term_eq _ l.claim y) (comparison_at l.third i.0 i.1.1.1.0))))

  pub same_row : AllPass (same_conditions l (look ms l.ctx)) → Equal
  same_row h = compared refl (same_term_eq l.subject l.claim h.1.0) equal

  pub left_row : AllPass (left_conditions G l (look ms l.ctx) (look ms l.first)) → Equal
  left_row h = forwards (head_is_step G home l.subject _ (that_is _ _ h.1.1.1.1.0)) (compared refl (same_term_eq _ l.claim h.1.1.1.0) (comparison_at l.first h.1.0 h.1.1.0))

  pub right_row : AllPass (right_conditions G l (look ms l.ctx) (look ms l.first)) → Equal
  right_row h = joined (compared (same_term_eq _ l.subject h.1.1.1.0) refl (comparison_at l.first h.1.0 h.1.1.0)) (backwards (head_is_step G home l.claim _ (that_is _ _ h.1.1.1.1.0)) equal)

  pub capp_row : AllPass (comparison_kinds (look ms l.ctx) (look ms l.first) (look ms l.second)) → AllPass (both_places l (look ms l.first) (look ms l.second)) → AllPass (capp_terms l (look ms l.first) (look ms l.second)) → Equal
  capp_row k i h = compared (sym (same_term_eq l.subject _ h.0)) (sym (same_term_eq l.claim _ h.1.0)) (convertible_app (comparison_at l.first k.1.0 i.0) (comparison_at l.second k.1.1.0 i.1.0))

  -- A comparison in a bare context behind the line's own.
  under_bare : (p : ℕ) → is_comparison (look ms p) ≡ true → is_bare_of l.ctx (scope_of (look ms p)).made ≡ true → Convertible G (unknown ∷ home) (subject_of (look ms p)) (claim_of (look ms p))
  under_bare p h i =
      let (_, is) = subst (λ m. Rooted ms m (scope_of (look ms p)).entries) (bare_of l.ctx (scope_of (look ms p)).made i) (root (look ms p) (compared_at ms (look ms p) h (linked p))) in
      compared_in is refl refl (compares S (look ms p) h (stand p))

  pub clam_row : AllPass (comparison_kinds (look ms l.ctx) (look ms l.first) (look ms l.second)) → AllPass (binder_places l (look ms l.first) (look ms l.second)) → AllPass (clam_terms l (look ms l.first) (look ms l.second)) → Equal
  clam_row k i h = compared (sym (same_term_eq l.subject _ h.0)) (sym (same_term_eq l.claim _ h.1.0)) (convertible_lam (comparison_at l.first k.1.0 i.0) (under_bare l.second k.1.1.0 i.1.0))

  pub cpi_row : AllPass (comparison_kinds (look ms l.ctx) (look ms l.first) (look ms l.second)) → AllPass (binder_places l (look ms l.first) (look ms l.second)) → AllPass (cpi_terms l (look ms l.first) (look ms l.second)) → Equal
  cpi_row k i h = compared (sym (same_term_eq l.subject _ h.0)) (sym (same_term_eq l.claim _ h.1.0)) (convertible_pi (comparison_at l.first k.1.0 i.0) (under_bare l.second k.1.1.0 i.1.0))
