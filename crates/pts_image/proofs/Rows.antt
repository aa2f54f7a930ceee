-- The image of a line has no fault where the line has none: one lemma for each form.
use Rattle.std.proofs.Common.{ℕ, suc, List, [], ◌∷◌, map, Bool, true, ◌≡◌, refl, sym, ap, ◌∙◌, Option, Some, None}
use Rattle.std.specs.Prelude.{is_some, ◌&&◌}
use Rattle.std.specs.Option.{option_map, option_and_then}
use mathlib.Core.Path.{ap₂}
use Rattle.pts_names.specs.Name.{Name}
use Rattle.pts_terms.specs.Tree.{Bare, sort, const, var, app, lam, pi, let_in, lift, subst, same_term}
use Rattle.pts_terms.proofs.Same.{both, both_hold, same_term_eq, same_term_self}
use Rattle.pts_ctx.specs.System.{Specification, axiom_of, rule_of}
use Rattle.pts_ctx.specs.Front.{Front, find, Locals, entry_at}
use Rattle.pts_record.specs.declared.shape.Form.{Form}
use Rattle.pts_record.specs.declared.shape.Form.TheVariants.{Empty, Assume, Define, Bare as BareForm, SortAt, ConstAt, VarAt, Thin, PiAt, LamAt, AppAt, LetSort, LetAt, Conv, Same, Left, Right, CongApp, CongLam, CongPi}
use Rattle.pts_record.specs.Said.{Made, scope_of, place_of, subject_of, claim_of, is_context, is_judgement, is_comparison}
use Rattle.pts_rules.specs.declared.why.Why.{Why}
use Rattle.pts_ctx.proofs.Find.{some_same}
use Rattle.pts_rules.specs.Step.{head_step}
use Rattle.pts_rules.specs.Parts.{sort_in, var_in, domain_in, codomain_in, is_that, is_typed_context, newest_assumption, let_with, over_assumption, over_definition, type_of, distance}
use Rattle.pts_rules.specs.Conditions.{Plain, Link, first_failing, or_fault, in_order, form_fault, assume_conditions, define_conditions, bare_conditions, sort_conditions, const_conditions, var_conditions, thin_conditions, judgement_kinds, comparison_kinds, pi_places, pi_terms, product_sort, lam_places, lam_terms, both_places, app_terms, let_kinds, letsort_terms, let_places, let_terms, conv_places, conv_terms, same_conditions, left_conditions, right_conditions, capp_terms, binder_places, clam_terms, cpi_terms}
use Rattle.pts_rules.proofs.Passing.{AllPass, is_same, all_pass, all_in_order, none_fails, ordered_pass, pair_passes, some_is, map_is, then_is, map_of, that_is, sort_is, pi_is}
use Rattle.pts_terms.specs.Replaced.{replaced}
use Rattle.pts_image.specs.Image.{Closed, local_image, scope_image, said_image, row_image}
use Rattle.pts_image.proofs.Replacing.{replaced_lift, replaced_put}
use Rattle.pts_image.proofs.Saying.{that_of, sort_fixed, var_fixed, image_same, image_that, newest_image, let_image, entry_at_image, type_image, scope_im, subject_im, claim_im, context_im, judgement_im, comparison_im, typed_im, in_judged, in_compared, assume_of_im, bare_of_im, assume_in_im, define_in_im}

none_in_pair : (kinds terms : List (Bool × Why)) → AllPass kinds → AllPass terms → or_fault (first_failing kinds) (first_failing terms) ≡ None
none_in_pair kinds terms k t = rw (none_fails kinds k) (none_fails terms t)

module _ (S : Specification) (F H : Front) (f : Name → Bare) (closed : Closed f) (r : ℕ → ℕ)
    (headed : (L : Locals) (t u : Bare) → head_step F L t ≡ Some u → head_step H (map (local_image f) L) (replaced f t) ≡ Some (replaced f u))
    (l : Plain) (c p q w : Link)
    (far : is_judgement p ≡ true → (d : ℕ) → distance c p ≡ Some d → distance (said_image f r c) (said_image f r p) ≡ Some d) where
  abbrev m : Plain
  m = row_image f r l

  abbrev im : Link → Link
  im = said_image f r

  abbrev θ : Bare → Bare
  θ = replaced f

  typed : is_typed_context c ≡ true → is_typed_context (im c) ≡ true
  typed h = typed_im f r c ∙ h

  any : is_context c ≡ true → is_context (im c) ≡ true
  any h = context_im f r c ∙ h

  judged : (p : Link) → is_judgement p ≡ true → is_judgement (im p) ≡ true
  judged p h = judgement_im f r p ∙ h

  compared : (p : Link) → is_comparison p ≡ true → is_comparison (im p) ≡ true
  compared p h = comparison_im f r p ∙ h

  -- A claim that is a sort is itself.
  claim_sort : (p : Link) → is_some (sort_in (claim_of p)) ≡ true → claim_of (im p) ≡ claim_of p
  claim_sort p h = claim_im f r p ∙ sort_fixed f (claim_of p) h

  still_sort : (p : Link) → is_some (sort_in (claim_of p)) ≡ true → is_some (sort_in (claim_of (im p))) ≡ true
  still_sort p h = ap (λ t. is_some (sort_in t)) (claim_sort p h) ∙ h

  assume_row : AllPass (assume_conditions p) → AllPass (assume_conditions (im p))
  assume_row h = (judged p h.0, (still_sort p h.1.0, tt))

  define_row : AllPass (define_conditions p) → AllPass (define_conditions (im p))
  define_row h = (judged p h.0, tt)

  bare_row : AllPass (bare_conditions c) → AllPass (bare_conditions (im c))
  bare_row h = (any h.0, tt)

  sort_row : AllPass (sort_conditions S l c) → AllPass (sort_conditions S m (im c))
  sort_row h =
      let e = sort_fixed f l.subject h.1.0 in (
        typed h.0,
        (
          ap (λ t. is_some (sort_in t)) e ∙ h.1.0,
          (
            ap (λ t. is_some (option_and_then (axiom_of S) (sort_in t))) e ∙ h.1.1.0,
            (
              image_that f l.claim (option_map sort (option_and_then (axiom_of S) (sort_in l.subject))) (option_map sort (option_and_then (axiom_of S) (sort_in m.subject)))
                  (λ u g. let (s, a, b) = map_is sort (option_and_then (axiom_of S) (sort_in l.subject)) u g in ap (λ t. option_map sort (option_and_then (axiom_of S) (sort_in t))) e ∙ g ∙ ap Some (sym b ∙ ap θ b)) h.1.1.1.0,
              tt,
            ),
          ),
        ),
      )

  var_row : AllPass (var_conditions l c) → AllPass (var_conditions m (im c))
  var_row h =
      let e = var_fixed f l.subject h.1.0 in
      let s = ap (λ o. o.entries) (scope_im f r c) in (
        typed h.0,
        (
          ap (λ t. is_some (var_in t)) e ∙ h.1.0,
          (
            (let (x, g) = some_is (option_and_then (entry_at (scope_of c).entries) (var_in l.subject)) h.1.1.0 in
                let (i, a, b) = then_is (entry_at (scope_of c).entries) (var_in l.subject) x g in
                rw (e, s, a, entry_at_image f (scope_of c).entries i, b) refl),
            (
              image_that f l.claim (option_and_then (λ i. option_map (lift 0 (suc i)) (option_and_then type_of (entry_at (scope_of c).entries i))) (var_in l.subject)) (option_and_then (λ i. option_map (lift 0 (suc i)) (option_and_then type_of (entry_at (scope_of (im c)).entries i))) (var_in m.subject))
                  (λ u g.
                  let (i, a, b) = then_is (λ i. option_map (lift 0 (suc i)) (option_and_then type_of (entry_at (scope_of c).entries i))) (var_in l.subject) u g in
                  let (A, x, y) = map_is (lift 0 (suc i)) (option_and_then type_of (entry_at (scope_of c).entries i)) u b in
                  let (o, z, t) = then_is type_of (entry_at (scope_of c).entries i) A x in
                  rw (e, s, a, entry_at_image f (scope_of c).entries i, z, type_image f o, t) (ap Some (sym (replaced_lift f closed 0 (suc i) A) ∙ ap θ y))) h.1.1.1.0,
              tt,
            ),
          ),
        ),
      )

  thin_row : AllPass (thin_conditions l c p) → AllPass (thin_conditions m (im c) (im p))
  thin_row h =
      let (d, e) = some_is (distance c p) h.1.1.0 in
      let g = far h.1.0 d e in (
        typed h.0,
        (
          judged p h.1.0,
          (
            rw g refl,
            (
              image_that f l.subject (option_map (λ n. lift 0 n (subject_of p)) (distance c p)) (option_map (λ n. lift 0 n (subject_of (im p))) (distance (im c) (im p)))
                  (λ u k. rw (g, subject_im f r p) (ap Some (sym (replaced_lift f closed 0 d (subject_of p)) ∙ ap θ (map_of (λ n. lift 0 n (subject_of p)) e k)))) h.1.1.1.0,
              (
                image_that f l.claim (option_map (λ n. lift 0 n (claim_of p)) (distance c p)) (option_map (λ n. lift 0 n (claim_of (im p))) (distance (im c) (im p)))
                    (λ u k. rw (g, claim_im f r p) (ap Some (sym (replaced_lift f closed 0 d (claim_of p)) ∙ ap θ (map_of (λ n. lift 0 n (claim_of p)) e k)))) h.1.1.1.1.0,
                tt,
              ),
            ),
          ),
        ),
      )

  judgement_kinds_row : AllPass (judgement_kinds c p q) → AllPass (judgement_kinds (im c) (im p) (im q))
  judgement_kinds_row h = (typed h.0, (judged p h.1.0, (judged q h.1.1.0, tt)))

  comparison_kinds_row : AllPass (comparison_kinds c p q) → AllPass (comparison_kinds (im c) (im p) (im q))
  comparison_kinds_row h = (any h.0, (compared p h.1.0, (compared q h.1.1.0, tt)))

  made_im : (p : Link) → (scope_of (im p)).made ≡ (scope_image f r (scope_of p)).made
  made_im p = ap (λ o. o.made) (scope_im f r p)

  pi_places_row : AllPass (judgement_kinds c p q) → AllPass (pi_places l p q) → AllPass (pi_places m (im p) (im q))
  pi_places_row k h = (in_judged f r l.ctx p k.1.0 h.0, (rw (made_im q) (assume_of_im f r l.first (scope_of q).made h.1.0), tt))

  pi_terms_row : AllPass (pi_terms S l p q) → AllPass (pi_terms S m (im p) (im q))
  pi_terms_row h =
      let a = claim_sort p h.1.0 in
      let b = claim_sort q h.1.1.0 in
      let o = option_map sort (product_sort S p q) in (
        rw (subject_im f r p, subject_im f r q) (image_same f l.subject (pi (subject_of p) (subject_of q)) h.0),
        (
          still_sort p h.1.0,
          (
            still_sort q h.1.1.0,
            (
              rw (a, b) h.1.1.1.0,
              (
                image_that f l.claim o (option_map sort (product_sort S (im p) (im q))) (λ u g. let (s, x, y) = map_is sort (product_sort S p q) u g in rw (a, b) (g ∙ ap Some (sym y ∙ ap θ y))) h.1.1.1.1.0,
                tt,
              ),
            ),
          ),
        ),
      )

  entries_im : (p : Link) → (scope_of (im p)).entries ≡ map (local_image f) (scope_of p).entries
  entries_im p = ap (λ o. o.entries) (scope_im f r p)

  lam_places_row : AllPass (judgement_kinds c p q) → AllPass (lam_places l p q) → AllPass (lam_places m (im p) (im q))
  lam_places_row k h = (rw (made_im p) (assume_in_im f r l.ctx (scope_of p).made h.0), (in_judged f r l.ctx q k.1.1.0 h.1.0, tt))

  over_image : (make : Bare → Bare → Bare) → ((A t : Bare) → θ (make A t) ≡ make (θ A) (θ t)) → (t u : Bare) → over_assumption make p t ≡ Some u → over_assumption make (im p) (θ t) ≡ Some (θ u)
  over_image make k t u h =
      let (A, x, y) = map_is (λ A. make A t) (newest_assumption (scope_of p).entries) u h in
      rw (entries_im p, newest_image f (scope_of p).entries, x) (ap Some (sym (k A t) ∙ ap θ y))

  lam_terms_row : AllPass (lam_terms l p q) → AllPass (lam_terms m (im p) (im q))
  lam_terms_row h = (
    image_that f l.subject (over_assumption (λ A t. lam A t) p (subject_of p)) (over_assumption (λ A t. lam A t) (im p) (subject_of (im p))) (λ u g. rw (subject_im f r p) (over_image (λ A t. lam A t) (λ A t. refl) (subject_of p) u g)) h.0,
    (
      image_that f l.claim (over_assumption (λ A t. pi A t) p (claim_of p)) (over_assumption (λ A t. pi A t) (im p) (claim_of (im p))) (λ u g. rw (claim_im f r p) (over_image (λ A t. pi A t) (λ A t. refl) (claim_of p) u g)) h.1.0,
      (rw (subject_im f r q) (image_same f (subject_of q) l.claim h.1.1.0), (still_sort q h.1.1.1.0, tt)),
    ),
  )

  both_judged : AllPass (judgement_kinds c p q) → AllPass (both_places l p q) → AllPass (both_places m (im p) (im q))
  both_judged k h = (in_judged f r l.ctx p k.1.0 h.0, (in_judged f r l.ctx q k.1.1.0 h.1.0, tt))

  both_compared : AllPass (comparison_kinds c p q) → AllPass (both_places l p q) → AllPass (both_places m (im p) (im q))
  both_compared k h = (in_compared f r l.ctx p k.1.0 h.0, (in_compared f r l.ctx q k.1.1.0 h.1.0, tt))

  product_im : (A B : Bare) → domain_in (claim_of p) ≡ Some A → codomain_in (claim_of p) ≡ Some B → claim_of (im p) ≡ pi (θ A) (θ B)
  product_im A B x y = claim_im f r p ∙ ap θ (pi_is (claim_of p) A B x y)

  app_terms_row : AllPass (app_terms l p q) → AllPass (app_terms m (im p) (im q))
  app_terms_row h =
      let (A, x) = some_is (domain_in (claim_of p)) h.0 in
      let (B, y, z) = map_is (subst 0 (subject_of q)) (codomain_in (claim_of p)) l.claim (that_is l.claim _ h.1.1.1.0) in
      let e = product_im A B x y in (
        rw e refl,
        (
          rw (e, claim_im f r q) (is_same (ap θ (some_same (sym (that_is (claim_of q) _ h.1.0) ∙ x)))),
          (
            rw (subject_im f r p, subject_im f r q) (image_same f l.subject (app (subject_of p) (subject_of q)) h.1.1.0),
            (rw (e, subject_im f r q) (is_same (sym (ap θ z) ∙ replaced_put f closed 0 0 (subject_of q) B)), tt),
          ),
        ),
      )

  let_kinds_row : AllPass (let_kinds c p) → AllPass (let_kinds (im c) (im p))
  let_kinds_row h = (typed h.0, (judged p h.1.0, tt))

  over_definition_im : (t u : Bare) → over_definition p t ≡ Some u → over_definition (im p) (θ t) ≡ Some (θ u)
  over_definition_im t u h = rw (entries_im p, let_image f (scope_of p).entries t, h) refl

  letsort_terms_row : AllPass (letsort_terms l p) → AllPass (letsort_terms m (im p))
  letsort_terms_row h = (
    rw (made_im p) (define_in_im f r l.ctx (scope_of p).made h.0),
    (
      image_that f l.subject (over_definition p (subject_of p)) (over_definition (im p) (subject_of (im p))) (λ u g. rw (subject_im f r p) (over_definition_im (subject_of p) u g)) h.1.0,
      (still_sort p h.1.1.0, (rw (claim_im f r p) (image_same f l.claim (claim_of p) h.1.1.1.0), tt)),
    ),
  )

  let_places_row : AllPass (judgement_kinds c p q) → AllPass (let_places l p q) → AllPass (let_places m (im p) (im q))
  let_places_row k h = (rw (made_im p) (define_in_im f r l.ctx (scope_of p).made h.0), (in_judged f r l.ctx q k.1.1.0 h.1.0, tt))

  let_terms_row : AllPass (let_terms l p q) → AllPass (let_terms m (im p) (im q))
  let_terms_row h = (
    image_that f l.subject (over_definition p (subject_of p)) (over_definition (im p) (subject_of (im p))) (λ u g. rw (subject_im f r p) (over_definition_im (subject_of p) u g)) h.0,
    (
      image_that f l.claim (over_definition p (claim_of p)) (over_definition (im p) (claim_of (im p))) (λ u g. rw (claim_im f r p) (over_definition_im (claim_of p) u g)) h.1.0,
      (rw (subject_im f r q) (image_same f (subject_of q) l.claim h.1.1.0), (still_sort q h.1.1.1.0, tt)),
    ),
  )

  conv_places_row : AllPass (judgement_kinds c p q) → AllPass (conv_places l p q w) → AllPass (conv_places m (im p) (im q) (im w))
  conv_places_row k h = (compared w h.0, (in_judged f r l.ctx p k.1.0 h.1.0, (in_judged f r l.ctx q k.1.1.0 h.1.1.0, (in_compared f r l.ctx w h.0 h.1.1.1.0, tt))))

  conv_terms_row : AllPass (conv_terms l p q w) → AllPass (conv_terms m (im p) (im q) (im w))
  conv_terms_row h =
      let (x, y) = both (same_term (subject_of w) (claim_of p)) (same_term (claim_of w) l.claim) h.1.1.1.0 in (
        rw (subject_im f r p) (image_same f l.subject (subject_of p) h.0),
        (
          rw (subject_im f r q) (image_same f l.claim (subject_of q) h.1.0),
          (
            still_sort q h.1.1.0,
            (rw (subject_im f r w, claim_im f r w, claim_im f r p) (both_hold _ _ (image_same f (subject_of w) (claim_of p) x) (image_same f (claim_of w) l.claim y)), tt),
          ),
        ),
      )

  same_row : AllPass (same_conditions l c) → AllPass (same_conditions m (im c))
  same_row h = (any h.0, (image_same f l.subject l.claim h.1.0, tt))

  head_im : (t u : Bare) → is_that u (head_step F (scope_of c).entries t) ≡ true → is_that (θ u) (head_step H (scope_of (im c)).entries (θ t)) ≡ true
  head_im t u h = rw (entries_im c) (image_that f u (head_step F (scope_of c).entries t) (head_step H (map (local_image f) (scope_of c).entries) (θ t)) (λ v g. headed (scope_of c).entries t v g) h)

  left_row : AllPass (left_conditions F l c p) → AllPass (left_conditions H m (im c) (im p))
  left_row h = (any h.0, (compared p h.1.0, (in_compared f r l.ctx p h.1.0 h.1.1.0, (rw (claim_im f r p) (image_same f (claim_of p) l.claim h.1.1.1.0), (rw (subject_im f r p) (head_im l.subject (subject_of p) h.1.1.1.1.0), tt)))))

  right_row : AllPass (right_conditions F l c p) → AllPass (right_conditions H m (im c) (im p))
  right_row h = (any h.0, (compared p h.1.0, (in_compared f r l.ctx p h.1.0 h.1.1.0, (rw (subject_im f r p) (image_same f (subject_of p) l.subject h.1.1.1.0), (rw (claim_im f r p) (head_im l.claim (claim_of p) h.1.1.1.1.0), tt)))))

  capp_terms_row : AllPass (capp_terms l p q) → AllPass (capp_terms m (im p) (im q))
  capp_terms_row h = (
    rw (subject_im f r p, subject_im f r q) (image_same f l.subject (app (subject_of p) (subject_of q)) h.0),
    (rw (claim_im f r p, claim_im f r q) (image_same f l.claim (app (claim_of p) (claim_of q)) h.1.0), tt),
  )

  binder_places_row : AllPass (comparison_kinds c p q) → AllPass (binder_places l p q) → AllPass (binder_places m (im p) (im q))
  binder_places_row k h = (in_compared f r l.ctx p k.1.0 h.0, (rw (made_im q) (bare_of_im f r l.ctx (scope_of q).made h.1.0), tt))

  clam_terms_row : AllPass (clam_terms l p q) → AllPass (clam_terms m (im p) (im q))
  clam_terms_row h = (
    rw (subject_im f r p, subject_im f r q) (image_same f l.subject (lam (subject_of p) (subject_of q)) h.0),
    (rw (claim_im f r p, claim_im f r q) (image_same f l.claim (lam (claim_of p) (claim_of q)) h.1.0), tt),
  )

  cpi_terms_row : AllPass (cpi_terms l p q) → AllPass (cpi_terms m (im p) (im q))
  cpi_terms_row h = (
    rw (subject_im f r p, subject_im f r q) (image_same f l.subject (pi (subject_of p) (subject_of q)) h.0),
    (rw (claim_im f r p, claim_im f r q) (image_same f l.claim (pi (claim_of p) (claim_of q)) h.1.0), tt),
  )

  -- Every form but that of constants.
  pub row_faultless : (g : Form) → (g ≡ ConstAt → form_fault S F ConstAt l c p q w ≡ None → form_fault S H ConstAt m (im c) (im p) (im q) (im w) ≡ None) → form_fault S F g l c p q w ≡ None → form_fault S H g m (im c) (im p) (im q) (im w) ≡ None
  row_faultless Empty k h = refl
  row_faultless Assume k h = none_fails (assume_conditions (im p)) (assume_row (all_pass (assume_conditions p) h))
  row_faultless Define k h = none_fails (define_conditions (im p)) (define_row (all_pass (define_conditions p) h))
  row_faultless BareForm k h = none_fails (bare_conditions (im c)) (bare_row (all_pass (bare_conditions c) h))
  row_faultless SortAt k h = none_fails (sort_conditions S m (im c)) (sort_row (all_pass (sort_conditions S l c) h))
  row_faultless ConstAt k h = k refl h
  row_faultless VarAt k h = none_fails (var_conditions m (im c)) (var_row (all_pass (var_conditions l c) h))
  row_faultless Thin k h = none_fails (thin_conditions m (im c) (im p)) (thin_row (all_pass (thin_conditions l c p) h))
  row_faultless PiAt k h =
      let (a, i, t) = ordered_pass (judgement_kinds c p q) (pi_places l p q) (pi_terms S l p q) h in
      all_in_order (judgement_kinds (im c) (im p) (im q)) (pi_places m (im p) (im q)) (pi_terms S m (im p) (im q)) (judgement_kinds_row a) (pi_places_row a i) (pi_terms_row t)
  row_faultless LamAt k h =
      let (a, i, t) = ordered_pass (judgement_kinds c p q) (lam_places l p q) (lam_terms l p q) h in
      all_in_order (judgement_kinds (im c) (im p) (im q)) (lam_places m (im p) (im q)) (lam_terms m (im p) (im q)) (judgement_kinds_row a) (lam_places_row a i) (lam_terms_row t)
  row_faultless AppAt k h =
      let (a, i, t) = ordered_pass (judgement_kinds c p q) (both_places l p q) (app_terms l p q) h in
      all_in_order (judgement_kinds (im c) (im p) (im q)) (both_places m (im p) (im q)) (app_terms m (im p) (im q)) (judgement_kinds_row a) (both_judged a i) (app_terms_row t)
  row_faultless LetSort k h =
      let (a, t) = pair_passes (let_kinds c p) (letsort_terms l p) h in
      none_in_pair (let_kinds (im c) (im p)) (letsort_terms m (im p)) (let_kinds_row a) (letsort_terms_row t)
  row_faultless LetAt k h =
      let (a, i, t) = ordered_pass (judgement_kinds c p q) (let_places l p q) (let_terms l p q) h in
      all_in_order (judgement_kinds (im c) (im p) (im q)) (let_places m (im p) (im q)) (let_terms m (im p) (im q)) (judgement_kinds_row a) (let_places_row a i) (let_terms_row t)
  row_faultless Conv k h =
      let (a, i, t) = ordered_pass (judgement_kinds c p q) (conv_places l p q w) (conv_terms l p q w) h in
      all_in_order (judgement_kinds (im c) (im p) (im q)) (conv_places m (im p) (im q) (im w)) (conv_terms m (im p) (im q) (im w)) (judgement_kinds_row a) (conv_places_row a i) (conv_terms_row t)
  row_faultless Same k h = none_fails (same_conditions m (im c)) (same_row (all_pass (same_conditions l c) h))
  row_faultless Left k h = none_fails (left_conditions H m (im c) (im p)) (left_row (all_pass (left_conditions F l c p) h))
  row_faultless Right k h = none_fails (right_conditions H m (im c) (im p)) (right_row (all_pass (right_conditions F l c p) h))
  row_faultless CongApp k h =
      let (a, i, t) = ordered_pass (comparison_kinds c p q) (both_places l p q) (capp_terms l p q) h in
      all_in_order (comparison_kinds (im c) (im p) (im q)) (both_places m (im p) (im q)) (capp_terms m (im p) (im q)) (comparison_kinds_row a) (both_compared a i) (capp_terms_row t)
  row_faultless CongLam k h =
      let (a, i, t) = ordered_pass (comparison_kinds c p q) (binder_places l p q) (clam_terms l p q) h in
      all_in_order (comparison_kinds (im c) (im p) (im q)) (binder_places m (im p) (im q)) (clam_terms m (im p) (im q)) (comparison_kinds_row a) (binder_places_row a i) (clam_terms_row t)
  row_faultless CongPi k h =
      let (a, i, t) = ordered_pass (comparison_kinds c p q) (binder_places l p q) (cpi_terms l p q) h in
      all_in_order (comparison_kinds (im c) (im p) (im q)) (binder_places m (im p) (im q)) (cpi_terms m (im p) (im q)) (comparison_kinds_row a) (binder_places_row a i) (cpi_terms_row t)
