-- What images of what is said have in common with it, and the tests that they pass.
use Rattle.std.proofs.Common.{ℕ, suc, zero, List, [], ◌∷◌, map, length, Bool, true, false, ◌≡◌, ◌<◌, refl, sym, ap, ◌∙◌, arith, Option, Some, None}
use Rattle.std.specs.Prelude.{◌&&◌, is_some, nat_eq}
use Rattle.std.specs.Option.{option_map, option_and_then}
use mathlib.Core.Path.{ap₂}
use Rattle.pts_names.specs.Name.{Name}
use Rattle.pts_terms.specs.Tree.{Bare, sort, const, var, app, lam, pi, let_in, same_term}
use Rattle.pts_terms.proofs.Same.{same_term_eq, same_term_self, nat_eq_same, nat_eq_self}
use Rattle.pts_ctx.specs.Front.{Local, assumed, defined, unknown, Locals, entry_at}
use Rattle.pts_record.specs.Said.{Made, by_empty, by_assume, by_define, by_bare, Said, nothing, context, judgement, comparison, scope_of, place_of, subject_of, claim_of, all_known, is_context, is_judgement, is_comparison, assumed_by, defined_by}
use Rattle.pts_rules.specs.Parts.{sort_in, var_in, is_that, is_typed_context, is_in, is_assume_of, is_bare_of, is_assume_in, is_define_in, newest_assumption, let_with, type_of}
use Rattle.pts_rules.specs.Conditions.{Link}
use Rattle.pts_rules.proofs.Passing.{is_same, some_is, that_is, sort_is, var_is}
use Rattle.pts_ctx.proofs.Find.{some_same}
use Rattle.pts_terms.specs.Replaced.{replaced}
use Rattle.pts_image.specs.Image.{local_image, made_image, scope_image, said_image}

pub that_of : (t : Bare) (o : Option Bare) → o ≡ Some t → is_that t o ≡ true
that_of t o e = rw e (same_term_self t)

module _ (f : Name → Bare) where
  pub sort_fixed : (t : Bare) → is_some (sort_in t) ≡ true → replaced f t ≡ t
  sort_fixed t h = let (s, e) = some_is (sort_in t) h in ap (replaced f) (sort_is t s e) ∙ sym (sort_is t s e)

  pub var_fixed : (t : Bare) → is_some (var_in t) ≡ true → replaced f t ≡ t
  var_fixed t h = let (s, e) = some_is (var_in t) h in ap (replaced f) (var_is t s e) ∙ sym (var_is t s e)

  pub image_same : (t u : Bare) → same_term t u ≡ true → same_term (replaced f t) (replaced f u) ≡ true
  image_same t u h = is_same (ap (replaced f) (same_term_eq t u h))

  pub image_that : (t : Bare) (o q : Option Bare) → ((u : Bare) → o ≡ Some u → q ≡ Some (replaced f u)) → is_that t o ≡ true → is_that (replaced f t) q ≡ true
  image_that t o q k h = that_of _ q (k t (that_is t o h))

  pub known_image : (L : Locals) → all_known (map (local_image f) L) ≡ all_known L
  known_image [] = refl
  known_image (assumed A ∷ L) = known_image L
  known_image (defined a A ∷ L) = known_image L
  known_image (unknown ∷ L) = refl

  pub newest_image : (L : Locals) → newest_assumption (map (local_image f) L) ≡ option_map (replaced f) (newest_assumption L)
  newest_image [] = refl
  newest_image (assumed A ∷ L) = refl
  newest_image (defined a A ∷ L) = refl
  newest_image (unknown ∷ L) = refl

  pub let_image : (L : Locals) (t : Bare) → let_with (map (local_image f) L) (replaced f t) ≡ option_map (replaced f) (let_with L t)
  let_image [] t = refl
  let_image (assumed A ∷ L) t = refl
  let_image (defined a A ∷ L) t = refl
  let_image (unknown ∷ L) t = refl

  pub entry_at_image : (L : Locals) (i : ℕ) → entry_at (map (local_image f) L) i ≡ option_map (local_image f) (entry_at L i)
  entry_at_image [] i = refl
  entry_at_image (e ∷ L) zero = refl
  entry_at_image (e ∷ L) (suc i) = entry_at_image L i

  pub type_image : (e : Local (Unit {0})) → type_of (local_image f e) ≡ option_map (replaced f) (type_of e)
  type_image (assumed A) = refl
  type_image (defined a A) = refl
  type_image unknown = refl

  module _ (r : ℕ → ℕ) where
    abbrev pub im : Link → Link
    im = said_image f r

    pub scope_im : (m : Link) → scope_of (im m) ≡ scope_image f r (scope_of m)
    scope_im nothing = refl
    scope_im (context s) = refl
    scope_im (judgement c s t T) = refl
    scope_im (comparison c s t u) = refl

    pub subject_im : (m : Link) → subject_of (im m) ≡ replaced f (subject_of m)
    subject_im nothing = refl
    subject_im (context s) = refl
    subject_im (judgement c s t T) = refl
    subject_im (comparison c s t u) = refl

    pub claim_im : (m : Link) → claim_of (im m) ≡ replaced f (claim_of m)
    claim_im nothing = refl
    claim_im (context s) = refl
    claim_im (judgement c s t T) = refl
    claim_im (comparison c s t u) = refl

    pub context_im : (m : Link) → is_context (im m) ≡ is_context m
    context_im nothing = refl
    context_im (context s) = refl
    context_im (judgement c s t T) = refl
    context_im (comparison c s t u) = refl

    pub judgement_im : (m : Link) → is_judgement (im m) ≡ is_judgement m
    judgement_im nothing = refl
    judgement_im (context s) = refl
    judgement_im (judgement c s t T) = refl
    judgement_im (comparison c s t u) = refl

    pub comparison_im : (m : Link) → is_comparison (im m) ≡ is_comparison m
    comparison_im nothing = refl
    comparison_im (context s) = refl
    comparison_im (judgement c s t T) = refl
    comparison_im (comparison c s t u) = refl

    pub typed_im : (m : Link) → is_typed_context (im m) ≡ is_typed_context m
    typed_im nothing = refl
    typed_im (context s) = known_image s.entries
    typed_im (judgement c s t T) = refl
    typed_im (comparison c s t u) = refl

    pub place_judged : (m : Link) → is_judgement m ≡ true → place_of (im m) ≡ r (place_of m)
    place_judged nothing h = absurd (cc h)
    place_judged (context s) h = absurd (cc h)
    place_judged (judgement c s t T) h = refl
    place_judged (comparison c s t u) h = absurd (cc h)

    pub place_compared : (m : Link) → is_comparison m ≡ true → place_of (im m) ≡ r (place_of m)
    place_compared nothing h = absurd (cc h)
    place_compared (context s) h = absurd (cc h)
    place_compared (judgement c s t T) h = absurd (cc h)
    place_compared (comparison c s t u) h = refl

    same_number : (i j k : ℕ) → k ≡ r i → nat_eq i j ≡ true → nat_eq k (r j) ≡ true
    same_number i j k e h = ap (λ n. nat_eq n (r j)) (e ∙ ap r (nat_eq_same i j h)) ∙ nat_eq_self (r j)

    pub in_judged : (c : ℕ) (m : Link) → is_judgement m ≡ true → is_in c m ≡ true → is_in (r c) (im m) ≡ true
    in_judged c m j h = same_number (place_of m) c (place_of (im m)) (place_judged m j) h

    pub in_compared : (c : ℕ) (m : Link) → is_comparison m ≡ true → is_in c m ≡ true → is_in (r c) (im m) ≡ true
    in_compared c m j h = same_number (place_of m) c (place_of (im m)) (place_compared m j) h

    pub assume_of_im : (p : ℕ) (m : Made) → is_assume_of p m ≡ true → is_assume_of (r p) (made_image f r m) ≡ true
    assume_of_im p (by_assume q d) h = same_number q p (r q) refl h
    assume_of_im p by_empty h = absurd (cc h)
    assume_of_im p (by_define q d) h = absurd (cc h)
    assume_of_im p (by_bare d) h = absurd (cc h)

    pub bare_of_im : (c : ℕ) (m : Made) → is_bare_of c m ≡ true → is_bare_of (r c) (made_image f r m) ≡ true
    bare_of_im c (by_bare d) h = same_number d c (r d) refl h
    bare_of_im c by_empty h = absurd (cc h)
    bare_of_im c (by_assume q d) h = absurd (cc h)
    bare_of_im c (by_define q d) h = absurd (cc h)

    pub assume_in_im : (c : ℕ) (m : Made) → is_assume_in c m ≡ true → is_assume_in (r c) (made_image f r m) ≡ true
    assume_in_im c (by_assume q d) h = same_number d c (r d) refl h
    assume_in_im c by_empty h = absurd (cc h)
    assume_in_im c (by_define q d) h = absurd (cc h)
    assume_in_im c (by_bare d) h = absurd (cc h)

    pub define_in_im : (c : ℕ) (m : Made) → is_define_in c m ≡ true → is_define_in (r c) (made_image f r m) ≡ true
    define_in_im c (by_define q d) h = same_number d c (r d) refl h
    define_in_im c by_empty h = absurd (cc h)
    define_in_im c (by_assume q d) h = absurd (cc h)
    define_in_im c (by_bare d) h = absurd (cc h)

    pub assumed_im : (m : Link) → is_judgement m ≡ true → assumed_by (im m) ≡ local_image f (assumed_by m)
    assumed_im nothing h = absurd (cc h)
    assumed_im (context s) h = absurd (cc h)
    assumed_im (judgement c s t T) h = refl
    assumed_im (comparison c s t u) h = absurd (cc h)

    pub defined_im : (m : Link) → is_judgement m ≡ true → defined_by (im m) ≡ local_image f (defined_by m)
    defined_im nothing h = absurd (cc h)
    defined_im (context s) h = absurd (cc h)
    defined_im (judgement c s t T) h = refl
    defined_im (comparison c s t u) h = absurd (cc h)
