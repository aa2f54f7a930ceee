-- In a record whose first lines have no fault, what a line says fits what its links say.
use Rattle.std.proofs.Common.{ℕ, suc, zero, ◌<◌, ◌≤◌, ◌⊎◌, inl, inr, List, [], ◌∷◌, ◌++◌, length, Bool, true, false, ◌≡◌, refl, sym, ap, ◌∙◌, arith, None}
use Rattle.std.specs.Prelude.{get_or}
use mathlib.Core.Path.{subst}
use Rattle.pts_terms.proofs.Same.{both}
use Rattle.pts_ctx.specs.System.{Specification}
use Rattle.pts_ctx.specs.Front.{Front, Local, assumed, defined, unknown, Locals}
use Rattle.pts_record.specs.declared.shape.Form.{Form}
use Rattle.pts_record.specs.declared.shape.Form.TheVariants.{Empty, Assume, Define, Bare as BareForm, SortAt, ConstAt, VarAt, Thin, PiAt, LamAt, AppAt, LetSort, LetAt, Conv, Same, Left, Right, CongApp, CongLam, CongPi}
use Rattle.pts_record.specs.Said.{Made, by_empty, by_assume, by_define, by_bare, Scope, nothing, context, judgement, comparison, look, scope_of, place_of, subject_of, claim_of, longer, say_as, assumed_by, defined_by}
use Rattle.pts_record.proofs.Looked.{look_before, look_at, look_past}
use Rattle.pts_rules.specs.Parts.{is_typed_context}
use Rattle.pts_record.specs.Said.{is_context, is_judgement, is_comparison}
use Rattle.pts_rules.specs.Conditions.{Plain, Link, form_fault, assume_conditions, define_conditions, bare_conditions, sort_conditions, const_conditions, var_conditions, thin_conditions, judgement_kinds, comparison_kinds, pi_places, pi_terms, lam_places, lam_terms, both_places, app_terms, let_kinds, letsort_terms, let_places, let_terms, conv_places, conv_terms, same_conditions, left_conditions, right_conditions, capp_terms, binder_places, clam_terms, cpi_terms}
use Rattle.pts_rules.proofs.Passing.{all_pass, ordered_pass, pair_passes}

-- A judgement makes the entry that it is about.
pub assumed_is : (m : Link) → is_judgement m ≡ true → assumed_by m ≡ assumed (subject_of m)
assumed_is nothing h = absurd (cc h)
assumed_is (context s) h = absurd (cc h)
assumed_is (judgement c s t T) h = refl
assumed_is (comparison c s t u) h = absurd (cc h)

pub defined_is : (m : Link) → is_judgement m ≡ true → defined_by m ≡ defined (subject_of m) (claim_of m)
defined_is nothing h = absurd (cc h)
defined_is (context s) h = absurd (cc h)
defined_is (judgement c s t T) h = refl
defined_is (comparison c s t u) h = absurd (cc h)

-- How a context's entries were made.
abbrev pub Rooted : List Link → Made → Locals → Type 0
Rooted ms by_empty L = L ≡ []
Rooted ms (by_assume p d) L = (is_judgement (look ms p) ≡ true) × (place_of (look ms p) ≡ d) × (L ≡ assumed (subject_of (look ms p)) ∷ (scope_of (look ms p)).entries)
Rooted ms (by_define p d) L = (is_judgement (look ms p) ≡ true) × (place_of (look ms p) ≡ d) × (L ≡ defined (subject_of (look ms p)) (claim_of (look ms p)) ∷ (scope_of (look ms p)).entries)
Rooted ms (by_bare d) L = (is_context (look ms d) ≡ true) × (L ≡ unknown ∷ (scope_of (look ms d)).entries)

-- Each number of the trail is a context, and the entries behind its own are as many as its place.
abbrev pub Trailing : List Link → List ℕ → Locals → Type 0
Trailing ms trail L = (d : ℕ) → d < length trail → (o : Scope (Unit {0})) × (M : Locals) × (look ms (get_or trail d 0) ≡ context o) × (L ≡ M ++ o.entries) × (length M ≡ d)

abbrev pub Linked : List Link → Link → Type 0
Linked ms nothing = Unit {0}
Linked ms (context s) = Rooted ms s.made s.entries × Trailing ms s.trail s.entries
Linked ms (judgement c s t T) = look ms c ≡ context s
Linked ms (comparison c s t u) = look ms c ≡ context s

abbrev pub AllLinked : List Link → Type 0
AllLinked ms = (k : ℕ) → Linked ms (look ms k)

-- What is there stays there.
look_or_nothing : (ms : List Link) (k : ℕ) → (k < length ms) ⊎ (length ms ≤ k)
look_or_nothing ms k = grind arith

-- What a test accepts that refuses nothing is there, and so stays.
module _ (test : Link → Bool) (refuses : test nothing ≡ false) (ms xs : List Link) where
  stays : (k : ℕ) → test (look ms k) ≡ true → (k < length ms) ⊎ (length ms ≤ k) → look (ms ++ xs) k ≡ look ms k
  stays k h (inl p) = look_before ms xs k p
  stays k h (inr p) = absurd (cc (sym h ∙ ap test (look_past ms k p) ∙ refuses))

pub judgement_stays : (ms xs : List Link) (k : ℕ) → is_judgement (look ms k) ≡ true → look (ms ++ xs) k ≡ look ms k
judgement_stays ms xs k h = stays is_judgement refl ms xs k h (look_or_nothing ms k)

pub context_stays : (ms xs : List Link) (k : ℕ) → is_context (look ms k) ≡ true → look (ms ++ xs) k ≡ look ms k
context_stays ms xs k h = stays is_context refl ms xs k h (look_or_nothing ms k)

pub is_context_scope : (m : Link) → is_context m ≡ true → m ≡ context (scope_of m)
is_context_scope (context s) h = refl
is_context_scope nothing h = absurd (cc h)
is_context_scope (judgement c s t T) h = absurd (cc h)
is_context_scope (comparison c s t u) h = absurd (cc h)

pub at_context : (ms xs : List Link) (k : ℕ) (s : Scope (Unit {0})) → look ms k ≡ context s → look (ms ++ xs) k ≡ context s
at_context ms xs k s e = context_stays ms xs k (ap is_context e) ∙ e

rooted_stays : (ms xs : List Link) (m : Made) (L : Locals) → Rooted ms m L → Rooted (ms ++ xs) m L
rooted_stays ms xs by_empty L r = r
rooted_stays ms xs (by_assume p d) L r = rw (judgement_stays ms xs p r.0) r
rooted_stays ms xs (by_define p d) L r = rw (judgement_stays ms xs p r.0) r
rooted_stays ms xs (by_bare d) L r = rw (context_stays ms xs d r.0) r

trailing_stays : (ms xs : List Link) (trail : List ℕ) (L : Locals) → Trailing ms trail L → Trailing (ms ++ xs) trail L
trailing_stays ms xs trail L r d h = let (o, M, at, is, long) = r d h in (o, M, at_context ms xs (get_or trail d 0) o at, is, long)

pub linked_stays : (ms xs : List Link) (m : Link) → Linked ms m → Linked (ms ++ xs) m
linked_stays ms xs nothing r = tt
linked_stays ms xs (context s) r = (rooted_stays ms xs s.made s.entries r.0, trailing_stays ms xs s.trail s.entries r.1)
linked_stays ms xs (judgement c s t T) r = at_context ms xs c s r
linked_stays ms xs (comparison c s t u) r = at_context ms xs c s r

-- The context that a judgement, or a comparison, is in.
pub judged_in : (ms : List Link) (m : Link) → is_judgement m ≡ true → Linked ms m → look ms (place_of m) ≡ context (scope_of m)
judged_in ms nothing h r = absurd (cc h)
judged_in ms (context s) h r = absurd (cc h)
judged_in ms (judgement c s t T) h r = r
judged_in ms (comparison c s t u) h r = absurd (cc h)

pub compared_at : (ms : List Link) (m : Link) → is_comparison m ≡ true → Linked ms m → look ms (place_of m) ≡ context (scope_of m)
compared_at ms nothing h r = absurd (cc h)
compared_at ms (context s) h r = absurd (cc h)
compared_at ms (judgement c s t T) h r = absurd (cc h)
compared_at ms (comparison c s t u) h r = r

-- The trail of a context with one entry more than one that is there.
longer_trailing : (ms : List Link) (m : Made) (e : Local (Unit {0})) (o : Scope (Unit {0})) → Trailing ms o.trail o.entries → Trailing (ms ++ context (longer (length ms) m e o) ∷ []) (length ms ∷ o.trail) (e ∷ o.entries)
longer_trailing ms m e o r zero h = (longer (length ms) m e o, [], look_at ms (context (longer (length ms) m e o)) [], refl, refl)
longer_trailing ms m e o r (suc d) h =
    let (q, M, at, is, long) = r d (omega arith) in
    (q, e ∷ M, at_context ms (context (longer (length ms) m e o) ∷ []) (get_or o.trail d 0) q at, ap (λ L. e ∷ L) is, ap suc long)

root_trailing : (ms : List Link) → Trailing (ms ++ context (record { made = by_empty; entries = []; trail = length ms ∷ [] }) ∷ []) (length ms ∷ []) []
root_trailing ms zero h = (record { made = by_empty; entries = []; trail = length ms ∷ [] }, [], look_at ms (context (record { made = by_empty; entries = []; trail = length ms ∷ [] })) [], refl, refl)
root_trailing ms (suc d) h = absurd (omega arith)

pub context_trailing : (ms : List Link) (d : ℕ) (o : Scope (Unit {0})) → AllLinked ms → look ms d ≡ context o → Trailing ms o.trail o.entries
context_trailing ms d o linked e = (subst (Linked ms) e (linked d)).1

judgement_trailing : (ms : List Link) (p : ℕ) → AllLinked ms → is_judgement (look ms p) ≡ true → Trailing ms (scope_of (look ms p)).trail (scope_of (look ms p)).entries
judgement_trailing ms p linked h = context_trailing ms (place_of (look ms p)) (scope_of (look ms p)) linked (judged_in ms (look ms p) h (linked p))

-- The new line fits what its links say.
module _ (S : Specification) (G : Front) (ms : List Link) (linked : AllLinked ms) (l : Plain) where
  abbrev pub Fits : Form → Type 0
  Fits f = Linked (ms ++ say_as f (length ms) l (look ms l.ctx) (look ms l.first) ∷ []) (say_as f (length ms) l (look ms l.ctx) (look ms l.first))

  abbrev pub Faultless : Form → Type 0
  Faultless f = form_fault S G f l (look ms l.ctx) (look ms l.first) (look ms l.second) (look ms l.third) ≡ None

  placed : (xs : List Link) → is_context (look ms l.ctx) ≡ true → look (ms ++ xs) l.ctx ≡ context (scope_of (look ms l.ctx))
  placed xs h = context_stays ms xs l.ctx h ∙ is_context_scope (look ms l.ctx) h

  typed_placed : (xs : List Link) → is_typed_context (look ms l.ctx) ≡ true → look (ms ++ xs) l.ctx ≡ context (scope_of (look ms l.ctx))
  typed_placed xs h = placed xs (both _ _ h).0

  pub fits : (f : Form) → Faultless f → Fits f
  fits Empty h = (refl, root_trailing ms)
  fits Assume h =
      let a = (all_pass (assume_conditions (look ms l.first)) h).0 in
      ((rw (judgement_stays ms _ l.first a) (a, refl, ap (λ e. e ∷ (scope_of (look ms l.first)).entries) (assumed_is (look ms l.first) a))), longer_trailing ms _ _ (scope_of (look ms l.first)) (judgement_trailing ms l.first linked a))
  fits Define h =
      let a = (all_pass (define_conditions (look ms l.first)) h).0 in
      ((rw (judgement_stays ms _ l.first a) (a, refl, ap (λ e. e ∷ (scope_of (look ms l.first)).entries) (defined_is (look ms l.first) a))), longer_trailing ms _ _ (scope_of (look ms l.first)) (judgement_trailing ms l.first linked a))
  fits BareForm h =
      let a = (all_pass (bare_conditions (look ms l.ctx)) h).0 in
      ((rw (context_stays ms _ l.ctx a) (a, refl)), longer_trailing ms _ _ (scope_of (look ms l.ctx)) (context_trailing ms l.ctx _ linked (is_context_scope (look ms l.ctx) a)))
  fits SortAt h = typed_placed _ (all_pass (sort_conditions S l (look ms l.ctx)) h).0
  fits ConstAt h = typed_placed _ (all_pass (const_conditions G l (look ms l.ctx)) h).0
  fits VarAt h = typed_placed _ (all_pass (var_conditions l (look ms l.ctx)) h).0
  fits Thin h = typed_placed _ (all_pass (thin_conditions l (look ms l.ctx) (look ms l.first)) h).0
  fits PiAt h = typed_placed _ (ordered_pass (judgement_kinds (look ms l.ctx) (look ms l.first) (look ms l.second)) (pi_places l (look ms l.first) (look ms l.second)) (pi_terms S l (look ms l.first) (look ms l.second)) h).0.0
  fits LamAt h = typed_placed _ (ordered_pass (judgement_kinds (look ms l.ctx) (look ms l.first) (look ms l.second)) (lam_places l (look ms l.first) (look ms l.second)) (lam_terms l (look ms l.first) (look ms l.second)) h).0.0
  fits AppAt h = typed_placed _ (ordered_pass (judgement_kinds (look ms l.ctx) (look ms l.first) (look ms l.second)) (both_places l (look ms l.first) (look ms l.second)) (app_terms l (look ms l.first) (look ms l.second)) h).0.0
  fits LetSort h = typed_placed _ (pair_passes (let_kinds (look ms l.ctx) (look ms l.first)) (letsort_terms l (look ms l.first)) h).0.0
  fits LetAt h = typed_placed _ (ordered_pass (judgement_kinds (look ms l.ctx) (look ms l.first) (look ms l.second)) (let_places l (look ms l.first) (look ms l.second)) (let_terms l (look ms l.first) (look ms l.second)) h).0.0
  fits Conv h = typed_placed _ (ordered_pass (judgement_kinds (look ms l.ctx) (look ms l.first) (look ms l.second)) (conv_places l (look ms l.first) (look ms l.second) (look ms l.third)) (conv_terms l (look ms l.first) (look ms l.second) (look ms l.third)) h).0.0
  fits Same h = placed _ (all_pass (same_conditions l (look ms l.ctx)) h).0
  fits Left h = placed _ (all_pass (left_conditions G l (look ms l.ctx) (look ms l.first)) h).0
  fits Right h = placed _ (all_pass (right_conditions G l (look ms l.ctx) (look ms l.first)) h).0
  fits CongApp h = placed _ (ordered_pass (comparison_kinds (look ms l.ctx) (look ms l.first) (look ms l.second)) (both_places l (look ms l.first) (look ms l.second)) (capp_terms l (look ms l.first) (look ms l.second)) h).0.0
  fits CongLam h = placed _ (ordered_pass (comparison_kinds (look ms l.ctx) (look ms l.first) (look ms l.second)) (binder_places l (look ms l.first) (look ms l.second)) (clam_terms l (look ms l.first) (look ms l.second)) h).0.0
  fits CongPi h = placed _ (ordered_pass (comparison_kinds (look ms l.ctx) (look ms l.first) (look ms l.second)) (binder_places l (look ms l.first) (look ms l.second)) (cpi_terms l (look ms l.first) (look ms l.second)) h).0.0
