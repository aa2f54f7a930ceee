-- Soundness of valid records, and what their conclusions are good for.
use Rattle.std.proofs.Common.{ℕ, List, [], ◌∷◌, ◌++◌, ◌⊎◌, length, true, ◌≡◌, ◌<◌, refl, sym, ap, ◌∙◌, arith, Option, Some, None}
use Rattle.std.specs.Prelude.{◌&&◌, is_some}
use mathlib.Core.Logic.{inl, inr}
use mathlib.Core.Path.{subst}
use Rattle.pts_terms.specs.Tree.{Bare, sort, same_term}
use Rattle.pts_terms.proofs.Same.{both, same_term_eq}
use Rattle.pts_ctx.specs.System.{Specification}
use Rattle.pts_ctx.specs.Front.{Global, Front, Fresh, Locals}
use Rattle.pts_record.specs.declared.shape.Form.{Form}
use Rattle.pts_record.specs.declared.shape.Form.TheVariants.{Empty, Assume, Define, Bare as BareForm, SortAt, ConstAt, VarAt, Thin, PiAt, LamAt, AppAt, LetSort, LetAt, Conv, Same, Left, Right, CongApp, CongLam, CongPi}
use Rattle.pts_record.specs.Table.{Tables}
use Rattle.pts_record.specs.Said.{nothing, context, judgement, comparison, look, claim_of, scope_of, say_as, say, said_behind, rows_of, told}
use Rattle.pts_record.proofs.Looked.{look_before, look_at, look_past, one_longer}
use Rattle.pts_rules.specs.declared.why.Why.{Why}
use Rattle.pts_rules.specs.Derives.{Derives, Legal, legal_assumption, legal_definition}
use Rattle.pts_rules.specs.WellFormed.{WellFormed, no_entries, and_assumed, and_defined}
use Rattle.pts_rules.specs.Parts.{sort_in}
use Rattle.pts_rules.specs.Conditions.{Plain, Link, form_fault, assume_conditions, define_conditions, sort_conditions, const_conditions, var_conditions, thin_conditions, judgement_kinds, comparison_kinds, pi_places, pi_terms, lam_places, lam_terms, both_places, app_terms, let_kinds, letsort_terms, let_places, let_terms, conv_places, conv_terms, same_conditions, left_conditions, right_conditions, capp_terms, binder_places, clam_terms, cpi_terms}
use Rattle.pts_rules.specs.Valid.{fault, or_later, first_fault_behind, first_fault, IsValid, is_empty, concludes_as, concludes, last_said}
use Rattle.pts_rules.specs.Laws.{Stands}
use Rattle.pts_rules.proofs.Passing.{all_pass, ordered_pass, pair_passes, some_is, sort_is}
use Rattle.pts_rules.proofs.Moved.{moved, moved_in}
use Rattle.pts_rules.proofs.Linked.{AllLinked, Linked, fits, linked_stays, assumed_is, defined_is}
use Rattle.pts_rules.proofs.Rows.{AllStand, judged, sort_row, const_row, var_row, thin_row, pi_row, lam_row, app_row, letsort_row, let_row, conv_row, same_row, left_row, right_row, capp_row, clam_row, cpi_row}

module _ (S : Specification) (G : Front) (legal : Legal S G) (ms : List Link) (linked : AllLinked ms) (stand : AllStand S G ms) (l : Plain) where
  -- What a line without a fault says is so.
  row : (f : Form) → form_fault S G f l (look ms l.ctx) (look ms l.first) (look ms l.second) (look ms l.third) ≡ None → Stands S G (say_as f (length ms) l (look ms l.ctx) (look ms l.first))
  row Empty h = λ t. no_entries
  row Assume h =
      let a = all_pass (assume_conditions (look ms l.first)) h in
      let (w, j) = judged (look ms l.first) a.0 (stand l.first) in
      let (s, e) = some_is (sort_in (claim_of (look ms l.first))) a.1.0 in
      λ t. subst (λ x. WellFormed S G (x ∷ (scope_of (look ms l.first)).entries)) (sym (assumed_is (look ms l.first) a.0)) (and_assumed w (moved refl (sort_is _ s e) j))
  row Define h =
      let a = (all_pass (define_conditions (look ms l.first)) h).0 in
      let (w, j) = judged (look ms l.first) a (stand l.first) in
      λ t. subst (λ x. WellFormed S G (x ∷ (scope_of (look ms l.first)).entries)) (sym (defined_is (look ms l.first) a)) (and_defined w j)
  row BareForm h = λ t. absurd (cc t)
  row SortAt h = sort_row S G legal ms linked stand l (all_pass (sort_conditions S l (look ms l.ctx)) h)
  row ConstAt h = const_row S G legal ms linked stand l (all_pass (const_conditions G l (look ms l.ctx)) h)
  row VarAt h = var_row S G legal ms linked stand l (all_pass (var_conditions l (look ms l.ctx)) h)
  row Thin h = thin_row S G legal ms linked stand l (all_pass (thin_conditions l (look ms l.ctx) (look ms l.first)) h)
  row PiAt h =
      let (k, i, t) = ordered_pass (judgement_kinds (look ms l.ctx) (look ms l.first) (look ms l.second)) (pi_places l (look ms l.first) (look ms l.second)) (pi_terms S l (look ms l.first) (look ms l.second)) h in
      pi_row S G legal ms linked stand l k i t
  row LamAt h =
      let (k, i, t) = ordered_pass (judgement_kinds (look ms l.ctx) (look ms l.first) (look ms l.second)) (lam_places l (look ms l.first) (look ms l.second)) (lam_terms l (look ms l.first) (look ms l.second)) h in
      lam_row S G legal ms linked stand l k i t
  row AppAt h =
      let (k, i, t) = ordered_pass (judgement_kinds (look ms l.ctx) (look ms l.first) (look ms l.second)) (both_places l (look ms l.first) (look ms l.second)) (app_terms l (look ms l.first) (look ms l.second)) h in
      app_row S G legal ms linked stand l k i t
  row LetSort h =
      let (k, t) = pair_passes (let_kinds (look ms l.ctx) (look ms l.first)) (letsort_terms l (look ms l.first)) h in
      letsort_row S G legal ms linked stand l k t
  row LetAt h =
      let (k, i, t) = ordered_pass (judgement_kinds (look ms l.ctx) (look ms l.first) (look ms l.second)) (let_places l (look ms l.first) (look ms l.second)) (let_terms l (look ms l.first) (look ms l.second)) h in
      let_row S G legal ms linked stand l k i t
  row Conv h =
      let (k, i, t) = ordered_pass (judgement_kinds (look ms l.ctx) (look ms l.first) (look ms l.second)) (conv_places l (look ms l.first) (look ms l.second) (look ms l.third)) (conv_terms l (look ms l.first) (look ms l.second) (look ms l.third)) h in
      conv_row S G legal ms linked stand l k i t
  row Same h = same_row S G legal ms linked stand l (all_pass (same_conditions l (look ms l.ctx)) h)
  row Left h = left_row S G legal ms linked stand l (all_pass (left_conditions G l (look ms l.ctx) (look ms l.first)) h)
  row Right h = right_row S G legal ms linked stand l (all_pass (right_conditions G l (look ms l.ctx) (look ms l.first)) h)
  row CongApp h =
      let (k, i, t) = ordered_pass (comparison_kinds (look ms l.ctx) (look ms l.first) (look ms l.second)) (both_places l (look ms l.first) (look ms l.second)) (capp_terms l (look ms l.first) (look ms l.second)) h in
      capp_row S G legal ms linked stand l k i t
  row CongLam h =
      let (k, i, t) = ordered_pass (comparison_kinds (look ms l.ctx) (look ms l.first) (look ms l.second)) (binder_places l (look ms l.first) (look ms l.second)) (clam_terms l (look ms l.first) (look ms l.second)) h in
      clam_row S G legal ms linked stand l k i t
  row CongPi h =
      let (k, i, t) = ordered_pass (comparison_kinds (look ms l.ctx) (look ms l.first) (look ms l.second)) (binder_places l (look ms l.first) (look ms l.second)) (cpi_terms l (look ms l.first) (look ms l.second)) h in
      cpi_row S G legal ms linked stand l k i t

-- A number of a list that has one item more: an old one, the new one, or one past the end.
pub old_new_or_past : (n k : ℕ) → (k < n) ⊎ ((k ≡ n) ⊎ (n < k))
old_new_or_past n k = grind arith

-- A fact of all that is said, with one more line.
module _ (P : Link → Type 0) (none : P nothing) (ms : List Link) (m : Link) (old : (k : ℕ) → P (look ms k)) (new : P m) where
  at_number : (k : ℕ) → (k < length ms) ⊎ ((k ≡ length ms) ⊎ (length ms < k)) → P (look (ms ++ m ∷ []) k)
  at_number k (inl h) = subst P (sym (look_before ms (m ∷ []) k h)) (old k)
  at_number k (inr (inl e)) = subst P (sym (ap (look (ms ++ m ∷ [])) e ∙ look_at ms m [])) new
  at_number k (inr (inr h)) = subst P (sym (look_past (ms ++ m ∷ []) k (omega (arith, one_longer ms m)))) none

  pub all_more : (k : ℕ) → P (look (ms ++ m ∷ []) k)
  all_more k = at_number k (old_new_or_past (length ms) k)

later_none : (k : ℕ) (w : Option Why) (f : Option (ℕ × Why)) → or_later k w f ≡ None → (w ≡ None) × (f ≡ None)
later_none k None f h = (refl, h)
later_none k (Some w) f h = absurd (cc h)

-- The first line has no fault, nor has a later one.
pub faultless : (S : Specification) (G : Front) (ms : List Link) (l : Plain) (ls : List Plain) → first_fault_behind S G ms (l ∷ ls) ≡ None → (fault S G ms l ≡ None) × (first_fault_behind S G (ms ++ say ms l ∷ []) ls ≡ None)
faultless S G ms l ls h = later_none (length ms) (fault S G ms l) (first_fault_behind S G (ms ++ say ms l ∷ []) ls) h

pub link_line : (S : Specification) (G : Front) (ms : List Link) (l : Plain) → AllLinked ms → fault S G ms l ≡ None → AllLinked (ms ++ say ms l ∷ [])
link_line S G ms l linked h =
    all_more (Linked (ms ++ say ms l ∷ [])) tt ms (say ms l) (λ k. linked_stays ms (say ms l ∷ []) (look ms k) (linked k)) (fits S G ms linked l l.form h)

pub links_behind : (S : Specification) (G : Front) (ms : List Link) (ls : List Plain) → AllLinked ms → first_fault_behind S G ms ls ≡ None → AllLinked (said_behind ms ls)
links_behind S G ms [] linked h = linked
links_behind S G ms (l ∷ ls) linked h =
    let (p, q) = faultless S G ms l ls h in
    links_behind S G (ms ++ say ms l ∷ []) ls (link_line S G ms l linked p) q

pub stand_behind : (S : Specification) (G : Front) (ms : List Link) (ls : List Plain) → Legal S G → AllLinked ms → AllStand S G ms → first_fault_behind S G ms ls ≡ None → AllStand S G (said_behind ms ls)
stand_behind S G ms [] legal linked stand h = stand
stand_behind S G ms (l ∷ ls) legal linked stand h =
    let (p, q) = faultless S G ms l ls h in
    stand_behind S G (ms ++ say ms l ∷ []) ls legal (link_line S G ms l linked p) (all_more (Stands S G) tt ms (say ms l) stand (row S G legal ms linked stand l l.form p)) q

nothing_said : (P : Link → Type 0) → P nothing → (k : ℕ) → P (look [] k)
nothing_said P none k = subst P (sym (look_past [] k (omega arith))) none

-- What each node of a valid record over a legal front says is so.
pub sound : (S : Specification) (G : Front) (r : Tables) → Legal S G → IsValid S G r → (k : ℕ) → Stands S G (told r k)
unfolding first_fault told
sound S G r legal v k = stand_behind S G [] (rows_of r) legal (nothing_said (Linked []) tt) (nothing_said (Stands S G) tt) v k

-- And it fits what its links say.
pub links : (S : Specification) (G : Front) (r : Tables) → IsValid S G r → (k : ℕ) → Linked (said_behind [] (rows_of r)) (told r k)
unfolding first_fault told
links S G r v k = links_behind S G [] (rows_of r) (nothing_said (Linked []) tt) v k

no_locals : (L : Locals) → is_empty L ≡ true → L ≡ []
no_locals [] h = refl
no_locals (e ∷ L) h = absurd (cc h)

-- What a conclusion says, if it is so.
abbrev Concluded : Specification → Front → Option Bare → Bare → Type 0
Concluded S G (Some a) A = Derives S G [] a A
Concluded S G None A = (s : ℕ) × Derives S G [] A (sort s)

concluded : (S : Specification) (G : Front) (m : Link) (o : Option Bare) (A : Bare) → concludes_as m o A ≡ true → Stands S G m → Concluded S G o A
concluded S G (judgement c s t T) (Some a) A h j =
    let (e, r) = both (is_empty s.entries) (same_term t a && same_term T A) h in
    let (p, q) = both (same_term t a) (same_term T A) r in
    moved_in (no_locals s.entries e) (same_term_eq t a p) (same_term_eq T A q) j.1
concluded S G (judgement c s t T) None A h j =
    let (e, r) = both (is_empty s.entries) (same_term t A && is_some (sort_in T)) h in
    let (p, q) = both (same_term t A) (is_some (sort_in T)) r in
    let (z, i) = some_is (sort_in T) q in
    (z, moved_in (no_locals s.entries e) (same_term_eq t A p) (sort_is T z i) j.1)
concluded S G nothing o A h j = absurd (cc h)
concluded S G (context s) o A h j = absurd (cc h)
concluded S G (comparison c s t u) o A h j = absurd (cc h)

longer_legal : (S : Specification) (G : Front) (x : List ℕ) (o : Option Bare) (A : Bare) → Legal S G → Fresh x G → Concluded S G o A → Legal S (G ++ record { name = x; body = o; type = A } ∷ [])
longer_legal S G x None A l f c = legal_assumption x l f c.1
longer_legal S G x (Some a) A l f c = legal_definition x l f c

pub conclusion_legal : (S : Specification) (G : Front) (r : Tables) (e : Global (Unit {0})) → Legal S G → IsValid S G r → Fresh e.name G → concludes r e ≡ true → Legal S (G ++ e ∷ [])
conclusion_legal S G r e l v f c = longer_legal S G e.name e.body e.type l f (concluded S G (last_said r) e.body e.type c (sound S G r l v _))
