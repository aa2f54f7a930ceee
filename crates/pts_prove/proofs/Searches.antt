-- The search for a match.
use Rattle.std.proofs.Common.{◌≡◌, ℕ, zero, suc, ◌+◌, ◌-◌, ◌<◌, ◌≤◌, List, [], ◌∷◌, length, Option, Some, None, Result, Ok, Err, refl, sym, ap, ◌∙◌, subst, arith}
use Rattle.std.specs.Global.{Vec}
use Rattle.std.specs.Prelude.{IfSome}
use Rattle.std.specs.Result.{IsErr, IsErrAnd}
use Rattle.std.proofs.lemmas.List.{length-map}
use Rattle.pts_terms.specs.Tree.{Named, sort}
use Rattle.pts_ctx.specs.Front.{unknown, bare_front}
use Rattle.pts_record.specs.Said.{scope_of, is_context}
use Rattle.pts_rules.specs.Meter.{left, charged}
use Rattle.pts_rules.specs.Valid.{IsValid}
use Rattle.pts_reduce.proofs.Paid.{later_paid}
use Rattle.pts_reduce_cost.specs.Costs.{Globals, Entries, form, too_large, Reduces}
use Rattle.pts_reduce_cost.specs.Laws.{WithinBudget}
use Rattle.pts_infer_cost.specs.Typing as typing
use Rattle.pts_infer_cost.specs.Typing.{by_limits, Outcome, comes, as_product}
use Rattle.pts_grow.specs.declared.compared.Compared.{Compared}
use Rattle.pts_grow.specs.Keeps.{Keeps, IsBareOf}
use Rattle.pts_grow.proofs.Grow.{keeps_refl}
use Rattle.pts_reduce.specs.Answered.{Refused as NotReduced}
use Rattle.pts_reduce.specs.Chain.{entries_of}
use Rattle.pts_reduce.specs.declared.fault.ReduceFault.{ReduceFault}
use Rattle.pts_match.specs.declared.subterm.Subterm.{Subterm}
use Rattle.pts_match.specs.Matching.{Assignment, AreClear, match_of}
use Rattle.pts_match.specs.Laws.{Allows}
use Rattle.pts_match.proofs.Solutions.{matches_sound}
use Rattle.pts_prove_cost.specs.Combining.{After, Free}
use Rattle.pts_prove_cost.specs.Commands.{Refusal, no_match, formed, Opened, form_opens, opens_as, tries, attempt, searches}
use Rattle.pts_prove_cost.proofs.OnBudget.{free_comes, paid_comes, unpaid_above}
use Rattle.pts_prove_cost.proofs.OneOutcome.{one_form, one_opening, one_try}
use Rattle.pts_prove.specs.declared.fault.ProveFault.{ProveFault}
use Rattle.pts_prove.specs.declared.fault.ProveFault.TheVariants as fault
use Rattle.pts_prove.specs.declared.work.Work.{Work}
use Rattle.pts_prove.specs.declared.work.Pattern.{Pattern}
use Rattle.pts_prove.specs.declared.work.Product.{Product}
use Rattle.pts_prove.specs.Answered.{Refuses, Tells, of_reduction}
use Rattle.pts_prove.specs.Works.{Grown, HasTerm, Came, term_in}
use Rattle.pts_prove.specs.Applications.{IsPattern, IsUnderProduct, AreFound, found_in, match_in, product_at, trying, searching, reducing, opening_pattern, opening_pattern_form}
use Rattle.pts_prove.proofs.Running.{stops, goes_on, hands, comes_to, told}
use Rattle.pts_prove.proofs.Since.{entries_stay, term_stays, ended}
use Rattle.pts_prove.proofs.Openings.{form_fault}
use Rattle.pts_prove.proofs.Working.{grown_trans, term_later}
use Rattle.pts_prove.proofs.LemmaFirst.{unpaid}

-- A match has as many terms as the pattern has variables.
abbrev any_terms : Assignment → List Named
any_terms [] = []
any_terms (None ∷ s) = sort 0 ∷ any_terms s
any_terms (Some a ∷ s) = a ∷ any_terms s

any_allowed : (s : Assignment) → Allows s (any_terms s)
any_allowed [] = tt
any_allowed (None ∷ s) = any_allowed s
any_allowed (Some a ∷ s) = (refl, any_allowed s)

any_length : (s : Assignment) → length (any_terms s) ≡ length s
any_length [] = refl
any_length (None ∷ s) = ap suc (any_length s)
any_length (Some a ∷ s) = ap suc (any_length s)

match_length : (k : ℕ) (C g : Named) (s : Assignment) → match_of k C g ≡ Some s → length s ≡ k
match_length k C g s e = sym (any_length s) ∙ ((matches_sound k C g s e (any_terms s)).0 (any_allowed s)).0

pub are_found : (w : Work) (k : ℕ) (C g : Named) (o : Option (Vec (Option Subterm))) → match_in w o ≡ match_of k C g → IfSome o (λ f. AreClear w.proof.now.shapes f.items) → IfSome o (λ f. AreFound w k f.items)
are_found w k C g None e h = tt
are_found w k C g (Some f) e h = record { clear = h; length = sym (length-map f.items _) ∙ match_length k C g (found_in w f) (sym e) }

pub found_at : (w : Work) (p : Pattern) (g : ℕ) (o : Option (Vec (Option Subterm))) → match_in w o ≡ match_of p.taken (term_in w p.ty) (term_in w g) → IfSome o (λ f. AreClear w.proof.now.shapes f.items) → IfSome o (λ f. AreFound w p.taken f.items)
found_at w p g o e h = are_found w p.taken (term_in w p.ty) (term_in w g) o e h

pub found_itself : {w : Work} {k : ℕ} {fs : List (Option Subterm)} → AreFound w k fs → AreFound w (length fs) fs
found_itself h = record { clear = h.clear; length = refl }

-- A unit that is paid.
pub pays : {a b : Work} → b.system ≡ a.system → b.front ≡ a.front → b.names ≡ a.names → b.proof ≡ a.proof → b.meter.ghost_name ≡ a.meter.ghost_name → b.meter.now ≡ charged a.meter.now 1 → a.meter.now.spent ≤ a.meter.now.limit → Grown a b
pays {a} {b} p q n r m c l = record {
  system = p;
  front = q;
  names = n;
  record_name = ap (λ x. x.ghost_name) r;
  meter_name = m;
  keeps = subst (λ x. Keeps a.proof.now x.now) (sym r) (keeps_refl a.proof.now);
  valid = λ v. subst (λ x. IsValid a.system.now (bare_front a.front.now.entries) x.now) (sym r) v;
  later = later_paid a.meter.now b.meter.now c l;
}

-- One attempt.
module _ {a b : Work} (p : Pattern) (g : ℕ) where
  pub attempt_unpaid : {X : Type 0} {value : X → Option Assignment} {r : Result X ProveFault} {e : ProveFault} → IsErr r × IsErrAnd r (λ x. x ≡ e) → (e ≡ fault.Spent) × (left a.meter.now ≡ 0) × (left b.meter.now ≡ 0) → Came a b value r (trying a p g)
  attempt_unpaid {value = value} {e = e} i h =
      let s : Came a b value (Err e) (trying a p g) = record { answers = subst (λ f. Refuses b.names.now (trying a p g) f (left a.meter.now) (left b.meter.now)) (sym h.0) (unpaid_above _ (left a.meter.now) h.1, h.2) } in
      hands i s

  pub attempt_comes : (o : Option (Vec (Option Subterm))) → Grown a b → HasTerm a p.ty → HasTerm a g → left a.meter.now ≡ suc (left b.meter.now) → match_in b o ≡ match_of p.taken (term_in b p.ty) (term_in b g) → Came a b (match_in b) (Ok o) (trying a p g)
  attempt_comes o n t u h e =
      let x = ap (λ y. match_of p.taken y (term_in b g)) (term_stays n t) in
      let y = ap (match_of p.taken (term_in a p.ty)) (term_stays n u) in
      record {
        answers = subst (λ v. WithinBudget (trying a p g) (left a.meter.now) (comes v) (left b.meter.now)) (sym (e ∙ x ∙ y)) (paid_comes _ (left a.meter.now) (left b.meter.now) (left b.meter.now) _ h (free_comes _ (left b.meter.now)));
      }

-- A form.
pub reduced_value : {a b : Work} {o : Compared} (c t : ℕ) → WithinBudget (Reduces a.front.now.entries (entries_of a.proof.now c) (term_in a t)) (left a.meter.now) (form (term_in b o.right)) (left b.meter.now) → Came a b (λ (o : Compared). term_in b o.right) (Ok o) (reducing a c t)
reduced_value c t w = record { answers = (w.0, formed w.1, w.2) }

pub reduced_fault : {X : Type 0} {a b : Work} {value : X → Named} {f : ProveFault} (c t : ℕ) (e : ReduceFault) → f ≡ of_reduction e → NotReduced (Reduces a.front.now.entries (entries_of a.proof.now c) (term_in a t)) too_large e (left a.meter.now) (left b.meter.now) → Came a b value (Err f) (reducing a c t)
reduced_fault c t e q w = form_fault (record { ctx = c; statement = t }) e q w

-- A term that is a product, and one that is none.
pub product_found : {a : Work} {p : Product} (why : Named → Refusal) → as_product (term_in a p.term) ≡ Some (term_in a p.domain, term_in a p.body) → Came a a (product_at a) (Ok p) (form_opens why (term_in a p.term) (as_product (term_in a p.term)))
product_found {a} {p} why e = comes_to (ap (form_opens why (term_in a p.term)) (sym e)) (ended (product_at a p) refl)

pub no_product : {X : Type 0} {a : Work} {value : X → Opened} {e : ProveFault} (why : Named → Refusal) (t : Named) → as_product t ≡ None → Tells a.names.now (why t) e → Came a a value (Err e) (form_opens why t (as_product t))
no_product why t q d = comes_to (ap (form_opens why t) (sym q)) (told d)

pub product_standing : {a : Work} {p : Product} (why : Named → Refusal) (c : ℕ) → as_product (term_in a p.term) ≡ Some (term_in a p.domain, term_in a p.body) → Came a a (product_at a) (Ok p) (opens_as a.front.now.entries (entries_of a.proof.now c) why (term_in a p.term) (as_product (term_in a p.term)))
product_standing {a} {p} why c e = comes_to (ap (opens_as a.front.now.entries (entries_of a.proof.now c) why (term_in a p.term)) (sym e)) (ended (product_at a p) refl)

-- The product that a pattern is.
module _ {a b : Work} (p : Pattern) where
  pub pattern_unreduced : {r : Result Product ProveFault} {e : ProveFault} → IsErr r × IsErrAnd r (λ x. x ≡ e) → Came a b (λ (o : Compared). term_in b o.right) (Err e) (reducing a p.ctx p.ty) → Came a b (product_at b) r (opening_pattern_form a p)
  pattern_unreduced i v = stops _ i v

  pub pattern_reduced : {r : Result Product ProveFault} {o : Compared} → Came a b (λ (o : Compared). term_in b o.right) (Ok o) (reducing a p.ctx p.ty) → Came b b (product_at b) r (form_opens (λ v. no_match p.taken) (term_in b o.right) (as_product (term_in b o.right))) → Came a b (product_at b) r (opening_pattern_form a p)
  pattern_reduced v u = goes_on _ (one_form a.front.now.entries (entries_of a.proof.now p.ctx) (term_in a p.ty)) v u

  pub pattern_by_form : {r : Result Product ProveFault} → as_product (term_in a p.ty) ≡ None → Came a b (product_at b) r (opening_pattern_form a p) → Came a b (product_at b) r (opening_pattern a p)
  pattern_by_form e v = comes_to (ap (opens_as a.front.now.entries (entries_of a.proof.now p.ctx) (λ v. no_match p.taken) (term_in a p.ty)) (sym e)) v

pub pattern_since : {a b : Work} {p : Pattern} → Grown a b → IsPattern a p → opening_pattern b p ≡ opening_pattern a p
pattern_since {a} {b} {p} g h =
    let f = g.front in
    let e = entries_stay a.proof.now b.proof.now p.ctx g.keeps h.ctx.there in
    let x = term_stays g h.ty in
    rw (f, e, x) refl

-- The pattern under the product.
pub is_under : {b : Work} {c : ℕ} (p : Pattern) (t : ℕ) → IsBareOf b.proof.now p.ctx c → IsUnderProduct b p t (record { ctx = c; ty = t; taken = p.taken + 1 })
is_under p t q = record { ctx = record { there = q.0; context = ap is_context q.1 }; entries = ap (λ m. (scope_of m).entries) q.1; ty = refl; taken = refl }

pub pattern_under : {a b : Work} {t c : ℕ} (p : Pattern) → Grown a b → HasTerm a t → p.taken < 2000 → IsBareOf b.proof.now p.ctx c → IsPattern b (record { ctx = c; ty = t; taken = p.taken + 1 })
pattern_under p g h l q =
    let n : p.taken + 1 ≤ 2000 = omega (arith, l) in
    record { ctx = record { there = q.0; context = ap is_context q.1 }; ty = term_later g h; few = n }

-- The search is an attempt, and what follows.
abbrev goes_under : Globals → Named → (d k : ℕ) → Entries → Named → Outcome Refusal Assignment → ℕ → Type 0
goes_under G g zero k L B = Free (typing.stops by_limits)
goes_under G g (suc d) k L B = searches G g d (suc k) (unknown ∷ L) B

searches_is : (G : Globals) (g : Named) (d k : ℕ) (L : Entries) (C : Named) → After (tries k C g) (attempt G k L C (goes_under G g d k L)) ≡ searches G g d k L C
searches_is G g zero k L C = refl
searches_is G g (suc d) k L C = refl

module _ {a : Work} {p : Pattern} (g : ℕ) (q : IsPattern a p) where
  search_is : After (trying a p g) (attempt a.front.now.entries p.taken (entries_of a.proof.now p.ctx) (term_in a p.ty) (goes_under a.front.now.entries (term_in a g) (2000 - p.taken) p.taken (entries_of a.proof.now p.ctx))) ≡ searching a p g
  search_is = searches_is a.front.now.entries (term_in a g) (2000 - p.taken) p.taken (entries_of a.proof.now p.ctx) (term_in a p.ty)

module _ {a b : Work} {p : Pattern} (g : ℕ) (q : IsPattern a p) where
  pub search_untried : {r : Result (Vec (Option Subterm)) ProveFault} {e : ProveFault} → IsErr r × IsErrAnd r (λ x. x ≡ e) → Came a b (match_in b) (Err e) (trying a p g) → Came a b (found_in b) r (searching a p g)
  search_untried i v = comes_to (search_is g q) (stops _ i v)

  pub search_found : {f : Vec (Option Subterm)} {o : Option (Vec (Option Subterm))} → o ≡ Some f → Came a b (match_in b) (Ok o) (trying a p g) → Came a b (found_in b) (Ok f) (searching a p g)
  search_found {f} {o} e v =
      let w = subst (λ o. Came a b (match_in b) (Ok o) (trying a p g)) e v in
      comes_to (search_is g q) (goes_on _ (one_try p.taken (term_in a p.ty) (term_in a g)) w (ended (found_in b f) refl))

  -- there is no match
  module _ {o : Option (Vec (Option Subterm))} (n : Grown a b) (e : o ≡ None) (v : Came a b (match_in b) (Ok o) (trying a p g)) where
    search_goes_on : {c : Work} {r : Result (Vec (Option Subterm)) ProveFault} → Came b c (found_in c) r (attempt a.front.now.entries p.taken (entries_of a.proof.now p.ctx) (term_in a p.ty) (goes_under a.front.now.entries (term_in a g) (2000 - p.taken) p.taken (entries_of a.proof.now p.ctx)) None) → Came a c (found_in c) r (searching a p g)
    search_goes_on u =
        let w = subst (λ o. Came a b (match_in b) (Ok o) (trying a p g)) e v in
        comes_to (search_is g q) (goes_on _ (one_try p.taken (term_in a p.ty) (term_in a g)) w u)

    pub search_closed : {c : Work} {r : Result (Vec (Option Subterm)) ProveFault} {x : ProveFault} → IsErr r × IsErrAnd r (λ y. y ≡ x) → Came b c (product_at c) (Err x) (opening_pattern b p) → Came a c (found_in c) r (searching a p g)
    search_closed i u = search_goes_on (stops _ i (comes_to (pattern_since n q) u))

    module _ {c : Work} {d : Product} (u : Came b c (product_at c) (Ok d) (opening_pattern b p)) where
      search_opened : {k : Work} {r : Result (Vec (Option Subterm)) ProveFault} → Came c k (found_in k) r (goes_under a.front.now.entries (term_in a g) (2000 - p.taken) p.taken (entries_of a.proof.now p.ctx) (term_in c d.body)) → Came a k (found_in k) r (searching a p g)
      search_opened w = search_goes_on (goes_on _ (one_opening a.front.now.entries (entries_of a.proof.now p.ctx) (λ v. no_match p.taken) (term_in a p.ty)) (comes_to (pattern_since n q) u) w)

      pub search_last : p.taken ≡ 2000 → Came a c (found_in c) (Err fault.Deep) (searching a p g)
      search_last h =
          let z : 0 ≡ 2000 - p.taken = omega (arith, h) in
          let s : Came c c (found_in c) (Err fault.Deep) (goes_under a.front.now.entries (term_in a g) 0 p.taken (entries_of a.proof.now p.ctx) (term_in c d.body)) = record { answers = free_comes (typing.stops by_limits) (left c.meter.now) } in
          search_opened (comes_to (ap (λ j. goes_under a.front.now.entries (term_in a g) j p.taken (entries_of a.proof.now p.ctx) (term_in c d.body)) z) s)

      pub search_next : {m k : Work} {s : Pattern} {r : Result (Vec (Option Subterm)) ProveFault} → Grown b c → Grown c m → m.meter ≡ c.meter → HasTerm a g → HasTerm c d.body → p.taken < 2000 → IsUnderProduct m p d.body s → Came m k (found_in k) r (searching m s g) → Came a k (found_in k) r (searching a p g)
      search_next {m} {k} {s} {r} j l y t x h i w =
          let o = grown_trans (grown_trans n j) l in
          let f = o.front in
          let x1 : entries_of m.proof.now s.ctx ≡ unknown ∷ entries_of a.proof.now p.ctx = i.entries ∙ ap (λ L. unknown ∷ L) (entries_stay a.proof.now m.proof.now p.ctx o.keeps q.ctx.there) in
          let x2 = term_stays o t in
          let x3 : term_in m s.ty ≡ term_in c d.body = ap (term_in m) i.ty ∙ term_stays l x in
          let x4 : s.taken ≡ suc p.taken = i.taken ∙ omega arith in
          let z : suc (2000 - suc p.taken) ≡ 2000 - p.taken = omega (arith, h) in
          let same : searching m s g ≡ goes_under a.front.now.entries (term_in a g) (suc (2000 - suc p.taken)) p.taken (entries_of a.proof.now p.ctx) (term_in c d.body) = rw (f, x1, x2, x3, x4) refl in
          search_opened (unpaid y (comes_to (same ∙ ap (λ j. goes_under a.front.now.entries (term_in a g) j p.taken (entries_of a.proof.now p.ctx) (term_in c d.body)) z) w))

pub few_parts : {w : Work} {p : Pattern} {a : Work} (fs : List (Option Subterm)) → IsPattern a p → AreFound w p.taken fs → length fs ≤ 2000
few_parts fs h f = let l = h.few in let e = f.length in omega (arith, l, e)

pub ruleset attempting = (are_found, found_itself, few_parts)
