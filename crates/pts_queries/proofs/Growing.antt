-- What stays while a line asks under hypotheses.
use Rattle.std.proofs.Common.{◌≡◌, ◌<◌, ℕ, List, [], length, refl, sym, ap, ◌∙◌, subst}
use Rattle.pts_names.specs.Name.{Name}
use Rattle.pts_terms.specs.Tree.{Named}
use Rattle.pts_terms.specs.Limits.{within}
use Rattle.pts_ctx.specs.System.{Specification}
use Rattle.pts_ctx.specs.Front.{bare_front}
use Rattle.pts_record.specs.Table.{Tables, named_at}
use Rattle.pts_record.specs.Said.{Scope, named_told, judgement, scope_of, claim_of}
use Rattle.pts_rules.specs.Valid.{IsValid}
use Rattle.pts_reduce_cost.specs.Costs.{Globals, Entries}
use Rattle.pts_grow.specs.Keeps.{Keeps, StaysValid, IsNode}
use Rattle.pts_grow.specs.Judges.{IsTypedContext, Judges, IsEmpty}
use Rattle.pts_grow.specs.declared.judged.Judged.{Judged}
use Rattle.pts_grow.proofs.Grow.{stays, node_stays, tree_stays, told_stays, keeps_trans, keeps_refl}
use Rattle.pts_grow.proofs.Judgements.{still_typed}
use Rattle.pts_reduce.specs.Chain.{entries_of}
use Rattle.pts_queries.specs.declared.hypotheses.Under.{Under}
use Rattle.pts_queries.specs.Hypotheses.{IsContext, entries_in, Grown}
use Rattle.pts_queries.specs.Inner.{IsBegun, HasTerm, term_in}

pub no_step : {S : Specification} {G : Globals} {u : Under} → Grown S G u u
no_step {S} {G} {u} = record { ctx = refl; names = refl; record_name = refl; keeps = keeps_refl u.proof.now; valid = λ x. x }

pub grown_trans : {S : Specification} {G : Globals} {u v w : Under} → Grown S G u v → Grown S G v w → Grown S G u w
grown_trans {S} {G} {u} {v} {w} g h = record {
  ctx = h.ctx ∙ g.ctx;
  names = h.names ∙ g.names;
  record_name = h.record_name ∙ g.record_name;
  keeps = keeps_trans u.proof.now v.proof.now w.proof.now g.keeps h.keeps;
  valid = λ x. h.valid (g.valid x);
}

-- The newest step is the first premise, so that a search finds the state between.
pub since : {S : Specification} {G : Globals} {u v w : Under} → Grown S G v w → Grown S G u v → Grown S G u w
since h g = grown_trans g h

-- A step that grows the record.
module _ {u v : Under} (c : v.ctx ≡ u.ctx) (n : v.names ≡ u.names) (r : v.proof.ghost_name ≡ u.proof.ghost_name) (k : Keeps u.proof.now v.proof.now) where
  pub grows : (S : Specification) (G : Globals) → (IsValid S (bare_front G) u.proof.now → IsValid S (bare_front G) v.proof.now) → Grown S G u v
  grows S G h = record { ctx = c; names = n; record_name = r; keeps = k; valid = h }

  pub adds : StaysValid u.proof.now v.proof.now → (S : Specification) (G : Globals) → Grown S G u v
  adds h S G = grows S G (h S (bare_front G))

-- What the record has and says it keeps.
module _ {S : Specification} {G : Globals} {u v : Under} (g : Grown S G u v) where
  context_there : IsContext u → u.ctx < length v.proof.now.nodes
  context_there h = node_stays u.proof.now v.proof.now u.ctx g.keeps h.there

  context_typed : IsContext u → IsTypedContext v.proof.now u.ctx
  context_typed h = still_typed u.proof.now v.proof.now u.ctx g.keeps h.there h.typed

  pub context_later : IsContext u → IsContext v
  context_later h = record {
    there = subst (λ c. c < length v.proof.now.nodes) (sym g.ctx) (context_there h);
    typed = subst (λ c. IsTypedContext v.proof.now c) (sym g.ctx) (context_typed h);
  }

  pub entries_stay : IsContext u → entries_in v ≡ entries_in u
  entries_stay h = ap (λ c. entries_of v.proof.now c) g.ctx ∙ ap (λ m. (scope_of m).entries) (told_stays u.proof.now v.proof.now u.ctx g.keeps h.there)

  pub term_stays : {n : ℕ} → HasTerm u n → term_in v n ≡ term_in u n
  term_stays {n} h = tree_stays u.proof.now v.proof.now n g.keeps h.there

  pub term_later : {n : ℕ} → HasTerm u n → HasTerm v n
  term_later {n} h = record {
    there = stays u.proof.now v.proof.now n g.keeps h.there;
    within = ap within (term_stays h) ∙ h.within;
  }

-- A term stands in whatever system and over whatever front the record grows.
no_system : Specification
no_system = record { sorts = []; axioms = []; rules = [] }

pub stands_later : {u v : Under} (n : ℕ) (t : Named) → ((S : Specification) (G : Globals) → Grown S G u v) → HasTerm u n → term_in u n ≡ t → HasTerm v n × (term_in v n ≡ t)
stands_later n t g h e = (term_later (g no_system []) h, term_stays (g no_system []) h ∙ e)

pub both_grown : {u v w : Under} → ((S : Specification) (G : Globals) → Grown S G u v) → ((S : Specification) (G : Globals) → Grown S G v w) → (S : Specification) (G : Globals) → Grown S G u w
both_grown g h S G = grown_trans (g S G) (h S G)

-- What is said of names, entries and a term after a step, said before it.
module _ {S : Specification} {G : Globals} {u v : Under} (g : Grown S G u v) (h : IsContext u) where
  pub seen_before : (n : ℕ) {t : Named} (P : List Name → Entries → Named → Type 0) → term_in v n ≡ t → P v.names.now (entries_in v) (term_in v n) → P u.names.now (entries_in u) t
  seen_before n {t} P e p =
      let q = subst (λ xs. P xs.now (entries_in v) (term_in v n)) g.names p in
      let r = subst (λ L. P u.names.now L (term_in v n)) (entries_stay g h) q in
      subst (λ s. P u.names.now (entries_in u) s) e r

  pub both_before : (m n : ℕ) {t s : Named} (P : Entries → Named → Named → Type 0) → term_in v m ≡ t → term_in v n ≡ s → P (entries_in v) (term_in v m) (term_in v n) → P (entries_in u) t s
  both_before m n {t} {s} P e f p =
      let q = subst (λ L. P L (term_in v m) (term_in v n)) (entries_stay g h) p in
      let r = subst (λ x. P (entries_in u) x (term_in v n)) e q in
      subst (λ x. P (entries_in u) t x) f r

-- The claim of a judgement that a node is.
pub claim_said : (r : Tables) (n c d : ℕ) (m : Scope Name) (t T : Named) (j : Judged) → IsNode r n (judgement c m t T) → Judges r d j → j.node ≡ n → named_at r.shapes j.claim ≡ T
claim_said r n c d m t T j h i e =
    let x : named_told r n ≡ judgement d (scope_of (named_told r d)) (named_at r.shapes j.subject) (named_at r.shapes j.claim) = ap (named_told r) (sym e) ∙ i.2.1 in
    sym (ap claim_of x) ∙ ap claim_of h.1

-- The hypotheses of a record that is begun: none.
pub begun_empty : {r : Tables} {c : ℕ} → IsEmpty r c → IsTypedContext r c → IsBegun r c
begun_empty h t = record { there = h.0; typed = t; empty = ap (λ m. (scope_of m).entries) h.1 }

pub begun_context : {u : Under} → IsBegun u.proof.now u.ctx → IsContext u
begun_context h = record { there = h.there; typed = h.typed }

pub ruleset growing = (since, no_step, context_later, term_later, term_stays)
