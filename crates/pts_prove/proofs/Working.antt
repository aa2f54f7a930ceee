-- What stays while the work goes on.
use Rattle.std.proofs.Common.{◌≡◌, ℕ, refl, sym, ap, ◌∙◌, subst}
use Rattle.pts_terms.specs.Tree.{Named}
use Rattle.pts_ctx.specs.Front.{bare_front}
use Rattle.pts_rules.specs.Valid.{IsValid}
use Rattle.pts_grow.specs.Keeps.{Keeps, StaysValid}
use Rattle.pts_grow.specs.declared.judged.Judged.{Judged}
use Rattle.pts_grow.specs.declared.compared.Compared.{Compared}
use Rattle.pts_grow.proofs.Grow.{stays, node_stays, tree_stays, keeps_trans, keeps_refl}
use Rattle.pts_grow.proofs.Judgements.{still_judges, still_typed}
use Rattle.pts_grow.proofs.Instances.{still_compares}
use Rattle.pts_reduce.specs.Given.{Later}
use Rattle.pts_reduce.proofs.Paid.{later_trans, later_refl}
use Rattle.pts_prove.specs.declared.work.Work.{Work}
use Rattle.pts_prove.specs.declared.work.Place.{Place}
use Rattle.pts_prove.specs.declared.work.Sorted.{Sorted}
use Rattle.pts_prove.specs.Works.{Grown, IsPlace, HasTerm, IsNumberOf, IsAsked, IsJudged, IsSorted, IsFitted, IsCompared}

pub grown_trans : {a b c : Work} → Grown a b → Grown b c → Grown a c
grown_trans {a} {b} {c} g h = record {
  system = h.system ∙ g.system;
  front = h.front ∙ g.front;
  names = h.names ∙ g.names;
  record_name = h.record_name ∙ g.record_name;
  meter_name = h.meter_name ∙ g.meter_name;
  keeps = keeps_trans a.proof.now b.proof.now c.proof.now g.keeps h.keeps;
  valid = λ v.
      let w = subst (λ s. IsValid s.now (bare_front a.front.now.entries) b.proof.now) (sym g.system) (g.valid v) in
      let u = h.valid (subst (λ f. IsValid b.system.now (bare_front f.now.entries) b.proof.now) (sym g.front) w) in
      subst (λ s. IsValid s.now (bare_front a.front.now.entries) c.proof.now) g.system (subst (λ f. IsValid b.system.now (bare_front f.now.entries) c.proof.now) g.front u);
  later = later_trans a.meter.now b.meter.now c.meter.now g.later h.later;
}

-- The newest step is the first premise, so that a search finds the state between.
pub since : {a b c : Work} → Grown b c → Grown a b → Grown a c
since h g = grown_trans g h

pub no_step : {a : Work} → Grown a a
no_step {a} = record {
  system = refl;
  front = refl;
  names = refl;
  record_name = refl;
  meter_name = refl;
  keeps = keeps_refl a.proof.now;
  valid = λ v. v;
  later = later_refl a.meter.now;
}

-- A step that adds to the record and pays nothing.
pub adds_here : {a b : Work} → b.system ≡ a.system → b.front ≡ a.front → b.names ≡ a.names → b.proof.ghost_name ≡ a.proof.ghost_name → b.meter ≡ a.meter → Keeps a.proof.now b.proof.now → (IsValid a.system.now (bare_front a.front.now.entries) a.proof.now → IsValid a.system.now (bare_front a.front.now.entries) b.proof.now) → Grown a b
adds_here {a} {b} p q n r m k v = record {
  system = p;
  front = q;
  names = n;
  record_name = r;
  meter_name = ap (λ x. x.ghost_name) m;
  keeps = k;
  valid = v;
  later = subst (λ x. Later a.meter.now x.now) (sym m) (later_refl a.meter.now);
}

pub adds : {a b : Work} → b.system ≡ a.system → b.front ≡ a.front → b.names ≡ a.names → b.proof.ghost_name ≡ a.proof.ghost_name → b.meter ≡ a.meter → Keeps a.proof.now b.proof.now → StaysValid a.proof.now b.proof.now → Grown a b
adds {a} {b} p q n r m k v = adds_here p q n r m k (v a.system.now (bare_front a.front.now.entries))

-- What the record has and says it keeps.
pub place_later : {a b : Work} {c : ℕ} → Grown a b → IsPlace a c → IsPlace b c
place_later {a} {b} {c} g h = record {
  there = node_stays a.proof.now b.proof.now c g.keeps h.there;
  typed = still_typed a.proof.now b.proof.now c g.keeps h.there h.typed;
}

pub term_later : {a b : Work} {t : ℕ} → Grown a b → HasTerm a t → HasTerm b t
term_later {a} {b} {t} g h = record { there = stays a.proof.now b.proof.now t g.keeps h.there }

pub number_later : {a b : Work} {t : ℕ} {T : Named} → Grown a b → IsNumberOf a t T → IsNumberOf b t T
number_later {a} {b} {t} g h = record {
  term = term_later g h.term;
  is = tree_stays a.proof.now b.proof.now t g.keeps h.term.there ∙ h.is;
}

pub asked_later : {a b : Work} {p : Place} → Grown a b → IsAsked a p → IsAsked b p
asked_later g h = record { place = place_later g h.place; statement = term_later g h.statement }

pub judged_later : {a b : Work} {c t : ℕ} {j : Judged} → Grown a b → IsJudged a c t j → IsJudged b c t j
judged_later {a} {b} {c} {j = j} g h = record {
  place = place_later g h.place;
  subject = h.subject;
  claim = term_later g h.claim;
  judges = still_judges a.proof.now b.proof.now c j g.keeps h.place.there h.judges;
}

pub sorted_later : {a b : Work} {c t : ℕ} {s : Sorted} → Grown a b → IsSorted a c t s → IsSorted b c t s
sorted_later {a} {b} {s = s} g h = record {
  judged = judged_later g h.judged;
  sort = tree_stays a.proof.now b.proof.now s.judged.claim g.keeps h.judged.claim.there ∙ h.sort;
}

pub fitted_later : {a b : Work} {c t want : ℕ} {j : Judged} → Grown a b → IsFitted a c t want j → IsFitted b c t want j
fitted_later g h = record { judged = judged_later g h.judged; claim = h.claim }

pub compared_later : {a b : Work} {c t u : ℕ} {o : Compared} → Grown a b → IsCompared a c t u o → IsCompared b c t u o
compared_later {a} {b} {c} {o = o} g h = record {
  place = place_later g h.place;
  left = h.left;
  right = h.right;
  compares = still_compares a.proof.now b.proof.now c o g.keeps h.place.there h.compares;
}

-- The same facts, taken apart.
pub asked_place : {w : Work} {p : Place} → IsAsked w p → IsPlace w p.ctx
asked_place h = h.place

pub asked_statement : {w : Work} {p : Place} → IsAsked w p → HasTerm w p.statement
asked_statement h = h.statement

pub number_term : {w : Work} {t : ℕ} {T : Named} → IsNumberOf w t T → HasTerm w t
number_term h = h.term

pub judged_itself : {w : Work} {c t : ℕ} {j : Judged} → IsJudged w c t j → IsJudged w c j.subject j
judged_itself h = record { place = h.place; subject = refl; claim = h.claim; judges = h.judges }

pub sorted_itself : {w : Work} {c t : ℕ} {s : Sorted} → IsSorted w c t s → IsSorted w c s.judged.subject s
sorted_itself h = record { judged = judged_itself h.judged; sort = h.sort }

pub ruleset going_on = (since, no_step, place_later, term_later, number_later, asked_later, judged_later, sorted_later, fitted_later, compared_later, asked_place, asked_statement, number_term, judged_itself, sorted_itself)
