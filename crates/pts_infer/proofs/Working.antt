-- What stays while the work goes on.
use Rattle.std.proofs.Common.{◌≡◌, ℕ, ◌<◌, Some, refl, sym, ap, ◌∙◌, subst, length}
use Rattle.pts_names.specs.Name.{Name}
use Rattle.pts_terms.specs.Tree.{Bare, Named, bare, named_pi, pi}
use Rattle.pts_ctx.specs.Front.{bare_front}
use Rattle.pts_record.specs.Table.{Tables, named_at, bare_at}
use Rattle.pts_record.proofs.Trees.{bare_of_named}
use Rattle.pts_rules.specs.Valid.{IsValid}
use Rattle.pts_grow.specs.Keeps.{Keeps, StaysValid}
use Rattle.pts_grow.specs.Judges.{IsTypedContext, Judges, IsProduct, IsProductNode}
use Rattle.pts_infer_cost.specs.Typing.{as_product}
use Rattle.pts_reduce.specs.Given.{Later}
use Rattle.pts_grow.proofs.Grow.{stays, node_stays, tree_stays, keeps_trans, keeps_refl}
use Rattle.pts_grow.specs.declared.judged.Judged.{Judged}
use Rattle.pts_grow.specs.declared.compared.Compared.{Compared}
use Rattle.pts_grow.proofs.Plain.{plain}
use Rattle.pts_grow.proofs.Judgements.{still_judges, still_typed, still_assume, still_define}
use Rattle.pts_grow.proofs.Instances.{still_compares}
use Rattle.pts_reduce.proofs.Paid.{later_trans, later_refl}
use Rattle.pts_infer.specs.declared.judgements.Sorted.{Sorted}
use Rattle.pts_infer.specs.declared.judgements.Function.{Function}
use Rattle.pts_infer.specs.declared.work.Work.{Work}
use Rattle.pts_infer.specs.declared.work.At.{At}
use Rattle.pts_infer.specs.declared.work.Assumption.{Assumption}
use Rattle.pts_infer.specs.declared.work.Definition.{Definition}
use Rattle.pts_infer.specs.Works.{Grown, IsPlace, HasTerm, IsNumberOf, IsMadeOf, IsLetOf, IsJudged, IsSorted, IsFunctionOf, IsFitted, IsCompared, IsAssumption, IsDefinition, IsFormed}
use Rattle.pts_infer.proofs.Atoms.{sort_there}
use Rattle.pts_infer.proofs.Runs.{parts_there, let_there, still_function}

pub grown_trans : {a b c : Work} → Grown a b → Grown b c → Grown a c
grown_trans {a} {b} {c} g h = record {
  system = h.system ∙ g.system;
  front = h.front ∙ g.front;
  record_name = h.record_name ∙ g.record_name;
  meter_name = h.meter_name ∙ g.meter_name;
  keeps = keeps_trans a.proof.now b.proof.now c.proof.now g.keeps h.keeps;
  valid = λ v.
      let w = subst (λ s. IsValid s.now (bare_front a.front.now.entries) b.proof.now) (sym g.system) (g.valid v) in
      let u = h.valid (subst (λ f. IsValid b.system.now (bare_front f.now.entries) b.proof.now) (sym g.front) w) in
      subst (λ s. IsValid s.now (bare_front a.front.now.entries) c.proof.now) g.system (subst (λ f. IsValid b.system.now (bare_front f.now.entries) c.proof.now) g.front u);
  later = later_trans a.meter.now b.meter.now c.meter.now g.later h.later;
}

-- The newest step is the first premise, so that a search finds the state between.
pub since : {a b c : Work} → Grown b c → Grown a b → Grown a c
since h g = grown_trans g h

pub no_step : {a : Work} → Grown a a
no_step {a} = record {
  system = refl;
  front = refl;
  record_name = refl;
  meter_name = refl;
  keeps = keeps_refl a.proof.now;
  valid = λ v. v;
  later = later_refl a.meter.now;
}

-- A step that adds to the record and pays nothing.
pub adds : {a b : Work} → b.system ≡ a.system → b.front ≡ a.front → b.proof.ghost_name ≡ a.proof.ghost_name → b.meter ≡ a.meter → Keeps a.proof.now b.proof.now → StaysValid a.proof.now b.proof.now → Grown a b
adds {a} {b} p q r m k v = record {
  system = p;
  front = q;
  record_name = r;
  meter_name = ap (λ x. x.ghost_name) m;
  keeps = k;
  valid = v a.system.now (bare_front a.front.now.entries);
  later = subst (λ x. Later a.meter.now x.now) (sym m) (later_refl a.meter.now);
}

-- What the record has and says it keeps.
pub place_later : {a b : Work} {at : At} → Grown a b → IsPlace a at → IsPlace b at
place_later {a} {b} {at} g h = record {
  there = node_stays a.proof.now b.proof.now at.ctx g.keeps h.there;
  typed = still_typed a.proof.now b.proof.now at.ctx g.keeps h.there h.typed;
}

pub term_later : {a b : Work} {t : ℕ} → Grown a b → HasTerm a t → HasTerm b t
term_later {a} {b} {t} g h = record { there = stays a.proof.now b.proof.now t g.keeps h.there }

pub number_later : {a b : Work} {t : ℕ} {T : Named} → Grown a b → IsNumberOf a t T → IsNumberOf b t T
number_later {a} {b} {t} g h = record {
  term = term_later g h.term;
  is = tree_stays a.proof.now b.proof.now t g.keeps h.term.there ∙ h.is;
}

pub made_later : {a b : Work} {make : Bare → Bare → Bare} {t x y : ℕ} → Grown a b → IsMadeOf a make t x y → IsMadeOf b make t x y
made_later {a} {b} {make} {t} {x} {y} g h = record {
  term = term_later g h.term;
  first = term_later g h.first;
  second = term_later g h.second;
  parts = parts_there a.proof.now b.proof.now make t x y x y g.keeps h.term.there h.first.there h.second.there refl refl h.parts;
}

pub let_later : {a b : Work} {t v x y : ℕ} → Grown a b → IsLetOf a t v x y → IsLetOf b t v x y
let_later {a} {b} {t} {v} {x} {y} g h = record {
  term = term_later g h.term;
  value = term_later g h.value;
  type = term_later g h.type;
  body = term_later g h.body;
  parts = let_there a.proof.now b.proof.now t v x y v x y g.keeps h.term.there h.value.there h.type.there h.body.there refl refl refl h.parts;
}

pub judged_later : {a b : Work} {at : At} {t : ℕ} {j : Judged} → Grown a b → IsJudged a at t j → IsJudged b at t j
judged_later {a} {b} {at} {j = j} g h = record {
  place = place_later g h.place;
  subject = h.subject;
  claim = term_later g h.claim;
  judges = still_judges a.proof.now b.proof.now at.ctx j g.keeps h.place.there h.judges;
}

pub sorted_later : {a b : Work} {at : At} {t : ℕ} {s : Sorted} → Grown a b → IsSorted a at t s → IsSorted b at t s
sorted_later {a} {b} {s = s} g h = record {
  judged = judged_later g h.judged;
  sort = tree_stays a.proof.now b.proof.now s.judged.claim g.keeps h.judged.claim.there ∙ h.sort;
}

pub function_later : {a b : Work} {at : At} {t : ℕ} {f : Function} → Grown a b → IsFunctionOf a at t f → IsFunctionOf b at t f
function_later {a} {b} {at} {f = f} g h = record {
  judged = judged_later g h.judged;
  domain = term_later g h.domain;
  codomain = term_later g h.codomain;
  function = still_function a.proof.now b.proof.now at.ctx f g.keeps h.judged.place.there h.function;
}

pub fitted_later : {a b : Work} {at : At} {t want : ℕ} {j : Judged} → Grown a b → IsFitted a at t want j → IsFitted b at t want j
fitted_later g h = record { judged = judged_later g h.judged; claim = h.claim }

pub compared_later : {a b : Work} {at : At} {t : ℕ} {c : Compared} → Grown a b → IsCompared a at t c → IsCompared b at t c
compared_later {a} {b} {at} {c = c} g h = record {
  place = place_later g h.place;
  left = h.left;
  right = term_later g h.right;
  compares = still_compares a.proof.now b.proof.now at.ctx c g.keeps h.place.there h.compares;
}

pub assumption_later : {a b : Work} {at : At} {d : Sorted} {i : Assumption} → Grown a b → IsAssumption a at d i → IsAssumption b at d i
assumption_later {a} {b} {at} {d} {i} g h = record {
  outer = h.outer;
  domain = h.domain;
  allowed = h.allowed;
  sorted = sorted_later g h.sorted;
  inside = place_later g h.inside;
  assumed = still_assume a.proof.now b.proof.now at.ctx d.judged i.inner.ctx g.keeps h.sorted.judged.place.there h.sorted.judged.judges.0 h.assumed;
}

pub definition_later : {a b : Work} {at : At} {v : Judged} {i : Definition} → Grown a b → IsDefinition a at v i → IsDefinition b at v i
definition_later {a} {b} {at} {v} {i} g h = record {
  outer = h.outer;
  value = h.value;
  allowed = h.allowed;
  judged = judged_later g h.judged;
  inside = place_later g h.inside;
  defined = still_define a.proof.now b.proof.now at.ctx v i.inner.ctx g.keeps h.judged.place.there h.judged.judges.0 h.judged.judges.1 h.defined;
}

pub ruleset going_on = (since, no_step, place_later, term_later, number_later, made_later, let_later, judged_later, sorted_later, function_later, fitted_later, compared_later, assumption_later, definition_later)

-- The same facts, by the numbers that their own parts have.
pub judged_itself : {w : Work} {at : At} {t : ℕ} {j : Judged} → IsJudged w at t j → IsJudged w at j.subject j
judged_itself h = record { place = h.place; subject = refl; claim = h.claim; judges = h.judges }

pub sorted_itself : {w : Work} {at : At} {t : ℕ} {s : Sorted} → IsSorted w at t s → IsSorted w at s.judged.subject s
sorted_itself h = record { judged = judged_itself h.judged; sort = h.sort }

pub function_itself : {w : Work} {at : At} {t : ℕ} {f : Function} → IsFunctionOf w at t f → IsFunctionOf w at f.judged.subject f
function_itself h = record { judged = judged_itself h.judged; domain = h.domain; codomain = h.codomain; function = h.function }

pub fitted_itself : {w : Work} {at : At} {t want : ℕ} {j : Judged} → IsFitted w at t want j → IsFitted w at j.subject want j
fitted_itself h = record { judged = judged_itself h.judged; claim = h.claim }

pub fitted_judged : {w : Work} {at : At} {t want : ℕ} {j : Judged} → IsFitted w at t want j → IsJudged w at j.subject j
fitted_judged h = judged_itself h.judged

pub assumption_itself : {w : Work} {at : At} {d : Sorted} {i : Assumption} → IsAssumption w at d i → IsAssumption w i.outer i.domain i
assumption_itself {w} {at} {d} {i} h = subst (λ x. IsAssumption w x i.domain i) (sym h.outer) (subst (λ x. IsAssumption w at x i) (sym h.domain) h)

pub definition_itself : {w : Work} {at : At} {v : Judged} {i : Definition} → IsDefinition w at v i → IsDefinition w i.outer i.value i
definition_itself {w} {at} {v} {i} h = subst (λ x. IsDefinition w x i.value i) (sym h.outer) (subst (λ x. IsDefinition w at x i) (sym h.value) h)

pub compared_itself : {w : Work} {at : At} {t : ℕ} {c : Compared} → IsCompared w at t c → IsCompared w at c.left c
compared_itself h = record { place = h.place; left = refl; right = h.right; compares = h.compares }

pub subject_there : {w : Work} {at : At} {t : ℕ} {j : Judged} → IsJudged w at t j → HasTerm w j.subject
subject_there h = record { there = h.judges.0 }

-- A judgement that was added.
pub judged_new : {a b : Work} {at : At} {t : ℕ} {j : Judged} → Grown a b → IsPlace a at → j.subject ≡ t → Judges b.proof.now at.ctx j → IsJudged b at t j
judged_new g p e h = record { place = place_later g p; subject = e; claim = record { there = h.1 }; judges = h }

pub ruleset again = (judged_itself, sorted_itself, function_itself, fitted_itself, fitted_judged, assumption_itself, definition_itself)

-- The same facts by equal numbers.
pub made_by : {w : Work} {make : Bare → Bare → Bare} {t a b c d : ℕ} → c ≡ a → d ≡ b → IsMadeOf w make t a b → IsMadeOf w make t c d
made_by {w} {make} {t} {a} {b} {c} {d} p q h = subst (λ x. IsMadeOf w make t x d) (sym p) (subst (IsMadeOf w make t a) (sym q) h)

pub let_by : {w : Work} {t u a b v c d : ℕ} → v ≡ u → c ≡ a → d ≡ b → IsLetOf w t u a b → IsLetOf w t v c d
let_by {w} {t} {u} {a} {b} {v} {c} {d} o p q h = subst (λ x. IsLetOf w t x c d) (sym o) (subst (λ x. IsLetOf w t u x d) (sym p) (subst (IsLetOf w t u a) (sym q) h))

pub fitted_by : {w : Work} {at : At} {t s want : ℕ} {j : Judged} → s ≡ t → IsFitted w at s want j → IsFitted w at t want j
fitted_by e h = record { judged = record { place = h.judged.place; subject = h.judged.subject ∙ e; claim = h.judged.claim; judges = h.judged.judges }; claim = h.claim }

pub fitted_want : {w : Work} {at : At} {t r want : ℕ} {j : Judged} → r ≡ want → IsFitted w at t r j → IsFitted w at t want j
fitted_want e h = record { judged = h.judged; claim = h.claim ∙ e }

pub sorted_by : {w : Work} {at : At} {t u : ℕ} {s : Sorted} → u ≡ t → IsSorted w at u s → IsSorted w at t s
sorted_by e h = record { judged = record { place = h.judged.place; subject = h.judged.subject ∙ e; claim = h.judged.claim; judges = h.judged.judges }; sort = h.sort }

pub place_as : {w : Work} {at to : At} → to.ctx ≡ at.ctx → IsPlace w at → IsPlace w to
place_as {w} e h = record { there = subst (λ c. c < length w.proof.now.nodes) (sym e) h.there; typed = subst (IsTypedContext w.proof.now) (sym e) h.typed }

pub judged_as : {w : Work} {at to : At} {t : ℕ} {j : Judged} → to.ctx ≡ at.ctx → IsJudged w at t j → IsJudged w to t j
judged_as {w} {j = j} e h = record { place = place_as e h.place; subject = h.subject; claim = h.claim; judges = subst (λ c. Judges w.proof.now c j) (sym e) h.judges }

-- The same of a record that is known to keep what it had.
pub judged_kept : {a b : Work} {at : At} {t : ℕ} {j : Judged} → Keeps a.proof.now b.proof.now → IsPlace a at → j.subject ≡ t → Judges b.proof.now at.ctx j → IsJudged b at t j
judged_kept {a} {b} {at} k p e h = record { place = record { there = node_stays a.proof.now b.proof.now at.ctx k p.there; typed = still_typed a.proof.now b.proof.now at.ctx k p.there p.typed }; subject = e; claim = record { there = h.1 }; judges = h }

pub judged_at : {w : Work} {at to : At} {t : ℕ} {j : Judged} → to ≡ at → IsJudged w at t j → IsJudged w to t j
judged_at {w} {at} {to} {t} {j} e h = subst (λ x. IsJudged w x t j) (sym e) h

-- A product is made of its parts.
pub product_made : {w : Work} {t d b : ℕ} (x : Name) → t < length w.proof.now.shapes → d < length w.proof.now.shapes → b < length w.proof.now.shapes → named_at w.proof.now.shapes t ≡ named_pi x (named_at w.proof.now.shapes d) (named_at w.proof.now.shapes b) → IsMadeOf w (λ A B. pi A B) t d b
product_made {w} {t} {d} {b} x h k l e =
    let ss = w.proof.now.shapes in
    record {
      term = record { there = h };
      first = record { there = k };
      second = record { there = l };
      parts = plain ss t (named_pi x (named_at ss d) (named_at ss b)) e ∙ ap (λ A. pi A (bare (named_at ss b))) (bare_of_named ss d) ∙ ap (pi (bare_at ss d)) (bare_of_named ss b);
    }

-- The parts of a product are still its parts.
pub parts_told : (a b : Tables) (x : Name) (t d e u v : ℕ) → Keeps a b → d < length a.shapes → e < length a.shapes → named_at a.shapes t ≡ named_pi x (named_at a.shapes d) (named_at a.shapes e) → u ≡ d → v ≡ e → as_product (named_at a.shapes t) ≡ Some (named_at b.shapes u, named_at b.shapes v)
parts_told a b x t d e u v k h l q p r =
    ap as_product q
    ∙ ap (λ A. Some (A, named_at a.shapes e)) (sym (tree_stays a b d k h) ∙ ap (named_at b.shapes) (sym p))
    ∙ ap (λ B. Some (named_at b.shapes u, B)) (sym (tree_stays a b e k l) ∙ ap (named_at b.shapes) (sym r))

-- A product that was judged, by the judgements of its parts.
pub formed_by : {w : Work} {at : At} {t x y : ℕ} {d p s : Sorted} {a : Assumption} → d.judged.subject ≡ x → s.judged.subject ≡ y → IsAssumption w at d a → IsSorted w a.outer t p → IsSorted w a.inner s.judged.subject s → IsMadeOf w (λ A B. pi A B) t x y → IsProductNode w.proof.now p.judged.node a.domain.judged.node s.judged.node → IsFormed w at t x y (record { product = p.judged; domain = d.judged; inner = a.inner.ctx; body = s.judged })
formed_by {w} {at} {t} {x} {y} {d} {p} {s} {a} u v o h b m n =
    let j : IsJudged w at t p.judged = judged_at (sym o.outer) h.judged in
    let r = w.proof.now in
    record {
      domain = u;
      body = v;
      judged = j;
      product = record {
        product = (j.judges, sort_there r p.judged.claim p.sort.0 h.sort);
        domain = (o.sorted.judged.judges, sort_there r d.judged.claim d.sort.0 o.sorted.sort);
        inner = o.assumed;
        body = (b.judged.judges, sort_there r s.judged.claim s.sort.0 b.sort);
        parts = ap (bare_at r.shapes) j.subject ∙ (made_by u v m).parts;
      };
      node = subst (λ x. IsProductNode r p.judged.node x.judged.node s.judged.node) o.domain n;
    }
