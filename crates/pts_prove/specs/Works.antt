-- What a command works on, before and after a step, and what a step answers.
use Rattle.std.specs.Prelude.{◌≡◌, ◌<◌, ℕ, ◌∷◌, length, Some, None, is_some, Result}
use Rattle.std.specs.List.{position}
use Rattle.pts_names.specs.Name.{Name, same_name}
use Rattle.pts_terms.specs.Tree.{Named, sort as sort_term, lift, pi, named_pi}
use Rattle.pts_ctx.specs.System.{rule_of}
use Rattle.pts_ctx.specs.Front.{assumed, find, bare_front}
use Rattle.pts_record.specs.Table.{named_at, bare_at}
use Rattle.pts_rules.specs.Meter.{left}
use Rattle.pts_rules.specs.Valid.{IsValid}
use Rattle.pts_infer_cost.specs.Typing.{Outcome, comes, as_product, by_rule, Infers, Sorts, Fits, inference_nesting}
use Rattle.pts_grow.specs.declared.compared.Compared.{Compared}
use Rattle.pts_grow.specs.declared.judged.Judged.{Judged}
use Rattle.pts_grow.specs.Keeps.{Compares, Keeps}
use Rattle.pts_grow.specs.Judges.{IsTypedContext, Judges, IsAssumeOf, IsProduct}
use Rattle.pts_reduce.specs.Given.{Later}
use Rattle.pts_reduce.specs.Chain.{entries_of}
use Rattle.pts_infer.specs.declared.answer.ProductParts.{ProductParts}
use Rattle.pts_infer.specs.declared.part.Part.{Part as AnswerPart}
use Rattle.pts_goals.specs.declared.step.Goal.{Goal}
use Rattle.pts_goals.specs.declared.step.Step.{Step}
use Rattle.pts_goals.specs.Steps.{Converts, Fits as StepFits}
use Rattle.pts_prove_cost.specs.Combining.{After, Turned, Free}
use Rattle.pts_prove_cost.specs.Refinement.{Sequent, by_lemma}
use Rattle.pts_prove_cost.specs.Commands.{of_goal, Refusal, not_product, flawed, misfit_in, in_goal_under, limited, Forms, Agrees, Command, Opened, opens, opens_as, sorted_product, unfolds_entry}
use Rattle.pts_prove.specs.declared.fault.ProveFault.{ProveFault}
use Rattle.pts_prove.specs.declared.work.Work.{Work}
use Rattle.pts_prove.specs.declared.work.Place.{Place}
use Rattle.pts_prove.specs.declared.work.LemmaParts.{LemmaParts}
use Rattle.pts_prove.specs.declared.work.Opening.{Opening}
use Rattle.pts_prove.specs.declared.work.Sorted.{Sorted}
use Rattle.pts_prove.specs.Answered.{Answers, part_seen}

-- The second state of the work comes after the first one.
pub record Grown (a b : Work) : Type 0 where
  pub system : b.system ≡ a.system
  pub front : b.front ≡ a.front
  pub names : b.names ≡ a.names
  pub record_name : b.proof.ghost_name ≡ a.proof.ghost_name
  pub meter_name : b.meter.ghost_name ≡ a.meter.ghost_name
  pub keeps : Keeps a.proof.now b.proof.now
  pub valid : IsValid a.system.now (bare_front a.front.now.entries) a.proof.now → IsValid a.system.now (bare_front a.front.now.entries) b.proof.now
  pub later : Later a.meter.now b.meter.now

-- The number is that of a context of the record, all of whose entries are known.
pub record IsPlace (w : Work) (c : ℕ) : Type 0 where
  pub there : c < length w.proof.now.nodes
  pub typed : IsTypedContext w.proof.now c

-- The number is that of a term of the record.
pub record HasTerm (w : Work) (t : ℕ) : Type 0 where
  pub there : t < length w.proof.now.shapes

-- It is that of this term.
pub record IsNumberOf (w : Work) (t : ℕ) (T : Named) : Type 0 where
  pub term : HasTerm w t
  pub is : named_at w.proof.now.shapes t ≡ T

-- The goal has a context and a statement of the record.
pub record IsAsked (w : Work) (g : Place) : Type 0 where
  pub place : IsPlace w g.ctx
  pub statement : HasTerm w g.statement

-- The term with the number t is judged in the context with the number c.
pub record IsJudged (w : Work) (c t : ℕ) (j : Judged) : Type 0 where
  pub place : IsPlace w c
  pub subject : j.subject ≡ t
  pub claim : HasTerm w j.claim
  pub judges : Judges w.proof.now c j

-- It has a sort as its type, or the wanted type.
pub record IsSorted (w : Work) (c t : ℕ) (s : Sorted) : Type 0 where
  pub judged : IsJudged w c t s.judged
  pub sort : named_at w.proof.now.shapes s.judged.claim ≡ sort_term s.sort.0

pub record IsFitted (w : Work) (c t want : ℕ) (j : Judged) : Type 0 where
  pub judged : IsJudged w c t j
  pub claim : j.claim ≡ want

-- The first term is compared with the second one.
pub record IsCompared (w : Work) (c t u : ℕ) (o : Compared) : Type 0 where
  pub place : IsPlace w c
  pub left : o.left ≡ t
  pub right : o.right ≡ u
  pub compares : Compares w.proof.now c o

-- The goal is the product, or the product is compared with it.
pub record IsOpening (w : Work) (g : Place) (o : Opening) : Type 0 where
  pub goal : IsAsked w g
  pub product : HasTerm w o.product
  pub domain : HasTerm w o.domain
  pub body : HasTerm w o.body
  pub parts : as_product (named_at w.proof.now.shapes o.product) ≡ Some (named_at w.proof.now.shapes o.domain, named_at w.proof.now.shapes o.body)
  pub change : Converts w.proof.now g.ctx (bare_at w.proof.now.shapes o.product) (bare_at w.proof.now.shapes g.statement) o.change

-- The product with the number t is judged in the context with the number c, and so are its parts.
pub record IsFormed (w : Work) (c t : ℕ) (f : ProductParts) : Type 0 where
  pub place : IsPlace w c
  pub product : HasTerm w t
  pub is : named_at w.proof.now.shapes f.product.subject ≡ named_at w.proof.now.shapes t
  pub formed : IsProduct w.proof.now c f.product f.domain f.inner f.body

-- The place is under the goal: the lemma is assumed there, and the statement is the goal's.
pub record IsUnder (w : Work) (g : Place) (l : Sorted) (u : Place) : Type 0 where
  pub goal : IsAsked w g
  pub lemma : IsSorted w g.ctx l.judged.subject l
  pub asked : IsAsked w u
  pub inner : IsAssumeOf w.proof.now g.ctx l.judged u.ctx
  pub statement : named_at w.proof.now.shapes u.statement ≡ lift 0 1 (named_at w.proof.now.shapes g.statement)

-- The lemma and the goal under it have sorts.
pub record AreParts (w : Work) (g : Place) (p : LemmaParts) : Type 0 where
  pub goal : IsAsked w g
  pub lemma : IsSorted w g.ctx p.lemma.judged.subject p.lemma
  pub inner : IsAssumeOf w.proof.now g.ctx p.lemma.judged p.inner
  pub body : IsSorted w p.inner p.body.judged.subject p.body
  pub statement : named_at w.proof.now.shapes p.body.judged.subject ≡ lift 0 1 (named_at w.proof.now.shapes g.statement)

-- The number is that of a product of these terms.
pub record IsPi (w : Work) (n t u : ℕ) : Type 0 where
  pub product : HasTerm w n
  pub domain : HasTerm w t
  pub body : HasTerm w u
  pub is : bare_at w.proof.now.shapes n ≡ pi (bare_at w.proof.now.shapes t) (bare_at w.proof.now.shapes u)

-- The judgement is of the product of the lemma and the goal under it.
pub record IsCut (w : Work) (g : Place) (p : LemmaParts) (j : Judged) : Type 0 where
  pub parts : AreParts w g p
  pub product : IsProduct w.proof.now g.ctx j p.lemma.judged p.inner p.body.judged

-- The step fits each goal with that context and that statement.
pub record FitsAt (w : Work) (g : Place) (s : Step) : Type 0 where
  pub fits : (h : Goal) → h.ctx ≡ g.ctx → h.statement ≡ g.statement → StepFits w.proof.now h s

-- The term with that number, and the type of a judgement.
abbrev pub term_in : Work → ℕ → Named
term_in w t = named_at w.proof.now.shapes t

abbrev pub claim_in : Work → Judged → Named
claim_in w j = named_at w.proof.now.shapes j.claim

-- The product that a goal is, and one that is judged.
abbrev pub opened_in : Work → Opening → Opened
opened_in w o = record { product = term_in w o.product; domain = term_in w o.domain; body = term_in w o.body }

abbrev pub product_in : Work → ProductParts → Opened
product_in w f = record { product = term_in w f.product.subject; domain = term_in w f.domain.subject; body = term_in w f.body.subject }

-- What the goal says.
abbrev pub sequent_at : Work → Place → Sequent
sequent_at w g = record { names = w.names.now; entries = entries_of w.proof.now g.ctx; statement = named_at w.proof.now.shapes g.statement }

-- The work that a step stands for.
abbrev pub inferring : Work → (c : ℕ) → AnswerPart → (t : ℕ) → Outcome Refusal Named → ℕ → Type 0
inferring w c p t = Turned (flawed (part_seen p)) (Infers w.system.now w.front.now.entries inference_nesting (entries_of w.proof.now c) (term_in w t))

abbrev pub sorting : Work → (c : ℕ) → AnswerPart → (t : ℕ) → Outcome Refusal ℕ → ℕ → Type 0
sorting w c p t = Turned (flawed (part_seen p)) (Sorts w.system.now w.front.now.entries inference_nesting (entries_of w.proof.now c) (term_in w t))

abbrev pub fitting : Work → (c : ℕ) → AnswerPart → (t want : ℕ) → Outcome Refusal (Unit {0}) → ℕ → Type 0
fitting w c p t want = Turned (misfit_in (part_seen p)) (Fits w.system.now w.front.now.entries inference_nesting (entries_of w.proof.now c) (term_in w t) (term_in w want))

abbrev pub agreeing : Work → Place → (t : ℕ) → Command → ℕ → Type 0
agreeing w g t = Agrees w.front.now.entries (entries_of w.proof.now g.ctx) (term_in w t) (term_in w g.statement)

abbrev pub forming : Work → Place → Outcome Refusal Named → ℕ → Type 0
forming w g = Forms w.front.now.entries (entries_of w.proof.now g.ctx) (term_in w g.statement)

abbrev pub opening_form : Work → Place → Outcome Refusal Opened → ℕ → Type 0
opening_form w g = opens_as w.front.now.entries (entries_of w.proof.now g.ctx) not_product (term_in w g.statement) None

abbrev pub opening : Work → Place → Outcome Refusal Opened → ℕ → Type 0
opening w g = opens w.front.now.entries (entries_of w.proof.now g.ctx) not_product (term_in w g.statement)

abbrev pub sorting_product : Work → (c : ℕ) → Opened → Outcome Refusal Opened → ℕ → Type 0
sorting_product w c p = sorted_product w.system.now w.front.now.entries (entries_of w.proof.now c) p

abbrev pub sorting_lemma : Work → (x : Name) → Place → (T : Named) → Outcome Refusal ℕ → ℕ → Type 0
sorting_lemma w x g T = Turned (in_goal_under x) (Sorts w.system.now w.front.now.entries inference_nesting (assumed T ∷ entries_of w.proof.now g.ctx) (lift 0 1 (term_in w g.statement)))

abbrev pub sorting_under : Work → (x : Name) → Place → Outcome Refusal ℕ → ℕ → Type 0
sorting_under w x u = Turned (in_goal_under x) (Sorts w.system.now w.front.now.entries inference_nesting (entries_of w.proof.now u.ctx) (term_in w u.statement))

abbrev pub ruling : Work → (s r : ℕ) → Outcome Refusal Named → ℕ → Type 0
ruling w s r = Turned (flawed of_goal) (Free (by_rule s r (rule_of w.system.now s r) (λ q. comes (sort_term q))))

abbrev pub cutting : Work → Place → (x : Name) → (T : Named) → (s r : ℕ) → Command → ℕ → Type 0
cutting w g x T s r =
    After (ruling w s r) (λ q.
    After (limited (named_pi x T (lift 0 1 (term_in w g.statement)))) (λ p.
    Free (comes (by_lemma x T (lift 0 1 (term_in w g.statement))))))

abbrev pub putting_body : Work → Place → (c : Name) → Outcome Refusal Named → ℕ → Type 0
putting_body w g c = unfolds_entry w.system.now w.front.now.entries (sequent_at w g) c (is_some (position (same_name c) w.names.now)) (find c w.front.now.entries)

-- From the first state to the second one the work came to what the answer stands for, or stopped with its fault.
pub record Came {X A : Type 0} (a b : Work) (value : X → A) (r : Result X ProveFault) (costs : Outcome Refusal A → ℕ → Type 0) : Type 0 where
  pub answers : Answers b.names.now value costs r (left a.meter.now) (left b.meter.now)
