-- What inference works on, before and after a step, and what a step answers.
use Rattle.std.specs.Prelude.{◌≡◌, ◌<◌, ℕ, length, Result}
use Rattle.pts_names.specs.Name.{Name}
use Rattle.pts_terms.specs.Tree.{Bare, Named, let_in, sort as sort_term}
use Rattle.pts_ctx.specs.Front.{bare_front}
use Rattle.pts_record.specs.Table.{named_at, bare_at}
use Rattle.pts_rules.specs.Meter.{left}
use Rattle.pts_rules.specs.Valid.{IsValid}
use Rattle.pts_reduce_cost.specs.Run.{Run}
use Rattle.pts_reduce_cost.specs.Work.{reduced}
use Rattle.pts_infer_cost.specs.Typing.{Flaw, FitFlaw, into, under}
use Rattle.pts_infer_cost.specs.Inference.{Typer, inferred, typed_by_form, sort_tested, sorted, product, abstraction, application, local_definition, definition_type, product_found, fitted, types_compared}
use Rattle.pts_grow.specs.declared.compared.Compared.{Compared}
use Rattle.pts_grow.specs.Keeps.{Compares, Keeps}
use Rattle.pts_grow.specs.declared.judged.Judged.{Judged}
use Rattle.pts_grow.specs.Judges.{IsTypedContext, Judges, IsAssumeOf, IsDefineOf, IsProduct, IsProductNode}
use Rattle.pts_reduce.specs.Given.{Later}
use Rattle.pts_reduce.specs.Chain.{entries_of}
use Rattle.pts_infer.specs.declared.answer.ProductParts.{ProductParts}
use Rattle.pts_infer.specs.declared.fault.Fault.{Fault}
use Rattle.pts_infer.specs.declared.fault.Misfit.{Misfit}
use Rattle.pts_infer.specs.declared.judgements.Sorted.{Sorted}
use Rattle.pts_infer.specs.declared.judgements.Function.{Function}
use Rattle.pts_infer.specs.declared.work.Work.{Work}
use Rattle.pts_infer.specs.declared.work.At.{At}
use Rattle.pts_infer.specs.declared.work.Assumption.{Assumption}
use Rattle.pts_infer.specs.declared.work.Definition.{Definition}
use Rattle.pts_infer.specs.declared.told.Way.{Way}
use Rattle.pts_infer.specs.declared.told.Way.TheVariants.{Part, Under}
use Rattle.pts_infer.specs.Given.{Gives, GivesFit, IsFunction}

-- The second state of the work comes after the first one.
pub record Grown (a b : Work) : Type 0 where
  pub system : b.system ≡ a.system
  pub front : b.front ≡ a.front
  pub record_name : b.proof.ghost_name ≡ a.proof.ghost_name
  pub meter_name : b.meter.ghost_name ≡ a.meter.ghost_name
  pub keeps : Keeps a.proof.now b.proof.now
  pub valid : IsValid a.system.now (bare_front a.front.now.entries) a.proof.now → IsValid a.system.now (bare_front a.front.now.entries) b.proof.now
  pub later : Later a.meter.now b.meter.now

-- The place is a context of the record, all of whose entries are known.
pub record IsPlace (w : Work) (at : At) : Type 0 where
  pub there : at.ctx < length w.proof.now.nodes
  pub typed : IsTypedContext w.proof.now at.ctx

-- The number is that of a term of the record.
pub record HasTerm (w : Work) (t : ℕ) : Type 0 where
  pub there : t < length w.proof.now.shapes

-- It is that of this term.
pub record IsNumberOf (w : Work) (t : ℕ) (T : Named) : Type 0 where
  pub term : HasTerm w t
  pub is : named_at w.proof.now.shapes t ≡ T

-- The term with the number t is made of those with the numbers a and b; the local definition of those with v, a and b.
pub record IsMadeOf (w : Work) (make : Bare → Bare → Bare) (t a b : ℕ) : Type 0 where
  pub term : HasTerm w t
  pub first : HasTerm w a
  pub second : HasTerm w b
  pub parts : bare_at w.proof.now.shapes t ≡ make (bare_at w.proof.now.shapes a) (bare_at w.proof.now.shapes b)

pub record IsLetOf (w : Work) (t v a b : ℕ) : Type 0 where
  pub term : HasTerm w t
  pub value : HasTerm w v
  pub type : HasTerm w a
  pub body : HasTerm w b
  pub parts : bare_at w.proof.now.shapes t ≡ let_in (bare_at w.proof.now.shapes v) (bare_at w.proof.now.shapes a) (bare_at w.proof.now.shapes b)

-- The term with that number is judged at a place.
pub record IsJudged (w : Work) (at : At) (t : ℕ) (j : Judged) : Type 0 where
  pub place : IsPlace w at
  pub subject : j.subject ≡ t
  pub claim : HasTerm w j.claim
  pub judges : Judges w.proof.now at.ctx j

-- It has a sort as its type, a product, or the wanted type.
pub record IsSorted (w : Work) (at : At) (t : ℕ) (s : Sorted) : Type 0 where
  pub judged : IsJudged w at t s.judged
  pub sort : named_at w.proof.now.shapes s.judged.claim ≡ sort_term s.sort.0

pub record IsFunctionOf (w : Work) (at : At) (t : ℕ) (f : Function) : Type 0 where
  pub judged : IsJudged w at t f.judged
  pub domain : HasTerm w f.domain
  pub codomain : HasTerm w f.codomain
  pub function : IsFunction w.proof.now at.ctx f

pub record IsFitted (w : Work) (at : At) (t want : ℕ) (j : Judged) : Type 0 where
  pub judged : IsJudged w at t j
  pub claim : j.claim ≡ want

-- It is compared with another at a place.
pub record IsCompared (w : Work) (at : At) (t : ℕ) (c : Compared) : Type 0 where
  pub place : IsPlace w at
  pub left : c.left ≡ t
  pub right : HasTerm w c.right
  pub compares : Compares w.proof.now at.ctx c

-- The inner place is that after the assumption of a type at the outer one, and nests as deep; the same of a definition.
pub record IsAssumption (w : Work) (at : At) (d : Sorted) (a : Assumption) : Type 0 where
  pub outer : a.outer ≡ at
  pub domain : a.domain ≡ d
  pub allowed : a.inner.allowed ≡ at.allowed
  pub sorted : IsSorted w at d.judged.subject d
  pub inside : IsPlace w a.inner
  pub assumed : IsAssumeOf w.proof.now at.ctx d.judged a.inner.ctx

pub record IsDefinition (w : Work) (at : At) (v : Judged) (d : Definition) : Type 0 where
  pub outer : d.outer ≡ at
  pub value : d.value ≡ v
  pub allowed : d.inner.allowed ≡ at.allowed
  pub judged : IsJudged w at v.subject v
  pub inside : IsPlace w d.inner
  pub defined : IsDefineOf w.proof.now at.ctx v d.inner.ctx

-- The term with the number t is the product of those with the numbers a and b, and is judged to be one by the judgements of these.
pub record IsFormed (w : Work) (at : At) (t a b : ℕ) (f : ProductParts) : Type 0 where
  pub domain : f.domain.subject ≡ a
  pub body : f.body.subject ≡ b
  pub judged : IsJudged w at t f.product
  pub product : IsProduct w.proof.now at.ctx f.product f.domain f.inner f.body
  pub node : IsProductNode w.proof.now f.product.node f.domain.node f.body.node

-- The work that a call stands for.
abbrev pub typer : Work → At → Typer
typer w at = inferred w.system.now w.front.now.entries at.allowed

abbrev pub inferring : Work → At → ℕ → Run Flaw Named
inferring w at t = typer w at (entries_of w.proof.now at.ctx) (named_at w.proof.now.shapes t) (left w.meter.now)

abbrev pub typing : Work → At → ℕ → Run Flaw Named
typing w at t = typed_by_form w.system.now w.front.now.entries (typer w at) (entries_of w.proof.now at.ctx) (named_at w.proof.now.shapes t) (left w.meter.now)

abbrev pub testing : Work → At → ℕ → Run Flaw ℕ
testing w at t = sort_tested w.system.now w.front.now.entries (entries_of w.proof.now at.ctx) (named_at w.proof.now.shapes t) (left w.meter.now)

abbrev pub sorting : Work → At → ℕ → Run Flaw ℕ
sorting w at t = sorted w.system.now w.front.now.entries (typer w at) (entries_of w.proof.now at.ctx) (named_at w.proof.now.shapes t) (left w.meter.now)

abbrev pub finding : Work → At → ℕ → Run Flaw (Named × Named)
finding w at t = product_found w.system.now w.front.now.entries (typer w at) (entries_of w.proof.now at.ctx) (named_at w.proof.now.shapes t) (left w.meter.now)

abbrev pub fitting : Work → At → ℕ → ℕ → Run FitFlaw (Unit {0})
fitting w at t want = fitted w.system.now w.front.now.entries (typer w at) (entries_of w.proof.now at.ctx) (named_at w.proof.now.shapes t) (named_at w.proof.now.shapes want) (left w.meter.now)

abbrev pub forming : Work → At → Name → ℕ → ℕ → Run Flaw Named
forming w at x d b = product w.system.now w.front.now.entries (typer w at) (entries_of w.proof.now at.ctx) x (named_at w.proof.now.shapes d) (named_at w.proof.now.shapes b) (left w.meter.now)

abbrev pub abstracting : Work → At → Name → ℕ → ℕ → Run Flaw Named
abstracting w at x d b = abstraction w.system.now w.front.now.entries (typer w at) (entries_of w.proof.now at.ctx) x (named_at w.proof.now.shapes d) (named_at w.proof.now.shapes b) (left w.meter.now)

abbrev pub applying : Work → At → ℕ → ℕ → Run Flaw Named
applying w at f a = application w.system.now w.front.now.entries (typer w at) (entries_of w.proof.now at.ctx) (named_at w.proof.now.shapes f) (named_at w.proof.now.shapes a) (left w.meter.now)

abbrev pub defining : Work → At → Name → ℕ → ℕ → ℕ → Run Flaw Named
defining w at x v a b = local_definition w.system.now w.front.now.entries (typer w at) (entries_of w.proof.now at.ctx) x (named_at w.proof.now.shapes v) (named_at w.proof.now.shapes a) (named_at w.proof.now.shapes b) (left w.meter.now)

-- The type of a local definition of v, whose body has the type with the number b.
abbrev pub closing : Work → At → Name → Judged → ℕ → Run Flaw Named
closing w at x v b = definition_type w.system.now w.front.now.entries (typer w at) (entries_of w.proof.now at.ctx) x (named_at w.proof.now.shapes v.subject) (named_at w.proof.now.shapes v.claim) (named_at w.proof.now.shapes b) (left w.meter.now)

abbrev pub reducing : Work → At → ℕ → Run ⊥ Named
reducing w at t = reduced w.front.now.entries (entries_of w.proof.now at.ctx) (left w.meter.now) (named_at w.proof.now.shapes t)

abbrev pub comparing : Work → At → ℕ → ℕ → ℕ → Run FitFlaw (Unit {0})
comparing w at t want s = types_compared w.front.now.entries (entries_of w.proof.now at.ctx) (named_at w.proof.now.shapes t) (named_at w.proof.now.shapes want) s (left w.meter.now)

-- The work ended with what the answer stands for, or stopped with its fault.
pub record Gave {X A : Type 0} (w : Work) (value : X → A) (r : Result X Fault) (run : Run Flaw A) : Type 0 where
  pub gives : Gives w.proof.now.shapes value r (left w.meter.now) run

pub record GaveFit {X A : Type 0} (w : Work) (value : X → A) (r : Result X Misfit) (run : Run FitFlaw A) : Type 0 where
  pub gives : GivesFit w.proof.now.shapes value r (left w.meter.now) run

-- How a flaw is shown that comes this way.
abbrev pub outward : Way → Flaw → Flaw
outward (Part i) = into i
outward (Under i x) = under i x.now
