-- What the application of a function works on, and what its stages answer.
use Rattle.std.specs.Global.{Vec}
use Rattle.std.specs.Prelude.{◌≡◌, ◌<◌, ◌≤◌, ◌-◌, ℕ, List, [], ◌∷◌, length, map, reverse, Option, Some, None, IfSome, ◌+◌, true}
use Rattle.std.specs.Option.{option_map}
use Rattle.pts_terms.specs.Tree.{Named, pi}
use Rattle.pts_ctx.specs.Front.{unknown}
use Rattle.pts_record.specs.Table.{bare_at}
use Rattle.pts_record.specs.Said.{named_told, is_context}
use Rattle.pts_infer_cost.specs.Typing.{Outcome, as_product}
use Rattle.pts_grow.specs.declared.compared.Compared.{Compared}
use Rattle.pts_grow.specs.Keeps.{Compares}
use Rattle.pts_reduce.specs.Chain.{entries_of}
use Rattle.pts_match.specs.declared.subterm.Subterm.{Subterm}
use Rattle.pts_match.specs.Matching.{Assignment, IsClear, AreClear, value_of, values_of}
use Rattle.pts_goals.specs.declared.step.Goal.{Goal}
use Rattle.pts_goals.specs.declared.step.Link.{Link}
use Rattle.pts_goals.specs.Steps.{ReducesTo, IsArgument, IsLink, LinksFit}
use Rattle.pts_prove_cost.specs.Refinement.{Argument}
use Rattle.pts_prove_cost.specs.Commands.{Refusal, no_match, Forms, Opened, opens, opens_as, tries, searches, function_opens, gives_argument, takes_argument, takes_next, takes_arguments}
use Rattle.pts_prove.specs.declared.work.Work.{Work}
use Rattle.pts_prove.specs.declared.work.Place.{Place}
use Rattle.pts_prove.specs.declared.work.Pattern.{Pattern}
use Rattle.pts_prove.specs.declared.work.Product.{Product}
use Rattle.pts_prove.specs.declared.work.Function.{Function}
use Rattle.pts_prove.specs.declared.work.Application.{Application}
use Rattle.pts_prove.specs.Works.{IsPlace, HasTerm, term_in}
use Rattle.pts_prove.specs.Refining.{argument_of}

-- The number is that of a context of the record. Nothing needs to be known of its entries.
pub record IsContext (w : Work) (c : ℕ) : Type 0 where
  pub there : c < length w.proof.now.nodes
  pub context : is_context (named_told w.proof.now c) ≡ true

-- The pattern has a context and a type of the record.
pub record IsPattern (w : Work) (p : Pattern) : Type 0 where
  pub ctx : IsContext w p.ctx
  pub ty : HasTerm w p.ty
  pub few : p.taken ≤ 2000

-- The pattern q is the type with the number t under one product more than p, of whose variable nothing is known.
pub record IsUnderProduct (w : Work) (p : Pattern) (t : ℕ) (q : Pattern) : Type 0 where
  pub ctx : IsContext w q.ctx
  pub entries : entries_of w.proof.now q.ctx ≡ unknown ∷ entries_of w.proof.now p.ctx
  pub ty : q.ty ≡ t
  pub taken : q.taken ≡ p.taken + 1

-- The parts are terms of the record for that many variables.
pub record AreFound (w : Work) (k : ℕ) (fs : List (Option Subterm)) : Type 0 where
  pub clear : AreClear w.proof.now.shapes fs
  pub length : length fs ≡ k

-- The part is one for a variable, if it is there.
pub record IsFound (w : Work) (o : Option Subterm) : Type 0 where
  pub clear : IfSome o (IsClear w.proof.now.shapes)

-- The term with the number t is compared with its form.
pub record IsReduced (w : Work) (c t : ℕ) (o : Compared) : Type 0 where
  pub left : o.left ≡ t
  pub right : HasTerm w o.right
  pub compares : Compares w.proof.now c o

-- The term is a product with that domain and that body.
pub record HasProduct (w : Work) (p : Product) : Type 0 where
  pub term : HasTerm w p.term
  pub domain : HasTerm w p.domain
  pub body : HasTerm w p.body
  pub parts : as_product (term_in w p.term) ≡ Some (term_in w p.domain, term_in w p.body)

-- The type with the number t is that product, or reduces to it.
pub record IsFunction (w : Work) (c t : ℕ) (f : Function) : Type 0 where
  pub place : IsPlace w c
  pub ty : HasTerm w t
  pub product : HasProduct w f.product
  pub change : ReducesTo w.proof.now c (bare_at w.proof.now.shapes t) (pi (bare_at w.proof.now.shapes f.product.domain) (bare_at w.proof.now.shapes f.product.body)) f.change

-- The argument is one of the product.
pub record IsApplied (w : Work) (c : ℕ) (p : Product) (a : Application) : Type 0 where
  pub place : IsPlace w c
  pub product : HasProduct w p
  pub after : HasTerm w a.after
  pub argument : IsArgument w.proof.now c a.argument (bare_at w.proof.now.shapes p.domain) (bare_at w.proof.now.shapes p.body) (bare_at w.proof.now.shapes a.after)

-- The link applies a function of the type with the number t.
pub record IsNext (w : Work) (c t : ℕ) (l : Link) : Type 0 where
  pub place : IsPlace w c
  pub ty : HasTerm w t
  pub after : HasTerm w l.after
  pub link : IsLink w.proof.now c (bare_at w.proof.now.shapes t) l

-- The links lead from the type with the number t to that with the number u.
pub record IsChain (w : Work) (c t u : ℕ) (ls : List Link) : Type 0 where
  pub place : IsPlace w c
  pub first : HasTerm w t
  pub last : HasTerm w u
  pub links : (h : Goal) → h.ctx ≡ c → h.statement ≡ u → LinksFit w.proof.now h t ls

-- What is found, as trees.
abbrev pub found_in : Work → Vec (Option Subterm) → Assignment
found_in w f = values_of w.proof.now.shapes f.items

abbrev pub match_in : Work → Option (Vec (Option Subterm)) → Option Assignment
match_in w o = option_map (found_in w) o

abbrev pub part_in : Work → Option Subterm → Option Named
part_in w o = option_map (value_of w.proof.now.shapes) o

abbrev pub product_at : Work → Product → Opened
product_at w p = record { product = term_in w p.term; domain = term_in w p.domain; body = term_in w p.body }

abbrev pub function_in : Work → Function → Opened
function_in w f = product_at w f.product

abbrev pub application_in : Work → Application → Argument × Named
application_in w a = (argument_of w.proof.now a.argument, term_in w a.after)

abbrev pub link_in : Work → Link → Argument × Named
link_in w l = (argument_of w.proof.now l.argument, term_in w l.after)

abbrev pub arguments_in : Work → List Link → List Argument
arguments_in w ls = map (λ l. argument_of w.proof.now l.argument) ls

-- The work that a stage stands for.
abbrev pub trying : Work → Pattern → (g : ℕ) → Outcome Refusal (Option Assignment) → ℕ → Type 0
trying w p g = tries p.taken (term_in w p.ty) (term_in w g)

abbrev pub searching : Work → Pattern → (g : ℕ) → Outcome Refusal Assignment → ℕ → Type 0
searching w p g = searches w.front.now.entries (term_in w g) (2000 - p.taken) p.taken (entries_of w.proof.now p.ctx) (term_in w p.ty)

abbrev pub reducing : Work → (c t : ℕ) → Outcome Refusal Named → ℕ → Type 0
reducing w c t = Forms w.front.now.entries (entries_of w.proof.now c) (term_in w t)

abbrev pub opening_pattern : Work → Pattern → Outcome Refusal Opened → ℕ → Type 0
opening_pattern w p = opens w.front.now.entries (entries_of w.proof.now p.ctx) (λ v. no_match p.taken) (term_in w p.ty)

abbrev pub opening_pattern_form : Work → Pattern → Outcome Refusal Opened → ℕ → Type 0
opening_pattern_form w p = opens_as w.front.now.entries (entries_of w.proof.now p.ctx) (λ v. no_match p.taken) (term_in w p.ty) None

abbrev pub opening_function : Work → (c t : ℕ) → Option (Named × Named) → Outcome Refusal Opened → ℕ → Type 0
opening_function w c t o = function_opens w.system.now w.front.now.entries (entries_of w.proof.now c) (term_in w t) o

abbrev pub giving : Work → (c : ℕ) → Product → Named → Outcome Refusal (Argument × Named) → ℕ → Type 0
giving w c p a = gives_argument w.system.now w.front.now.entries (entries_of w.proof.now c) (term_in w p.domain) (term_in w p.body) a

abbrev pub applying : Work → (c : ℕ) → Product → Option Subterm → (i : ℕ) → Outcome Refusal (Argument × Named) → ℕ → Type 0
applying w c p o i = takes_argument w.system.now w.front.now.entries (entries_of w.proof.now c) i (product_at w p) (part_in w o)

abbrev pub applying_next : Work → (c t : ℕ) → Option Subterm → (i : ℕ) → Outcome Refusal (Argument × Named) → ℕ → Type 0
applying_next w c t o i = takes_next w.system.now w.front.now.entries (entries_of w.proof.now c) i (term_in w t) (part_in w o)

abbrev pub applying_all : Work → Place → (t : ℕ) → List (Option Subterm) → (i : ℕ) → List Link → Outcome Refusal (List Argument) → ℕ → Type 0
applying_all w g t fs i ls = takes_arguments w.system.now w.front.now.entries (entries_of w.proof.now g.ctx) (term_in w g.statement) i (term_in w t) (values_of w.proof.now.shapes fs) (arguments_in w ls)

abbrev pub applying_whole : Work → Place → (t : ℕ) → List (Option Subterm) → Outcome Refusal (List Argument) → ℕ → Type 0
applying_whole w g t fs = takes_arguments w.system.now w.front.now.entries (entries_of w.proof.now g.ctx) (term_in w g.statement) 1 (term_in w t) (reverse (values_of w.proof.now.shapes fs)) []
