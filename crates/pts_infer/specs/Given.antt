-- What an inner call answered, against the work that it stands for.
use Rattle.std.specs.Prelude.{◌≡◌, ◌<◌, ℕ, List, [], reverse, length, true, false, Result, Ok, Err}
use Rattle.pts_terms.specs.Tree.{Named, pi}
use Rattle.pts_record.specs.declared.shape.Shape.{Shape}
use Rattle.pts_record.specs.Table.{Tables, named_at, bare_at}
use Rattle.pts_reduce_cost.specs.Run.{Run, ends, fails, deep, spent}
use Rattle.pts_infer_cost.specs.Typing.{Kind, not_a_sort, not_product, no_rule, no_axiom, not_convertible, Flaw, FitFlaw, wanted, judged}
use Rattle.pts_grow.specs.declared.fault.TermFault.{TermFault}
use Rattle.pts_grow.specs.declared.fault.TermFault.TheVariants as made
use Rattle.pts_grow.specs.declared.judged.Judged.{Judged}
use Rattle.pts_terms.specs.Limits.{within}
use Rattle.pts_ctx.specs.System.{Specification}
use Rattle.pts_ctx.specs.Front.{Front}
use Rattle.pts_rules.specs.Valid.{IsValid}
use Rattle.pts_reduce.specs.Chain.{entries_of}
use Rattle.pts_reduce.specs.declared.fault.ReduceFault.{ReduceFault}
use Rattle.pts_reduce.specs.declared.fault.ReduceFault.TheVariants as reduce
use Rattle.pts_grow.specs.Judges.{Judges, IsTypedContext}
use Rattle.pts_infer.specs.declared.fault.What.{What}
use Rattle.pts_infer.specs.declared.fault.What.TheVariants.{NotASort, NotProduct, NoRule, NoAxiom, NotConvertible}
use Rattle.pts_infer.specs.declared.fault.FoundFlaw.{FoundFlaw}
use Rattle.pts_infer.specs.declared.fault.Fault.{Fault}
use Rattle.pts_infer.specs.declared.fault.Fault.TheVariants.{Spent, Deep, Memory, Flawed}
use Rattle.pts_infer.specs.declared.fault.Misfit.{Misfit}
use Rattle.pts_infer.specs.declared.fault.Misfit.TheVariants as misfit
use Rattle.pts_infer.specs.declared.judgements.Function.{Function}

abbrev pub same_fault : TermFault → Fault
same_fault made.TooLarge = Deep
same_fault made.Memory = Memory

-- The fault of a reduction.
abbrev pub of_reduction : ReduceFault → Fault
of_reduction reduce.Spent = Spent
of_reduction reduce.Deep = Deep
of_reduction reduce.Memory = Memory

-- The terms that are shown stand in a table of n terms.
abbrev pub ShownBelow : ℕ → What → Type 0
ShownBelow n (NotASort t) = t < n
ShownBelow n (NotProduct t) = t < n
ShownBelow n (NoRule s r) = Unit {0}
ShownBelow n (NoAxiom s) = Unit {0}
ShownBelow n (NotConvertible place have want) = (have < n) × (want < n)

-- So do those of a fault.
abbrev pub FaultStands : ℕ → Fault → Type 0
FaultStands n (Flawed f) = ShownBelow n f.what
FaultStands n _ = Unit {0}

abbrev pub MisfitStands : ℕ → Misfit → Type 0
MisfitStands n (misfit.Wanted f) = ShownBelow n f.what
MisfitStands n (misfit.Own f) = ShownBelow n f.what
MisfitStands n _ = Unit {0}

-- The flaw that was found, by the record's terms.
abbrev pub kind_of : List Shape → What → Kind
kind_of ss (NotASort t) = not_a_sort (named_at ss t)
kind_of ss (NotProduct t) = not_product (named_at ss t)
kind_of ss (NoRule s r) = no_rule s.0 r.0
kind_of ss (NoAxiom s) = no_axiom s.0
kind_of ss (NotConvertible place have want) = not_convertible place (named_at ss have) (named_at ss want)

abbrev pub flaw_of : List Shape → FoundFlaw → Flaw
flaw_of ss f = record { place = reverse f.place.items; names = reverse f.names.items; kind = kind_of ss f.what }

-- A fault with k units left: the work came to the same. Running out of memory is free.
abbrev pub StopsWith : {A : Type 0} → List Shape → Fault → ℕ → Run Flaw A → Type 0
StopsWith ss Memory k r = Unit {0}
StopsWith ss Spent k r = (r ≡ spent) × (k ≡ 0)
StopsWith ss Deep k r = r ≡ deep k
StopsWith ss (Flawed f) k r = ShownBelow (length ss) f.what × (r ≡ fails (flaw_of ss f) k)

abbrev pub MisfitsWith : {A : Type 0} → List Shape → Misfit → ℕ → Run FitFlaw A → Type 0
MisfitsWith ss misfit.Memory k r = Unit {0}
MisfitsWith ss misfit.Spent k r = (r ≡ spent) × (k ≡ 0)
MisfitsWith ss misfit.Deep k r = r ≡ deep k
MisfitsWith ss (misfit.Wanted f) k r = ShownBelow (length ss) f.what × (r ≡ fails (wanted (flaw_of ss f)) k)
MisfitsWith ss (misfit.Own f) k r = ShownBelow (length ss) f.what × (r ≡ fails (judged (flaw_of ss f)) k)

-- A fault of work that finds no flaw.
abbrev pub PlainlyStops : {A : Type 0} → Fault → ℕ → Run ⊥ A → Type 0
PlainlyStops Memory k r = Unit {0}
PlainlyStops Spent k r = (r ≡ spent) × (k ≡ 0)
PlainlyStops Deep k r = r ≡ deep k
PlainlyStops (Flawed f) k r = ⊥

-- The fault is that flaw. Memory may be wanted on the way.
abbrev pub FoundAs : List Shape → Flaw → Fault → Type 0
FoundAs ss g Memory = Unit {0}
FoundAs ss g (Flawed f) = ShownBelow (length ss) f.what × (flaw_of ss f ≡ g)
FoundAs ss g Spent = ⊥
FoundAs ss g Deep = ⊥

-- The work ends with what the answer stands for, or with its fault.
abbrev pub Gives : {X A : Type 0} → List Shape → (X → A) → Result X Fault → ℕ → Run Flaw A → Type 0
Gives ss value (Ok x) k r = r ≡ ends (value x) k
Gives ss value (Err e) k r = StopsWith ss e k r

abbrev pub GivesFit : {X A : Type 0} → List Shape → (X → A) → Result X Misfit → ℕ → Run FitFlaw A → Type 0
GivesFit ss value (Ok x) k r = r ≡ ends (value x) k
GivesFit ss value (Err e) k r = MisfitsWith ss e k r

-- The type of a judgement; the domain and the body of a function's product.
abbrev pub type_of : List Shape → Judged → Named
type_of ss j = named_at ss j.claim

abbrev pub product_of : List Shape → Function → Named × Named
product_of ss f = (named_at ss f.domain, named_at ss f.codomain)

-- The judgement of a function, whose type is the product of two terms that stand.
abbrev pub IsFunction : Tables → ℕ → Function → Type 0
IsFunction r c f = Judges r c f.judged × (f.domain < length r.shapes) × (f.codomain < length r.shapes) × (bare_at r.shapes f.judged.claim ≡ pi (bare_at r.shapes f.domain) (bare_at r.shapes f.codomain))

-- The first fault, told from elsewhere, is the second one: a flaw is changed so, and each other fault stays. Memory may
-- be wanted on the way.
abbrev pub ToldAs : (Flaw → Flaw) → List Shape → Fault → Fault → Type 0
ToldAs g ss e Memory = Unit {0}
ToldAs g ss Spent Spent = Unit {0}
ToldAs g ss Deep Deep = Unit {0}
ToldAs g ss (Flawed f) (Flawed h) = (ShownBelow (length ss) f.what → ShownBelow (length ss) h.what) × (flaw_of ss h ≡ g (flaw_of ss f))
ToldAs g ss e h = ⊥

-- The same from a flaw of an inference to one of a fit, and from one of a fit to one of an inference.
abbrev pub ToldWanted : List Shape → Fault → Misfit → Type 0
ToldWanted ss e misfit.Memory = Unit {0}
ToldWanted ss Spent misfit.Spent = Unit {0}
ToldWanted ss Deep misfit.Deep = Unit {0}
ToldWanted ss (Flawed f) (misfit.Wanted h) = (ShownBelow (length ss) f.what → ShownBelow (length ss) h.what) × (flaw_of ss h ≡ flaw_of ss f)
ToldWanted ss e h = ⊥

abbrev pub ToldOf : (FitFlaw → Flaw) → List Shape → Misfit → Fault → Type 0
ToldOf g ss e Memory = Unit {0}
ToldOf g ss misfit.Spent Spent = Unit {0}
ToldOf g ss misfit.Deep Deep = Unit {0}
ToldOf g ss (misfit.Wanted f) (Flawed h) = (ShownBelow (length ss) f.what → ShownBelow (length ss) h.what) × (flaw_of ss h ≡ g (wanted (flaw_of ss f)))
ToldOf g ss (misfit.Own f) (Flawed h) = (ShownBelow (length ss) f.what → ShownBelow (length ss) h.what) × (flaw_of ss h ≡ g (judged (flaw_of ss f)))
ToldOf g ss e h = ⊥

-- A record that is valid over every front, with a context that is empty.
abbrev pub IsOpened : Tables → ℕ → Type 0
IsOpened r c = (c < length r.nodes) × IsTypedContext r c × (entries_of r c ≡ []) × ((S : Specification) (G : Front) → IsValid S G r)

-- Why two terms are not both made: one of them is beyond the limits.
abbrev pub IsTooLarge : TermFault → Type 0
IsTooLarge made.TooLarge = Unit {0}
IsTooLarge made.Memory = ⊥

pub data EitherLarge (t u : Named) : Type 0 where
  first_large : within t ≡ false → EitherLarge t u
  second_large : within t ≡ true → within u ≡ false → EitherLarge t u
