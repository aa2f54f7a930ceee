-- What a call answered, against the work that it stands for.
use Rattle.std.specs.Prelude.{◌≡◌, ◌≤◌, ◌<◌, ℕ, List, reverse, length, Option, Some, None, Result, Ok, Err}
use Rattle.pts_terms.specs.Tree.{Tree, Named, named_lam}
use Rattle.pts_ctx.specs.Front.{Local, assumed, defined, unknown}
use Rattle.pts_record.specs.declared.shape.Shape.{Shape}
use Rattle.pts_record.specs.Table.{named_at}
use Rattle.pts_rules.specs.Meter.{Units}
use Rattle.pts_reduce_cost.specs.Run.{Run, ends, fails, deep, spent}
use Rattle.pts_reduce_cost.specs.Work.{Difference, Answer}
use Rattle.pts_grow.specs.declared.fault.TermFault.{TermFault}
use Rattle.pts_grow.specs.declared.fault.TermFault.TheVariants as made
use Rattle.pts_reduce.specs.declared.fault.FoundDifference.{FoundDifference}
use Rattle.pts_reduce.specs.declared.fault.Fault.{Fault}
use Rattle.pts_reduce.specs.declared.fault.Fault.TheVariants.{Spent, Deep, Memory, Differ}

abbrev pub same_fault : TermFault → Fault
same_fault made.TooLarge = Deep
same_fault made.Memory = Memory

-- A fault of work that finds no difference, with k units left: its own work came to the same. Running out of memory is free.
abbrev pub PlainFault : {A : Type 0} → Fault → ℕ → Run ⊥ A → Type 0
PlainFault Memory k r = Unit {0}
PlainFault Spent k r = (r ≡ spent) × (k ≡ 0)
PlainFault Deep k r = r ≡ deep k
PlainFault (Differ d) k r = ⊥

-- The work ends with what the answer stands for, and k units are left.
abbrev pub Gives : {X A : Type 0} → (X → A) → Result X Fault → ℕ → Run ⊥ A → Type 0
Gives value (Ok x) k r = r ≡ ends (value x) k
Gives value (Err e) k r = PlainFault e k r

-- The difference that was found, by the record's terms.
abbrev pub difference : List Shape → FoundDifference → Difference
difference ss d = record { place = reverse d.place.items; left = named_at ss d.left; right = named_at ss d.right }

abbrev pub TestFault : List Shape → Fault → ℕ → Answer → Type 0
TestFault ss Memory k r = Unit {0}
TestFault ss Spent k r = (r ≡ spent) × (k ≡ 0)
TestFault ss Deep k r = r ≡ deep k
TestFault ss (Differ d) k r = (d.left < length ss) × (d.right < length ss) × (r ≡ fails (difference ss d) k)

-- A test's work ends with a yes, or with the fault that was answered.
abbrev pub Tested : {X : Type 0} → List Shape → Result X Fault → ℕ → Answer → Type 0
Tested ss (Ok x) k r = r ≡ ends tt k
Tested ss (Err e) k r = TestFault ss e k r

-- The later state of a meter.
abbrev pub Later : Units → Units → Type 0
Later a b = (b.limit ≡ a.limit) × (a.spent ≤ b.spent)

-- The definition of an entry.
abbrev pub definition_of : {B : Type 0} → Local B → Option (Tree B)
definition_of (assumed A) = None
definition_of (defined a A) = Some a
definition_of unknown = None

-- The body of a term that is an abstraction.
abbrev pub body_in : Named → Option Named
body_in (named_lam x A b) = Some b
body_in _ = None
