-- What is answered where a statement is refused.
use Rattle.std.specs.Prelude.{◌≡◌, ◌≢◌, ℕ, Some, Result, Ok, Err}
use Rattle.pts_names.specs.Name.{Name}
use Rattle.pts_ctx.specs.System.{Specification}
use Rattle.pts_ctx.specs.Seen.{place_of}
use Rattle.pts_parser.specs.declared.fault.ReadFault.{ReadFault}
use Rattle.pts_parser.specs.declared.fault.ReadFault.TheVariants as read
use Rattle.pts_parser.specs.Resolution.{UnlessMemory}
use Rattle.pts_reduce_cost.specs.Costs.{Globals}
use Rattle.pts_reduce_cost.specs.Laws.{WithinBudget, AboveBudget}
use Rattle.pts_infer_cost.specs.Typing.{by_flaw, by_limits, stops}
use Rattle.pts_infer.specs.Answered.{flaw_seen}
use Rattle.pts_infer.specs.declared.answer.InferFault.TheVariants as infer
use Rattle.pts_infer.specs.declared.part.Part.{Part}
use Rattle.pts_declare.specs.declared.fault.DeclareFault.{DeclareFault}
use Rattle.pts_declare.specs.declared.fault.DeclareFault.TheVariants as declare
use Rattle.pts_declare.specs.declared.stated.Stated.{Stated as TheStated}
use Rattle.pts_declare.specs.Stated.{Stated, stated_of, spent_part, deep_part}
use Rattle.pts_declare.specs.Checking.{flawed}
use Rattle.pts_statement.specs.declared.fault.StatementFault.{StatementFault}
use Rattle.pts_statement.specs.declared.fault.StatementFault.TheVariants.{Read, Taken, Declare, Memory}
use Rattle.pts_statement.specs.Statements.{Statement, stated, visible}
use Rattle.pts_statement.specs.Declaring.{unread, taken, ill_typed, Declares}

-- The part is the one that belongs to what the statement states.
abbrev pub IsPartOf : Specification → Name → Globals → Statement → (Stated → Part) → Part → Type 0
IsPartOf S M G d part_of part = (s : Stated) × (stated S.sorts (visible M G) d ≡ Ok s) × (part ≡ part_of s)

-- The statement d of the module M over the front G, with b units before and k after it: its outcome is the reason that the
-- fault names, or something beyond the limits; or each outcome costs more than b, and nothing is left. Out of memory is free,
-- and `Memory` alone says so.
abbrev pub RefusesStatement : Specification → Name → Globals → Statement → StatementFault → ℕ → ℕ → Type 0
RefusesStatement S M G d (Read e) b k = (e ≢ read.Memory) × WithinBudget (Declares S M G d) b (stops (by_flaw (unread e))) k
RefusesStatement S M G d (Taken x p) b k = WithinBudget (Declares S M G d) b (stops (by_flaw (taken x p))) k
RefusesStatement S M G d (Declare (declare.Infer part (infer.Flaw f))) b k = WithinBudget (Declares S M G d) b (stops (by_flaw (ill_typed (flawed part (flaw_seen f))))) k
RefusesStatement S M G d (Declare (declare.Infer part infer.Spent)) b k = AboveBudget (Declares S M G d) b × (k ≡ 0) × IsPartOf S M G d spent_part part
RefusesStatement S M G d (Declare (declare.Infer part infer.Deep)) b k = WithinBudget (Declares S M G d) b (stops by_limits) k × IsPartOf S M G d deep_part part
RefusesStatement S M G d (Declare (declare.Infer part infer.Memory)) b k = ⊥
RefusesStatement S M G d (Declare declare.Memory) b k = ⊥
RefusesStatement S M G d Memory b k = Unit {0}

-- Why a name is not free.
abbrev pub NotFree : Name → Globals → StatementFault → Type 0
NotFree x G (Taken y p) = (y ≡ x) × (place_of x G ≡ Some p)
NotFree x G Memory = Unit {0}
NotFree x G (Read e) = ⊥
NotFree x G (Declare e) = ⊥

-- A call answers what is stated, unless memory runs out.
abbrev pub AnswersStated : Result TheStated ReadFault → Result Stated ReadFault → Type 0
AnswersStated (Ok s) said = said ≡ Ok (stated_of s)
AnswersStated (Err e) said = UnlessMemory e (said ≡ Err e)

-- A fault of the reading of a statement, and one of the declaring of what it states.
abbrev pub read_fault : ReadFault → StatementFault
read_fault read.Memory = Memory
read_fault e = Read e

abbrev pub declare_fault : DeclareFault → StatementFault
declare_fault declare.Memory = Memory
declare_fault e = Declare e
