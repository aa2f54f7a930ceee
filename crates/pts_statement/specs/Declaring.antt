-- What a statement of a module comes to over a front, and what that costs.
use Rattle.std.specs.Prelude.{◌≡◌, ℕ, None, Some, Ok, Err}
use Rattle.pts_names.specs.Name.{Name, joined}
use Rattle.pts_ctx.specs.System.{Specification}
use Rattle.pts_ctx.specs.Front.{Global}
use Rattle.pts_ctx.specs.Seen.{place_of}
use Rattle.pts_parser.specs.declared.fault.ReadFault.{ReadFault}
use Rattle.pts_reduce_cost.specs.Costs.{Globals}
use Rattle.pts_infer_cost.specs.Typing.{by_flaw, Outcome, stops}
use Rattle.pts_declare.specs.Stated.{Stated}
use Rattle.pts_declare.specs.Checking.{PartFlaw, DeclareOutcome, turned, Checks}
use Rattle.pts_statement.specs.Statements.{Statement, name_of, stated, visible}

-- Why a statement is refused: a name or a sort in it is unknown; its name stands at a place of the front; or one of its
-- parts has a flaw.
pub data Reason : Type 0 where
  unread : ReadFault → Reason
  taken : Name → (place : ℕ) → Reason
  ill_typed : PartFlaw → Reason

-- A statement comes to an entry, or is stopped by a reason or by the limits.
abbrev pub StatementOutcome : Type 0
StatementOutcome = Outcome Reason (Global Name)

-- Declares S M G d o n: in the system S and over the front G, the statement d of the module M, whose entry is called after the
-- module, comes to o and costs n. Its names and sorts are looked up first, and then its own name; both cost nothing.
pub data Declares (S : Specification) (M : Name) (G : Globals) (d : Statement) : StatementOutcome → ℕ → Type 0 where
  unknown_word : {e : ReadFault} → stated S.sorts (visible M G) d ≡ Err e → Declares S M G d (stops (by_flaw (unread e))) 0
  taken_name : {s : Stated} {k : ℕ} → stated S.sorts (visible M G) d ≡ Ok s → place_of (joined M (name_of d)) G ≡ Some k → Declares S M G d (stops (by_flaw (taken (joined M (name_of d)) k))) 0
  checked : {s : Stated} {p : StatementOutcome} {n : ℕ} (o : DeclareOutcome) → stated S.sorts (visible M G) d ≡ Ok s → place_of (joined M (name_of d)) G ≡ None → Checks S G (joined M (name_of d)) s o n → p ≡ turned ill_typed (λ e. e) o → Declares S M G d p n
