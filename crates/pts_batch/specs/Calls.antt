-- What the calls of this crate answer.
use Rattle.std.specs.Prelude.{◌≡◌, ℕ, List}
use Rattle.pts_names.specs.Name.{Name}
use Rattle.pts_infer_cost.specs.Typing.{by_flaw, by_limits}
use Rattle.pts_infer.specs.Answered.{flaw_seen}
use Rattle.pts_infer.specs.declared.answer.InferFault.TheVariants as infer
use Rattle.pts_module_file.specs.declared.fault.FileFault.{FileFault}
use Rattle.pts_declare.specs.declared.fault.DeclareFault.TheVariants as declare
use Rattle.pts_declare.specs.Checking.{flawed}
use Rattle.pts_statement.specs.declared.fault.StatementFault.{StatementFault}
use Rattle.pts_statement.specs.declared.fault.StatementFault.TheVariants.{Read, Taken, Declare, Memory}
use Rattle.pts_statement.specs.Declaring.{unread, taken, ill_typed}
use Rattle.pts_statement.specs.Words.{fault_text}
use Rattle.pts_batch.specs.Batches.{BatchAnswer, refusal, bad_line, at_line}
use Rattle.pts_batch.specs.Loading.{Loaded, stopped, spent}
use Rattle.pts_batch.specs.declared.loading.LoadFault.{LoadFault}
use Rattle.pts_batch.specs.declared.loading.LoadFault.TheVariants as load

-- What the refusal of a statement on a line is, with b units before and k after it. Out of memory is no refusal.
abbrev pub RefusedAt : (ℕ → Loaded → ℕ → Type 0) → ℕ → ℕ → ℕ → StatementFault → Type 0
RefusedAt loads b k n (Read e) = loads b (stopped n (by_flaw (unread e))) k
RefusedAt loads b k n (Taken x p) = loads b (stopped n (by_flaw (taken x p))) k
RefusedAt loads b k n (Declare (declare.Infer part (infer.Flaw f))) = loads b (stopped n (by_flaw (ill_typed (flawed part (flaw_seen f))))) k
RefusedAt loads b k n (Declare (declare.Infer part infer.Spent)) = loads b (spent n) k
RefusedAt loads b k n (Declare (declare.Infer part infer.Deep)) = loads b (stopped n by_limits) k
RefusedAt loads b k n (Declare (declare.Infer part infer.Memory)) = ⊥
RefusedAt loads b k n (Declare declare.Memory) = ⊥
RefusedAt loads b k n Memory = ⊥

-- The same where a module is refused. Out of memory is free.
abbrev pub Stops : (ℕ → Loaded → ℕ → Type 0) → ℕ → ℕ → LoadFault → Type 0
Stops loads b k (load.Refused n e) = RefusedAt loads b k n e
Stops loads b k load.Memory = Unit {0}

-- The fault of the statement on a line.
abbrev pub fault_at : ℕ → StatementFault → LoadFault
fault_at n Memory = load.Memory
fault_at n e = load.Refused n e

-- A module is answered so for what is wrong with its file, and for a statement that is refused. No answer is given where
-- memory runs out.
abbrev pub AnswersBadFile : Name → FileFault → BatchAnswer → Type 0
AnswersBadFile M (FileFault.BadFile n w) a = a ≡ refusal M (bad_line n w)
AnswersBadFile M FileFault.Memory a = ⊥

abbrev pub AnswersFault : List (List ℕ) → Name → LoadFault → BatchAnswer → Type 0
AnswersFault sorts M (load.Refused n e) a = a ≡ refusal M (at_line n (fault_text sorts e))
AnswersFault sorts M load.Memory a = ⊥
