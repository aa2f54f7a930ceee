-- How a refusal is printed: its name and its values, with a blank before each.
use Rattle.std.specs.Prelude.{ℕ, List, ◌++◌, codes}
use Rattle.std.specs.Fmt.{decimal}
use Rattle.pts_parser.specs.FaultText.{read_text}
use Rattle.pts_infer_cost.specs.Typing.{Stop, by_flaw, by_limits}
use Rattle.pts_infer.specs.FaultText.{part_text}
use Rattle.pts_flaw_text.specs.FlawText.{flaw_text}
use Rattle.pts_flaw_text.specs.InferText.{deep_text, infer_text}
use Rattle.pts_declare.specs.declared.fault.DeclareFault.TheVariants as declare
use Rattle.pts_declare.specs.Checking.{flawed}
use Rattle.pts_statement.specs.declared.fault.StatementFault.{StatementFault}
use Rattle.pts_statement.specs.declared.fault.StatementFault.TheVariants.{Read, Taken, Declare, Memory}
use Rattle.pts_statement.specs.Declaring.{Reason, unread, taken, ill_typed}

module _ (sorts : List (List ℕ)) where
  abbrev pub reason_text : Reason → List ℕ
  reason_text (unread e) = read_text e
  reason_text (taken x k) = codes "Taken " ++ (x ++ (codes " " ++ decimal k))
  reason_text (ill_typed (flawed part f)) = flaw_text sorts (part_text part) f

  -- What stops a statement.
  abbrev pub stop_text : Stop Reason → List ℕ
  stop_text (by_flaw r) = reason_text r
  stop_text by_limits = deep_text

  -- The same of a fault. Running out of memory is never printed.
  abbrev pub fault_text : StatementFault → List ℕ
  fault_text (Read e) = read_text e
  fault_text (Taken x p) = reason_text (taken x p)
  fault_text (Declare (declare.Infer part e)) = infer_text sorts part e
  fault_text (Declare declare.Memory) = codes "Memory"
  fault_text Memory = codes "Memory"
