-- How the fault of a system is printed: its name and its values, with a blank before each.
use Rattle.std.specs.Prelude.{ℕ, List, ◌++◌, codes}
use Rattle.std.specs.Fmt.{decimal}
use Rattle.pts_ctx.specs.declared.system.SystemPart.{SystemPart}
use Rattle.pts_ctx.specs.declared.system.SystemPart.TheVariants.{Axiom, Rule}
use Rattle.pts_ctx.specs.declared.system.SystemFault.{SystemFault}
use Rattle.pts_ctx.specs.declared.system.SystemFault.TheVariants.{TooManySorts, DuplicateSort, UnknownSort, AxiomClash, RuleClash, Memory}

abbrev pub part_text : SystemPart → List ℕ
part_text Axiom = codes "Axiom"
part_text Rule = codes "Rule"

-- Running out of memory is no fault of the system.
abbrev pub system_text : SystemFault → List ℕ
system_text (TooManySorts n) = codes "TooManySorts " ++ decimal n
system_text (DuplicateSort i j) = codes "DuplicateSort " ++ (decimal i ++ (codes " " ++ decimal j))
system_text (UnknownSort part i) = codes "UnknownSort " ++ (part_text part ++ (codes " " ++ decimal i))
system_text (AxiomClash i j) = codes "AxiomClash " ++ (decimal i ++ (codes " " ++ decimal j))
system_text (RuleClash i j) = codes "RuleClash " ++ (decimal i ++ (codes " " ++ decimal j))
system_text Memory = codes "Memory"
