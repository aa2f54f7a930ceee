-- The lines that are printed in place of a term.
use Rattle.std.specs.Prelude.{ℕ, List, ◌++◌, codes}
use Rattle.std.specs.Fmt.{decimal}
use Rattle.pts_parser.specs.FaultText.{read_text}
use Rattle.pts_parser.specs.declared.fault.ReadFault.{ReadFault}

abbrev pub refusal_line : ReadFault → List ℕ
refusal_line e = codes "refused " ++ (read_text e ++ codes "\n")

abbrev pub bad_line : ℕ → List ℕ
bad_line k = codes "refused line " ++ (decimal k ++ codes "\n")
