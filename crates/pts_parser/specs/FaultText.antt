-- How the refusal of a text is printed: its name and its values, with a blank before each.
use Rattle.std.specs.Prelude.{ℕ, List, ◌++◌, codes}
use Rattle.std.specs.Fmt.{decimal}
use Rattle.pts_grammar.specs.FaultText.{kind_text}
use Rattle.pts_parser.specs.declared.fault.ReadFault.{ReadFault}
use Rattle.pts_parser.specs.declared.fault.ReadFault.TheVariants.{BadChar, LongName, Expected, TooDeep, UnknownName, UnknownSort, Memory}

-- Running out of memory is no refusal.
abbrev pub read_text : ReadFault → List ℕ
read_text (BadChar p) = codes "BadChar " ++ decimal p
read_text (LongName p) = codes "LongName " ++ decimal p
read_text (Expected p k) = codes "Expected " ++ (decimal p ++ (codes " " ++ kind_text k))
read_text (TooDeep p) = codes "TooDeep " ++ decimal p
read_text (UnknownName p x) = codes "UnknownName " ++ (decimal p ++ (codes " " ++ x))
read_text (UnknownSort p w) = codes "UnknownSort " ++ (decimal p ++ (codes " " ++ w))
read_text Memory = codes "Memory"
