-- How it is printed why a line breaks the format.
use Rattle.std.specs.Prelude.{ℕ, List, codes}
use Rattle.pts_parser.specs.FaultText.{read_text}
use Rattle.pts_module_file.specs.declared.fault.FileWhy.{FileWhy}
use Rattle.pts_module_file.specs.declared.fault.FileWhy.TheVariants.{Form, Read}

abbrev pub file_why_text : FileWhy → List ℕ
file_why_text Form = codes "Form"
file_why_text (Read e) = read_text e
