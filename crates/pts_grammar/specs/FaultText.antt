-- How what is wanted at a place is printed: its name.
use Rattle.std.specs.Prelude.{ℕ, List, codes}
use Rattle.pts_grammar.specs.declared.kind.Kind.{Kind}
use Rattle.pts_grammar.specs.declared.kind.Kind.TheVariants.{Command, Term, Name, Plain, Colon, Dot, Assign, In, Close, Semicolon, Number, End}

abbrev pub kind_text : Kind → List ℕ
kind_text Command = codes "Command"
kind_text Term = codes "Term"
kind_text Name = codes "Name"
kind_text Plain = codes "Plain"
kind_text Colon = codes "Colon"
kind_text Dot = codes "Dot"
kind_text Assign = codes "Assign"
kind_text In = codes "In"
kind_text Close = codes "Close"
kind_text Semicolon = codes "Semicolon"
kind_text Number = codes "Number"
kind_text End = codes "End"
