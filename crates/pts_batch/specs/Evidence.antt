-- What the program's values stand for.
use Rattle.std.specs.Prelude.{◌≡◌, ℕ, List, [], ◌∷◌, true, option_map}
use Rattle.pts_grammar.specs.Seen.{syntax_of}
use Rattle.pts_module_file.specs.declared.file.ModuleLine.{ModuleLine}
use Rattle.pts_statement.specs.Statements.{Statement, assumes, defines, name_of}
use Rattle.pts_names.specs.Name.{is_short}

-- The statement that a line of a file is.
abbrev pub statement_of : ModuleLine → Statement
statement_of (ModuleLine.Assume x t) = assumes x (syntax_of t)
statement_of (ModuleLine.Define x a t) = defines x (option_map syntax_of a) (syntax_of t)

abbrev pub numbered : ℕ × ModuleLine → ℕ × Statement
numbered r = (r.0, statement_of r.1)

-- Each line declares a name that a file may declare.
abbrev pub AllDeclarable : List (ℕ × ModuleLine) → Type 0
AllDeclarable [] = Unit {0}
AllDeclarable (r ∷ rs) = (is_short (name_of (statement_of r.1)) ≡ true) × AllDeclarable rs
