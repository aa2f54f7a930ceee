-- What a line of a module file is, where it may stand.
use Rattle.std.specs.Prelude.{ℕ, ◌&&◌, take, drop, Bool, true, false, if◌then◌else◌, List, [], ◌∷◌, codes, Option, Some, None, Result, Ok, Err}
use Rattle.std.specs.Str.{is_utf8}
use Rattle.pts_names.specs.Name.{Name, same_name, is_short}
use Rattle.pts_parser.specs.declared.fault.ReadFault.{ReadFault}
use Rattle.pts_lines.specs.declared.command.Declaring.{Declaring}
use Rattle.pts_lines.specs.declared.command.Declaring.TheVariants as declaring
use Rattle.pts_lines.specs.Lines.{Line, of_type, definition}
use Rattle.pts_lines.specs.Reading.{declaration_said, declared_first}
use Rattle.pts_module_file.specs.declared.fault.FileWhy.{FileWhy}
use Rattle.pts_module_file.specs.declared.fault.FileWhy.TheVariants.{Form, Read}
use Rattle.pts_module_file.specs.declared.stage.Stage.{Stage}
use Rattle.pts_module_file.specs.declared.stage.Stage.TheVariants.{Format, Module, Uses, Parameters, Declarations, Ended}
use Rattle.pts_module_file.specs.Text.{begins_with}

abbrev pub is_short_text : List ℕ → Bool
is_short_text x = is_utf8 x && is_short x

-- An empty line, or one that begins with `%`.
abbrev pub is_passed : List ℕ → Bool
is_passed [] = true
is_passed (b ∷ bs) = begins_with 37 (b ∷ bs)

-- What a line says: nothing, the name of a module that is used, or a declaration.
pub data FileLine : Type 0 where
  passed : FileLine
  fixed : FileLine
  uses : Name → FileLine
  declares : Declaring × Line → FileLine

-- Which stage parameters and declarations may stand in, and what may follow them.
abbrev pub may_declare : Stage → Declaring → Bool
may_declare Uses d = true
may_declare Parameters d = true
may_declare Declarations declaring.Parameter = false
may_declare Declarations d = true
may_declare s d = false

abbrev pub behind : Declaring → Stage
behind declaring.Parameter = Parameters
behind d = Declarations

-- The name that is declared.
abbrev pub name_of : Line → Option Name
name_of (of_type c x T) = Some x
name_of (definition x A T) = Some x
name_of L = None

abbrev pub has_short_name : Option Name → Bool
has_short_name (Some x) = is_short x
has_short_name None = false

-- A declaration that may stand there. Its name is looked at last.
abbrev pub with_short_name : Declaring × Line → Result (Stage × FileLine) FileWhy
with_short_name d = if has_short_name (name_of d.1) then Ok (behind d.0, declares d) else Err Form

abbrev pub declared : Result (Declaring × Line) ReadFault → Result (Stage × FileLine) FileWhy
declared (Ok d) = with_short_name d
declared (Err e) = Err (Read e)

-- The line `end`.
abbrev pub ending : Stage → List ℕ → Result (Stage × FileLine) FileWhy
ending s line = if may_declare s declaring.Assume && same_name line (codes "end") then Ok (Ended, fixed) else Err Form

-- A line after the heading that is no `uses`: the line of a declaration, or the end.
abbrev pub declaring_line : Stage → List ℕ → Option Declaring → Result (Stage × FileLine) FileWhy
declaring_line s line (Some d) = if may_declare s d then declared (declaration_said line) else Err Form
declaring_line s line None = ending s line

abbrev pub later_line : Stage → List ℕ → Result (Stage × FileLine) FileWhy
later_line s line = declaring_line s line (declared_first line)

-- A line `uses N`, or what may follow them.
abbrev pub uses_line : List ℕ → Result (Stage × FileLine) FileWhy
uses_line line = if same_name (take 5 line) (codes "uses ") && is_short_text (drop 5 line) then Ok (Uses, uses (drop 5 line)) else later_line Uses line

-- The two lines of the heading, of a module with this name.
abbrev pub format_line : List ℕ → Result (Stage × FileLine) FileWhy
format_line line = if same_name line (codes "yarrow-module 1") then Ok (Module, fixed) else Err Form

abbrev pub module_line : Name → List ℕ → Result (Stage × FileLine) FileWhy
module_line asked line = if is_short asked && (same_name (take 7 line) (codes "module ") && same_name (drop 7 line) asked) then Ok (Uses, fixed) else Err Form

abbrev pub staged_line : Name → Stage → List ℕ → Result (Stage × FileLine) FileWhy
staged_line asked Format line = format_line line
staged_line asked Module line = module_line asked line
staged_line asked Uses line = uses_line line
staged_line asked Parameters line = later_line Parameters line
staged_line asked Declarations line = later_line Declarations line
staged_line asked Ended line = Err Form

-- What a line is at a stage, and the stage after it; or why it breaks the file. Each line must be UTF-8.
abbrev pub line_at : Name → Stage → List ℕ → Result (Stage × FileLine) FileWhy
line_at asked s line = if is_utf8 line then (if is_passed line then Ok (s, passed) else staged_line asked s line) else Err Form
