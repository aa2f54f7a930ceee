-- What a module file is: the list of its lines.
use Rattle.std.specs.Prelude.{◌≡◌, ℕ, suc, List, [], ◌∷◌, ◌++◌, map, true, Result, Ok, Err}
use Rattle.pts_names.specs.Name.{Name}
use Rattle.pts_parser.specs.declared.fault.ReadFault.{ReadFault}
use Rattle.pts_lines.specs.declared.command.Declaring.{Declaring}
use Rattle.pts_lines.specs.declared.command.Declaring.TheVariants as declaring
use Rattle.pts_lines.specs.declared.declaration.DeclaringLine.{DeclaringLine}
use Rattle.pts_lines.specs.Lines.{Line}
use Rattle.pts_lines.specs.Seen.{declaration_of}
use Rattle.pts_module_file.specs.declared.fault.FileWhy.{FileWhy}
use Rattle.pts_module_file.specs.declared.fault.FileWhy.TheVariants.{Form}
use Rattle.pts_module_file.specs.declared.fault.FileLineFault.{FileLineFault}
use Rattle.pts_module_file.specs.declared.fault.FileFault.{FileFault}
use Rattle.pts_module_file.specs.declared.stage.Stage.{Stage}
use Rattle.pts_module_file.specs.declared.stage.Stage.TheVariants.{Format, Ended}
use Rattle.pts_module_file.specs.declared.stage.Item.{Item}
use Rattle.pts_module_file.specs.declared.file.ModuleFile.{ModuleFile as TheModule}
use Rattle.pts_module_file.specs.declared.file.ModuleLine.{ModuleLine}
use Rattle.pts_module_file.specs.Text.{lines_of}
use Rattle.pts_module_file.specs.Lines.{FileLine, passed, fixed, uses, declares, line_at, name_of, has_short_name}

-- The lines that say something, each with its number: what is used, the parameters, and the declarations.
pub record File : Type 0 where
  pub used : List (ℕ × Name)
  pub assumed : List (ℕ × (Declaring × Line))
  pub stated : List (ℕ × (Declaring × Line))

-- With one more line, which has this number.
abbrev pub with_entry : File → ℕ → FileLine → File
with_entry f n passed = f
with_entry f n fixed = f
with_entry f n (uses x) = record { used = f.used ++ (n, x) ∷ []; assumed = f.assumed; stated = f.stated }
with_entry f n (declares (declaring.Parameter, L)) = record { used = f.used; assumed = f.assumed ++ (n, (declaring.Parameter, L)) ∷ []; stated = f.stated }
with_entry f n (declares d) = record { used = f.used; assumed = f.assumed; stated = f.stated ++ (n, d) ∷ [] }

-- The end of the lines, of which the next would have this number.
abbrev pub at_last : Stage → ℕ → File → Result File (ℕ × FileWhy)
at_last Ended n f = Ok f
at_last s n f = Err (n, Form)

-- What comes of a line.
abbrev pub behind_line : ℕ → File → Result (Stage × FileLine) FileWhy → (Stage → File → Result File (ℕ × FileWhy)) → Result File (ℕ × FileWhy)
behind_line n f (Ok r) others = others r.0 (with_entry f n r.1)
behind_line n f (Err w) others = Err (n, w)

-- Lines from number n on, at this stage, after these.
abbrev pub read_lines : Name → Stage → ℕ → File → List (List ℕ) → Result File (ℕ × FileWhy)
read_lines asked s n f [] = at_last s n f
read_lines asked s n f (line ∷ lines) = behind_line n f (line_at asked s line) (λ r g. read_lines asked r (suc n) g lines)

-- The file of the module with this name that the bytes are, or the first line that breaks it, and why.
unfoldable pub module_of : Name → List ℕ → Result File (ℕ × FileWhy)
module_of asked bytes = read_lines asked Format 1 (record { used = []; assumed = []; stated = [] }) (lines_of bytes)

-- Each declares a plain name of at most 63 bytes.
abbrev pub AllShort : List (ℕ × (Declaring × Line)) → Type 0
AllShort [] = Unit {0}
AllShort (r ∷ rs) = (has_short_name (name_of r.1.1) ≡ true) × AllShort rs

-- What the program's values stand for.
abbrev pub file_line_of : Item → FileLine
file_line_of Item.Passed = passed
file_line_of Item.Fixed = fixed
file_line_of (Item.Uses x) = uses x
file_line_of (Item.Declared d) = declares (declaration_of d)

abbrev pub stated_of : ModuleLine → DeclaringLine
stated_of (ModuleLine.Assume x t) = DeclaringLine.Assume x t
stated_of (ModuleLine.Define x a t) = DeclaringLine.Define x a t

abbrev pub module_file_of : TheModule → File
module_file_of m = record {
  used = m.uses.items;
  assumed = map (λ r. (r.0, declaration_of (DeclaringLine.Parameter r.1 r.2))) m.parameters.items;
  stated = map (λ r. (r.0, declaration_of (stated_of r.1))) m.declarations.items;
}

abbrev pub AnswersAs : {A B : Type 0} → (A → B) → Result A FileLineFault → Result B FileWhy → Type 0
AnswersAs seen (Ok a) r = r ≡ Ok (seen a)
AnswersAs seen (Err (FileLineFault.Because w)) r = r ≡ Err w
AnswersAs seen (Err FileLineFault.Memory) r = Unit {0}

-- What a refusal of a file means, unless memory is wanting.
abbrev pub RefusesModule : Name → List ℕ → FileFault → Type 0
RefusesModule asked bytes (FileFault.BadFile n w) = module_of asked bytes ≡ Err (n, w)
RefusesModule asked bytes FileFault.Memory = Unit {0}

-- The refusal of a line that is no declaration.
abbrev pub IsRead : ReadFault → FileLineFault → Type 0
IsRead ReadFault.Memory r = r ≡ FileLineFault.Memory
IsRead e r = r ≡ FileLineFault.Because (FileWhy.Read e)

-- The refusal of the file at a line.
abbrev pub fault_at : ℕ → FileLineFault → FileFault
fault_at n (FileLineFault.Because w) = FileFault.BadFile n w
fault_at n FileLineFault.Memory = FileFault.Memory
