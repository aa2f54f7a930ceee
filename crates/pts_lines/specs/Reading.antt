-- What a text says as a line, and its refusals.
use Rattle.std.specs.Prelude.{◌≡◌, ◌≢◌, ◌<◌, ◌≤◌, ℕ, List, [], ◌∷◌, length, take, if◌then◌else◌, Option, Some, None, Result, Ok, Err}
use Rattle.std.specs.Str.{is_utf8}
use Rattle.pts_names.specs.Name.{Name}
use Rattle.pts_tokens.specs.declared.fault.TokenFault.{TokenFault}
use Rattle.pts_tokens.specs.declared.fault.TokenFault.TheVariants as token
use Rattle.pts_tokens.specs.declared.token.Token.TheVariants.{Name as Word}
use Rattle.pts_tokens.specs.Tokens.{Spot}
use Rattle.pts_grammar.specs.declared.kind.Kind.{Kind}
use Rattle.pts_grammar.specs.declared.kind.Kind.TheVariants as kind
use Rattle.pts_parser.specs.declared.fault.ReadFault.{ReadFault}
use Rattle.pts_parser.specs.declared.fault.ReadFault.TheVariants.{BadChar, LongName, Expected, TooDeep, UnknownName, UnknownSort, Memory}
use Rattle.pts_parser.specs.Reading.{token_fault, tokens_from}
use Rattle.pts_grammar.specs.Seen.{within}
use Rattle.pts_grammar.specs.Open.{more}
use Rattle.pts_lines.specs.Forms.{run_line, run_declaration}
use Rattle.pts_lines.specs.declared.command.Command.{Command}
use Rattle.pts_lines.specs.declared.command.Declaring.{Declaring}
use Rattle.pts_lines.specs.Words.{command, declared}
use Rattle.pts_lines.specs.Lines.{Line, Follows, LineReads, DeclarationReads}
use Rattle.pts_lines.specs.Refusals.{Refused, NoneTooMany, FirstTooMany}
use Rattle.pts_lines.specs.Seen.{deepest, terms_of}

-- What can stand after the word of a command.
abbrev pub Behind : Command → List Spot → Type 0
Behind c ts = (L : Line) × Follows c ts L

-- The tokens are a line with these words.
abbrev pub IsLine : (Name → Option Command) → List Spot → Type 0
IsLine words ts = (L : Line) × LineReads words ts L

-- How the grammar refuses the tokens of a text of this length: there is no word, which is wanted at the text's end; or
-- the first token is the word of no command, which is answered for place 0; or what stands after it can't; or a
-- parenthesis is one too many, the first such one being answered; or the line has a term that is deeper than 2,000. A
-- parenthesis that is one too many comes before whatever is wrong after it.
pub data RefusesLine (words : Name → Option Command) (length : ℕ) : List Spot → ReadFault → Type 0 where
  no_word : RefusesLine words length [] (Expected length kind.Command)
  no_command : {s : Spot} {us : List Spot} → ((w : Name) (c : Command) → s.1 ≡ Word w → words w ≡ Some c → ⊥) → RefusesLine words length (s ∷ us) (Expected 0 kind.Command)
  behind_word : {p q : ℕ} {w : Name} {c : Command} {us : List Spot} {k : Kind} → words w ≡ Some c → Refused (Behind c) length us k q → NoneTooMany (IsLine words) 2000 ((p, Word w) ∷ us) → RefusesLine words length ((p, Word w) ∷ us) (Expected q k)
  many_open : {ts : List Spot} {q : ℕ} → FirstTooMany (IsLine words) 2000 ts q → RefusesLine words length ts (TooDeep q)
  deep_term : {ts : List Spot} {L : Line} → LineReads words ts L → 2000 < deepest (terms_of L) → NoneTooMany (IsLine words) 2000 ts → RefusesLine words length ts (TooDeep length)

-- The text says this line: its tokens are that line.
abbrev pub SaysLine : List ℕ → Line → Type 0
SaysLine text L = (ts : List Spot) × (tokens_from text 0 ≡ Ok ts) × LineReads command ts L

-- The text says this declaration of a module file.
abbrev pub SaysDeclaration : List ℕ → Declaring × Line → Type 0
SaysDeclaration text d = (ts : List Spot) × (tokens_from text 0 ≡ Ok ts) × DeclarationReads ts d.0 d.1

-- The text has tokens, and the grammar refuses them so.
abbrev pub IsRefusedLine : (Name → Option Command) → List ℕ → ReadFault → Type 0
IsRefusedLine words text e = (ts : List Spot) × (tokens_from text 0 ≡ Ok ts) × RefusesLine words (length text) ts e

-- The text says no line with these words for this reason.
abbrev pub RefusesText : (Name → Option Command) → List ℕ → ReadFault → Type 0
RefusesText words text (BadChar p) = tokens_from text 0 ≡ Err (token.BadChar p)
RefusesText words text (LongName p) = tokens_from text 0 ≡ Err (token.LongName p)
RefusesText words text (Expected p k) = IsRefusedLine words text (Expected p k)
RefusesText words text (TooDeep p) = IsRefusedLine words text (TooDeep p)
RefusesText words text (UnknownName p x) = ⊥
RefusesText words text (UnknownSort p w) = ⊥
RefusesText words text Memory = Unit {0}

-- No parenthesis of the text is one too many.
abbrev pub FewOpen : (Name → Option Command) → List ℕ → Type 0
FewOpen words text = (ts : List Spot) × (tokens_from text 0 ≡ Ok ts) × NoneTooMany (IsLine words) 2000 ts

-- A text is refused for one reason at most, unless memory is wanting.
abbrev pub LineRefusalsAreDetermined : Type 0
LineRefusalsAreDetermined = (words : Name → Option Command) (text : List ℕ) (e f : ReadFault) → e ≢ Memory → f ≢ Memory → RefusesText words text e → RefusesText words text f → e ≡ f

-- And for none where its tokens are a line, no parenthesis is one too many, and no term is deeper than 2,000.
abbrev pub LinesAreNotRefused : Type 0
LinesAreNotRefused = (words : Name → Option Command) (text : List ℕ) (ts : List Spot) (L : Line) (e : ReadFault) → e ≢ Memory → tokens_from text 0 ≡ Ok ts → LineReads words ts L → NoneTooMany (IsLine words) 2000 ts → deepest (terms_of L) ≤ 2000 → ¬ RefusesText words text e

-- The same by the function that goes through the tokens from the left.
abbrev pub after_tokens : {A : Type 0} → Result (List Spot) TokenFault → (List Spot → Result A ReadFault) → Result A ReadFault
after_tokens (Ok ts) f = f ts
after_tokens (Err e) f = Err (token_fault e)

abbrev pub line_said : List ℕ → Result Line ReadFault
line_said text = after_tokens (tokens_from text 0) (run_line within more (length text))

abbrev pub declaration_said : List ℕ → Result (Declaring × Line) ReadFault
declaration_said text = after_tokens (tokens_from text 0) (run_declaration within more (length text))

-- The declaration whose word is the first token of a text. Where the text has no tokens, these are those before the place
-- at which it is refused.
abbrev pub declared_at : List Spot → Option Declaring
declared_at ((p, Word w) ∷ ts) = declared w
declared_at ts = None

abbrev pub declared_in : Result (List Spot) TokenFault → Option Declaring
declared_in (Ok ts) = declared_at ts
declared_in (Err e) = None

abbrev pub declared_front : List ℕ → Option Declaring
declared_front front = if is_utf8 front then declared_in (tokens_from front 0) else None

abbrev pub declared_before : List ℕ → Result (List Spot) TokenFault → Option Declaring
declared_before text (Ok ts) = declared_at ts
declared_before text (Err (token.BadChar p)) = declared_front (take p text)
declared_before text (Err (token.LongName p)) = declared_front (take p text)
declared_before text (Err token.Memory) = None

abbrev pub declared_first : List ℕ → Option Declaring
declared_first text = declared_before text (tokens_from text 0)
