-- The grammar of lines, with one rule for each form of line. `LineReads ts line` says that the tokens ts are that line.
use Rattle.std.specs.Prelude.{◌≡◌, ℕ, List, [], ◌∷◌, Option, Some, None, true}
use Rattle.pts_names.specs.Name.{Name, is_plain}
use Rattle.pts_tokens.specs.declared.token.Token.TheVariants.{Colon, Assign, Semicolon, Name as Word, Number}
use Rattle.pts_tokens.specs.Tokens.{Spot}
use Rattle.pts_grammar.specs.Syntax.{Syntax}
use Rattle.pts_grammar.specs.Grammar.{Reads}
use Rattle.pts_lines.specs.declared.command.Alone.{Alone}
use Rattle.pts_lines.specs.declared.command.Named.{Named}
use Rattle.pts_lines.specs.declared.command.Placed.{Placed}
use Rattle.pts_lines.specs.declared.command.Asked.{Asked}
use Rattle.pts_lines.specs.declared.command.WithType.{WithType}
use Rattle.pts_lines.specs.declared.command.Command.{Command}
use Rattle.pts_lines.specs.declared.command.Command.TheVariants.{OfNothing, OfPlain, OfName, OfTerm, OfType, Rename, Budget, Equal, Define, Instance}
use Rattle.pts_lines.specs.declared.command.Declaring.{Declaring}
use Rattle.pts_lines.specs.Words.{declared, rest_of}
use Rattle.pts_lines.specs.Items.{is_label, units}

-- What a line says: a command, and what it works on.
pub data Line : Type 0 where
  alone : Alone → Line
  of_plain : Named → Name → Line
  of_name : Placed → ℕ → Name → Line
  of_term : Asked → Syntax → Line
  of_type : WithType → Name → Syntax → Line
  renaming : Name → Name → Line
  budget : ℕ → Line
  equality : Syntax → Syntax → Line
  definition : Name → Option Syntax → Syntax → Line
  instantiation : Name → Name → List Syntax → Line

-- Terms with a semicolon between each and the next.
pub data Terms : List Spot → List Syntax → Type 0 where
  last_term : {ts : List Spot} {T : Syntax} → Reads ts T [] → Terms ts (T ∷ [])
  more_terms : {ts us : List Spot} {T : Syntax} {Ts : List Syntax} {p : ℕ} → Reads ts T ((p, Semicolon) ∷ us) → Terms us Ts → Terms ts (T ∷ Ts)

-- What stands after the word of a command.
pub data Follows : Command → List Spot → Line → Type 0 where
  nothing : {c : Alone} → Follows (OfNothing c) [] (alone c)
  a_plain : {c : Named} {p : ℕ} {x : Name} → is_plain x ≡ true → Follows (OfPlain c) ((p, Word x) ∷ []) (of_plain c x)
  a_name : {c : Placed} {p : ℕ} {x : Name} → Follows (OfName c) ((p, Word x) ∷ []) (of_name c p x)
  a_term : {c : Asked} {ts : List Spot} {T : Syntax} → Reads ts T [] → Follows (OfTerm c) ts (of_term c T)
  a_type : {c : WithType} {p q : ℕ} {x : Name} {ts : List Spot} {T : Syntax} → is_plain x ≡ true → Reads ts T [] → Follows (OfType c) ((p, Word x) ∷ (q, Colon) ∷ ts) (of_type c x T)
  two_names : {p q : ℕ} {x y : Name} → is_plain x ≡ true → is_plain y ≡ true → Follows Rename ((p, Word x) ∷ (q, Word y) ∷ []) (renaming x y)
  a_number : {p n : ℕ} {ds : List ℕ} → units ds ≡ Some n → Follows Budget ((p, Number ds) ∷ []) (budget n)
  two_terms : {p : ℕ} {ts us : List Spot} {T U : Syntax} → Reads ts T ((p, Semicolon) ∷ us) → Reads us U [] → Follows Equal ts (equality T U)
  untyped : {p q : ℕ} {x : Name} {ts : List Spot} {T : Syntax} → is_plain x ≡ true → Reads ts T [] → Follows Define ((p, Word x) ∷ (q, Assign) ∷ ts) (definition x None T)
  with_type : {p q r : ℕ} {x : Name} {ts us : List Spot} {A T : Syntax} → is_plain x ≡ true → Reads ts A ((r, Assign) ∷ us) → Reads us T [] → Follows Define ((p, Word x) ∷ (q, Colon) ∷ ts) (definition x (Some A) T)
  no_terms : {p q : ℕ} {m l : Name} → is_plain m ≡ true → is_label l ≡ true → Follows Instance ((p, Word m) ∷ (q, Word l) ∷ []) (instantiation m l [])
  some_terms : {p q : ℕ} {m l : Name} {ts : List Spot} {Ts : List Syntax} → is_plain m ≡ true → is_label l ≡ true → Terms ts Ts → Follows Instance ((p, Word m) ∷ (q, Word l) ∷ ts) (instantiation m l Ts)

-- A line: the word of a command, and what stands after it. The words are given.
pub data LineReads (words : Name → Option Command) : List Spot → Line → Type 0 where
  a_line : {p : ℕ} {w : Name} {c : Command} {ts : List Spot} {L : Line} → words w ≡ Some c → Follows c ts L → LineReads words ((p, Word w) ∷ ts) L

-- A declaration of a module file: its word, and what stands after it.
pub data DeclarationReads : List Spot → Declaring → Line → Type 0 where
  a_declaration : {p : ℕ} {w : Name} {d : Declaring} {ts : List Spot} {L : Line} → declared w ≡ Some d → Follows (rest_of d) ts L → DeclarationReads ((p, Word w) ∷ ts) d L
