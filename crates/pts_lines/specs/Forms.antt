-- How the reader goes through a line: what stands after what, and what comes of it.
use Rattle.std.specs.Prelude.{◌≡◌, ℕ, zero, suc, List, [], ◌∷◌, length, Bool, true, false, Option, Some, None, option_map, Result, Ok, Err}
use Rattle.pts_names.specs.Name.{Name}
use Rattle.pts_tokens.specs.declared.token.Token.{Token}
use Rattle.pts_tokens.specs.declared.token.Token.TheVariants.{Lambda, At, Let, Open, Sort, Semicolon, Name as Word}
use Rattle.pts_tokens.specs.Tokens.{Spot}
use Rattle.pts_grammar.specs.declared.kind.Kind.TheVariants.{Command as command_wanted, Term as term_wanted, End as end_wanted}
use Rattle.pts_grammar.specs.Syntax.{Syntax}
use Rattle.pts_grammar.specs.Seen.{Subtree}
use Rattle.pts_grammar.specs.Machine.{syntax, ParseOutcome, read, expected, too_deep, begin, run}
use Rattle.pts_parser.specs.declared.fault.ReadFault.{ReadFault}
use Rattle.pts_parser.specs.declared.fault.ReadFault.TheVariants.{Expected, TooDeep}
use Rattle.pts_parser.specs.Resolution.{UnlessMemory, and_then}
use Rattle.pts_lines.specs.declared.command.Command.{Command}
use Rattle.pts_lines.specs.declared.command.Command.TheVariants.{OfNothing, OfPlain, OfName, OfTerm, OfType, Rename, Budget, Equal, Define, Instance}
use Rattle.pts_lines.specs.declared.command.Declaring.{Declaring}
use Rattle.pts_lines.specs.Words.{command, declared, rest_of}
use Rattle.pts_lines.specs.Items.{Item, plain, label, placed, number, colon, assign, semicolon, sign, Value, first_item}
use Rattle.pts_lines.specs.Lines.{Line, alone, of_plain, of_name, of_term, of_type, renaming, budget, equality, definition, instantiation}

-- A call answers what is said, its value being seen so, unless memory is wanting.
abbrev pub AnswersAs : {A B : Type 0} → (A → B) → Result A ReadFault → Result B ReadFault → Type 0
AnswersAs seen (Ok a) r = r ≡ Ok (seen a)
AnswersAs seen (Err e) r = UnlessMemory e (r ≡ Err e)

-- The signs that can stand after a term.
pub data Sign : Type 0 where
  by_assign : Sign
  by_semicolon : Sign

abbrev pub item_of : Sign → Item
item_of by_assign = assign
item_of by_semicolon = semicolon

-- The form of what stands after a word: nothing, with this to be answered, or `None` where a term was too deep; a
-- token and the rest; a term after which nothing stands; a term, a sign and the rest; any number of terms.
pub data LineForm (R : Type 0) : Type 0 where
  ends : Option R → LineForm R
  item : (i : Item) → (Value i → LineForm R) → LineForm R
  term : (Subtree → Option R) → LineForm R
  term_then : Sign → (Subtree → LineForm R) → LineForm R
  terms : (List Subtree → Option R) → LineForm R

-- Nothing is left.
abbrev pub ended : ℕ → List Spot → Result (Unit {0}) ReadFault
ended length [] = Ok tt
ended length (s ∷ us) = Err (Expected s.0 end_wanted)

-- No term was too deep.
abbrev pub shallow : {R : Type 0} → ℕ → Option R → Result R ReadFault
shallow length (Some r) = Ok r
shallow length None = Err (TooDeep length)

-- Whether a token begins a term.
abbrev pub begins_term : Token → Bool
begins_term Lambda = true
begins_term At = true
begins_term Let = true
begins_term Open = true
begins_term (Sort s) = true
begins_term (Word x) = true
begins_term _ = false

abbrev pub is_semicolon : Token → Bool
is_semicolon Semicolon = true
is_semicolon _ = false

-- What a term of a line is kept as, and whether another parenthesis may be opened where so many are open.
module _ (kept : Syntax → Subtree) (more : ℕ → Bool) (length : ℕ) where
  abbrev pub of_outcome : ParseOutcome Syntax → Result (Subtree × List Spot) ReadFault
  of_outcome (read T us) = Ok (kept T, us)
  of_outcome (expected p k) = Err (Expected p k)
  of_outcome (too_deep p) = Err (TooDeep p)

  -- The term with which the tokens begin, and the tokens after it.
  unfoldable pub first_term : List Spot → Result (Subtree × List Spot) ReadFault
  first_term ts = of_outcome (run syntax more length (begin []) ts)

  -- A term of several, and the tokens after its semicolon; or none at the end.
  abbrev pub behind_term : Subtree → List Spot → Result (Subtree × Option (List Spot)) ReadFault
  behind_term T [] = Ok (T, None)
  behind_term T (s ∷ us) = elim (is_semicolon s.1) [ true ↦ Ok (T, Some us) | false ↦ Err (Expected s.0 end_wanted) ]

  abbrev pub next_term : List Spot → Result (Subtree × Option (List Spot)) ReadFault
  next_term ts = and_then (first_term ts) (λ r. behind_term r.0 r.1)

  abbrev pub with_others : Subtree → Option (List Spot) → (List Spot → Result (List Subtree) ReadFault) → Result (List Subtree) ReadFault
  with_others T None others = Ok (T ∷ [])
  with_others T (Some us) others = and_then (others us) (λ Ts. Ok (T ∷ Ts))

  -- At most n terms, and at least one.
  abbrev pub some_of : ℕ → List Spot → Result (List Subtree) ReadFault
  some_of zero ts = Err (Expected length term_wanted)
  some_of (suc n) ts = and_then (next_term ts) (λ r. with_others r.0 r.1 (some_of n))

  abbrev pub any_of : List Spot → Result (List Subtree) ReadFault
  any_of [] = Ok []
  any_of (s ∷ us) = elim (begins_term s.1) [ true ↦ some_of (suc (Rattle.std.specs.Prelude.length us)) (s ∷ us) | false ↦ Err (Expected s.0 end_wanted) ]

  abbrev pub run_form : {R : Type 0} → LineForm R → List Spot → Result R ReadFault
  run_form (ends o) ts = and_then (ended length ts) (λ u. shallow length o)
  run_form (item i F) ts = and_then (first_item i length ts) (λ r. run_form (F r.0) r.1)
  run_form (term F) ts = and_then (first_term ts) (λ r. and_then (ended length r.1) (λ u. shallow length (F r.0)))
  run_form (term_then a F) ts = and_then (first_term ts) (λ r. and_then (first_item (item_of a) length r.1) (λ q. run_form (F r.0) q.1))
  run_form (terms F) ts = and_then (any_of ts) (λ Ts. shallow length (F Ts))

-- The forms.
abbrev pub alone_form : LineForm (Unit {0})
alone_form = ends (Some tt)

abbrev pub plain_form : LineForm Name
plain_form = item plain (λ x. ends (Some x))

abbrev pub placed_form : LineForm (ℕ × Name)
placed_form = item placed (λ x. ends (Some x))

abbrev pub number_form : LineForm ℕ
number_form = item number (λ n. ends (Some n))

abbrev pub names_form : LineForm (Name × Name)
names_form = item plain (λ x. item plain (λ y. ends (Some (x, y))))

abbrev pub term_form : LineForm Syntax
term_form = term (λ T. T)

abbrev pub typed_form : LineForm (Name × Syntax)
typed_form = item plain (λ x. item colon (λ u. term (option_map (λ T. (x, T)))))

abbrev pub pair : {A B : Type 0} → Option A → Option B → Option (A × B)
pair (Some a) (Some b) = Some (a, b)
pair (Some a) None = None
pair None b = None

abbrev pub terms_form : LineForm (Syntax × Syntax)
terms_form = term_then by_semicolon (λ T. term (pair T))

abbrev pub body_form : Name → Bool → LineForm (Name × Option Syntax × Syntax)
body_form x true = term_then by_assign (λ A. term (λ T. option_map (λ r. (x, Some r.0, r.1)) (pair A T)))
body_form x false = term (option_map (λ T. (x, None, T)))

abbrev pub definition_form : LineForm (Name × Option Syntax × Syntax)
definition_form = item plain (λ x. item sign (body_form x))

abbrev pub all_of : {A : Type 0} → List (Option A) → Option (List A)
all_of [] = Some []
all_of (o ∷ os) = option_map (λ r. r.0 ∷ r.1) (pair o (all_of os))

abbrev pub instance_form : LineForm (Name × Name × List Syntax)
instance_form = item plain (λ m. item label (λ l. terms (λ Ts. option_map (λ Us. (m, l, Us)) (all_of Ts))))

module _ (kept : Syntax → Subtree) (more : ℕ → Bool) (length : ℕ) where
  -- What stands after the word of a command.
  abbrev pub run_command : Command → List Spot → Result Line ReadFault
  run_command (OfNothing c) ts = and_then (run_form kept more length alone_form ts) (λ u. Ok (alone c))
  run_command (OfPlain c) ts = and_then (run_form kept more length plain_form ts) (λ x. Ok (of_plain c x))
  run_command (OfName c) ts = and_then (run_form kept more length placed_form ts) (λ x. Ok (of_name c x.0 x.1))
  run_command (OfTerm c) ts = and_then (run_form kept more length term_form ts) (λ T. Ok (of_term c T))
  run_command (OfType c) ts = and_then (run_form kept more length typed_form ts) (λ r. Ok (of_type c r.0 r.1))
  run_command Rename ts = and_then (run_form kept more length names_form ts) (λ r. Ok (renaming r.0 r.1))
  run_command Budget ts = and_then (run_form kept more length number_form ts) (λ n. Ok (budget n))
  run_command Equal ts = and_then (run_form kept more length terms_form ts) (λ r. Ok (equality r.0 r.1))
  run_command Define ts = and_then (run_form kept more length definition_form ts) (λ r. Ok (definition r.0 r.1 r.2))
  run_command Instance ts = and_then (run_form kept more length instance_form ts) (λ r. Ok (instantiation r.0 r.1 r.2))

  -- What stands after a command or a declaration that a word may be.
  abbrev pub behind_word : Option Command → List Spot → Result Line ReadFault
  behind_word (Some c) ts = run_command c ts
  behind_word None ts = Err (Expected 0 command_wanted)

  unfoldable pub run_line : List Spot → Result Line ReadFault
  run_line [] = Err (Expected length command_wanted)
  run_line ((p, Word w) ∷ ts) = behind_word (command w) ts
  run_line ((p, t) ∷ ts) = Err (Expected 0 command_wanted)

  abbrev pub behind_declared : Option Declaring → List Spot → Result (Declaring × Line) ReadFault
  behind_declared (Some d) ts = and_then (run_command (rest_of d) ts) (λ L. Ok (d, L))
  behind_declared None ts = Err (Expected 0 command_wanted)

  unfoldable pub run_declaration : List Spot → Result (Declaring × Line) ReadFault
  run_declaration [] = Err (Expected length command_wanted)
  run_declaration ((p, Word w) ∷ ts) = behind_declared (declared w) ts
  run_declaration ((p, t) ∷ ts) = Err (Expected 0 command_wanted)
