-- What one token of a line can be: a name of one part other than `_`, one that may be a label, any name, a number of a
-- budget, a sign, or one of the two signs that may follow the name of a definition.
use Rattle.std.specs.Prelude.{ℕ, ◌+◌, ◌*◌, ◌-◌, ◌&&◌, ◌==◌, nat_le, length, List, [], ◌∷◌, Bool, true, false, if◌then◌else◌, Option, Some, None, Result, Ok, Err}
use Rattle.pts_names.specs.Name.{Name, is_plain}
use Rattle.pts_bytes.specs.Digits.{number_up_to}
use Rattle.pts_tokens.specs.declared.token.Token.TheVariants.{Colon, Assign, Semicolon, Name as Word, Number}
use Rattle.pts_tokens.specs.Tokens.{Spot}
use Rattle.pts_grammar.specs.declared.kind.Kind.{Kind}
use Rattle.pts_grammar.specs.declared.kind.Kind.TheVariants as kind
use Rattle.pts_parser.specs.declared.fault.ReadFault.{ReadFault}
use Rattle.pts_parser.specs.declared.fault.ReadFault.TheVariants.{Expected}

-- A plain name of at most 64 bytes.
abbrev pub is_label : Name → Bool
is_label x = is_plain x && nat_le (length x) 64

-- The number of units that digits write: no leading zero, and at most 10,000,000.
abbrev pub units : List ℕ → Option ℕ
units digits = number_up_to 10000000 digits

pub data Item : Type 0 where
  plain : Item
  label : Item
  placed : Item
  number : Item
  colon : Item
  assign : Item
  semicolon : Item
  sign : Item

-- What such a token says.
abbrev pub Value : Item → Type 0
Value plain = Name
Value label = Name
Value placed = ℕ × Name
Value number = ℕ
Value colon = Unit {0}
Value assign = Unit {0}
Value semicolon = Unit {0}
Value sign = Bool

-- What must be there. Where `:` and `:=` both fit, it is the latter.
abbrev pub wanted : Item → Kind
wanted plain = kind.Plain
wanted label = kind.Plain
wanted placed = kind.Name
wanted number = kind.Number
wanted colon = kind.Colon
wanted assign = kind.Assign
wanted semicolon = kind.Semicolon
wanted sign = kind.Assign

-- What the token says, if it is such a one. Of the two signs, whether it is the one before a type.
abbrev pub said : (i : Item) → Spot → Option (Value i)
said plain (p, Word x) = if is_plain x then Some x else None
said plain (p, _) = None
said label (p, Word x) = if is_label x then Some x else None
said label (p, _) = None
said placed (p, Word x) = Some (p, x)
said placed (p, _) = None
said number (p, Number ds) = units ds
said number (p, _) = None
said colon (p, Colon) = Some tt
said colon (p, _) = None
said assign (p, Assign) = Some tt
said assign (p, _) = None
said semicolon (p, Semicolon) = Some tt
said semicolon (p, _) = None
said sign (p, Colon) = Some true
said sign (p, Assign) = Some false
said sign (p, _) = None

-- What the first token says, and the tokens after it; or that another must stand there.
abbrev pub or_expected : {A : Type 0} → ℕ → Kind → List Spot → Option A → Result (A × List Spot) ReadFault
or_expected p k us (Some v) = Ok (v, us)
or_expected p k us None = Err (Expected p k)

abbrev pub first_item : (i : Item) → ℕ → List Spot → Result (Value i × List Spot) ReadFault
first_item i length [] = Err (Expected length (wanted i))
first_item i length (s ∷ us) = or_expected s.0 (wanted i) us (said i s)
