-- The tokens of a text, and their places. Texts and words are lists of characters here; what a token holds is the bytes
-- of its word, as UTF-8.
use Rattle.std.specs.Prelude.{ℕ, zero, suc, pred, ◌+◌, ◌==◌, ◌||◌, ◌&&◌, List, [], ◌∷◌, Bool, false, if◌then◌else◌, Option, Some, None, is_none, nat_lt, length, codes, take_while, Result, Ok, Err}
use Rattle.std.specs.Char.{len_utf8, is_ascii_digit}
use Rattle.std.specs.Option.{option_or}
use lib.Utf8.{encodes}
use Rattle.pts_names.specs.Name.{starts_identifier, continues_identifier, identifier_fault, is_sort_spelling, same_name}
use Rattle.pts_names.specs.Dotted.{dotted}
use Rattle.pts_tokens.specs.declared.fault.TokenFault.{TokenFault}
use Rattle.pts_tokens.specs.declared.fault.TokenFault.TheVariants.{BadChar, LongName}
use Rattle.pts_tokens.specs.declared.token.Token.{Token}
use Rattle.pts_tokens.specs.declared.token.Token.TheVariants.{Lambda, At, Let, In, Colon, Assign, Dot, Arrow, Open, Close, Semicolon, Sort, Name, Number}

-- A token with the byte place at which it begins.
abbrev pub Spot : Type 0
Spot = ℕ × Token

-- The longest word with which a text begins: as far as an identifier goes on. It is empty where none begins.
abbrev pub word : List ℕ → List ℕ
word [] = []
word (c ∷ cs) = if starts_identifier c then c ∷ take_while continues_identifier cs else []

-- Whether that word is an identifier, which a keyword is not.
abbrev pub begins_identifier : List ℕ → Bool
begins_identifier cs = is_none (identifier_fault 0 (word cs))

-- The further parts of a name whose present part has n more characters here. An identifier is a further part where it
-- stands directly after a dot that stands directly after the part before.
abbrev pub further : ℕ → List ℕ → List (List ℕ)
further n [] = []
further (suc n) (c ∷ cs) = further n cs
further zero (c ∷ cs) = if (c == 46) && begins_identifier cs then word cs ∷ further (length (word cs)) cs else []

-- The longest name with which a text begins, if its word is an identifier.
abbrev pub name : List ℕ → List ℕ
name cs = dotted (word cs ∷ further (length (word cs)) cs)

-- What a text begins with.
pub data First : Type 0 where
  -- a space or a tab
  blank : First
  -- this token, with its text
  token : Token → List ℕ → First
  -- a name of more than 128 bytes
  long_name : First
  -- no token
  no_token : First

-- A name, if it is not too long.
abbrev pub named : List ℕ → First
named w = if nat_lt 128 (length (encodes w)) then long_name else token (Name (encodes w)) w

-- The text begins with a word.
abbrev pub worded : List ℕ → First
worded cs = if same_name (word cs) (codes "let") then token Let (word cs) else (if same_name (word cs) (codes "in") then token In (word cs) else named (name cs))

-- The text begins with the digits of a number.
abbrev pub number : List ℕ → First
number ds = token (Number (encodes ds)) ds

-- A sort: one sign, or a quote and the word after it.
abbrev pub sort_text : ℕ → List ℕ → List ℕ
sort_text c cs = if c == 39 then 39 ∷ word cs else c ∷ []

abbrev pub sort_at : ℕ → List ℕ → First
sort_at c cs = if is_sort_spelling (encodes (sort_text c cs)) then token (Sort (encodes (sort_text c cs))) (sort_text c cs) else no_token

-- The tokens of one character.
abbrev pub bracket : ℕ → Option Token
bracket c = if c == 40 then Some Open else (if c == 41 then Some Close else (if c == 59 then Some Semicolon else None))

abbrev pub mark : ℕ → Option Token
mark c = if c == 92 then Some Lambda else (if c == 64 then Some At else (if c == 46 then Some Dot else None))

abbrev pub alone : Option Token → ℕ → First
alone (Some t) c = token t (c ∷ [])
alone None c = no_token

-- Whether the text begins with this character.
abbrev pub begins_with : ℕ → List ℕ → Bool
begins_with c [] = false
begins_with c (d ∷ ds) = d == c

-- `:` and `:=`, and `->`, by the characters after the first.
abbrev pub colon : List ℕ → First
colon cs = if begins_with 61 cs then token Assign (codes ":=") else token Colon (codes ":")

abbrev pub minus : List ℕ → First
minus cs = if begins_with 62 cs then token Arrow (codes "->") else no_token

-- The signs.
abbrev pub sign : ℕ → List ℕ → First
sign c cs = if c == 58 then colon cs else (if c == 45 then minus cs else alone (option_or (bracket c) (mark c)) c)

-- `*`, `#` and the quote.
abbrev pub begins_sort : ℕ → Bool
begins_sort c = (c == 42) || ((c == 35) || (c == 39))

-- A space or a tab.
abbrev pub is_blank : ℕ → Bool
is_blank c = (c == 32) || (c == 9)

-- A token that begins with the character c, before cs.
abbrev pub token_first : ℕ → List ℕ → First
token_first c cs =
    if starts_identifier c then worded (c ∷ cs)
    else (if is_ascii_digit c then number (take_while is_ascii_digit (c ∷ cs))
    else (if begins_sort c then sort_at c cs
    else sign c cs))

-- What the text begins with whose first character is c, before cs.
unfoldable pub first : ℕ → List ℕ → First
first c cs = if is_blank c then blank else token_first c cs

-- One more token in front.
abbrev pub with_spot : Spot → Result (List Spot) TokenFault → Result (List Spot) TokenFault
with_spot s (Ok ts) = Ok (s ∷ ts)
with_spot s (Err e) = Err e

-- The tokens of a text from byte `place` on that begins so, given those after so many characters after its first.
abbrev pub from_first : ℕ → First → (ℕ → Result (List Spot) TokenFault) → Result (List Spot) TokenFault
from_first place blank behind = behind 0
from_first place (token t w) behind = with_spot (place, t) (behind (pred (length w)))
from_first place long_name behind = Err (LongName place)
from_first place no_token behind = Err (BadChar place)

-- The tokens of the text from byte `place` on, after its first n characters, which belong to an earlier token.
abbrev pub tokens_behind : ℕ → ℕ → List ℕ → Result (List Spot) TokenFault
tokens_behind n place [] = Ok []
tokens_behind (suc n) place (c ∷ cs) = tokens_behind n (place + len_utf8 c) cs
tokens_behind zero place (c ∷ cs) = from_first place (first c cs) (λ n. tokens_behind n (place + len_utf8 c) cs)

-- The tokens of a text that stands at byte `place`, or its first fault.
unfoldable pub tokens_of : ℕ → List ℕ → Result (List Spot) TokenFault
tokens_of place cs = tokens_behind 0 place cs
