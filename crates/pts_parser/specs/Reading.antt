-- What a text says, and its refusals.
use Rattle.std.specs.Prelude.{◌≡◌, ◌≤◌, ℕ, List, [], drop, length, reverse, chars, Option, Result, Ok, Err}
use Rattle.pts_names.specs.Name.{Name}
use Rattle.pts_tokens.specs.declared.fault.TokenFault.{TokenFault}
use Rattle.pts_tokens.specs.declared.fault.TokenFault.TheVariants as token
use Rattle.pts_tokens.specs.Tokens.{Spot, tokens_of}
use Rattle.pts_grammar.specs.declared.fault.SyntaxFault.{SyntaxFault}
use Rattle.pts_grammar.specs.declared.fault.SyntaxFault.TheVariants as syntax
use Rattle.pts_grammar.specs.Syntax.{Syntax, depth_of}
use Rattle.pts_grammar.specs.Grammar.{Reads}
use Rattle.pts_grammar.specs.Refusals.{NoneTooMany, Refuses}
use Rattle.pts_terms.specs.Tree.{Named}
use Rattle.pts_parser.specs.declared.fault.ReadFault.{ReadFault}
use Rattle.pts_parser.specs.declared.fault.ReadFault.TheVariants.{BadChar, LongName, Expected, TooDeep, UnknownName, UnknownSort, Memory}
use Rattle.pts_parser.specs.Resolution.{resolved}

-- The faults of tokens and of the grammar.
abbrev pub token_fault : TokenFault → ReadFault
token_fault (token.BadChar p) = BadChar p
token_fault (token.LongName p) = LongName p
token_fault token.Memory = Memory

abbrev pub syntax_fault : SyntaxFault → ReadFault
syntax_fault (syntax.Expected p k) = Expected p k
syntax_fault (syntax.TooDeep p) = TooDeep p
syntax_fault syntax.Memory = Memory

-- The tokens of the text from a byte on.
abbrev pub tokens_from : List ℕ → ℕ → Result (List Spot) TokenFault
tokens_from text from = tokens_of from (chars (drop from text))

-- The text says this from that byte on: its tokens are a text of it.
abbrev pub Says : List ℕ → ℕ → Syntax → Type 0
Says text from T = (ts : List Spot) × (tokens_from text from ≡ Ok ts) × Reads ts T []

-- The text has tokens, and the grammar refuses them so.
abbrev pub IsRefused : List ℕ → ℕ → SyntaxFault → Type 0
IsRefused text from e = (ts : List Spot) × (tokens_from text from ≡ Ok ts) × Refuses (length text) ts e

-- No parenthesis of the text is one too many.
abbrev pub IsShallow : List ℕ → ℕ → Type 0
IsShallow text from = (ts : List Spot) × (tokens_from text from ≡ Ok ts) × NoneTooMany 2000 ts

-- The text says nothing for this reason.
abbrev pub RefusesTree : List ℕ → ℕ → ReadFault → Type 0
RefusesTree text from (BadChar p) = tokens_from text from ≡ Err (token.BadChar p)
RefusesTree text from (LongName p) = tokens_from text from ≡ Err (token.LongName p)
RefusesTree text from (Expected p k) = IsRefused text from (syntax.Expected p k)
RefusesTree text from (TooDeep p) = IsRefused text from (syntax.TooDeep p)
RefusesTree text from (UnknownName p x) = ⊥
RefusesTree text from (UnknownSort p w) = ⊥
RefusesTree text from Memory = Unit {0}

-- The text says a syntax within limits, at most 2,000 deep and with no parenthesis too many, that resolves to this. The locals have the outermost first.
abbrev pub Means : List ℕ → ℕ → List (List ℕ) → (Name → Option Name) → List Name → Result Named ReadFault → Type 0
Means text from sorts scope locals r = (T : Syntax) × Says text from T × (depth_of T ≤ 2000) × IsShallow text from × (resolved sorts scope (reverse locals) T ≡ r)

-- The text is no term for this reason: the text itself, or a name or a sort in it.
abbrev pub RefusesTerm : List ℕ → ℕ → List (List ℕ) → (Name → Option Name) → List Name → ReadFault → Type 0
RefusesTerm text from sorts scope locals (UnknownName p x) = Means text from sorts scope locals (Err (UnknownName p x))
RefusesTerm text from sorts scope locals (UnknownSort p w) = Means text from sorts scope locals (Err (UnknownSort p w))
RefusesTerm text from sorts scope locals (BadChar p) = RefusesTree text from (BadChar p)
RefusesTerm text from sorts scope locals (LongName p) = RefusesTree text from (LongName p)
RefusesTerm text from sorts scope locals (Expected p k) = RefusesTree text from (Expected p k)
RefusesTerm text from sorts scope locals (TooDeep p) = RefusesTree text from (TooDeep p)
RefusesTerm text from sorts scope locals Memory = Unit {0}
