-- What the parts of the reader answer.
use Rattle.std.specs.Prelude.{◌≡◌, ℕ, suc, List, [], ◌∷◌, ◌==◌, ◌&&◌, if◌then◌else◌, Option, Some, None, Result, Ok, Err}
use Rattle.pts_names.specs.Name.{width}
use Rattle.pts_tokens.specs.declared.fault.TokenFault.{TokenFault}
use Rattle.pts_tokens.specs.declared.fault.TokenFault.TheVariants.{BadChar, LongName, Memory}
use Rattle.pts_tokens.specs.declared.token.Token.{Token}
use Rattle.pts_tokens.specs.Tokens.{word, begins_identifier, First, blank, token, long_name, no_token}

-- What a fault means, unless memory ran out.
abbrev pub UnlessMemory : TokenFault → Type 0 → Type 0
UnlessMemory Memory P = Unit {0}
UnlessMemory (BadChar place) P = P
UnlessMemory (LongName place) P = P

-- A token, and how many bytes it takes.
abbrev pub sized : First → Option (Token × ℕ)
sized (token t w) = Some (t, width w)
sized blank = None
sized long_name = None
sized no_token = None

-- Why there is none at this place.
abbrev pub fault_at : ℕ → First → Option TokenFault
fault_at place (token t w) = None
fault_at place blank = None
fault_at place long_name = Some (LongName place)
fault_at place no_token = Some (BadChar place)

-- The result is what the text at this place begins with.
abbrev pub Answers : ℕ → First → Result (Token × ℕ) TokenFault → Type 0
Answers place f (Ok found) = sized f ≡ Some found
Answers place f (Err e) = UnlessMemory e (fault_at place f ≡ Some e)

-- How many bytes a further part of a name takes with its dot, where the text begins with one.
abbrev pub part_size : List ℕ → Option ℕ
part_size [] = None
part_size (c ∷ cs) = if (c == 46) && begins_identifier cs then Some (suc (width (word cs))) else None
