-- A refusal of the tokens is one of the text.
use Rattle.std.proofs.Common.{◌≡◌, ℕ, List, length, Ok}
use Rattle.pts_tokens.specs.Tokens.{Spot}
use Rattle.pts_grammar.specs.declared.fault.SyntaxFault.{SyntaxFault}
use Rattle.pts_grammar.specs.declared.fault.SyntaxFault.TheVariants.{Expected, TooDeep, Memory}
use Rattle.pts_grammar.specs.Refusals.{Refuses}
use Rattle.pts_parser.specs.Reading.{syntax_fault, tokens_from, RefusesTree}

pub tree_refused : (text : List ℕ) (from : ℕ) (ts : List Spot) (e : SyntaxFault) → tokens_from text from ≡ Ok ts → Refuses (length text) ts e → RefusesTree text from (syntax_fault e)
tree_refused text from ts (Expected p k) q r = (ts, q, r)
tree_refused text from ts (TooDeep p) q r = (ts, q, r)
tree_refused text from ts Memory q r = tt
