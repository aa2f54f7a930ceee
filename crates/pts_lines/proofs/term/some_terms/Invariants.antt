use Rattle.std.proofs.Common.{◌≡◌, ◌≤◌, ℕ, length, map, ◌++◌}
use Rattle.std.specs.Prelude.{Ok}
use Rattle.pts_parser.specs.Resolution.{and_then}
use Rattle.pts_grammar.specs.Seen.{part_of, within}
use Rattle.pts_grammar.specs.Open.{more}
use Rattle.pts_lines.specs.Forms.{some_of}
use Rattle.pts_lines.proofs.term.some_terms.Given as goal

abbrev pub invariant-terms : goal.invariant-terms
invariant-terms l = (n : ℕ) × (length l.rest ≤ n) × (and_then (some_of within more l.fn.length n l.rest) (λ Ts. Ok (map part_of l.parts.items ++ Ts)) ≡ some_of within more l.fn.length (length l.fn.tokens) l.fn.tokens)

abbrev pub decreases-terms : goal.decreases-terms
decreases-terms l = length l.rest
