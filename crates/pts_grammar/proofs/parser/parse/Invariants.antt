use Rattle.std.proofs.Common.{◌≡◌, map, drop, []}
use Rattle.pts_grammar.specs.Machine.{run, begin}
use Rattle.pts_grammar.specs.Seen.{parts}
use Rattle.pts_grammar.specs.Open.{frame, state_of, more}
use Rattle.pts_grammar.proofs.parser.parse.Given as goal

abbrev pub invariant-loop-index : goal.invariant-loop-index
invariant-loop-index l = run parts more l.length (state_of (map frame l.stack) l.state) (drop l.index l.tokens) ≡ run parts more l.length (begin []) l.tokens
