use Rattle.std.proofs.Common.{◌≡◌, map, length}
use Rattle.pts_grammar.specs.Machine.{closing}
use Rattle.pts_grammar.specs.Seen.{part_of, parts}
use Rattle.pts_grammar.specs.Open.{frame}
use Rattle.pts_grammar.proofs.parser.close.Given as goal

abbrev pub invariant-loop-last : goal.invariant-loop-last
invariant-loop-last l = closing parts (map frame l.stack) (part_of l.built) l.next ≡ closing parts (map frame l.fn.stack) (part_of l.fn.whole) l.next

abbrev pub decreases-loop-last : goal.decreases-loop-last
decreases-loop-last l = length l.stack
