use Rattle.std.proofs.Common.{◌≡◌, map, ◌++◌, option_map}
use Rattle.std.specs.Vec.Iter.{into_iter_items}
use Rattle.pts_grammar.specs.Seen.{part_of, syntax_of}
use Rattle.pts_lines.specs.Forms.{all_of}
use Rattle.pts_lines.proofs.term.all.Given as goal

abbrev pub invariant-loop-part : goal.invariant-loop-part
invariant-loop-part l = option_map (λ Us. map syntax_of l.trees.items ++ Us) (all_of (map part_of (into_iter_items l.part-iterator))) ≡ all_of (map part_of l.fn.parts.items)
