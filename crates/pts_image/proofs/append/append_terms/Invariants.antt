use Rattle.std.proofs.Common.{◌≡◌, ◌++◌, map, take, true}
use Rattle.pts_terms.specs.Replaced.{replaced}
use Rattle.pts_record.specs.Table.{bare_trees}
use Rattle.pts_image.specs.Appending as appending
use Rattle.pts_image.proofs.append.append_terms.Given as goal

abbrev pub invariant-loop-number : goal.invariant-loop-number
invariant-loop-number g l =
    (l.into ≡ record { shapes = l.fn.into.shapes ++ map (appending.shape_image l.fn.into.shapes (g.R.Replacements.replacement l.replacements)) (take l.number l.proof.shapes); nodes = l.fn.into.nodes })
    × (appending.all_within (map (replaced (appending.term_for (bare_trees l.fn.into.shapes) (g.R.Replacements.replacement l.replacements))) (bare_trees (take l.number l.proof.shapes))) ≡ true)
