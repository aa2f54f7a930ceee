use Rattle.std.proofs.Common.{◌≡◌, ◌++◌, map, take}
use Rattle.pts_image.specs.Appending as appending
use Rattle.pts_image.proofs.append.append_nodes.Given as goal

abbrev pub invariant-loop-number : goal.invariant-loop-number
invariant-loop-number g l =
    l.into ≡ record { shapes = l.fn.into.shapes; nodes = l.fn.into.nodes ++ map (appending.node_image (appending.new_number l.proof.nodes l.numbering) l.terms (g.R.Replacements.replacement l.replacements) l.proof) (take l.number l.proof.nodes) }
