use Rattle.std.proofs.Common.{◌≡◌, ◌++◌, map}
use Rattle.pts_record.specs.Renaming as renaming
use Rattle.pts_record.proofs.renaming.rename_shapes.Given as goal

abbrev pub invariant-loop-shape : goal.invariant-loop-shape
invariant-loop-shape g l =
    l.renamed.items ++ map (renaming.renamed_shape (g.N.Names.new_name l.names)) l.shape-iterator.rest.items
    ≡ map (renaming.renamed_shape (g.N.Names.new_name l.names)) l.fn.shapes.items
