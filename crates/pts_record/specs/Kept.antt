-- What holds of a record's tables and of what is kept beside their lines.
use Rattle.std.specs.Prelude.{◌≡◌, ◌≤◌, List, [], length, map, All, true}
use Rattle.pts_terms.specs.Limits.{within}
use Rattle.pts_record.specs.declared.shape.Shape.{Shape}
use Rattle.pts_record.specs.declared.measure.Measure.{Measure}
use Rattle.pts_record.specs.declared.shape.Node.{Node}
use Rattle.pts_record.specs.declared.shape.Extent.{Extent}
use Rattle.pts_record.specs.Table.{Tables, ShapesLinked, NodesLinked, bare_trees, measure}
use Rattle.pts_record.specs.Said.{rows_of, said_behind, extent}

abbrev pub tables : List Shape → List Node → Tables
tables ss ns = record { shapes = ss; nodes = ns }

pub record Kept (ss : List Shape) (ms : List Measure) (ns : List Node) (es : List Extent) : Type 0 where
  pub terms_fit : length ss ≤ 4294967296
  pub nodes_fit : length ns ≤ 4294967296
  pub shapes : ShapesLinked 0 ss
  pub nodes : NodesLinked (length ss) 0 ns
  pub measures : ms ≡ map measure (bare_trees ss)
  pub limits : All (λ t. within t ≡ true) (bare_trees ss)
  pub extents : es ≡ map extent (said_behind [] (rows_of (tables ss ns)))
