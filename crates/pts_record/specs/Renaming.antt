-- A record with new names for its constants.
use Rattle.std.specs.Prelude.{List, map}
use Rattle.pts_names.specs.Name.{Name}
use Rattle.pts_record.specs.declared.shape.Shape.{Shape}
use Rattle.pts_record.specs.declared.shape.Shape.TheVariants.{Const}
use Rattle.pts_record.specs.Table.{Tables}

-- A term's line with the new name of its constant; the line of another term stays. Printed names are no constants.
abbrev pub renamed_shape : (Name → Name) → Shape → Shape
renamed_shape g (Const c) = Const (g c)
renamed_shape g s = s

-- The same tables but for the names of constants.
abbrev pub renamed_record : (Name → Name) → Tables → Tables
renamed_record g r = record { shapes = map (renamed_shape g) r.shapes; nodes = r.nodes }
