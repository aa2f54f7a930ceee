-- The scope of a module file as contracts see it.
use Rattle.std.specs.Prelude.{List}
use Rattle.pts_names.specs.Name.{Name}
use Rattle.pts_ctx.specs.Front.{Global}

-- The label of a module, and the front in which its declarations stand.
pub record SeenScope : Type 0 where
  pub label : Name
  pub entries : List (Global Name)
