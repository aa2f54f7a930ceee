-- What parts of the reader do.
use Rattle.std.specs.Prelude.{List, [], ◌∷◌}
use Rattle.pts_names.specs.Name.{Name}

-- The binders around the innermost.
abbrev pub outer : List Name → List Name
outer [] = []
outer (x ∷ L) = L
