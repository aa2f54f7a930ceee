-- How a theorem begins.
use Rattle.std.specs.Prelude.{[]}
use Rattle.pts_names.specs.Name.{Name}
use Rattle.pts_terms.specs.Tree.{Named}
use Rattle.pts_theorem.specs.Theorems.{Theorem}

-- The theorem x with the statement A, of which nothing is done.
abbrev pub begun : (x : Name) → (A : Named) → Theorem
begun x A = record { name = x; statement = A; refinements = [] }
