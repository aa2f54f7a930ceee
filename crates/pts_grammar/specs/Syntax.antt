-- What a text of a term says, before its names are looked up.
use Rattle.std.specs.Prelude.{ℕ, ◌+◌, max}
use Rattle.pts_names.specs.Name.{Name}

-- A sort and a name, each with the byte place where it stands; an application of a function to an argument; an
-- abstraction and a product with the name that they bind, its type, and the body; and a local definition with its name,
-- the definition, its type, and the body.
pub data Syntax : Type 0 where
  sort : (place : ℕ) (spelling : Name) → Syntax
  name : (place : ℕ) (x : Name) → Syntax
  app : (function argument : Syntax) → Syntax
  lam : (x : Name) (domain body : Syntax) → Syntax
  pi : (x : Name) (domain body : Syntax) → Syntax
  let_in : (x : Name) (definition type body : Syntax) → Syntax

-- The depth; that of a leaf is 1.
abbrev pub depth_of : Syntax → ℕ
depth_of (sort p s) = 1
depth_of (name p x) = 1
depth_of (app f a) = max (depth_of f) (depth_of a) + 1
depth_of (lam x A b) = max (depth_of A) (depth_of b) + 1
depth_of (pi x A B) = max (depth_of A) (depth_of B) + 1
depth_of (let_in x d A b) = max (max (depth_of d) (depth_of A)) (depth_of b) + 1
