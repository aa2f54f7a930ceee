-- What is stated of a name, and the part of it in which inference stops.
use Rattle.std.specs.Prelude.{◌&&◌, not, if◌then◌else◌}
use Rattle.pts_terms.specs.Tree.{Named}
use Rattle.pts_terms.specs.Limits.{within}
use Rattle.pts_terms.specs.Seen.{named}
use Rattle.pts_infer.specs.declared.part.Part.{Part}
use Rattle.pts_infer.specs.declared.part.Part.TheVariants.{Whole, Ty}
use Rattle.pts_declare.specs.declared.stated.Stated.{Stated as TheStated}
use Rattle.pts_declare.specs.declared.stated.Stated.TheVariants.{Assumption, Definition, Typed}

-- An assumption with its type; a definition with its body; or one with its type and its body.
pub data Stated : Type 0 where
  assumption : (type : Named) → Stated
  definition : (body : Named) → Stated
  typed_definition : (type body : Named) → Stated

-- The same of the program's terms.
abbrev pub stated_of : TheStated → Stated
stated_of (Assumption A) = assumption (named A)
stated_of (Definition t) = definition (named t)
stated_of (Typed A t) = typed_definition (named A) (named t)

-- The part for which a budget is said to be too small: the type of an assumption, and the body of a definition.
abbrev pub spent_part : Stated → Part
spent_part (assumption A) = Ty
spent_part (definition t) = Whole
spent_part (typed_definition A t) = Whole

-- The part that is said to be beyond the limits. A given type is, where it is itself too large and the body is not.
abbrev pub deep_part : Stated → Part
deep_part (assumption A) = Ty
deep_part (definition t) = Whole
deep_part (typed_definition A t) = if within t && not (within A) then Ty else Whole
