-- What a module file declares, with its names and sorts looked up.
use Rattle.std.specs.Prelude.{List, [], ◌&&◌, if◌then◌else◌, ℕ, Option, Some, None, is_some, Result, Ok}
use Rattle.pts_names.specs.Name.{Name, joined, is_short}
use Rattle.pts_ctx.specs.Front.{Global}
use Rattle.pts_ctx.specs.Seen.{place_of}
use Rattle.pts_grammar.specs.Syntax.{Syntax}
use Rattle.pts_parser.specs.declared.fault.ReadFault.{ReadFault}
use Rattle.pts_parser.specs.Resolution.{resolved, and_then}
use Rattle.pts_declare.specs.Stated.{Stated, assumption, definition, typed_definition}

-- The constant for which a name stands in the module M: the declaration of the module that has this name, if it stands
-- in the front.
abbrev pub visible : (M : Name) → List (Global Name) → Name → Option Name
visible M G x = if is_short x && is_some (place_of (joined M x) G) then Some (joined M x) else None

-- An assumption with its type; a definition with its type, if one is written, and its body.
pub data Statement : Type 0 where
  assumes : (x : Name) (type : Syntax) → Statement
  defines : (x : Name) (type : Option Syntax) (body : Syntax) → Statement

abbrev pub name_of : Statement → Name
name_of (assumes x A) = x
name_of (defines x A t) = x

-- What a statement states, in terms; or the first fault of a name or a sort from the left. A type stands before the body.
module _ (sorts : List (List ℕ)) (scope : Name → Option Name) where
  abbrev pub stated : Statement → Result Stated ReadFault
  stated (assumes x A) = and_then (resolved sorts scope [] A) (λ B. Ok (assumption B))
  stated (defines x None t) = and_then (resolved sorts scope [] t) (λ u. Ok (definition u))
  stated (defines x (Some A) t) = and_then (resolved sorts scope [] A) (λ B. and_then (resolved sorts scope [] t) (λ u. Ok (typed_definition B u)))
