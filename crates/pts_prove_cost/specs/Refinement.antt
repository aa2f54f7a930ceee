-- What a proof command works on, and what it puts in the place of a goal.
use Rattle.std.specs.Prelude.{List, [], ◌∷◌, ◌++◌}
use Rattle.pts_names.specs.Name.{Name}
use Rattle.pts_terms.specs.Tree.{Named, sort, app, named_lam}
use Rattle.pts_ctx.specs.Front.{assumed}
use Rattle.pts_reduce_cost.specs.Costs.{Entries}

-- A statement to be proved, with the entries of its local context, the innermost first, and the names of these, the
-- outermost first.
pub record Sequent : Type 0 where
  pub names : List Name
  pub entries : Entries
  pub statement : Named

-- An argument of an application: a term, or a goal with this statement.
pub data Argument : Type 0 where
  given : (a : Named) → Argument
  asked : (A : Named) → Argument

-- An abstraction over x : A whose body proves B; a term; a term with arguments; an abstraction over x : T whose body
-- proves B, applied to a proof of T; a proof of another statement, as it is.
pub data Refinement : Type 0 where
  by_abstraction : (x : Name) → (A B : Named) → Refinement
  by_term : (t : Named) → Refinement
  by_application : (f : Named) → List Argument → Refinement
  by_lemma : (x : Name) → (T B : Named) → Refinement
  by_statement : (t : Named) → Refinement

-- The goals that an application leaves.
abbrev pub asked_by : Sequent → List Argument → List Sequent
asked_by g [] = []
asked_by g (given a ∷ rest) = asked_by g rest
asked_by g (asked A ∷ rest) = record { names = g.names; entries = g.entries; statement = A } ∷ asked_by g rest

-- The goals that take the place of the goal g, in order.
abbrev pub goals_of : Sequent → Refinement → List Sequent
goals_of g (by_abstraction x A B) = record { names = g.names ++ x ∷ []; entries = assumed A ∷ g.entries; statement = B } ∷ []
goals_of g (by_term t) = []
goals_of g (by_application f arguments) = asked_by g arguments
goals_of g (by_lemma x T B) =
    record { names = g.names; entries = g.entries; statement = T }
    ∷ record { names = g.names ++ x ∷ []; entries = assumed T ∷ g.entries; statement = B }
    ∷ []
goals_of g (by_statement t) = record { names = g.names; entries = g.entries; statement = t } ∷ []

-- A proof term that is not there yet counts as a leaf.
abbrev pub hole : Named
hole = sort 0

abbrev pub applied_to : Named → List Argument → Named
applied_to f [] = f
applied_to f (given a ∷ rest) = applied_to (app f a) rest
applied_to f (asked A ∷ rest) = applied_to (app f hole) rest

-- The proof term of the goal, with holes for those of the goals that take its place.
abbrev pub with_holes : Refinement → Named
with_holes (by_abstraction x A B) = named_lam x A hole
with_holes (by_term t) = t
with_holes (by_application f arguments) = applied_to f arguments
with_holes (by_lemma x T B) = app (named_lam x T hole) hole
with_holes (by_statement t) = hole
