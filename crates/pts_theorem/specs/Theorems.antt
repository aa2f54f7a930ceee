-- A theorem that is being proved, without the numbers of any record: what is open, and the term that is made.
use Rattle.std.specs.Prelude.{ℕ, suc, List, [], ◌∷◌, ◌++◌, length, take, drop, pred, if◌then◌else◌}
use Rattle.pts_names.specs.Name.{Name}
use Rattle.pts_terms.specs.Tree.{Named, app, named_lam}
use Rattle.pts_terms.specs.Limits.{within}
use Rattle.pts_record.specs.Table.{at}
use Rattle.pts_infer_cost.specs.Typing.{by_flaw, by_limits, comes, stops}
use Rattle.pts_goals.specs.OpenGoals.{holes}
use Rattle.pts_prove_cost.specs.Combining.{After, Free}
use Rattle.pts_prove_cost.specs.Refinement.{Sequent, Argument, given, asked, Refinement, by_abstraction, by_term, by_application, by_lemma, by_statement, goals_of, hole, with_holes}
use Rattle.pts_prove_cost.specs.Commands.{Command, no_goal}

-- Its name, its statement, and the refinements that were made, the last one first.
pub record Theorem : Type 0 where
  pub name : Name
  pub statement : Named
  pub refinements : List Refinement

-- A statement without hypotheses.
abbrev pub closed_goal : Named → Sequent
closed_goal A = record { names = []; entries = []; statement = A }

-- A refinement puts its goals in the place of the one that comes first.
abbrev pub goals_with : Refinement → List Sequent → List Sequent
goals_with m [] = []
goals_with m (g ∷ gs) = goals_of g m ++ gs

abbrev pub goals_after : Named → List Refinement → List Sequent
goals_after A [] = closed_goal A ∷ []
goals_after A (m ∷ earlier) = goals_with m (goals_after A earlier)

-- The goals that are open, in order.
abbrev pub open_goals : Theorem → List Sequent
open_goals th = goals_after th.statement th.refinements

-- How many goals a refinement leaves.
abbrev pub asked_count : List Argument → ℕ
asked_count [] = 0
asked_count (given a ∷ rest) = asked_count rest
asked_count (asked A ∷ rest) = suc (asked_count rest)

abbrev pub goal_count : Refinement → ℕ
goal_count (by_abstraction x A B) = 1
goal_count (by_term t) = 0
goal_count (by_application f arguments) = asked_count arguments
goal_count (by_lemma x T B) = 2
goal_count (by_statement t) = 1

-- A function with its arguments, where these are the terms of the goals among them, in order.
abbrev pub applied : Named → List Argument → List Named → Named
applied f [] ts = f
applied f (given a ∷ rest) ts = applied (app f a) rest ts
applied f (asked A ∷ rest) [] = applied (app f hole) rest []
applied f (asked A ∷ rest) (t ∷ ts) = applied (app f t) rest ts

-- The term of a refinement, where these are the terms of its goals, in order.
abbrev pub term_by : Refinement → List Named → Named
term_by (by_abstraction x A B) ts = named_lam x A (at ts 0)
term_by (by_term t) ts = t
term_by (by_application f arguments) ts = applied f arguments ts
term_by (by_lemma x T B) ts = app (named_lam x T (at ts 1)) (at ts 0)
term_by (by_statement t) ts = at ts 0

-- The whole term, where these are the terms of the open goals, in order: those of the goals of the last refinement come first.
abbrev pub whole_term : List Refinement → List Named → Named
whole_term [] ts = at ts 0
whole_term (m ∷ earlier) ts = whole_term earlier (term_by m (take (goal_count m) ts) ∷ drop (goal_count m) ts)

-- The same with one refinement more, where the goals that are then open are holes.
abbrev pub whole_with : Theorem → Refinement → Named
whole_with th m = whole_term th.refinements (with_holes m ∷ holes (pred (length (open_goals th))))

-- A refinement must leave the whole term within limits.
abbrev pub puts : Theorem → Refinement → Command → ℕ → Type 0
puts th m = Free (if within (whole_with th m) then comes m else stops by_limits)

abbrev pub on_first : Theorem → (Sequent → Command → ℕ → Type 0) → List Sequent → Command → ℕ → Type 0
on_first th R [] = Free (stops (by_flaw no_goal))
on_first th R (g ∷ later) = After (R g) (puts th)

-- What a command for one goal comes to for a theorem, and its cost: it works on the goal that comes first, if there is one.
abbrev pub refines : Theorem → (Sequent → Command → ℕ → Type 0) → Command → ℕ → Type 0
refines th R = on_first th R (open_goals th)

-- The theorem with one refinement more.
abbrev pub refined : Theorem → Refinement → Theorem
refined th m = record th { refinements = m ∷ th.refinements }
