-- What contracts see of an open proof, and what its calls do to it.
use Rattle.std.specs.Prelude.{◌≡◌, ◌+◌, ◌-◌, ◌<◌, ℕ, List, [], ◌∷◌, ◌++◌, length, slice_get, Bool, true, false, Option, Some}
use Rattle.std.specs.Option.{option_map}
use Rattle.pts_names.specs.Name.{Name}
use Rattle.pts_terms.specs.declared.term.Term.{Term}
use Rattle.pts_terms.specs.Tree.{Named, bare}
use Rattle.pts_terms.specs.Seen.{named}
use Rattle.pts_terms.specs.Limits.{within}
use Rattle.pts_record.specs.Table.{Tables, named_at}
use Rattle.pts_record.specs.declared.declaration.Declaration.{Declaration}
use Rattle.pts_rules.specs.Valid.{last_said, concludes_as}
use Rattle.pts_grow.specs.declared.judged.Judged.{Judged}
use Rattle.pts_grow.specs.Judges.{Judges, JudgesSort}
use Rattle.pts_grow.specs.Keeps.{Keeps, StaysValid}
use Rattle.pts_goals.specs.declared.fault.FinishFault.{FinishFault}
use Rattle.pts_goals.specs.declared.fault.FinishFault.TheVariants.{GoalsLeft, Memory}
use Rattle.pts_goals.specs.declared.step.Goal.{Goal}
use Rattle.pts_goals.specs.declared.step.FilledGoal.{FilledGoal}
use Rattle.pts_goals.specs.declared.step.Step.{Step}
use Rattle.pts_goals.specs.Steps.{Fits, goal_of, subgoals}
use Rattle.pts_goals.specs.OpenGoals.{Makes, MakesWithHoles}

-- The theorem's name; the scratch record, or the one that was lent; the goal of the theorem; the steps in order; and the
-- goals that are open, the one that comes first last.
pub record OpenProof : Type 0 where
  pub name : Name
  pub scratch : Tables
  pub is_lent : Bool
  pub root : Goal
  pub steps : List FilledGoal
  pub goals : List Goal

-- The proof is new: its one goal is the subject of the judgement with this number, without hypotheses.
pub record IsStarted (x : Name) (r : Tables) (n : ℕ) (p : OpenProof) : Type 0 where
  pub ctx : ℕ
  pub sorted : Judged
  pub node : sorted.node ≡ n
  pub judges : JudgesSort r ctx sorted
  pub is : p ≡ (record { name = x; scratch = r; is_lent = false; root = goal_of [] ctx sorted 0; steps = []; goals = goal_of [] ctx sorted 0 ∷ [] })

-- The step fits the goal that comes first.
pub record FitsFirst (r : Tables) (gs : List Goal) (s : Step) : Type 0 where
  pub goal : Goal
  pub first : slice_get gs (length gs - 1) ≡ Some goal
  pub fits : Fits r goal s

-- The proof q is the proof p with a step in the goal that came first.
pub record IsFilled (p : OpenProof) (s : Step) (q : OpenProof) : Type 0 where
  pub rest : List Goal
  pub filled : FilledGoal
  pub step : filled.step ≡ s
  pub goals : p.goals ≡ rest ++ filled.goal ∷ []
  pub now_goals : q.goals ≡ rest ++ subgoals filled.goal s
  pub now_steps : q.steps ≡ p.steps ++ filled ∷ []
  pub same : (q.name ≡ p.name) × (q.scratch ≡ p.scratch) × (q.is_lent ≡ p.is_lent) × (q.root ≡ p.root)

-- The term of the proof with one step more, in which each goal that is then open is a hole, is within limits, or is not.
abbrev pub StaysWithin : OpenProof → Step → Type 0
StaysWithin p s = (t : Named) → MakesWithHoles p.scratch p.steps p.goals s t → within t ≡ true

abbrev pub GoesBeyond : OpenProof → Step → Type 0
GoesBeyond p s = (t : Named) → MakesWithHoles p.scratch p.steps p.goals s t → within t ≡ false

-- The same proof while its record is lent, and with another record in its place.
abbrev pub lent : OpenProof → OpenProof
lent p = record { name = p.name; scratch = p.scratch; is_lent = true; root = p.root; steps = p.steps; goals = p.goals }

abbrev pub with_scratch : OpenProof → Tables → OpenProof
with_scratch p r = record { name = p.name; scratch = r; is_lent = false; root = p.root; steps = p.steps; goals = p.goals }

-- The declaration of the theorem: its body is the term that the steps make, its type is the first statement, and its record
-- concludes it and is valid over each front over which the scratch record is.
pub record IsFinished (p : OpenProof) (d : Declaration) : Type 0 where
  pub name : d.name ≡ p.name
  pub term : Named
  pub body : option_map named d.body ≡ Some term
  pub made : Makes p.scratch p.steps (length p.steps) [] term
  pub statement : named d.ty ≡ named_at p.scratch.shapes p.root.statement
  pub concludes : concludes_as (last_said d.proof) (Some (bare term)) (bare (named d.ty)) ≡ true
  pub keeps : Keeps p.scratch d.proof
  pub valid : StaysValid p.scratch d.proof

-- What a refusal of `finish` means. Memory runs out only where no goal is left.
abbrev pub WhyUnfinished : List Goal → FinishFault → Type 0
WhyUnfinished gs (GoalsLeft n) = (n ≡ length gs) × (0 < n)
WhyUnfinished gs Memory = gs ≡ []
