-- The laws of theorems that are being proved.
use Rattle.std.specs.Prelude.{◌≡◌, ℕ, List, map, reverse, length}
use Rattle.pts_terms.specs.Tree.{Named}
use Rattle.pts_record.specs.Table.{Tables}
use Rattle.pts_grow.specs.Keeps.{Keeps}
use Rattle.pts_goals.specs.OpenGoals.{IsOpenProof, Makes}
use Rattle.pts_goals.specs.OpenProofs.{OpenProof, IsFilled, with_scratch}
use Rattle.pts_prove_cost.specs.Commands.{Command}
use Rattle.pts_prove.specs.Refining.{sequent_of, refinement_of}
use Rattle.pts_goals.specs.declared.step.Step.{Step}
use Rattle.pts_theorem.specs.Theorems.{open_goals, refined, whole_term}
use Rattle.pts_theorem.specs.Seen.{theorem_of}

-- What is sure of an open proof.
abbrev pub IsSure : OpenProof → Type 0
IsSure p = IsOpenProof p.scratch p.root p.steps p.goals

-- The open goals of the theorem are those of the proof, which has the first of them last.
abbrev pub GoalsAreOpen : Type 0
GoalsAreOpen = (p : OpenProof) → IsSure p → map (sequent_of p.scratch) (reverse p.goals) ≡ open_goals (theorem_of p)

-- Further lines in the record change nothing of the theorem.
abbrev pub LinesChangeNothing : Type 0
LinesChangeNothing = (p : OpenProof) (r : Tables) → IsSure p → Keeps p.scratch r → theorem_of (with_scratch p r) ≡ theorem_of p

-- The steps make the term of the refinements.
abbrev pub StepsMakeTheTerm : Type 0
StepsMakeTheTerm = (p : OpenProof) (ts : List Named) (t : Named) → IsSure p → Makes p.scratch p.steps (length p.steps) (reverse ts) t → t ≡ whole_term (theorem_of p).refinements ts

-- A step that is put in is one refinement more.
abbrev pub StepsRefine : Type 0
StepsRefine = (p q : OpenProof) (s : Step) → IsFilled p s q → theorem_of q ≡ refined (theorem_of p) (refinement_of p.scratch s)

-- A command comes to the same, at the same cost, for an open proof and for its theorem.
pub record AgreeOn (R Q : Command → ℕ → Type 0) : Type 0 where
  pub from : (o : Command) (n : ℕ) → R o n → Q o n
  pub back : (o : Command) (n : ℕ) → Q o n → R o n
