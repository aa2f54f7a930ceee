-- The laws of open proofs: a step that was put in is taken back to what was before, and the steps make one term.
use Rattle.std.specs.Prelude.{◌≡◌, List, length}
use Rattle.pts_terms.specs.Tree.{Named}
use Rattle.pts_record.specs.Table.{Tables}
use Rattle.pts_goals.specs.declared.step.Goal.{Goal}
use Rattle.pts_goals.specs.declared.step.FilledGoal.{FilledGoal}
use Rattle.pts_goals.specs.declared.step.Step.{Step}
use Rattle.pts_goals.specs.OpenGoals.{Makes, IsOpenProof}
use Rattle.pts_goals.specs.OpenProofs.{OpenProof, IsFilled}

-- The step that was put into a proof tells what the proof was.
abbrev pub FillsAreUndone : Type 0
FillsAreUndone = (p q r : OpenProof) (s t : Step) → IsFilled p s r → IsFilled q t r → p ≡ q

-- The steps make a term of these terms, and no other.
pub record MakesOne (r : Tables) (ss : List FilledGoal) (ts : List Named) : Type 0 where
  pub term : Named
  pub makes : Makes r ss (length ss) ts term
  pub only : (t : Named) → Makes r ss (length ss) ts t → t ≡ term

-- Of as many terms as goals are open the steps of an open proof make exactly one term.
abbrev pub StepsMakeOneTerm : Type 0
StepsMakeOneTerm =
    (r : Tables) (root : Goal) (ss : List FilledGoal) (gs : List Goal) (ts : List Named)
    → IsOpenProof r root ss gs
    → length ts ≡ length gs
    → MakesOne r ss ts
