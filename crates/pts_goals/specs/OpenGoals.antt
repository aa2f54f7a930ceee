-- The goals that are open after some steps, the term that the steps make, and how deep and large it is.
use Rattle.std.specs.Prelude.{◌≡◌, ◌≤◌, ◌+◌, max, pred, true, ◌<◌, ℕ, zero, suc, List, [], ◌∷◌, ◌++◌, length, map, Option, Some, None, slice_get}
use Rattle.pts_terms.specs.Tree.{Named, sort}
use Rattle.pts_terms.specs.Limits.{within, depth_of, size_of}
use Rattle.pts_record.specs.Table.{Tables, named_at}
use Rattle.pts_record.specs.Said.{named_told, scope_of}
use Rattle.pts_grow.specs.declared.judged.Judged.{Judged}
use Rattle.pts_goals.specs.declared.step.Goal.{Goal}
use Rattle.pts_goals.specs.declared.step.FilledGoal.{FilledGoal}
use Rattle.pts_goals.specs.declared.step.Step.{Step}
use Rattle.pts_goals.specs.Steps.{IsGoal, Fits, Closes, subgoals, step_term, arity}

-- Holes, each of which counts as a leaf.
abbrev pub holes : ℕ → List Named
holes zero = []
holes (suc n) = sort 0 ∷ holes n

-- The term of a step whose goals are holes.
abbrev pub skeleton : Tables → Step → Named
skeleton r s = step_term r s (holes (arity s))

-- The last of the first i steps.
abbrev pub last_step : List FilledGoal → ℕ → Option FilledGoal
last_step ss zero = None
last_step ss (suc i) = slice_get ss i

-- How deep and how large the whole term is with that step; at first it is one hole.
abbrev pub depth_after : Option FilledGoal → ℕ
depth_after None = 1
depth_after (Some f) = f.depth

abbrev pub size_after : Option FilledGoal → ℕ
size_after None = 1
size_after (Some f) = f.size

-- Step i, counted from 0, is this one: it fits the goal that it fills, and has the measures of the whole term with it,
-- which is within limits.
pub record FitsAt (r : Tables) (ss : List FilledGoal) (i : ℕ) (f : FilledGoal) : Type 0 where
  pub found : slice_get ss i ≡ Some f
  pub is_goal : IsGoal r f.goal
  pub fits : Fits r f.goal f.step
  pub depth : f.depth ≡ max (depth_after (last_step ss i)) (f.goal.place + depth_of (skeleton r f.step))
  pub size : f.size + 1 ≡ size_after (last_step ss i) + size_of (skeleton r f.step)
  pub shallow : f.depth ≤ 2000
  pub small : f.size ≤ 1000000

-- After the first i steps these goals are open, the one that comes first last. Each step took the goal that came first.
abbrev pub OpenAfter : Tables → Goal → List FilledGoal → ℕ → List Goal → Type 0
OpenAfter r root ss zero gs = gs ≡ root ∷ []
OpenAfter r root ss (suc i) gs =
    (f : FilledGoal)
    × (rest : List Goal)
    × FitsAt r ss i f
    × (gs ≡ rest ++ subgoals f.goal f.step)
    × OpenAfter r root ss i (rest ++ f.goal ∷ [])

-- The first i steps make the term t, where these are the terms of the goals that are open after them.
abbrev pub Makes : Tables → List FilledGoal → ℕ → List Named → Named → Type 0
Makes r ss zero ts t = ts ≡ t ∷ []
Makes r ss (suc i) ts t =
    (f : FilledGoal)
    × (rest : List Named)
    × (parts : List Named)
    × (slice_get ss i ≡ Some f)
    × (ts ≡ rest ++ parts)
    × (length parts ≡ arity f.step)
    × Makes r ss i (rest ++ step_term r f.step parts ∷ []) t

-- The steps make the term t with one step more, where the goals that are open after it are holes.
abbrev pub MakesWithHoles : Tables → List FilledGoal → List Goal → Step → Named → Type 0
MakesWithHoles r ss gs s t = Makes r ss (length ss) (holes (pred (length gs)) ++ skeleton r s ∷ []) t

-- These steps over this record leave these goals of a first one, a statement with a sort in an empty context.
pub record IsOpenProof (r : Tables) (root : Goal) (ss : List FilledGoal) (gs : List Goal) : Type 0 where
  pub is_goal : IsGoal r root
  pub place : root.place ≡ 0
  pub empty : (scope_of (named_told r root.ctx)).entries ≡ []
  pub reached : OpenAfter r root ss (length ss) gs

-- Each judgement closes its goal.
abbrev pub AllClose : Tables → List Goal → List Judged → Type 0
AllClose r [] [] = Unit {0}
AllClose r (g ∷ gs) (j ∷ js) = Closes r g j × AllClose r gs js
AllClose r _ _ = ⊥

abbrev pub subjects_of : Tables → List Judged → List Named
subjects_of r js = map (λ j. named_at r.shapes j.subject) js

-- Over the record p these judgements close the goals that are open after the first i steps, and of their subjects these
-- steps make a term within limits, which is the one that all steps make of the terms ts.
pub record ClosedAfter (r : Tables) (root : Goal) (ss : List FilledGoal) (i : ℕ) (p : Tables) (js : List Judged) (ts : List Named) : Type 0 where
  pub goals : List Goal
  pub reached : OpenAfter r root ss i goals
  pub closes : AllClose p goals js
  pub term : Named
  pub makes : Makes r ss i (subjects_of p js) term
  pub whole : Makes r ss (length ss) ts term
  pub within : within term ≡ true
