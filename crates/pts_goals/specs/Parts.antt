-- What is said of parts of the calls: a function that is applied along its links, and a step that is taken out again.
use Rattle.std.specs.Prelude.{◌≡◌, ◌+◌, ◌-◌, ℕ, List, [], ◌∷◌, ◌++◌, length, take, max, slice_index_or}
use Rattle.pts_names.specs.Name.{Name}
use Rattle.pts_terms.specs.Tree.{Named, sort, app, named_lam}
use Rattle.pts_terms.specs.Limits.{depth_of, size_of}
use Rattle.pts_record.specs.Table.{Tables, named_at}
use Rattle.pts_grow.specs.declared.judged.Judged.{Judged}
use Rattle.pts_grow.specs.Judges.{Judges}
use Rattle.pts_goals.specs.declared.step.Goal.{Goal}
use Rattle.pts_goals.specs.declared.step.FilledGoal.{FilledGoal}
use Rattle.pts_goals.specs.declared.step.Link.{Link}
use Rattle.pts_goals.specs.declared.step.Argument.{Argument}
use Rattle.pts_goals.specs.declared.step.Argument.TheVariants.{Given, Left}
use Rattle.pts_goals.specs.declared.step.Step.{Step}
use Rattle.pts_goals.specs.declared.step.Step.TheVariants.{Apply}
use Rattle.pts_goals.specs.Steps.{LinksFit, link_goals, links_arity, argument_term, spine, arity}
use Rattle.pts_goals.specs.OpenGoals.{AllClose, subjects_of}

-- Terms of judged parts: the abstraction of a body, an application, the abstraction over a lemma that is applied to the
-- lemma's proof, and a function applied along links, where the parts close its goals.
abbrev pub lam_term : Tables → Name → (domain body : Judged) → Named
lam_term r x d b = named_lam x (named_at r.shapes d.subject) (named_at r.shapes b.subject)

abbrev pub app_term : Tables → (function argument : Judged) → Named
app_term r f a = app (named_at r.shapes f.subject) (named_at r.shapes a.subject)

abbrev pub cut_term : Tables → Name → (lemma body argument : Judged) → Named
cut_term r x l b a = app (lam_term r x l b) (named_at r.shapes a.subject)

abbrev pub spine_term : Tables → Judged → List Link → List Judged → Named
spine_term r f ls js = spine r (named_at r.shapes f.subject) ls (subjects_of r js)

-- The judgement of an argument: the given one, or the one that closes its goal, which has this place.
abbrev pub pick : Argument → List Judged → ℕ → Judged
pick (Given j) js n = j
pick (Left s) js n = slice_index_or js n s

-- The function of the judgement, applied along these links, is the term t, and the first judgements of the parts close the
-- goals among its arguments.
pub record OnSpine (p : Tables) (g : Goal) (j : Judged) (ls : List Link) (parts : List Judged) (t : Named) : Type 0 where
  pub judges : Judges p g.ctx j
  pub fits : LinksFit p g j.claim ls
  pub closes : AllClose p (link_goals g ls) (take (links_arity ls) parts)
  pub term : spine p (named_at p.shapes j.subject) ls (subjects_of p (take (links_arity ls) parts)) ≡ t

-- The links of a step.
abbrev pub links_in : Step → List Link
links_in (Apply f ls) = ls
links_in _ = []

-- The term that an argument's judgement is about.
abbrev pub argument_subject : Argument → ℕ
argument_subject (Given j) = j.subject
argument_subject (Left s) = s.subject

-- The depth and the size of a function with the depth d or the size s that is applied along links, where goals are holes.
abbrev pub spine_depth : Tables → ℕ → List Link → ℕ
spine_depth r d [] = d
spine_depth r d (l ∷ ls) = spine_depth r (max d (depth_of (argument_term r l.argument (sort 0))) + 1) ls

abbrev pub spine_size : Tables → ℕ → List Link → ℕ
spine_size r s [] = s
spine_size r s (l ∷ ls) = spine_size r (s + (size_of (argument_term r l.argument (sort 0)) + 1)) ls

-- A goal with the step that fills it and the measures of the whole term with it.
abbrev pub filled_by : Goal → Step → (depth size : ℕ) → FilledGoal
filled_by g s d z = record { goal = g; step = s; depth = d; size = z }

-- The goal that comes first.
abbrev pub IsFirst : List Goal → Goal → Type 0
IsFirst gs g = g ≡ slice_index_or gs (length gs - 1) g

-- The steps us are the steps ss and one more, in the goal that comes first, with the measures d and z.
abbrev pub IsPut : List Goal → Step → (d z : ℕ) → (ss us : List FilledGoal) → Type 0
IsPut gs s d z ss us = (g : Goal) → IsFirst gs g → us ≡ ss ++ filled_by g s d z ∷ []

-- The last of the steps ss is gone, and its goal is in the place of those that it left.
pub record IsUndone (ss : List FilledGoal) (gs : List Goal) (us : List FilledGoal) (hs : List Goal) : Type 0 where
  pub filled : FilledGoal
  pub steps : ss ≡ us ++ filled ∷ []
  pub goals : hs ≡ take (length gs - arity filled.step) gs ++ filled.goal ∷ []
