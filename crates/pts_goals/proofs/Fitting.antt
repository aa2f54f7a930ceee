-- When a step fits the first goal of a proof whose record has grown: what commands need, a lemma a kind of step. The goal g
-- was read before its record was lent (a), and the facts of the step are over the record that was given back (b).
use Rattle.std.proofs.Common.{◌≡◌, ◌<◌, ◌≤◌, ◌-◌, ℕ, List, length, ◌∙◌, sym, ap, Option, Some, arith}
use Rattle.std.specs.Prelude.{slice_get}
use Rattle.pts_names.specs.Name.{Name}
use Rattle.pts_terms.specs.Tree.{lift}
use Rattle.pts_record.specs.Table.{Tables, bare_at}
use Rattle.pts_grow.specs.declared.compared.Compared.{Compared}
use Rattle.pts_grow.specs.declared.judged.Judged.{Judged}
use Rattle.pts_grow.specs.Keeps.{Keeps, Compares}
use Rattle.pts_grow.specs.Judges.{Judges, JudgesSort, IsProduct}
use Rattle.pts_grow.proofs.Grow.{bare_stays}
use Rattle.pts_goals.specs.declared.step.Goal.{Goal}
use Rattle.pts_goals.specs.declared.step.Link.{Link}
use Rattle.pts_goals.specs.declared.step.Step.TheVariants.{Intro, Exact, Cut, Apply, Change}
use Rattle.pts_goals.specs.Steps.{IsGoal, Closes, Converts, LinksFit}
use Rattle.pts_goals.specs.OpenProofs.{FitsFirst}
use Rattle.pts_goals.proofs.Kept.{still_goal}

pub first_goal : (gs : List Goal) (g : Goal) → slice_get gs (length gs - 1 - 0) ≡ Some g → slice_get gs (length gs - 1) ≡ Some g
first_goal gs g e = let n : length gs - 1 - 0 ≡ length gs - 1 = omega arith in ap (slice_get gs) (sym n) ∙ e

module _ (b : Tables) (gs : List Goal) (g : Goal) (f : slice_get gs (length gs - 1) ≡ Some g) where
  pub fits_intro : (x : Name) (p d : Judged) (i : ℕ) (s : Judged) (o : Option Compared) → IsProduct b g.ctx p d i s → Converts b g.ctx (bare_at b.shapes p.subject) (bare_at b.shapes g.statement) o → FitsFirst b gs (Intro x p d i s o)
  fits_intro x p d i s o q c = record { goal = g; first = f; fits = (q, c) }

  pub fits_exact : (j : Judged) → Judges b g.ctx j → bare_at b.shapes j.claim ≡ bare_at b.shapes g.statement → FitsFirst b gs (Exact j)
  fits_exact j q c = record { goal = g; first = f; fits = record { judges = q; claim = c } }

  pub fits_apply : (j : Judged) (ls : List Link) → Judges b g.ctx j → length ls ≤ 2000 → LinksFit b g j.claim ls → FitsFirst b gs (Apply j ls)
  fits_apply j ls q n c = record { goal = g; first = f; fits = (q, n, c) }

  pub fits_cut : (x : Name) (l p : Judged) (i : ℕ) (s : Judged) → IsProduct b g.ctx p l i s → bare_at b.shapes s.subject ≡ lift 0 1 (bare_at b.shapes g.statement) → FitsFirst b gs (Cut x l p i s)
  fits_cut x l p i s q c = record { goal = g; first = f; fits = (q, c) }

  pub fits_change : (t : ℕ) (s : Judged) (o : Compared) → JudgesSort b g.ctx s → t < length b.shapes → bare_at b.shapes s.subject ≡ bare_at b.shapes t → Compares b g.ctx o → bare_at b.shapes o.left ≡ bare_at b.shapes t → bare_at b.shapes o.right ≡ bare_at b.shapes g.statement → FitsFirst b gs (Change t s o)
  fits_change t s o q h e c l r = record { goal = g; first = f; fits = (h, q, e, (c, l, r)) }

pub ruleset fitting = (first_goal, fits_intro, fits_exact, fits_apply, fits_cut, fits_change, still_goal)
