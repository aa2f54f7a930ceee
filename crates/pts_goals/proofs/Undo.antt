-- A step that was put in leads back to what was before.
use Rattle.std.proofs.Common.{◌≡◌, ℕ, zero, suc, ◌<◌, ◌≤◌, ◌+◌, List, [], ◌∷◌, ◌++◌, length, refl, sym, ap, ◌∙◌, subst, arith, Some}
use mathlib.Core.Path.{ap₂}
use Rattle.std.specs.Prelude.{Bool}
use Rattle.pts_names.specs.Name.{Name}
use Rattle.pts_record.specs.Table.{Tables}
use Rattle.pts_goals.specs.declared.step.Goal.{Goal}
use Rattle.pts_goals.specs.declared.step.FilledGoal.{FilledGoal}
use Rattle.pts_goals.specs.declared.step.Step.{Step}
use Rattle.pts_goals.specs.Steps.{subgoals}
use Rattle.pts_goals.specs.OpenProofs.{OpenProof, IsFilled}
use Rattle.pts_goals.proofs.Backward.{fronts}

abbrev pub open_of : Name → Tables → Bool → Goal → List FilledGoal → List Goal → OpenProof
open_of n c b k ss gs = record { name = n; scratch = c; is_lent = b; root = k; steps = ss; goals = gs }

parts : (n m : Name) (c d : Tables) (b e : Bool) (k l : Goal) (ss us : List FilledGoal) (gs hs : List Goal) → n ≡ m → c ≡ d → b ≡ e → k ≡ l → ss ≡ us → gs ≡ hs → open_of n c b k ss gs ≡ open_of m d e l us hs
parts n m c d b e k l ss us gs hs p q r s t u =
    ap (λ n. open_of n c b k ss gs) p ∙ ap (λ c. open_of m c b k ss gs) q ∙ ap (λ b. open_of m d b k ss gs) r ∙ ap (λ k. open_of m d e k ss gs) s ∙ ap (λ ss. open_of m d e l ss gs) t ∙ ap (open_of m d e l us) u

pub undone : (p q r : OpenProof) (s t : Step) → IsFilled p s r → IsFilled q t r → p ≡ q
undone p q r s t f g =
    let steps = fronts p.steps (f.filled ∷ []) q.steps (g.filled ∷ []) (sym f.now_steps ∙ g.now_steps) refl in
    let same : f.filled ≡ g.filled = let e : f.filled ∷ [] ≡ g.filled ∷ [] = steps.1 in cc e in
    let st : s ≡ t = sym f.step ∙ ap (λ f. f.step) same ∙ g.step in
    let o : subgoals f.filled.goal s ≡ subgoals g.filled.goal t = ap₂ (λ f s. subgoals f.goal s) same st in
    let goals = fronts f.rest (subgoals f.filled.goal s) g.rest (subgoals g.filled.goal t) (sym f.now_goals ∙ g.now_goals) (ap length o) in
    let gs : p.goals ≡ q.goals = f.goals ∙ ap₂ (λ r f. r ++ f.goal ∷ []) goals.0 same ∙ sym g.goals in
    let n : p.name ≡ q.name = sym f.same.0 ∙ g.same.0 in
    let c : p.scratch ≡ q.scratch = sym f.same.1 ∙ g.same.1 in
    let b : p.is_lent ≡ q.is_lent = sym f.same.2 ∙ g.same.2 in
    let k : p.root ≡ q.root = sym f.same.3 ∙ g.same.3 in
    parts p.name q.name p.scratch q.scratch p.is_lent q.is_lent p.root q.root p.steps q.steps p.goals q.goals n c b k steps.0 gs
