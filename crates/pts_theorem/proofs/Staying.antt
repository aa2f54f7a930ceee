-- The theorem of an open proof stays the same while its record grows.
use Rattle.std.proofs.Common.{◌≡◌, ℕ, zero, suc, List, [], ◌∷◌, ◌++◌, length, refl, sym, ap, ◌∙◌}
use mathlib.Core.Path.{ap₂}
use Rattle.std.specs.Prelude.{map, take}
use Rattle.pts_record.specs.Table.{Tables}
use Rattle.pts_grow.specs.Keeps.{Keeps}
use Rattle.pts_grow.proofs.Grow.{tree_stays}
use Rattle.pts_goals.specs.declared.step.Goal.{Goal}
use Rattle.pts_goals.specs.declared.step.FilledGoal.{FilledGoal}
use Rattle.pts_goals.specs.declared.step.Link.{Link}
use Rattle.pts_goals.specs.declared.step.Argument.{Argument as StepArgument}
use Rattle.pts_goals.specs.declared.step.Argument.TheVariants.{Given, Left}
use Rattle.pts_goals.specs.declared.step.Step.{Step}
use Rattle.pts_goals.specs.declared.step.Step.TheVariants.{Intro, Exact, Cut, Apply, Change}
use Rattle.pts_goals.specs.Steps.{Fits, LinksFit, IsArgument}
use Rattle.pts_goals.specs.OpenGoals.{OpenAfter}
use Rattle.pts_goals.specs.OpenProofs.{OpenProof, with_scratch}
use Rattle.pts_prove_cost.specs.Refinement.{given, asked, by_abstraction, by_term, by_application, by_lemma, by_statement}
use Rattle.pts_prove.specs.Refining.{refinement_of, argument_of}
use Rattle.pts_terms.specs.Tree.{Bare}
use Rattle.pts_theorem.specs.Seen.{refinements_of, theorem_of}
use Rattle.pts_theorem.specs.Laws.{IsSure}
use Rattle.pts_theorem.proofs.Opened.{up_to, whole_list}

module _ (a b : Tables) (k : Keeps a b) where
  argument_stays : (c : ℕ) (x : StepArgument) (A B C : Bare) → IsArgument a c x A B C → argument_of b x ≡ argument_of a x
  argument_stays c (Given j) A B C h = ap (λ t. given t) (tree_stays a b j.subject k h.0.0)
  argument_stays c (Left s) A B C h = ap (λ t. asked t) (tree_stays a b s.subject k h.0.0.0)

  links_stay : (g : Goal) (t : ℕ) (ls : List Link) → LinksFit a g t ls → map (λ l. argument_of b l.argument) ls ≡ map (λ l. argument_of a l.argument) ls
  links_stay g t [] h = refl
  links_stay g t (l ∷ ls) (h, f) = ap₂ (λ x xs. x ∷ xs) (argument_stays g.ctx l.argument _ _ _ h.argument) (links_stay g l.after ls f)

  pub refinement_stays : (g : Goal) (s : Step) → Fits a g s → refinement_of b s ≡ refinement_of a s
  refinement_stays g (Intro x p d i s o) (h, e) = ap₂ (λ A B. by_abstraction x A B) (tree_stays a b d.subject k h.domain.0.0) (tree_stays a b s.subject k h.body.0.0)
  refinement_stays g (Exact j) h = ap (λ t. by_term t) (tree_stays a b j.subject k h.judges.0)
  refinement_stays g (Apply f ls) (h, n, l) = ap₂ (λ t xs. by_application t xs) (tree_stays a b f.subject k h.0) (links_stay g f.claim ls l)
  refinement_stays g (Cut x l p i s) (h, e) = ap₂ (λ T B. by_lemma x T B) (tree_stays a b l.subject k h.domain.0.0) (tree_stays a b s.subject k h.body.0.0)
  refinement_stays g (Change t s o) (h, q, e, c) = ap (λ u. by_statement u) (tree_stays a b t k h)

  pub steps_stay : (root : Goal) (ss : List FilledGoal) (i : ℕ) (gs : List Goal) → OpenAfter a root ss i gs → refinements_of b (take i ss) ≡ refinements_of a (take i ss)
  steps_stay root ss zero gs h = refl
  steps_stay root ss (suc i) gs (f, rest, h, e, o) =
      up_to b ss i f h.found
      ∙ ap₂ (λ m ms. m ∷ ms) (refinement_stays f.goal f.step h.fits) (steps_stay root ss i (rest ++ f.goal ∷ []) o)
      ∙ sym (up_to a ss i f h.found)

pub nothing_changes : (p : OpenProof) (r : Tables) → IsSure p → Keeps p.scratch r → theorem_of (with_scratch p r) ≡ theorem_of p
nothing_changes p r s k =
    let m : refinements_of r p.steps ≡ refinements_of p.scratch p.steps =
    ap (refinements_of r) (sym (whole_list p.steps)) ∙ steps_stay p.scratch r k p.root p.steps (length p.steps) p.goals s.reached ∙ ap (refinements_of p.scratch) (whole_list p.steps) in
    ap₂ (λ t ms. record { name = p.name; statement = t; refinements = ms }) (tree_stays p.scratch r p.root.statement k s.is_goal.statement) m
