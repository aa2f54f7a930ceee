-- The steps of an open proof make one term of given terms.
use Rattle.std.proofs.Common.{◌≡◌, ℕ, zero, suc, List, [], ◌∷◌, ◌++◌, length, refl, sym, ap, ◌∙◌, Some}
use Rattle.std.specs.Prelude.{slice_get}
use mathlib.Core.Path.{ap₂}
use Rattle.pts_terms.specs.Tree.{Named}
use Rattle.pts_record.specs.Table.{Tables}
use Rattle.pts_goals.specs.declared.step.Goal.{Goal}
use Rattle.pts_goals.specs.declared.step.FilledGoal.{FilledGoal}
use Rattle.pts_goals.specs.Steps.{arity, step_term}
use Rattle.pts_goals.specs.OpenGoals.{Makes, IsOpenProof}
use Rattle.pts_goals.specs.Laws.{MakesOne}
use Rattle.pts_goals.proofs.Backward.{fronts}
use Rattle.pts_goals.proofs.Size.{some_term}

pub makes_one : (r : Tables) (ss : List FilledGoal) (i : ℕ) (ts us : List Named) (t u : Named) → ts ≡ us → Makes r ss i ts t → Makes r ss i us u → t ≡ u
makes_one r ss zero ts us t u q e h = let x : t ∷ [] ≡ u ∷ [] = sym e ∙ q ∙ h in cc x
makes_one r ss (suc i) ts us t u q (f, front, parts, e, h, n, o) (g, rest, args, d, k, m, p) =
    let x : Some f ≡ Some g = sym e ∙ d in
    let y : f ≡ g = cc x in
    let a : arity f.step ≡ arity g.step = ap (λ f. arity f.step) y in
    let s = fronts front parts rest args (sym h ∙ q ∙ k) (n ∙ a ∙ sym m) in
    let b : step_term r f.step parts ≡ step_term r g.step args = ap₂ (λ f ps. step_term r f.step ps) y s.1 in
    makes_one r ss i (front ++ step_term r f.step parts ∷ []) (rest ++ step_term r g.step args ∷ []) t u (ap₂ (λ l x. l ++ x ∷ []) s.0 b) o p

pub steps_make_one : (r : Tables) (root : Goal) (ss : List FilledGoal) (gs : List Goal) (ts : List Named) → IsOpenProof r root ss gs → length ts ≡ length gs → MakesOne r ss ts
steps_make_one r root ss gs ts w n =
    let t = some_term r root ss (length ss) gs ts w.reached n in
    record {
      term = t.0;
      makes = t.1;
      only = λ u m. makes_one r ss (length ss) ts ts u t.0 refl m t.1;
    }
