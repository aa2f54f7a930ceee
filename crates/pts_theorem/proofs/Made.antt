-- The steps of an open proof make the term of its refinements.
use Rattle.std.proofs.Common.{◌≡◌, ℕ, zero, suc, ◌+◌, List, [], ◌∷◌, ◌++◌, length, refl, sym, ap, ◌∙◌, arith}
use mathlib.Core.Path.{ap₂}
use Rattle.std.specs.Prelude.{map, reverse, take, drop}
use Rattle.std.proofs.lemmas.List.{append_assoc, append-nil, reverse-append, reverse-reverse, length-reverse}
use Rattle.std.proofs.Math.Seq.{take-append_seam, drop-append_seam}
use Rattle.pts_terms.specs.Tree.{Named, app}
use Rattle.pts_record.specs.Table.{Tables, named_at, at}
use Rattle.pts_goals.specs.declared.step.FilledGoal.{FilledGoal}
use Rattle.pts_goals.specs.declared.step.Link.{Link}
use Rattle.pts_goals.specs.declared.step.Argument.{Argument as StepArgument}
use Rattle.pts_goals.specs.declared.step.Argument.TheVariants.{Given, Left}
use Rattle.pts_goals.specs.declared.step.Step.{Step}
use Rattle.pts_goals.specs.declared.step.Step.TheVariants.{Intro, Exact, Cut, Apply, Change}
use Rattle.pts_goals.specs.Steps.{arity, links_arity, argument_arity, argument_term, spine, step_term}
use Rattle.pts_goals.specs.OpenGoals.{Makes}
use Rattle.pts_goals.specs.OpenProofs.{OpenProof}
use Rattle.pts_prove.specs.Refining.{refinement_of, argument_of}
use Rattle.pts_theorem.specs.Theorems.{asked_count, goal_count, applied, term_by, whole_term}
use Rattle.pts_theorem.specs.Seen.{refinements_of, theorem_of}
use Rattle.pts_theorem.specs.Laws.{IsSure}
use Rattle.pts_theorem.proofs.Opened.{up_to, whole_list}

-- As many goals are asked for as a step leaves.
links_count : (r : Tables) (ls : List Link) → asked_count (map (λ l. argument_of r l.argument) ls) ≡ links_arity ls
links_count r [] = refl
links_count r (l ∷ ls) = by l.argument (links_count r ls)
  where
    by : (a : StepArgument) → asked_count (map (λ l. argument_of r l.argument) ls) ≡ links_arity ls → asked_count (argument_of r a ∷ map (λ l. argument_of r l.argument) ls) ≡ links_arity ls + argument_arity a
    by (Given j) e = omega (arith, e)
    by (Left s) e = omega (arith, e)

pub step_count : (r : Tables) (s : Step) → goal_count (refinement_of r s) ≡ arity s
step_count r (Intro x p d i s o) = refl
step_count r (Exact j) = refl
step_count r (Apply f ls) = links_count r ls
step_count r (Cut x l p i s) = refl
step_count r (Change t s o) = refl

-- The place after the first terms.
at_seam : (us vs : List Named) (u : Named) (n : ℕ) → length us ≡ n → at (us ++ u ∷ vs) n ≡ u
at_seam [] vs u zero e = refl
at_seam [] vs u (suc n) e = absurd (cc e)
at_seam (x ∷ us) vs u zero e = absurd (cc e)
at_seam (x ∷ us) vs u (suc n) e = at_seam us vs u n (cc e)

-- A function along its links, of which the first terms are those of the goals; these are taken from the last one on.
spine_applies : (r : Tables) (ls : List Link) (t : Named) (ts vs : List Named) → length ts ≡ links_arity ls → spine r t ls (reverse ts ++ vs) ≡ applied t (map (λ l. argument_of r l.argument) ls) ts
spine_applies r [] t ts vs e = refl
spine_applies r (l ∷ ls) t ts vs e = by l.argument ts e (λ t ts vs e. spine_applies r ls t ts vs e)
  where
    by : (a : StepArgument) (ts : List Named) → length ts ≡ links_arity ls + argument_arity a → ((t : Named) (ts vs : List Named) → length ts ≡ links_arity ls → spine r t ls (reverse ts ++ vs) ≡ applied t (map (λ l. argument_of r l.argument) ls) ts) → spine r (app t (argument_term r a (at (reverse ts ++ vs) (links_arity ls)))) ls (reverse ts ++ vs) ≡ applied t (argument_of r a ∷ map (λ l. argument_of r l.argument) ls) ts
    by (Given j) ts e go = go (app t (named_at r.shapes j.subject)) ts vs (omega (arith, e))
    by (Left s) [] e go = absurd (omega (arith, e))
    by (Left s) (u ∷ ts) e go =
        let n : length ts ≡ links_arity ls = omega (arith, e) in
        let q : reverse (u ∷ ts) ++ vs ≡ reverse ts ++ u ∷ vs = ap (λ l. l ++ vs) (reverse-append (u ∷ []) ts) ∙ append_assoc (reverse ts) (u ∷ []) vs in
        ap (λ l. spine r (app t (at l (links_arity ls))) ls l) q
        ∙ ap (λ x. spine r (app t x) ls (reverse ts ++ u ∷ vs)) (at_seam (reverse ts) vs u (links_arity ls) (length-reverse ts ∙ n))
        ∙ go (app t u) ts (u ∷ vs) n

-- A step makes the term of the refinement that it is.
pub step_makes : (r : Tables) (s : Step) (ts : List Named) → length ts ≡ arity s → step_term r s (reverse ts) ≡ term_by (refinement_of r s) ts
step_makes r (Intro x p d i s o) [] e = absurd (cc e)
step_makes r (Intro x p d i s o) (t ∷ []) e = refl
step_makes r (Intro x p d i s o) (t ∷ u ∷ ts) e = absurd (cc e)
step_makes r (Exact j) ts e = refl
step_makes r (Apply f ls) ts e = ap (spine r (named_at r.shapes f.subject) ls) (sym (append-nil (reverse ts))) ∙ spine_applies r ls (named_at r.shapes f.subject) ts [] e
step_makes r (Cut x l p i s) [] e = absurd (cc e)
step_makes r (Cut x l p i s) (t ∷ []) e = absurd (cc e)
step_makes r (Cut x l p i s) (t ∷ u ∷ []) e = refl
step_makes r (Cut x l p i s) (t ∷ u ∷ v ∷ ts) e = absurd (cc e)
step_makes r (Change t s o) [] e = absurd (cc e)
step_makes r (Change t s o) (u ∷ []) e = refl
step_makes r (Change t s o) (u ∷ v ∷ ts) e = absurd (cc e)

-- What the first i steps make of terms, these in the order of the goals.
pub made_by : (r : Tables) (ss : List FilledGoal) (i : ℕ) (us : List Named) (t : Named) → Makes r ss i us t → t ≡ whole_term (refinements_of r (take i ss)) (reverse us)
made_by r ss zero us t e = ap (λ l. at (reverse l) 0) (sym e)
made_by r ss (suc i) us t (f, rest, parts, found, e, n, h) =
    let m = refinement_of r f.step in
    let k : length (reverse parts) ≡ goal_count m = length-reverse parts ∙ n ∙ sym (step_count r f.step) in
    let order : reverse us ≡ reverse parts ++ reverse rest = ap reverse e ∙ reverse-append rest parts in
    let front : take (goal_count m) (reverse us) ≡ reverse parts = ap₂ (λ c l. take c l) (sym k) order ∙ take-append_seam (reverse parts) (reverse rest) in
    let back : drop (goal_count m) (reverse us) ≡ reverse rest = ap₂ (λ c l. drop c l) (sym k) order ∙ drop-append_seam (reverse parts) (reverse rest) in
    let term : step_term r f.step parts ≡ term_by m (reverse parts) =
    ap (step_term r f.step) (sym (reverse-reverse parts)) ∙ step_makes r f.step (reverse parts) (length-reverse parts ∙ n) in
    made_by r ss i (rest ++ step_term r f.step parts ∷ []) t h
    ∙ ap (whole_term (refinements_of r (take i ss))) (reverse-append rest (step_term r f.step parts ∷ []))
    ∙ ap₂ (λ x l. whole_term (refinements_of r (take i ss)) (x ∷ l)) (term ∙ ap (term_by m) (sym front)) (sym back)
    ∙ ap (λ ms. whole_term ms (reverse us)) (sym (up_to r ss i f found))

pub term_made : (p : OpenProof) (ts : List Named) (t : Named) → IsSure p → Makes p.scratch p.steps (length p.steps) (reverse ts) t → t ≡ whole_term (theorem_of p).refinements ts
term_made p ts t s h =
    made_by p.scratch p.steps (length p.steps) (reverse ts) t h
    ∙ ap₂ (λ ss us. whole_term (refinements_of p.scratch ss) us) (whole_list p.steps) (reverse-reverse ts)
