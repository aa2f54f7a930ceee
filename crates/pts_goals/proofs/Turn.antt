-- One turn of the loop that fills out an open record.
use Rattle.std.proofs.Common.{◌≡◌, ℕ, zero, suc, ◌<◌, ◌≤◌, ◌+◌, ◌-◌, List, [], ◌∷◌, ◌++◌, length, refl, sym, ap, ◌∙◌, subst, Option, Some, None, true, arith}
use Rattle.std.specs.Prelude.{slice_get, slice_index_or, map, take, drop}
use Rattle.pts_record.specs.Table.{Tables, named_at}
use Rattle.pts_terms.specs.Limits.{within}
use Rattle.pts_grow.specs.Keeps.{Keeps, StaysValid}
use Rattle.pts_grow.proofs.Grow.{keeps_trans, valid_trans}
use Rattle.pts_grow.specs.declared.judged.Judged.{Judged}
use Rattle.pts_goals.specs.declared.step.Goal.{Goal}
use Rattle.pts_goals.specs.declared.step.FilledGoal.{FilledGoal}
use Rattle.pts_goals.specs.Steps.{IsGoal, Closes, Fits, subgoals, arity, step_term}
use Rattle.pts_goals.specs.OpenGoals.{Makes, AllClose, subjects_of, ClosedAfter}
use Rattle.pts_goals.proofs.Backward.{enough, a_goal, a_fit, parts_close, part_within, went_on, place, all_done}

pub got : {A : Type 0} (xs : List A) (i : ℕ) (x : A) → i < length xs → x ≡ slice_index_or xs i x → slice_get xs i ≡ Some x
got [] i x h e = absurd (omega (arith, h))
got (y ∷ xs) zero x h e = ap Some (sym e)
got (y ∷ xs) (suc i) x h e = let l : i < length xs = omega (arith, h) in got xs i x l e

pub rest_length : {A : Type 0} (k : ℕ) (xs : List A) → take (length xs - k) (drop k xs) ≡ drop k xs
rest_length k xs = all (length xs - k) (drop k xs) (short k xs) where
  short : {A : Type 0} (k : ℕ) (xs : List A) → length (drop k xs) ≤ length xs - k
  short zero xs = omega arith
  short (suc k) [] = omega arith
  short (suc k) (x ∷ xs) = let h = short k xs in omega (arith, h)

  all : {A : Type 0} (n : ℕ) (xs : List A) → length xs ≤ n → take n xs ≡ xs
  all zero [] h = refl
  all (suc n) [] h = refl
  all zero (x ∷ xs) h = absurd (omega (arith, h))
  all (suc n) (x ∷ xs) h = ap (λ l. x ∷ l) (all n xs (omega (arith, h)))

module _ (r : Tables) (root : Goal) (n : IsGoal r root) (ss : List FilledGoal) (at : ℕ) (p : Tables) (js : List Judged) (us : List Judged) (f : FilledGoal) (k : Keeps r p) (h : 0 < at) (b : at ≤ length ss) (is : f ≡ slice_index_or ss (at - 1) f) (d : ClosedAfter r root ss at p js (subjects_of r us)) where
  at_i : slice_get ss (at - 1) ≡ Some f
  at_i = got ss (at - 1) f (omega (arith, h, b)) is

  up : at ≡ suc (at - 1)
  up = omega (arith, h)

  done : ClosedAfter r root ss (suc (at - 1)) p js (subjects_of r us)
  done = subst (λ m. ClosedAfter r root ss m p js (subjects_of r us)) up d

  pub turn_enough : arity f.step ≤ length js
  turn_enough = enough r root n ss (at - 1) p js (subjects_of r us) f k at_i done

  pub turn_goal : IsGoal p f.goal
  turn_goal = a_goal r root n ss (at - 1) p js (subjects_of r us) f k at_i done

  pub turn_fits : Fits p f.goal f.step
  turn_fits = a_fit r root n ss (at - 1) p js (subjects_of r us) f k at_i done

  module _ (m : ℕ) (e : m ≡ length js - arity f.step) (xs : List Judged) (x : xs ≡ js) where
    same : take (length xs - m) (drop m xs) ≡ drop (length js - arity f.step) js
    same = rest_length m xs ∙ ap (drop m) x ∙ ap (λ k. drop k js) e

    pub turn_parts : AllClose p (subgoals f.goal f.step) (take (length xs - m) (drop m xs))
    turn_parts = subst (AllClose p (subgoals f.goal f.step)) (sym same) (parts_close r root n ss (at - 1) p js (subjects_of r us) f k at_i done)

    pub turn_within : within (step_term p f.step (subjects_of p (take (length xs - m) (drop m xs)))) ≡ true
    turn_within = subst (λ ys. within (step_term p f.step (subjects_of p ys)) ≡ true) (sym same) (part_within r root n ss (at - 1) p js (subjects_of r us) f k at_i done)

    pub turn_on : (q : Tables) (j : Judged) (ys zs : List Judged) → Keeps p q → Closes q f.goal j → named_at q.shapes j.subject ≡ step_term p f.step (subjects_of p (take (length xs - m) (drop m xs))) → ys ≡ take m js → zs ≡ ys ++ j ∷ [] → ClosedAfter r root ss (at - 1) q zs (subjects_of r us)
    turn_on q j ys zs g c t y z =
        let u = t ∙ ap (λ ys. step_term p f.step (subjects_of p ys)) same in
        let w : zs ≡ take (length js - arity f.step) js ++ j ∷ [] = z ∙ ap (λ ys. ys ++ j ∷ []) (y ∙ ap (λ k. take k js) e) in
        subst (λ zs. ClosedAfter r root ss (at - 1) q zs (subjects_of r us)) (sym w) (went_on r root n ss (at - 1) p js (subjects_of r us) f k at_i done q j g c u)

-- The last turn.
pub last_closes : (r : Tables) (root : Goal) (ss : List FilledGoal) (at : ℕ) (p : Tables) (js ys : List Judged) (us : List Judged) (j : Judged) → ClosedAfter r root ss at p js (subjects_of r us) → at ≡ 0 → js ≡ ys ++ j ∷ [] → Closes p root j × Makes r ss (length ss) (subjects_of r us) (named_at p.shapes j.subject)
last_closes r root ss at p js ys us j d z e =
    let (i, x, c, o) = all_done r root ss p js (subjects_of r us) (subst (λ m. ClosedAfter r root ss m p js (subjects_of r us)) z d) in
    let q = only ys j i (sym e ∙ x) in
    (subst (Closes p root) (sym q) c, subst (λ j. Makes r ss (length ss) (subjects_of r us) (named_at p.shapes j.subject)) (sym q) o) where
      only : (ys : List Judged) (j i : Judged) → ys ++ j ∷ [] ≡ i ∷ [] → j ≡ i
      only [] j i e = cc e
      only (y ∷ []) j i e = absurd (cc e)
      only (y ∷ z ∷ ys) j i e = absurd (cc e)
