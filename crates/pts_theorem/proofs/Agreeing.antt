-- A command comes to the same, at the same cost, for an open proof and for its theorem.
use Rattle.std.proofs.Common.{◌≡◌, ◌<◌, ◌+◌, ◌-◌, ℕ, zero, suc, List, [], ◌∷◌, ◌++◌, length, Some, None, Bool, true, false, if◌then◌else◌, refl, sym, ap, ◌∙◌, subst, arith}
use Rattle.std.specs.Prelude.{map, reverse, slice_get, pred}
use Rattle.std.specs.Option.{option_map}
use Rattle.std.proofs.lemmas.List.{reverse-append, reverse-reverse, length-reverse, length-map, length-append}
use Rattle.pts_terms.specs.Tree.{Named, sort}
use Rattle.pts_terms.specs.Limits.{within}
use Rattle.pts_infer_cost.specs.Typing.{by_limits, comes, stops}
use Rattle.pts_goals.specs.declared.step.Goal.{Goal}
use Rattle.pts_goals.specs.OpenGoals.{Makes, holes}
use Rattle.pts_goals.specs.OpenProofs.{OpenProof}
use Rattle.pts_goals.proofs.OneTerm.{steps_make_one}
use Rattle.pts_prove_cost.specs.Combining.{After, first_stops, goes_on, Free, at_once}
use Rattle.pts_prove_cost.specs.Refinement.{Sequent, Refinement, with_holes}
use Rattle.pts_prove_cost.specs.Commands.{Command, Refusal}
use Rattle.pts_prove.specs.Refining.{sequent_of, first_goal, MakesWith, Puts, stays_small, grows_large, on_first as on_first_goal, refines as refines_proof}
use Rattle.pts_theorem.specs.Theorems.{open_goals, whole_term, whole_with, puts, on_first, refines}
use Rattle.pts_theorem.specs.Seen.{theorem_of}
use Rattle.pts_theorem.specs.Laws.{IsSure}
use Rattle.pts_theorem.proofs.Opened.{goals_open}
use Rattle.pts_theorem.proofs.Made.{term_made}

-- Holes turned round.
holes_more : (n : ℕ) → holes n ++ sort 0 ∷ [] ≡ sort 0 ∷ holes n
holes_more zero = refl
holes_more (suc n) = ap (λ l. sort 0 ∷ l) (holes_more n)

holes_turned : (n : ℕ) → reverse (holes n) ≡ holes n
holes_turned zero = refl
holes_turned (suc n) = reverse-append (sort 0 ∷ []) (holes n) ∙ ap (λ l. l ++ sort 0 ∷ []) (holes_turned n) ∙ holes_more n

holes_count : (n : ℕ) → length (holes n) ≡ n
holes_count zero = refl
holes_count (suc n) = ap suc (holes_count n)

module _ (p : OpenProof) (s : IsSure p) (m : Refinement) where
  as_many : length (open_goals (theorem_of p)) ≡ length p.goals
  as_many = ap length (sym (goals_open p s)) ∙ length-map (reverse p.goals) (sequent_of p.scratch) ∙ length-reverse p.goals

  abbrev with_hole : List Named
  with_hole = holes (pred (length p.goals)) ++ with_holes m ∷ []

  turned : reverse with_hole ≡ with_holes m ∷ holes (pred (length (open_goals (theorem_of p))))
  turned =
      reverse-append (holes (pred (length p.goals))) (with_holes m ∷ [])
      ∙ ap (λ l. with_holes m ∷ l) (holes_turned (pred (length p.goals)) ∙ ap (λ n. holes (pred n)) (sym as_many))

  -- The term with the refinement is the one that is made.
  the_term : (t : Named) → MakesWith p m t → t ≡ whole_with (theorem_of p) m
  the_term t h =
      term_made p (reverse with_hole) t s (subst (λ l. Makes p.scratch p.steps (length p.steps) l t) (sym (reverse-reverse with_hole)) h)
      ∙ ap (whole_term (theorem_of p).refinements) turned

  module _ (some : 0 < length p.goals) where
    enough : length with_hole ≡ length p.goals
    enough =
        let a = length-append (holes (pred (length p.goals))) (with_holes m ∷ []) in
        let b = holes_count (pred (length p.goals)) in
        let c = pred_less (length p.goals) some in
        a ∙ ap (λ n. n + 1) b ∙ c
      where
        pred_less : (n : ℕ) → 0 < n → pred n + 1 ≡ n
        pred_less zero h = absurd (omega (arith, h))
        pred_less (suc n) h = omega arith

    there : MakesWith p m (whole_with (theorem_of p) m)
    there =
        let o = steps_make_one p.scratch p.root p.steps p.goals with_hole s enough in
        subst (MakesWith p m) (the_term o.term o.makes) o.makes

    puts_from : (o : Command) (n : ℕ) → Puts p m o n → puts (theorem_of p) m o n
    puts_from o n (stays_small h) =
        subst (λ b. Free {F = Refusal} {A = Refinement} (if b then comes m else stops by_limits) (comes m) 0) (sym (h (whole_with (theorem_of p) m) there)) at_once
    puts_from o n (grows_large h) =
        subst (λ b. Free {F = Refusal} {A = Refinement} (if b then comes m else stops by_limits) (stops by_limits) 0) (sym (h (whole_with (theorem_of p) m) there)) at_once

  puts_back : (o : Command) (n : ℕ) → puts (theorem_of p) m o n → Puts p m o n
  puts_back o n h = by (within (whole_with (theorem_of p) m)) refl _ refl o n h
    where
      by : (b : Bool) → within (whole_with (theorem_of p) m) ≡ b → (q : Command) → (if b then comes m else stops by_limits) ≡ q → (o : Command) (n : ℕ) → Free q o n → Puts p m o n
      by true e q i o n at_once = subst (λ x. Puts p m x 0) i (stays_small (λ t h. ap within (the_term t h) ∙ e))
      by false e q i o n at_once = subst (λ x. Puts p m x 0) i (grows_large (λ t h. ap within (the_term t h) ∙ e))

-- The goal that comes first.
last_there : {A : Type 0} (xs : List A) (x : A) → slice_get (xs ++ x ∷ []) (length (xs ++ x ∷ []) - 1) ≡ Some x
last_there xs x = ap (slice_get (xs ++ x ∷ [])) (by xs) ∙ at_end xs
  where
    by : (ys : List _) → length (ys ++ x ∷ []) - 1 ≡ length ys
    by ys = let l = length-append ys (x ∷ []) in omega (arith, l)

    at_end : (ys : List _) → slice_get (ys ++ x ∷ []) (length ys) ≡ Some x
    at_end [] = refl
    at_end (y ∷ ys) = at_end ys

pub data Ends {A : Type 0} : List A → Type 0 where
  is_empty : Ends []
  ends_with : (xs : List A) (x : A) → Ends (xs ++ x ∷ [])

ends : {A : Type 0} (xs : List A) → Ends xs
ends [] = is_empty
ends (x ∷ xs) = by (ends xs)
  where
    by : {ys : List _} → Ends ys → Ends (x ∷ ys)
    by is_empty = ends_with [] x
    by (ends_with zs z) = ends_with (x ∷ zs) z

module _ (p : OpenProof) (R : Sequent → Command → ℕ → Type 0) (s : IsSure p) where
  after_from : (g : Sequent) → 0 < length p.goals → (o : Command) (n : ℕ) → After (R g) (Puts p) o n → After (R g) (puts (theorem_of p)) o n
  after_from g some o n (first_stops r) = first_stops r
  after_from g some o n (goes_on {x = m} {m = i} {n = j} r q) = goes_on r (puts_from p s m some o j q)

  after_back : (g : Sequent) (o : Command) (n : ℕ) → After (R g) (puts (theorem_of p)) o n → After (R g) (Puts p) o n
  after_back g o n (first_stops r) = first_stops r
  after_back g o n (goes_on {x = m} {m = i} {n = j} r q) = goes_on r (puts_back p s m o j q)

  module _ (gs : List Goal) (is : p.goals ≡ gs) where
    first_of : (rest : List Goal) (g : Goal) → gs ≡ rest ++ g ∷ [] → (option_map (sequent_of p.scratch) (first_goal p) ≡ Some (sequent_of p.scratch g)) × (open_goals (theorem_of p) ≡ sequent_of p.scratch g ∷ map (sequent_of p.scratch) (reverse rest)) × (0 < length p.goals)
    first_of rest g e =
        let f : p.goals ≡ rest ++ g ∷ [] = is ∙ e in
        let l = length-append rest (g ∷ []) in
        let n : length p.goals ≡ length rest + 1 = ap length f ∙ l in (
          ap (λ l. option_map (sequent_of p.scratch) (slice_get l (length l - 1))) f ∙ ap (option_map (sequent_of p.scratch)) (last_there rest g),
          sym (goals_open p s) ∙ ap (λ l. map (sequent_of p.scratch) (reverse l)) f ∙ ap (map (sequent_of p.scratch)) (reverse-append rest (g ∷ [])),
          omega (arith, n),
        )

  pub from : (o : Command) (n : ℕ) → refines_proof p R o n → refines (theorem_of p) R o n
  from o n h = by p.goals refl (ends p.goals)
    where
      by : (gs : List Goal) → p.goals ≡ gs → Ends gs → refines (theorem_of p) R o n
      by gs e is_empty =
          let a : option_map (sequent_of p.scratch) (first_goal p) ≡ None = ap (λ l. option_map (sequent_of p.scratch) (slice_get l (length l - 1))) e in
          let b : open_goals (theorem_of p) ≡ [] = sym (goals_open p s) ∙ ap (λ l. map (sequent_of p.scratch) (reverse l)) e in
          subst (λ l. on_first (theorem_of p) R l o n) (sym b) (subst (λ x. on_first_goal p R x o n) a h)
      by gs e (ends_with rest g) =
          let f = first_of gs e rest g refl in
          subst (λ l. on_first (theorem_of p) R l o n) (sym f.1) (after_from (sequent_of p.scratch g) f.2 o n (subst (λ x. on_first_goal p R x o n) f.0 h))

  pub back : (o : Command) (n : ℕ) → refines (theorem_of p) R o n → refines_proof p R o n
  back o n h = by p.goals refl (ends p.goals)
    where
      by : (gs : List Goal) → p.goals ≡ gs → Ends gs → refines_proof p R o n
      by gs e is_empty =
          let a : option_map (sequent_of p.scratch) (first_goal p) ≡ None = ap (λ l. option_map (sequent_of p.scratch) (slice_get l (length l - 1))) e in
          let b : open_goals (theorem_of p) ≡ [] = sym (goals_open p s) ∙ ap (λ l. map (sequent_of p.scratch) (reverse l)) e in
          subst (λ x. on_first_goal p R x o n) (sym a) (subst (λ l. on_first (theorem_of p) R l o n) b h)
      by gs e (ends_with rest g) =
          let f = first_of gs e rest g refl in
          subst (λ x. on_first_goal p R x o n) (sym f.0) (after_back (sequent_of p.scratch g) o n (subst (λ l. on_first (theorem_of p) R l o n) f.1 h))
