-- An open proof whose record is lent to a command, and the step that is put into it.
use Rattle.std.proofs.Common.{◌≡◌, ℕ, zero, suc, List, [], ◌∷◌, ◌++◌, length, Some, None, true, false, refl, sym, ap, ◌∙◌, subst, arith, Result, Ok, Err}
use Rattle.std.specs.Prelude.{map, pred}
use Rattle.std.specs.Option.{option_map}
use Rattle.std.specs.Result.{IsErr, IsErrAnd}
use Rattle.pts_terms.specs.Tree.{Named, sort, app}
use Rattle.pts_terms.specs.Limits.{within}
use Rattle.pts_record.specs.Table.{Tables, named_at, at}
use Rattle.pts_rules.specs.Meter.{left}
use Rattle.pts_reduce_cost.specs.Laws.{WithinBudget}
use Rattle.pts_infer_cost.specs.Typing.{by_flaw, comes, stops}
use Rattle.pts_grow.specs.Keeps.{Keeps}
use Rattle.pts_grow.proofs.Grow.{tree_stays}
use Rattle.pts_goals.specs.declared.step.Goal.{Goal}
use Rattle.pts_goals.specs.declared.step.Link.{Link}
use Rattle.pts_goals.specs.declared.step.Argument.TheVariants.{Given, Left}
use Rattle.pts_goals.specs.declared.step.Step.{Step}
use Rattle.pts_goals.specs.declared.step.Step.TheVariants.{Intro, Exact, Cut, Apply, Change}
use Rattle.pts_goals.specs.Steps.{Fits, IsGoal, spine, argument_term, links_arity}
use Rattle.pts_goals.specs.OpenGoals.{Makes, MakesWithHoles, holes, skeleton}
use Rattle.pts_goals.specs.OpenProofs.{OpenProof, FitsFirst, IsFilled, lent, with_scratch}
use Rattle.pts_prove_cost.specs.Combining.{After}
use Rattle.pts_prove_cost.specs.Refinement.{Sequent, applied_to, with_holes}
use Rattle.pts_prove_cost.specs.Commands.{Command, no_goal}
use Rattle.pts_prove_cost.proofs.OnBudget.{after_goes, free_comes}
use Rattle.pts_prove.specs.declared.command.Command.{Command as HandedIn}
use Rattle.pts_prove.specs.declared.fault.ProveFault.{ProveFault}
use Rattle.pts_prove.specs.declared.fault.ProveFault.TheVariants as fault
use Rattle.pts_prove.specs.declared.work.Work.{Work}
use Rattle.pts_prove.specs.declared.work.Place.{Place}
use Rattle.pts_prove.specs.Answered.{Refuses, Answers}
use Rattle.pts_prove.specs.Works.{Grown, IsAsked, FitsAt, Came, sequent_at}
use Rattle.pts_prove.specs.Refining.{argument_of, refinement_of, sequent_of, first_goal, MakesWith, Puts, stays_small, grows_large, on_first, refines, command_of, HasNoGoal, IsPut, names_of, Proves}
use Rattle.pts_prove.proofs.Running.{refuses_first}
use Rattle.pts_prove.proofs.Since.{entries_stay}

-- What a command answers for a goal of the record that is lent to it.
pub goal_asked : {w : Work} {p : Place} {g : Goal} → p.ctx ≡ g.ctx → p.statement ≡ g.statement → IsGoal w.proof.now g → IsAsked w p
goal_asked {w} {p} {g} c s h =
    subst (λ c. IsAsked w (record { ctx = c; statement = p.statement })) (sym c) (
    subst (λ s. IsAsked w (record { ctx = g.ctx; statement = s })) (sym s) (record {
      place = record { there = h.ctx; typed = h.typed };
      statement = record { there = h.statement };
    }))

pub lent_answers : {w v : Work} {r : Result Step ProveFault} {p : Place} (c : HandedIn) (g : Goal) → Grown w v → w.names.now ≡ g.names → p.ctx ≡ g.ctx → p.statement ≡ g.statement → Came w v (refinement_of v.proof.now) r (command_of w.system.now w.front.now.entries c (sequent_at w p)) → Answers g.names (refinement_of v.proof.now) (command_of w.system.now w.front.now.entries c (sequent_of w.proof.now g)) r (left w.meter.now) (left v.meter.now)
lent_answers {w} {v} {r} {p} c g h n x s k =
    let e : sequent_at w p ≡ sequent_of w.proof.now g = rw (n, x, s) refl in
    let a1 = subst (λ q. Answers v.names.now (refinement_of v.proof.now) (command_of w.system.now w.front.now.entries c q) r (left w.meter.now) (left v.meter.now)) e k.answers in
    subst (λ xs. Answers xs (refinement_of v.proof.now) (command_of w.system.now w.front.now.entries c (sequent_of w.proof.now g)) r (left w.meter.now) (left v.meter.now)) (ap (λ x. x.now) h.names ∙ n) a1

pub lent_fits : {v : Work} {p : Place} {s : Step} (g : Goal) → p.ctx ≡ g.ctx → p.statement ≡ g.statement → FitsAt v p s → Fits v.proof.now g s
lent_fits g c s h = h.fits g (sym c) (sym s)

-- The goal says the same over a record that grew.
pub sequent_stays : (a b : Tables) (g : Goal) → Keeps a b → IsGoal a g → sequent_of b g ≡ sequent_of a g
sequent_stays a b g k h =
    let e = entries_stay a b g.ctx k h.ctx in
    let t = tree_stays a b g.statement k h.statement in
    rw (e, t) refl

-- The record comes back.
pub as_it_was : (p : OpenProof) → p.is_lent ≡ false → p ≡ with_scratch p p.scratch
as_it_was p h = ap (λ b. record { name = p.name; scratch = p.scratch; is_lent = b; root = p.root; steps = p.steps; goals = p.goals }) h

pub back_again : (p m q : OpenProof) (z : Tables) → m ≡ lent p → q ≡ with_scratch m z → q ≡ with_scratch p z
back_again p m q z e f = f ∙ ap (λ m. with_scratch m z) e

pub first_fits : (p q : OpenProof) (g : Goal) (s : Step) (z : Tables) → q ≡ with_scratch p z → first_goal p ≡ Some g → Fits z g s → FitsFirst q.scratch q.goals s
first_fits p q g s z e f h = subst (λ q. FitsFirst q.scratch q.goals s) (sym e) (record { goal = g; first = f; fits = h })

-- The term of a step with holes is that of the refinement that it is.
hole_at : (n k : ℕ) → at (holes n) k ≡ sort 0
hole_at zero k = refl
hole_at (suc n) zero = refl
hole_at (suc n) (suc k) = hole_at n k

spine_holes : (r : Tables) (n : ℕ) (t : Named) (ls : List Link) → spine r t ls (holes n) ≡ applied_to t (map (λ l. argument_of r l.argument) ls)
spine_holes r n t [] = refl
spine_holes r n t (l ∷ ls) = spine_holes r n (app t (argument_term r l.argument (at (holes n) (links_arity ls)))) ls ∙ link_holes r n t l ls
  where
    link_holes : (r : Tables) (n : ℕ) (t : Named) (l : Link) (ls : List Link) → applied_to (app t (argument_term r l.argument (at (holes n) (links_arity ls)))) (map (λ l. argument_of r l.argument) ls) ≡ applied_to t (argument_of r l.argument ∷ map (λ l. argument_of r l.argument) ls)
    link_holes r n t l ls = go l.argument
      where
        go : (a : _) → applied_to (app t (argument_term r a (at (holes n) (links_arity ls)))) (map (λ l. argument_of r l.argument) ls) ≡ applied_to t (argument_of r a ∷ map (λ l. argument_of r l.argument) ls)
        go (Given j) = refl
        go (Left s) = ap (λ x. applied_to (app t x) (map (λ l. argument_of r l.argument) ls)) (hole_at n (links_arity ls))

pub skeleton_is : (r : Tables) (s : Step) → skeleton r s ≡ with_holes (refinement_of r s)
skeleton_is r (Intro x p d i s o) = refl
skeleton_is r (Exact j) = refl
skeleton_is r (Cut x l p i s) = refl
skeleton_is r (Apply f ls) = spine_holes r (links_arity ls) (named_at r.shapes f.subject) ls
skeleton_is r (Change t s o) = refl

makes_same : (p : OpenProof) (s : Step) (t : Named) → MakesWith p (refinement_of p.scratch s) t → MakesWithHoles p.scratch p.steps p.goals s t
makes_same p s t h = subst (λ u. Makes p.scratch p.steps (length p.steps) (holes (pred (length p.goals)) ++ u ∷ []) t) (sym (skeleton_is p.scratch s)) h

-- What the filling of a goal answers.
pub put_in : (p q : OpenProof) (s : Step) → IsFilled p s q → ((t : Named) → MakesWithHoles p.scratch p.steps p.goals s t → within t ≡ true) → IsPut p s (Ok tt) q
put_in p q s f w = (stays_small (λ t h. w t (makes_same p s t h)), f)

pub not_put : (p q : OpenProof) (s : Step) → q ≡ p → ((t : Named) → MakesWithHoles p.scratch p.steps p.goals s t → within t ≡ false) → IsPut p s (Err fault.Deep) q
not_put p q s e w = (grows_large (λ t h. w t (makes_same p s t h)), e)

-- What a command makes of an open proof without a goal.
module _ (p : OpenProof) (R : Sequent → Command → ℕ → Type 0) (h : p.is_lent ≡ false) where
  no_goal_refuses : (e : ProveFault) (b : ℕ) → HasNoGoal p e → Refuses (names_of (first_goal p)) (refines (with_scratch p p.scratch) R) e b b
  no_goal_refuses fault.NoGoal b n =
      let f : on_first (with_scratch p p.scratch) R None ≡ refines (with_scratch p p.scratch) R = ap (λ o. on_first (with_scratch p p.scratch) R (option_map (sequent_of p.scratch) o)) (sym n) in
      subst (λ c. WithinBudget c b (stops (by_flaw no_goal)) b) f (free_comes (stops (by_flaw no_goal)) b)
  no_goal_refuses fault.Memory b n = tt
  no_goal_refuses (fault.Taken x k) b n = absurd n
  no_goal_refuses (fault.NotProduct t) b n = absurd n
  no_goal_refuses (fault.NoMatch k) b n = absurd n
  no_goal_refuses (fault.Undetermined k) b n = absurd n
  no_goal_refuses (fault.NotThere c) b n = absurd n
  no_goal_refuses (fault.NoBody c) b n = absurd n
  no_goal_refuses (fault.Flaw x f) b n = absurd n
  no_goal_refuses fault.Spent b n = absurd n
  no_goal_refuses fault.Deep b n = absurd n

  pub proves_nothing : (e : ProveFault) (r : Result (Unit {0}) ProveFault) (b : ℕ) → IsErr r × IsErrAnd r (λ x. x ≡ e) → HasNoGoal p e → Proves p R r p b b
  proves_nothing e (Ok u) b i n = absurd (cc i.0)
  proves_nothing e (Err f) b i n = subst (λ x. Proves p R (Err x) p b b) (sym i.1) (no_goal_refuses e b n, as_it_was p h)

-- What it makes of one with the first goal g, over a record m with which it comes back.
module _ (p m : OpenProof) (R : Sequent → Command → ℕ → Type 0) (g : Goal) (f : first_goal p ≡ Some g) (i : IsGoal p.scratch g) (k : Keeps p.scratch m.scratch) (e : m ≡ with_scratch p m.scratch) where
  refines_is : After (R (sequent_of p.scratch g)) (Puts (with_scratch p m.scratch)) ≡ refines (with_scratch p m.scratch) R
  refines_is =
      ap (λ q. After (R q) (Puts (with_scratch p m.scratch))) (sym (sequent_stays p.scratch m.scratch g k i))
      ∙ ap (λ o. on_first (with_scratch p m.scratch) R (option_map (sequent_of m.scratch) o)) (sym f)

  refused_first : (x : ProveFault) (b j : ℕ) → Refuses g.names (R (sequent_of p.scratch g)) x b j → Proves p R (Err x) m b j
  refused_first x b j w =
      let u = refuses_first g.names (R (sequent_of p.scratch g)) (Puts (with_scratch p m.scratch)) x b j w in
      let v = subst (λ c. Refuses g.names c x b j) refines_is u in
      (subst (λ o. Refuses (names_of o) (refines (with_scratch p m.scratch) R) x b j) (sym f) v, e)

  pub proves_refused : (x : ProveFault) (r : Result (Unit {0}) ProveFault) (b j : ℕ) → IsErr r × IsErrAnd r (λ y. y ≡ x) → Refuses g.names (R (sequent_of p.scratch g)) x b j → Proves p R r m b j
  proves_refused x (Ok u) b j l w = absurd (cc l.0)
  proves_refused x (Err y) b j l w = subst (λ z. Proves p R (Err z) m b j) (sym l.1) (refused_first x b j w)

  -- the command came to the step s
  module _ (s : Step) (b j : ℕ) (w : WithinBudget (R (sequent_of p.scratch g)) b (comes (refinement_of m.scratch s)) j) where
    puts_after : (o : Command) → Puts m (refinement_of m.scratch s) o 0 → WithinBudget (refines (with_scratch p m.scratch) R) b o j
    puts_after o h =
        let u : WithinBudget (Puts (with_scratch p m.scratch) (refinement_of m.scratch s)) j o j = (0, subst (λ q. Puts q (refinement_of m.scratch s) o 0) e h, omega arith) in
        subst (λ c. WithinBudget c b o j) refines_is (after_goes (R (sequent_of p.scratch g)) (Puts (with_scratch p m.scratch)) b j j (refinement_of m.scratch s) o w u)

    filled_over : (q : OpenProof) → IsFilled m s q → q.scratch ≡ m.scratch
    filled_over q h = h.same.1

    proves_filled : (q : OpenProof) → Puts m (refinement_of m.scratch s) (comes (refinement_of m.scratch s)) 0 → IsFilled m s q → Proves p R (Ok tt) q b j
    proves_filled q h l =
        let x : q.scratch ≡ m.scratch = l.same.1 in
        let y = subst (λ z. IsFilled (with_scratch p z) s q) (sym x) (subst (λ o. IsFilled o s q) e l) in
        (refinement_of m.scratch s, subst (λ z. WithinBudget (refines (with_scratch p z) R) b (comes (refinement_of m.scratch s)) j) (sym x) (puts_after _ h), record { step = s; filled = y; refinement = ap (λ z. refinement_of z s) x })

    pub proves_put : (q : OpenProof) (r : Result (Unit {0}) ProveFault) → IsPut m s r q → Proves p R r q b j
    proves_put q (Ok u) h = proves_filled q h.0 h.1
    proves_put q (Err fault.Deep) h = subst (λ q. Proves p R (Err fault.Deep) q b j) (sym h.1) (subst (λ o. Refuses (names_of o) (refines (with_scratch p m.scratch) R) fault.Deep b j) (sym f) (puts_after _ h.0), e)
    proves_put q (Err fault.Memory) h = subst (λ q. Proves p R (Err fault.Memory) q b j) (sym h) (tt, e)
    proves_put q (Err fault.NoGoal) h = absurd h
    proves_put q (Err (fault.Taken x n)) h = absurd h
    proves_put q (Err (fault.NotProduct t)) h = absurd h
    proves_put q (Err (fault.NoMatch n)) h = absurd h
    proves_put q (Err (fault.Undetermined n)) h = absurd h
    proves_put q (Err (fault.NotThere c)) h = absurd h
    proves_put q (Err (fault.NoBody c)) h = absurd h
    proves_put q (Err (fault.Flaw x y)) h = absurd h
    proves_put q (Err fault.Spent) h = absurd h

pub ruleset lending = (goal_asked, lent_answers, lent_fits, put_in, not_put)
