-- The goals of an open proof are those that its refinements leave.
use Rattle.std.proofs.Common.{◌≡◌, ℕ, zero, suc, List, [], ◌∷◌, ◌++◌, length, Some, refl, sym, ap, ◌∙◌}
use Rattle.std.specs.Prelude.{map, reverse, slice_get, take}
use Rattle.std.proofs.lemmas.List.{map-append, reverse-append}
use Rattle.pts_ctx.specs.Front.{assumed}
use Rattle.pts_record.specs.Table.{Tables, named_at}
use Rattle.pts_record.specs.Said.{scope_of}
use Rattle.pts_reduce.specs.Chain.{entries_of}
use Rattle.pts_grow.specs.declared.judged.Judged.{Judged}
use Rattle.pts_grow.specs.Judges.{IsAssumeOf}
use Rattle.pts_goals.specs.declared.step.Goal.{Goal}
use Rattle.pts_goals.specs.declared.step.FilledGoal.{FilledGoal}
use Rattle.pts_goals.specs.declared.step.Link.{Link}
use Rattle.pts_goals.specs.declared.step.Argument.{Argument as StepArgument}
use Rattle.pts_goals.specs.declared.step.Argument.TheVariants.{Given, Left}
use Rattle.pts_goals.specs.declared.step.Step.{Step}
use Rattle.pts_goals.specs.declared.step.Step.TheVariants.{Intro, Exact, Cut, Apply, Change}
use Rattle.pts_goals.specs.Steps.{Fits, subgoals, link_goals, argument_goals}
use Rattle.pts_goals.specs.OpenGoals.{OpenAfter}
use Rattle.pts_goals.specs.OpenProofs.{OpenProof, IsFilled}
use Rattle.pts_prove_cost.specs.Refinement.{Sequent, asked_by, goals_of}
use Rattle.pts_prove.specs.Refining.{sequent_of, refinement_of, argument_of}
use Rattle.pts_theorem.specs.Theorems.{goals_with, goals_after, open_goals, refined}
use Rattle.pts_theorem.specs.Seen.{refinements_of, theorem_of}
use Rattle.pts_theorem.specs.Laws.{IsSure}

-- The refinements of the first steps.
pub refinements_more : (r : Tables) (ss : List FilledGoal) (f : FilledGoal) → refinements_of r (ss ++ f ∷ []) ≡ refinement_of r f.step ∷ refinements_of r ss
refinements_more r ss f =
    ap reverse (map-append (λ f. refinement_of r f.step) ss (f ∷ []))
    ∙ reverse-append (map (λ f. refinement_of r f.step) ss) (refinement_of r f.step ∷ [])

pub one_step_more : {A : Type 0} (ss : List A) (i : ℕ) (f : A) → slice_get ss i ≡ Some f → take (suc i) ss ≡ take i ss ++ f ∷ []
one_step_more [] i f e = absurd (cc e)
one_step_more (s ∷ ss) zero f e = let x : s ≡ f = cc e in ap (λ y. y ∷ []) x
one_step_more (s ∷ ss) (suc i) f e = ap (λ l. s ∷ l) (one_step_more ss i f e)

pub up_to : (r : Tables) (ss : List FilledGoal) (i : ℕ) (f : FilledGoal) → slice_get ss i ≡ Some f → refinements_of r (take (suc i) ss) ≡ refinement_of r f.step ∷ refinements_of r (take i ss)
up_to r ss i f e = ap (refinements_of r) (one_step_more ss i f e) ∙ refinements_more r (take i ss) f

-- What goals in their order say.
abbrev pub say : Tables → List Goal → List Sequent
say r gs = map (sequent_of r) (reverse gs)

pub say_after : (r : Tables) (gs hs : List Goal) → say r (gs ++ hs) ≡ say r hs ++ say r gs
say_after r gs hs = ap (map (sequent_of r)) (reverse-append gs hs) ∙ map-append (sequent_of r) (reverse hs) (reverse gs)

-- The goals of a step.
pub links_say : (r : Tables) (g : Goal) (ls : List Link) → say r (link_goals g ls) ≡ asked_by (sequent_of r g) (map (λ l. argument_of r l.argument) ls)
links_say r g [] = refl
links_say r g (l ∷ ls) = say_after r (link_goals g ls) (argument_goals g (length ls) l.argument) ∙ by l.argument (links_say r g ls)
  where
    by : (a : StepArgument) → say r (link_goals g ls) ≡ asked_by (sequent_of r g) (map (λ l. argument_of r l.argument) ls) → say r (argument_goals g (length ls) a) ++ say r (link_goals g ls) ≡ asked_by (sequent_of r g) (argument_of r a ∷ map (λ l. argument_of r l.argument) ls)
    by (Given j) rest = rest
    by (Left s) rest = ap (λ gs. sequent_of r (record { names = g.names; ctx = g.ctx; statement = s.subject; sorted = s; place = g.place }) ∷ gs) rest

under : (r : Tables) (c : ℕ) (d : Judged) (i : ℕ) → IsAssumeOf r c d i → entries_of r i ≡ assumed (named_at r.shapes d.subject) ∷ entries_of r c
under r c d i h = ap (λ m. (scope_of m).entries) h.1

pub step_says : (r : Tables) (g : Goal) (s : Step) → Fits r g s → say r (subgoals g s) ≡ goals_of (sequent_of r g) (refinement_of r s)
step_says r g (Intro x p d i s o) f = ap (λ e. record { names = g.names ++ x ∷ []; entries = e; statement = named_at r.shapes s.subject } ∷ []) (under r g.ctx d i f.0.inner)
step_says r g (Exact j) f = refl
step_says r g (Apply h ls) f = links_say r g ls
step_says r g (Cut x l p i s) f = ap (λ e. record { names = g.names; entries = entries_of r g.ctx; statement = named_at r.shapes l.subject } ∷ record { names = g.names ++ x ∷ []; entries = e; statement = named_at r.shapes s.subject } ∷ []) (under r g.ctx l i f.0.inner)
step_says r g (Change t s o) f = refl

pub goals_say : (r : Tables) (root : Goal) (ss : List FilledGoal) (i : ℕ) (gs : List Goal) → OpenAfter r root ss i gs → sequent_of r root ≡ (record { names = []; entries = []; statement = named_at r.shapes root.statement }) → say r gs ≡ goals_after (named_at r.shapes root.statement) (refinements_of r (take i ss))
goals_say r root ss zero gs h e = ap (say r) h ∙ ap (λ q. q ∷ []) e
goals_say r root ss (suc i) gs (f, rest, a, e, h) q =
    let g = goals_say r root ss i (rest ++ f.goal ∷ []) h q in
    let old : sequent_of r f.goal ∷ say r rest ≡ goals_after (named_at r.shapes root.statement) (refinements_of r (take i ss)) = sym (say_after r rest (f.goal ∷ [])) ∙ g in
    ap (say r) e
    ∙ say_after r rest (subgoals f.goal f.step)
    ∙ ap (λ hs. hs ++ say r rest) (step_says r f.goal f.step a.fits)
    ∙ ap (goals_with (refinement_of r f.step)) old
    ∙ ap (goals_after (named_at r.shapes root.statement)) (sym (up_to r ss i f a.found))

pub whole_list : {A : Type 0} (xs : List A) → take (length xs) xs ≡ xs
whole_list [] = refl
whole_list (x ∷ xs) = ap (λ l. x ∷ l) (whole_list xs)

no_items : {A : Type 0} (xs : List A) → length xs ≡ 0 → xs ≡ []
no_items [] e = refl
no_items (x ∷ xs) e = absurd (cc e)

pub root_says : (p : OpenProof) → IsSure p → sequent_of p.scratch p.root ≡ (record { names = []; entries = []; statement = named_at p.scratch.shapes p.root.statement })
root_says p s =
    let n : length p.root.names ≡ 0 = s.is_goal.names ∙ ap length s.empty in
    ap (λ xs. record { names = xs; entries = entries_of p.scratch p.root.ctx; statement = named_at p.scratch.shapes p.root.statement }) (no_items p.root.names n)
    ∙ ap (λ es. record { names = []; entries = es; statement = named_at p.scratch.shapes p.root.statement }) s.empty

pub goals_open : (p : OpenProof) → IsSure p → map (sequent_of p.scratch) (reverse p.goals) ≡ open_goals (theorem_of p)
goals_open p s =
    goals_say p.scratch p.root p.steps (length p.steps) p.goals s.reached (root_says p s)
    ∙ ap (λ l. goals_after (named_at p.scratch.shapes p.root.statement) (refinements_of p.scratch l)) (whole_list p.steps)

pub one_more : (p q : OpenProof) (s : Step) → IsFilled p s q → theorem_of q ≡ refined (theorem_of p) (refinement_of p.scratch s)
one_more p q s f =
    let m : refinements_of q.scratch q.steps ≡ refinement_of p.scratch s ∷ refinements_of p.scratch p.steps =
    ap (λ r. refinements_of r q.steps) f.same.1 ∙ ap (refinements_of p.scratch) f.now_steps ∙ refinements_more p.scratch p.steps f.filled ∙ ap (λ t. refinement_of p.scratch t ∷ refinements_of p.scratch p.steps) f.step in
    let a : named_at q.scratch.shapes q.root.statement ≡ named_at p.scratch.shapes p.root.statement = ap (λ r. named_at r.shapes q.root.statement) f.same.1 ∙ ap (λ g. named_at p.scratch.shapes g.statement) f.same.3 in
    ap (λ x. record { name = x; statement = named_at q.scratch.shapes q.root.statement; refinements = refinements_of q.scratch q.steps }) f.same.0
    ∙ ap (λ t. record { name = p.name; statement = t; refinements = refinements_of q.scratch q.steps }) a
    ∙ ap (λ ms. record { name = p.name; statement = named_at p.scratch.shapes p.root.statement; refinements = ms }) m
