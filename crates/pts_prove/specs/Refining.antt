-- How steps of open proofs refine goals, and what a command makes of an open proof.
use Rattle.std.specs.Prelude.{◌≡◌, ◌-◌, ℕ, List, [], ◌∷◌, ◌++◌, length, map, pred, slice_get, Option, Some, None, Result, Ok, Err, true, false}
use Rattle.std.specs.Option.{option_map}
use Rattle.pts_names.specs.Name.{Name}
use Rattle.pts_terms.specs.Tree.{Named}
use Rattle.pts_terms.specs.Limits.{within}
use Rattle.pts_terms.specs.Seen.{named}
use Rattle.pts_ctx.specs.System.{Specification}
use Rattle.pts_record.specs.Table.{Tables, named_at}
use Rattle.pts_reduce_cost.specs.Costs.{Globals}
use Rattle.pts_reduce_cost.specs.Laws.{WithinBudget}
use Rattle.pts_infer_cost.specs.Typing.{by_flaw, by_limits, comes, stops}
use Rattle.pts_reduce.specs.Chain.{entries_of}
use Rattle.pts_goals.specs.declared.step.Argument.{Argument as StepArgument}
use Rattle.pts_goals.specs.declared.step.Argument.TheVariants.{Given, Left}
use Rattle.pts_goals.specs.declared.step.Goal.{Goal}
use Rattle.pts_goals.specs.declared.step.Step.{Step}
use Rattle.pts_goals.specs.declared.step.Step.TheVariants.{Intro, Exact, Cut, Apply, Change}
use Rattle.pts_goals.specs.OpenGoals.{Makes, holes}
use Rattle.pts_goals.specs.OpenProofs.{OpenProof, IsFilled, with_scratch}
use Rattle.pts_prove_cost.specs.Combining.{After, Free}
use Rattle.pts_prove_cost.specs.Refinement.{Sequent, Argument, given, asked, Refinement, by_abstraction, by_term, by_application, by_lemma, by_statement, with_holes}
use Rattle.pts_prove_cost.specs.Commands.{Command, no_goal, intros, exacts, applies, cuts, unfolds, converts}
use Rattle.pts_prove.specs.declared.command.Command.{Command as HandedIn}
use Rattle.pts_prove.specs.declared.command.Command.TheVariants.{Intro as IntroAs, Exact as ExactTerm, Apply as ApplyTerm, Cut as CutWith, Unfold as UnfoldName, Convert as ConvertTo}
use Rattle.pts_prove.specs.declared.fault.ProveFault.{ProveFault}
use Rattle.pts_prove.specs.declared.fault.ProveFault.TheVariants as fault
use Rattle.pts_prove.specs.Answered.{Refuses}

-- The refinement that a step is.
abbrev pub argument_of : Tables → StepArgument → Argument
argument_of r (Given j) = given (named_at r.shapes j.subject)
argument_of r (Left s) = asked (named_at r.shapes s.subject)

abbrev pub refinement_of : Tables → Step → Refinement
refinement_of r (Intro x p d i s o) = by_abstraction x (named_at r.shapes d.subject) (named_at r.shapes s.subject)
refinement_of r (Exact j) = by_term (named_at r.shapes j.subject)
refinement_of r (Apply f ls) = by_application (named_at r.shapes f.subject) (map (λ l. argument_of r l.argument) ls)
refinement_of r (Cut x l p i s) = by_lemma x (named_at r.shapes l.subject) (named_at r.shapes s.subject)
refinement_of r (Change t s o) = by_statement (named_at r.shapes t)

-- What a goal says.
abbrev pub sequent_of : Tables → Goal → Sequent
sequent_of r g = record { names = g.names; entries = entries_of r g.ctx; statement = named_at r.shapes g.statement }

-- The goal that comes first, if one is left.
abbrev pub first_goal : OpenProof → Option Goal
first_goal p = slice_get p.goals (length p.goals - 1)

-- The steps make the term t with the refinement in the place of the goal that comes first, where each open goal is a hole.
abbrev pub MakesWith : OpenProof → Refinement → Named → Type 0
MakesWith p m t = Makes p.scratch p.steps (length p.steps) (holes (pred (length p.goals)) ++ with_holes m ∷ []) t

-- A refinement must leave the whole term within limits.
pub data Puts (p : OpenProof) (m : Refinement) : Command → ℕ → Type 0 where
  stays_small : ((t : Named) → MakesWith p m t → within t ≡ true) → Puts p m (comes m) 0
  grows_large : ((t : Named) → MakesWith p m t → within t ≡ false) → Puts p m (stops by_limits) 0

-- The command R on an open proof: on the goal that comes first, and last of all the test of the whole term.
abbrev pub on_first : OpenProof → (Sequent → Command → ℕ → Type 0) → Option Sequent → Command → ℕ → Type 0
on_first p R None = Free (stops (by_flaw no_goal))
on_first p R (Some g) = After (R g) (Puts p)

abbrev pub refines : OpenProof → (Sequent → Command → ℕ → Type 0) → Command → ℕ → Type 0
refines p R = on_first p R (option_map (sequent_of p.scratch) (first_goal p))

-- The open proof q is p with the refinement in the place of the goal that comes first, perhaps with further lines in the
-- scratch record.
pub record IsRefined (p : OpenProof) (m : Refinement) (q : OpenProof) : Type 0 where
  pub step : Step
  pub filled : IsFilled (with_scratch p q.scratch) step q
  pub refinement : refinement_of q.scratch step ≡ m

-- The command that is handed in.
abbrev pub command_of : Specification → Globals → HandedIn → Sequent → Command → ℕ → Type 0
command_of S G (IntroAs x) g = intros S G g x.now
command_of S G (ExactTerm t) g = exacts S G g (named t.now)
command_of S G (ApplyTerm t) g = applies S G g (named t.now)
command_of S G (CutWith x t) g = cuts S G g x.now (named t.now)
command_of S G (UnfoldName c) g = unfolds S G g c.now
command_of S G (ConvertTo t) g = converts S G g (named t.now)

-- Why the goal that comes first is not found.
abbrev pub HasNoGoal : OpenProof → ProveFault → Type 0
HasNoGoal p fault.NoGoal = first_goal p ≡ None
HasNoGoal p fault.Memory = Unit {0}
HasNoGoal p _ = ⊥

-- The step is put into the open proof, or it makes the whole term too large and nothing is done.
abbrev pub IsPut : OpenProof → Step → Result (Unit {0}) ProveFault → OpenProof → Type 0
IsPut p s (Ok u) q = Puts p (refinement_of p.scratch s) (comes (refinement_of p.scratch s)) 0 × IsFilled p s q
IsPut p s (Err fault.Deep) q = Puts p (refinement_of p.scratch s) (stops by_limits) 0 × (q ≡ p)
IsPut p s (Err fault.Memory) q = q ≡ p
IsPut p s (Err _) q = ⊥

-- The names of the hypotheses of the goal that comes first.
abbrev pub names_of : Option Goal → List Name
names_of None = []
names_of (Some g) = g.names

-- What a command answers on b units, of which k are left, and what it makes of the open proof p: the one with the refinement
-- that it comes to; or its refusal, and then goals and steps are as before. Its work is that on p as it then is.
abbrev pub Proves : OpenProof → (Sequent → Command → ℕ → Type 0) → Result (Unit {0}) ProveFault → OpenProof → ℕ → ℕ → Type 0
Proves p R (Ok u) q b k = (m : Refinement) × WithinBudget (refines (with_scratch p q.scratch) R) b (comes m) k × IsRefined p m q
Proves p R (Err e) q b k = Refuses (names_of (first_goal p)) (refines (with_scratch p q.scratch) R) e b k × (q ≡ with_scratch p q.scratch)
