-- Goals, when a step fits a goal, the goals that a step leaves, and the term that it makes of their terms.
use Rattle.std.specs.Prelude.{◌≡◌, ◌+◌, ◌<◌, ◌≤◌, ℕ, zero, suc, List, [], ◌∷◌, ◌++◌, length, Option, Some, None}
use Rattle.pts_names.specs.Name.{Name}
use Rattle.pts_terms.specs.Tree.{Named, Bare, app, named_lam, pi, lift, subst}
use Rattle.pts_record.specs.Table.{Tables, named_at, bare_at, at}
use Rattle.pts_record.specs.Said.{named_told, scope_of}
use Rattle.pts_grow.specs.declared.compared.Compared.{Compared}
use Rattle.pts_grow.specs.declared.judged.Judged.{Judged}
use Rattle.pts_grow.specs.Keeps.{Compares}
use Rattle.pts_grow.specs.Judges.{IsTypedContext, Judges, JudgesSort, IsProduct}
use Rattle.pts_goals.specs.declared.step.Goal.{Goal}
use Rattle.pts_goals.specs.declared.step.Step.{Step}
use Rattle.pts_goals.specs.declared.step.Step.TheVariants.{Intro, Exact, Cut, Apply, Change}
use Rattle.pts_goals.specs.declared.step.Link.{Link}
use Rattle.pts_goals.specs.declared.step.Reduction.{Reduction}
use Rattle.pts_goals.specs.declared.step.Argument.{Argument}
use Rattle.pts_goals.specs.declared.step.Argument.TheVariants.{Given, Left}

-- A goal has a typed context with a name for each entry, and its statement has a sort there.
pub record IsGoal (r : Tables) (g : Goal) : Type 0 where
  pub ctx : g.ctx < length r.nodes
  pub typed : IsTypedContext r g.ctx
  pub names : length g.names ≡ length (scope_of (named_told r g.ctx)).entries
  pub statement : g.statement < length r.shapes
  pub sorted : JudgesSort r g.ctx g.sorted
  pub same : bare_at r.shapes g.sorted.subject ≡ bare_at r.shapes g.statement

-- A judgement closes a goal: its claim is the statement.
pub record Closes (r : Tables) (g : Goal) (j : Judged) : Type 0 where
  pub judges : Judges r g.ctx j
  pub claim : bare_at r.shapes j.claim ≡ bare_at r.shapes g.statement

-- The terms t and u are compared, or equal where there is no comparison.
abbrev pub Converts : Tables → ℕ → (t u : Bare) → Option Compared → Type 0
Converts r c t u None = t ≡ u
Converts r c t u (Some o) = Compares r c o × (bare_at r.shapes o.left ≡ t) × (bare_at r.shapes o.right ≡ u)

-- The type T is the product P, or is compared with it, and P has a sort.
abbrev pub ReducesTo : Tables → ℕ → (T P : Bare) → Option Reduction → Type 0
ReducesTo r c T P None = T ≡ P
ReducesTo r c T P (Some d) =
    JudgesSort r c d.sorted
    × (bare_at r.shapes d.sorted.subject ≡ P)
    × Compares r c d.compared
    × (bare_at r.shapes d.compared.left ≡ T)
    × (bare_at r.shapes d.compared.right ≡ P)

-- The argument of a product with the domain A and the codomain B, after which the type is C. One that is given is put into
-- the codomain; the variable of one that is left to be proved does not occur there.
abbrev pub IsArgument : Tables → ℕ → Argument → (A B C : Bare) → Type 0
IsArgument r c (Given j) A B C = Judges r c j × (bare_at r.shapes j.claim ≡ A) × (C ≡ subst 0 (bare_at r.shapes j.subject) B)
IsArgument r c (Left s) A B C = JudgesSort r c s × (bare_at r.shapes s.subject ≡ A) × (B ≡ lift 0 1 C)

-- The product that a link applies.
abbrev pub link_product : Tables → Link → Bare
link_product r l = pi (bare_at r.shapes l.domain) (bare_at r.shapes l.codomain)

-- An application of a function of the type T.
pub record IsLink (r : Tables) (c : ℕ) (T : Bare) (l : Link) : Type 0 where
  pub domain : l.domain < length r.shapes
  pub codomain : l.codomain < length r.shapes
  pub after : l.after < length r.shapes
  pub change : ReducesTo r c T (link_product r l) l.change
  pub argument : IsArgument r c l.argument (bare_at r.shapes l.domain) (bare_at r.shapes l.codomain) (bare_at r.shapes l.after)

-- The applications lead from the type with the number t to the goal's statement.
abbrev pub LinksFit : Tables → Goal → ℕ → List Link → Type 0
LinksFit r g t [] = bare_at r.shapes t ≡ bare_at r.shapes g.statement
LinksFit r g t (l ∷ ls) = IsLink r g.ctx (bare_at r.shapes t) l × LinksFit r g l.after ls

-- The step fits the goal.
abbrev pub Fits : Tables → Goal → Step → Type 0
Fits r g (Intro x p d i s o) = IsProduct r g.ctx p d i s × Converts r g.ctx (bare_at r.shapes p.subject) (bare_at r.shapes g.statement) o
Fits r g (Exact j) = Closes r g j
Fits r g (Apply f ls) = Judges r g.ctx f × (length ls ≤ 2000) × LinksFit r g f.claim ls
Fits r g (Cut x l p i s) = IsProduct r g.ctx p l i s × (bare_at r.shapes s.subject ≡ lift 0 1 (bare_at r.shapes g.statement))
Fits r g (Change t s o) =
    (t < length r.shapes)
    × JudgesSort r g.ctx s
    × (bare_at r.shapes s.subject ≡ bare_at r.shapes t)
    × Converts r g.ctx (bare_at r.shapes t) (bare_at r.shapes g.statement) (Some o)

-- A goal for the subject of a judgement.
abbrev pub goal_of : List Name → ℕ → Judged → ℕ → Goal
goal_of xs c s n = record { names = xs; ctx = c; statement = s.subject; sorted = s; place = n }

-- A goal in the context of another, n constructors below it.
abbrev pub goal_beside : Goal → Judged → ℕ → Goal
goal_beside g s n = goal_of g.names g.ctx s (g.place + n)

-- A goal under a binder with the name x in the context with the number i, n constructors below another goal.
abbrev pub goal_under : Goal → Name → ℕ → Judged → ℕ → Goal
goal_under g x i s n = goal_of (g.names ++ x ∷ []) i s (g.place + n)

-- A goal with another statement.
abbrev pub goal_changed : Goal → ℕ → Judged → Goal
goal_changed g t s = record { names = g.names; ctx = g.ctx; statement = t; sorted = s; place = g.place }

-- The goal that an argument is, if it is one; n applications come after it in the term.
abbrev pub argument_goals : Goal → ℕ → Argument → List Goal
argument_goals g n (Given j) = []
argument_goals g n (Left s) = goal_beside g s (n + 1) ∷ []

abbrev pub link_goals : Goal → List Link → List Goal
link_goals g [] = []
link_goals g (l ∷ ls) = link_goals g ls ++ argument_goals g (length ls) l.argument

-- The goals that a step leaves in place of its goal, the one that comes first last.
abbrev pub subgoals : Goal → Step → List Goal
subgoals g (Intro x p d i s o) = goal_under g x i s 1 ∷ []
subgoals g (Exact j) = []
subgoals g (Apply f ls) = link_goals g ls
subgoals g (Cut x l p i s) = goal_under g x i s 2 ∷ goal_beside g l 1 ∷ []
subgoals g (Change t s o) = goal_changed g t s ∷ []

-- How many they are.
abbrev pub argument_arity : Argument → ℕ
argument_arity (Given j) = 0
argument_arity (Left s) = 1

abbrev pub links_arity : List Link → ℕ
links_arity [] = 0
links_arity (l ∷ ls) = links_arity ls + argument_arity l.argument

abbrev pub arity : Step → ℕ
arity (Intro x p d i s o) = 1
arity (Exact j) = 0
arity (Apply f ls) = links_arity ls
arity (Cut x l p i s) = 2
arity (Change t s o) = 1

-- An argument, where the term of its goal is t.
abbrev pub argument_term : Tables → Argument → Named → Named
argument_term r (Given j) t = named_at r.shapes j.subject
argument_term r (Left s) t = t

-- A function applied to its arguments, where these are the terms of their goals, in the order of the goals.
abbrev pub spine : Tables → Named → List Link → List Named → Named
spine r t [] ts = t
spine r t (l ∷ ls) ts = spine r (app t (argument_term r l.argument (at ts (links_arity ls)))) ls ts

-- The term of a step, where these are the terms of the goals that it leaves.
abbrev pub step_term : Tables → Step → List Named → Named
step_term r (Intro x p d i s o) ts = named_lam x (named_at r.shapes d.subject) (at ts 0)
step_term r (Exact j) ts = named_at r.shapes j.subject
step_term r (Apply f ls) ts = spine r (named_at r.shapes f.subject) ls ts
step_term r (Cut x l p i s) ts = app (named_lam x (named_at r.shapes l.subject) (at ts 0)) (at ts 1)
step_term r (Change t s o) ts = at ts 0
