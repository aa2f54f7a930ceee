-- From what closes the goals that are open after a step to what closes those before it.
use Rattle.std.proofs.Common.{◌≡◌, ℕ, zero, suc, ◌<◌, ◌≤◌, ◌+◌, ◌-◌, List, [], ◌∷◌, ◌++◌, length, refl, sym, ap, ◌∙◌, subst, Option, Some, None, true, arith, inl, inr, ◌⊎◌}
use Rattle.std.specs.Prelude.{slice_get, map, take, drop}
use mathlib.Core.Path.{ap₂}
use Rattle.pts_names.specs.Name.{Name}
use Rattle.pts_terms.specs.Tree.{Named, Bare, app, named_lam}
use Rattle.pts_terms.specs.Limits.{within, depth_of, size_of}
use Rattle.pts_record.specs.Table.{Tables, named_at, bare_at, at}
use Rattle.pts_record.specs.Said.{named_told, scope_of}
use Rattle.pts_grow.specs.Keeps.{Keeps}
use Rattle.pts_grow.proofs.Grow.{tree_stays}
use Rattle.pts_grow.specs.declared.judged.Judged.{Judged}
use Rattle.pts_goals.specs.declared.step.Goal.{Goal}
use Rattle.pts_goals.specs.declared.step.FilledGoal.{FilledGoal}
use Rattle.pts_goals.specs.declared.step.Step.{Step}
use Rattle.pts_goals.specs.declared.step.Step.TheVariants.{Intro, Exact, Cut, Apply, Change}
use Rattle.pts_goals.specs.declared.step.Link.{Link}
use Rattle.pts_goals.specs.declared.step.Argument.{Argument}
use Rattle.pts_goals.specs.declared.step.Argument.TheVariants.{Given, Left}
use Rattle.pts_goals.specs.Steps.{IsGoal, Closes, Fits, subgoals, arity, step_term, goal_of, IsArgument, LinksFit, argument_goals, link_goals, argument_arity, links_arity, argument_term, spine}
use Rattle.pts_goals.specs.OpenGoals.{OpenAfter, Makes, AllClose, subjects_of, ClosedAfter}
use Rattle.pts_goals.proofs.Within.{within_part}
use Rattle.pts_grow.proofs.Longer.{assume_typed}
use Rattle.pts_grow.specs.Judges.{IsTypedContext, IsAssumeOf, IsProduct}
use Rattle.pts_goals.proofs.Parts.{all_length}
use Rattle.pts_goals.proofs.Kept.{still_goal, still_closes, still_fits}

-- Lists in two parts.
module _ {A : Type 0} where
  pub take_front : (xs ys : List A) → take (length xs) (xs ++ ys) ≡ xs
  take_front [] ys = refl
  take_front (x ∷ xs) ys = ap (λ l. x ∷ l) (take_front xs ys)

  pub drop_front : (xs ys : List A) → drop (length xs) (xs ++ ys) ≡ ys
  drop_front [] ys = refl
  drop_front (x ∷ xs) ys = drop_front xs ys

  pub long : (xs ys : List A) → length (xs ++ ys) ≡ length xs + length ys
  long [] ys = omega arith
  long (x ∷ xs) ys = let e = long xs ys in omega (arith, e)

  -- the two parts, where the second ones are as long
  pub fronts : (xs ys us vs : List A) → xs ++ ys ≡ us ++ vs → length ys ≡ length vs → (xs ≡ us) × (ys ≡ vs)
  fronts xs ys us vs e n =
      let a = long xs ys in
      let b = long us vs in
      let c : length (xs ++ ys) ≡ length (us ++ vs) = ap length e in
      let k : length xs ≡ length us = omega (arith, a, b, c, n) in
      (sym (take_front xs ys) ∙ ap₂ take k e ∙ take_front us vs, sym (drop_front xs ys) ∙ ap₂ drop k e ∙ drop_front us vs)

module _ {A B : Type 0} (f : A → B) where
  pub map_long : (xs : List A) → length (map f xs) ≡ length xs
  map_long [] = refl
  map_long (x ∷ xs) = ap suc (map_long xs)

  pub map_take : (k : ℕ) (xs : List A) → map f (take k xs) ≡ take k (map f xs)
  map_take zero xs = refl
  map_take (suc k) [] = refl
  map_take (suc k) (x ∷ xs) = ap (λ l. f x ∷ l) (map_take k xs)

  pub map_drop : (k : ℕ) (xs : List A) → map f (drop k xs) ≡ drop k (map f xs)
  map_drop zero xs = refl
  map_drop (suc k) [] = refl
  map_drop (suc k) (x ∷ xs) = map_drop k xs

  pub map_snoc : (xs : List A) (x : A) → map f (xs ++ x ∷ []) ≡ map f xs ++ f x ∷ []
  map_snoc [] x = refl
  map_snoc (y ∷ xs) x = ap (λ l. f y ∷ l) (map_snoc xs x)

-- The goals that a step opens are goals.
abbrev pub AllGoals : Tables → List Goal → Type 0
AllGoals r [] = Unit {0}
AllGoals r (g ∷ gs) = IsGoal r g × AllGoals r gs

pub goals_before : (r : Tables) (gs hs : List Goal) → AllGoals r (gs ++ hs) → AllGoals r gs
goals_before r [] hs a = tt
goals_before r (g ∷ gs) hs a = (a.0, goals_before r gs hs a.1)

pub goals_behind : (r : Tables) (gs hs : List Goal) → AllGoals r gs → AllGoals r hs → AllGoals r (gs ++ hs)
goals_behind r [] hs a b = b
goals_behind r (g ∷ gs) hs a b = (a.0, goals_behind r gs hs a.1 b)

-- as many names as entries, and one more
inner_names : (r : Tables) (xs : List Name) (x : Name) (c : ℕ) (d : Judged) (i : ℕ) → length xs ≡ length (scope_of (named_told r c)).entries → IsAssumeOf r c d i → length (xs ++ x ∷ []) ≡ length (scope_of (named_told r i)).entries
inner_names r xs x c d i h q =
    let a = long xs (x ∷ []) in
    let e : length (scope_of (named_told r i)).entries ≡ suc (length (scope_of (named_told r c)).entries) = ap (λ m. length (scope_of m).entries) q.1 in
    omega (arith, a, e, h)

inner_goal : (r : Tables) (xs : List Name) (x : Name) (c : ℕ) (p d : Judged) (i : ℕ) (s : Judged) (n : ℕ) → IsTypedContext r c → length xs ≡ length (scope_of (named_told r c)).entries → IsProduct r c p d i s → IsGoal r (goal_of (xs ++ x ∷ []) i s n)
inner_goal r xs x c p d i s n t h q = record {
  ctx = q.inner.0;
  typed = assume_typed r c d i t q.inner;
  names = inner_names r xs x c d i h q.inner;
  statement = q.body.0.0;
  sorted = q.body;
  same = refl;
}

asked_goals : (r : Tables) (g : Goal) (m : ℕ) (x : Argument) (A B C : Bare) → IsGoal r g → IsArgument r g.ctx x A B C → AllGoals r (argument_goals g m x)
asked_goals r g m (Given j) A B C n q = tt
asked_goals r g m (Left s) A B C n q = (record { ctx = n.ctx; typed = n.typed; names = n.names; statement = q.0.0.0; sorted = q.0; same = refl }, tt)

pub links_goals : (r : Tables) (g : Goal) (t : ℕ) (ls : List Link) → IsGoal r g → LinksFit r g t ls → AllGoals r (link_goals g ls)
links_goals r g t [] n q = tt
links_goals r g t (l ∷ ls) n q = goals_behind r (link_goals g ls) (argument_goals g (length ls) l.argument) (links_goals r g l.after ls n q.1) (asked_goals r g (length ls) l.argument (bare_at r.shapes l.domain) (bare_at r.shapes l.codomain) (bare_at r.shapes l.after) n q.0.argument)

opened_goals : (r : Tables) (g : Goal) (s : Step) → IsGoal r g → Fits r g s → AllGoals r (subgoals g s)
opened_goals r g (Intro x p d i s o) n q = (inner_goal r g.names x g.ctx p d i s (g.place + 1) n.typed n.names q.0, tt)
opened_goals r g (Exact j) n q = tt
opened_goals r g (Cut x l p i s) n q =
    let m : IsGoal r (goal_of g.names g.ctx l (g.place + 1)) = record { ctx = n.ctx; typed = n.typed; names = n.names; statement = q.0.domain.0.0; sorted = q.0.domain; same = refl } in
    (inner_goal r g.names x g.ctx p l i s (g.place + 2) n.typed n.names q.0, (m, tt))
opened_goals r g (Apply f ls) n q = links_goals r g f.claim ls n q.2
opened_goals r g (Change t s o) n (h, q, e, j) = (record { ctx = n.ctx; typed = n.typed; names = n.names; statement = h; sorted = q; same = e }, tt)

pub reached_goals : (r : Tables) (root : Goal) (ss : List FilledGoal) (i : ℕ) (gs : List Goal) → IsGoal r root → OpenAfter r root ss i gs → AllGoals r gs
reached_goals r root ss zero gs n e = subst (AllGoals r) (sym e) (n, tt)
reached_goals r root ss (suc i) gs n (f, rest, u, h, p) =
    let a = goals_before r rest (f.goal ∷ []) (reached_goals r root ss i (rest ++ f.goal ∷ []) n p) in
    subst (AllGoals r) (sym h) (goals_behind r rest (subgoals f.goal f.step) a (opened_goals r f.goal f.step u.is_goal u.fits))

-- What closes goals, in two parts, and while the record grows.
pub close_before : (p : Tables) (gs hs : List Goal) (js : List Judged) → AllClose p (gs ++ hs) js → AllClose p gs (take (length gs) js)
close_before p [] hs js c = tt
close_before p (g ∷ gs) hs [] c = absurd c
close_before p (g ∷ gs) hs (j ∷ js) c = (c.0, close_before p gs hs js c.1)

pub close_behind : (p : Tables) (gs hs : List Goal) (js : List Judged) → AllClose p (gs ++ hs) js → AllClose p hs (drop (length gs) js)
close_behind p [] hs js c = c
close_behind p (g ∷ gs) hs [] c = absurd c
close_behind p (g ∷ gs) hs (j ∷ js) c = close_behind p gs hs js c.1

pub close_more : (p : Tables) (gs : List Goal) (js : List Judged) (g : Goal) (j : Judged) → AllClose p gs js → Closes p g j → AllClose p (gs ++ g ∷ []) (js ++ j ∷ [])
close_more p [] [] g j c d = (d, tt)
close_more p (h ∷ gs) (i ∷ js) g j c d = (c.0, close_more p gs js g j c.1 d)
close_more p [] (i ∷ js) g j c d = absurd c
close_more p (h ∷ gs) [] g j c d = absurd c

pub still_close : (a b : Tables) → Keeps a b → (gs : List Goal) (js : List Judged) → AllGoals a gs → AllClose a gs js → AllClose b gs js
still_close a b k [] [] n c = tt
still_close a b k (g ∷ gs) (j ∷ js) n c = (still_closes a b k g j n.0 c.0, still_close a b k gs js n.1 c.1)
still_close a b k [] (j ∷ js) n c = absurd c
still_close a b k (g ∷ gs) [] n c = absurd c

-- Their terms stay.
pub still_terms : (a b : Tables) → Keeps a b → (gs : List Goal) (js : List Judged) → AllClose a gs js → subjects_of b js ≡ subjects_of a js
still_terms a b k [] [] c = refl
still_terms a b k (g ∷ gs) (j ∷ js) c = ap₂ (λ t ts. t ∷ ts) (tree_stays a b j.subject k c.0.judges.0) (still_terms a b k gs js c.1)
still_terms a b k [] (j ∷ js) c = absurd c
still_terms a b k (g ∷ gs) [] c = absurd c

still_goals : (a b : Tables) → Keeps a b → (gs : List Goal) → AllGoals a gs → AllGoals b gs
still_goals a b k [] n = tt
still_goals a b k (g ∷ gs) n = (still_goal a b k g n.0, still_goals a b k gs n.1)

still_argument : (a b : Tables) → Keeps a b → (c : ℕ) (x : Argument) (A B C : Bare) (u : Named) → IsArgument a c x A B C → argument_term b x u ≡ argument_term a x u
still_argument a b k c (Given j) A B C u q = tree_stays a b j.subject k q.0.0
still_argument a b k c (Left s) A B C u q = refl

pub still_chain : (a b : Tables) → Keeps a b → (g : Goal) (t : ℕ) (x y : Named) (ls : List Link) (ts : List Named) → x ≡ y → LinksFit a g t ls → spine b x ls ts ≡ spine a y ls ts
still_chain a b k g t x y [] ts e q = e
still_chain a b k g t x y (l ∷ ls) ts e q =
    let u = at ts (links_arity ls) in
    let h = still_argument a b k g.ctx l.argument (bare_at a.shapes l.domain) (bare_at a.shapes l.codomain) (bare_at a.shapes l.after) u q.0.argument in
    still_chain a b k g l.after (app x (argument_term b l.argument u)) (app y (argument_term a l.argument u)) ls ts (ap₂ app e h) q.1

-- The term of a step that fits stays.
pub still_step : (a b : Tables) → Keeps a b → (g : Goal) (s : Step) (ts : List Named) → Fits a g s → step_term b s ts ≡ step_term a s ts
still_step a b k g (Intro x p d i s o) ts q = ap (λ A. named_lam x A (at ts 0)) (tree_stays a b d.subject k q.0.domain.0.0)
still_step a b k g (Exact j) ts q = tree_stays a b j.subject k q.judges.0
still_step a b k g (Cut x l p i s) ts q = ap (λ A. app (named_lam x A (at ts 0)) (at ts 1)) (tree_stays a b l.subject k q.0.domain.0.0)
still_step a b k g (Apply f ls) ts q = still_chain a b k g f.claim (named_at b.shapes f.subject) (named_at a.shapes f.subject) ls ts (tree_stays a b f.subject k q.0.0) q.2
still_step a b k g (Change t s o) ts q = refl

asked_many : (g : Goal) (n : ℕ) (x : Argument) → length (argument_goals g n x) ≡ argument_arity x
asked_many g n (Given j) = refl
asked_many g n (Left s) = refl

pub links_many : (g : Goal) (ls : List Link) → length (link_goals g ls) ≡ links_arity ls
links_many g [] = refl
links_many g (l ∷ ls) =
    let a = long (link_goals g ls) (argument_goals g (length ls) l.argument) in
    let b = links_many g ls in
    let c = asked_many g (length ls) l.argument in
    omega (arith, a, b, c)

pub opened_many : (g : Goal) (s : Step) → length (subgoals g s) ≡ arity s
opened_many g (Intro x p d i s o) = refl
opened_many g (Exact j) = refl
opened_many g (Cut x l p i s) = refl
opened_many g (Apply f ls) = links_many g ls
opened_many g (Change t s o) = refl

-- Terms within limits.
abbrev pub AllWithin : List Named → Type 0
AllWithin [] = Unit {0}
AllWithin (t ∷ ts) = (within t ≡ true) × AllWithin ts

within_before : (ts us : List Named) → AllWithin (ts ++ us) → AllWithin ts
within_before [] us w = tt
within_before (t ∷ ts) us w = (w.0, within_before ts us w.1)

within_behind : (ts us : List Named) → AllWithin (ts ++ us) → AllWithin us
within_behind [] us w = w
within_behind (t ∷ ts) us w = within_behind ts us w.1

within_both : (ts us : List Named) → AllWithin ts → AllWithin us → AllWithin (ts ++ us)
within_both [] us w v = v
within_both (t ∷ ts) us w v = (w.0, within_both ts us w.1 v)

pub below_or : (k n : ℕ) → k < suc n → (k < n) ⊎ (k ≡ n)
below_or zero zero h = inr refl
below_or zero (suc n) h = inl (omega arith)
below_or (suc k) zero h = absurd (omega (arith, h))
below_or (suc k) (suc n) h = elim (below_or k n (omega (arith, h))) [ inl a ↦ inl (omega (arith, a)) | inr b ↦ inr (ap suc b) ]

pub chain_head : (r : Tables) (t : Named) (ls : List Link) (ts : List Named) → within (spine r t ls ts) ≡ true → within t ≡ true
chain_head r t [] ts w = w
chain_head r t (l ∷ ls) ts w =
    let u = argument_term r l.argument (at ts (links_arity ls)) in
    within_part t (app t u) (omega arith) (omega arith) (chain_head r (app t u) ls ts w)

chain_parts : (r : Tables) (t : Named) (ls : List Link) (ts : List Named) → within (spine r t ls ts) ≡ true → (k : ℕ) → k < links_arity ls → within (at ts k) ≡ true
chain_parts r t [] ts w k h = absurd (omega (arith, h))
chain_parts r t (l ∷ ls) ts w k h =
    let u = argument_term r l.argument (at ts (links_arity ls)) in
    go l.argument h (chain_head r (app t u) ls ts w) (λ g. chain_parts r (app t u) ls ts w k g) where
      go : (x : Argument) → k < links_arity ls + argument_arity x → within (app t (argument_term r x (at ts (links_arity ls)))) ≡ true → (k < links_arity ls → within (at ts k) ≡ true) → within (at ts k) ≡ true
      go (Given j) h v f = f (omega (arith, h))
      go (Left s) h v f =
          let i : k < suc (links_arity ls) = omega (arith, h) in
          let u = at ts (links_arity ls) in
          elim (below_or k (links_arity ls) i) [ inl a ↦ f a | inr b ↦ subst (λ n. within (at ts n) ≡ true) (sym b) (within_part u (app t u) (omega arith) (omega arith) v) ]

all_at : (ts : List Named) → ((k : ℕ) → k < length ts → within (at ts k) ≡ true) → AllWithin ts
all_at [] f = tt
all_at (t ∷ ts) f = (f 0 (omega arith), all_at ts (λ k h. f (suc k) (omega (arith, h))))

parts_within : (r : Tables) (s : Step) (ts : List Named) → length ts ≡ arity s → within (step_term r s ts) ≡ true → AllWithin ts
parts_within r (Intro x p d i s o) (t ∷ []) n w = (within_part t (named_lam x (named_at r.shapes d.subject) t) (omega arith) (omega arith) w, tt)
parts_within r (Exact j) [] n w = tt
parts_within r (Cut x l p i s) (t ∷ u ∷ []) n w =
    let f = named_lam x (named_at r.shapes l.subject) t in
    (within_part t (app f u) (omega arith) (omega arith) w, (within_part u (app f u) (omega arith) (omega arith) w, tt))
parts_within r (Apply f ls) ts n w = all_at ts (λ k h. chain_parts r (named_at r.shapes f.subject) ls ts w k (omega (arith, h, n)))
parts_within r (Change a s o) (t ∷ []) n w = (w, tt)
parts_within r (Intro x p d i s o) [] n w = absurd (cc n)
parts_within r (Intro x p d i s o) (t ∷ u ∷ ts) n w = absurd (omega (arith, n))
parts_within r (Exact j) (t ∷ ts) n w = absurd (cc n)
parts_within r (Cut x l p i s) [] n w = absurd (cc n)
parts_within r (Cut x l p i s) (t ∷ []) n w = absurd (omega (arith, n))
parts_within r (Cut x l p i s) (t ∷ u ∷ v ∷ ts) n w = absurd (omega (arith, n))
parts_within r (Change a s o) [] n w = absurd (cc n)
parts_within r (Change a s o) (t ∷ u ∷ ts) n w = absurd (omega (arith, n))

pub makes_within : (r : Tables) (ss : List FilledGoal) (i : ℕ) (ts : List Named) (t : Named) → Makes r ss i ts t → within t ≡ true → AllWithin ts
makes_within r ss zero ts t e w = subst AllWithin (sym e) (w, tt)
makes_within r ss (suc i) ts t (f, rest, parts, g, e, n, o) w =
    let a = makes_within r ss i (rest ++ step_term r f.step parts ∷ []) t o w in
    let b = within_behind rest (step_term r f.step parts ∷ []) a in
    subst AllWithin (sym e) (within_both rest parts (within_before rest (step_term r f.step parts ∷ []) a) (parts_within r f.step parts n b.0))

-- What is known of the last step, and what becomes of it.
module _ (r : Tables) (root : Goal) (n : IsGoal r root) (ss : List FilledGoal) (i : ℕ) (p : Tables) (js : List Judged) (us : List Named) (f : FilledGoal) (k : Keeps r p) (at_i : slice_get ss i ≡ Some f) (d : ClosedAfter r root ss (suc i) p js us) where
  abbrev pub place : ℕ
  place = length js - arity f.step

  -- the goals before it
  record Before : Type 0 where
    rest : List Goal
    goals : d.goals ≡ rest ++ subgoals f.goal f.step
    is_goal : IsGoal r f.goal
    fits : Fits r f.goal f.step
    reached : OpenAfter r root ss i (rest ++ f.goal ∷ [])
    count : length js ≡ length rest + arity f.step

  before : Before
  before =
      let (g, rest, u, h, o) = d.reached in
      let w : Some g ≡ Some f = sym u.found ∙ at_i in
      let v : g ≡ f = cc w in
      let n = all_length p d.goals js d.closes ∙ ap length h ∙ long rest (subgoals g.goal g.step) in
      let l = opened_many g.goal g.step in
      let c : length js ≡ length rest + arity g.step = omega (arith, n, l) in
      record {
        rest = rest;
        goals = h ∙ ap (λ g. rest ++ subgoals g.goal g.step) v;
        is_goal = subst (λ g. IsGoal r g.goal) v u.is_goal;
        fits = subst (λ g. Fits r g.goal g.step) v u.fits;
        reached = subst (λ g. OpenAfter r root ss i (rest ++ g.goal ∷ [])) v o;
        count = c ∙ ap (λ g. length rest + arity g.step) v;
      }

  here : length before.rest ≡ place
  here = let c = before.count in omega (arith, c)

  pub enough : arity f.step ≤ length js
  enough = let c = before.count in omega (arith, c)

  pub a_goal : IsGoal p f.goal
  a_goal = still_goal r p k f.goal before.is_goal

  pub a_fit : Fits p f.goal f.step
  a_fit = still_fits r p k f.goal f.step before.is_goal before.fits

  closes : AllClose p (before.rest ++ subgoals f.goal f.step) js
  closes = subst (λ gs. AllClose p gs js) before.goals d.closes

  pub parts_close : AllClose p (subgoals f.goal f.step) (drop place js)
  parts_close = subst (λ n. AllClose p (subgoals f.goal f.step) (drop n js)) here (close_behind p before.rest (subgoals f.goal f.step) js closes)

  -- the terms of the parts, and of the goals before
  abbrev ts : List Named
  ts = subjects_of p js

  made : Makes r ss i (take place ts ++ step_term r f.step (drop place ts) ∷ []) d.term
  made =
      let (g, front, parts, e, h, m, o) = d.makes in
      let w : Some g ≡ Some f = sym e ∙ at_i in
      let v : g ≡ f = cc w in
      let a = long front parts in
      let b = map_long (λ j. named_at p.shapes j.subject) js in
      let l : length ts ≡ length front + length parts = ap length h ∙ a in
      let x : arity g.step ≡ arity f.step = ap (λ g. arity g.step) v in
      let c : length front ≡ place = omega (arith, l, b, m, x) in
      let y : front ≡ take place ts = sym (take_front front parts) ∙ ap (take (length front)) (sym h) ∙ ap (λ n. take n ts) c in
      let z : parts ≡ drop place ts = sym (drop_front front parts) ∙ ap (drop (length front)) (sym h) ∙ ap (λ n. drop n ts) c in
      let u : front ++ step_term r g.step parts ∷ [] ≡ take place ts ++ step_term r f.step (drop place ts) ∷ [] = cc in
      subst (λ us. Makes r ss i us d.term) u o

  -- the term of the step
  abbrev here_term : Named
  here_term = step_term p f.step (subjects_of p (drop place js))

  same_term_here : step_term r f.step (drop place ts) ≡ here_term
  same_term_here = sym (still_step r p k f.goal f.step (drop place ts) before.fits) ∙ ap (step_term p f.step) (sym (map_drop (λ j. named_at p.shapes j.subject) place js))

  pub part_within : within here_term ≡ true
  part_within =
      let a = makes_within r ss i (take place ts ++ step_term r f.step (drop place ts) ∷ []) d.term made d.within in
      let b = within_behind (take place ts) (step_term r f.step (drop place ts) ∷ []) a in
      subst (λ t. within t ≡ true) same_term_here b.0

  pub went_on : (q : Tables) (j : Judged) → Keeps p q → Closes q f.goal j → named_at q.shapes j.subject ≡ here_term → ClosedAfter r root ss i q (take place js ++ j ∷ []) us
  went_on q j h c e =
      let rest = before.rest in
      let front = take place js in
      let a : AllClose p rest front = subst (λ n. AllClose p rest (take n js)) here (close_before p rest (subgoals f.goal f.step) js closes) in
      let m = still_goals r p k rest (goals_before r rest (f.goal ∷ []) (reached_goals r root ss i (rest ++ f.goal ∷ []) n before.reached)) in
      let u : subjects_of q (front ++ j ∷ []) ≡ subjects_of q front ++ named_at q.shapes j.subject ∷ [] = map_snoc (λ j. named_at q.shapes j.subject) front j in
      let v : subjects_of q front ≡ take place ts = still_terms p q h rest front a ∙ map_take (λ j. named_at p.shapes j.subject) place js in
      let w : named_at q.shapes j.subject ≡ step_term r f.step (drop place ts) = e ∙ sym same_term_here in
      let x : subjects_of q (front ++ j ∷ []) ≡ take place ts ++ step_term r f.step (drop place ts) ∷ [] = u ∙ ap₂ (λ us t. us ++ t ∷ []) v w in
      record {
        goals = rest ++ f.goal ∷ [];
        reached = before.reached;
        closes = close_more q rest front f.goal j (still_close p q h rest front m a) c;
        term = d.term;
        makes = subst (λ us. Makes r ss i us d.term) (sym x) made;
        whole = d.whole;
        within = d.within;
      }

-- Where no step is left, one judgement is, and it closes the first goal.
pub all_done : (r : Tables) (root : Goal) (ss : List FilledGoal) (p : Tables) (js : List Judged) (us : List Named) → ClosedAfter r root ss 0 p js us → (j : Judged) × (js ≡ j ∷ []) × Closes p root j × Makes r ss (length ss) us (named_at p.shapes j.subject)
all_done r root ss p js us d = one js (subst (λ gs. AllClose p gs js) d.reached d.closes) d.makes where
  one : (js : List Judged) → AllClose p (root ∷ []) js → subjects_of p js ≡ d.term ∷ [] → (j : Judged) × (js ≡ j ∷ []) × Closes p root j × Makes r ss (length ss) us (named_at p.shapes j.subject)
  one [] c e = absurd c
  one (j ∷ []) c e =
      let h : d.term ≡ named_at p.shapes j.subject = cc e in
      (j, refl, c.0, subst (Makes r ss (length ss) us) h d.whole)
  one (j ∷ i ∷ js) c e = absurd c.1

pub goals_last : (r : Tables) (gs : List Goal) (g : Goal) → AllGoals r (gs ++ g ∷ []) → IsGoal r g
goals_last r [] g a = a.0
goals_last r (h ∷ gs) g a = goals_last r gs g a.1
