-- open proofs stay sound when a step is put in and taken back, and while the scratch record grows.
use Rattle.std.proofs.Common.{◌≡◌, ℕ, zero, suc, pred, ◌<◌, ◌≤◌, ◌+◌, ◌-◌, List, [], ◌∷◌, ◌++◌, length, refl, sym, ap, ◌∙◌, subst, Option, Some, None, true, false, arith}
use Rattle.std.specs.Prelude.{slice_get, slice_index_or, max, take, drop}
use mathlib.Core.Path.{ap₂}
use Rattle.pts_terms.specs.Tree.{Named}
use Rattle.pts_terms.specs.Limits.{within, depth_of, size_of}
use Rattle.pts_record.specs.Table.{Tables}
use Rattle.pts_record.specs.Said.{named_told, scope_of}
use Rattle.pts_grow.specs.Keeps.{Keeps}
use Rattle.pts_grow.proofs.Grow.{told_stays}
use Rattle.pts_goals.specs.declared.step.Goal.{Goal}
use Rattle.pts_goals.specs.declared.step.FilledGoal.{FilledGoal}
use Rattle.pts_goals.specs.declared.step.Step.{Step}
use Rattle.pts_goals.specs.Steps.{IsGoal, Fits, subgoals, arity, step_term}
use Rattle.pts_goals.specs.OpenGoals.{holes, skeleton, depth_after, size_after, last_step, OpenAfter, Makes, FitsAt, IsOpenProof, MakesWithHoles}
use Rattle.pts_goals.specs.OpenProofs.{FitsFirst}
use Rattle.pts_goals.proofs.Kept.{still_goal, still_fits}
use Rattle.pts_goals.proofs.Backward.{long, opened_many, still_step, take_front, reached_goals, goals_last, AllGoals}
use Rattle.pts_goals.proofs.Turn.{got}
use Rattle.pts_goals.proofs.Size.{place_small, filled_depth, partial_depth, no_depth}

module _ {A : Type 0} where
  pub get_front : (xs ys : List A) (k : ℕ) → k < length xs → slice_get (xs ++ ys) k ≡ slice_get xs k
  get_front [] ys k h = absurd (omega (arith, h))
  get_front (x ∷ xs) ys zero h = refl
  get_front (x ∷ xs) ys (suc k) h = get_front xs ys k (omega (arith, h))

  pub get_last : (xs : List A) (x : A) → slice_get (xs ++ x ∷ []) (length xs) ≡ Some x
  get_last [] x = refl
  get_last (y ∷ xs) x = get_last xs x

  pub last_long : (xs : List A) (x : A) → length (xs ++ x ∷ []) ≡ suc (length xs)
  last_long xs x = let l = long xs (x ∷ []) in omega (arith, l)

  pub last_index : (xs : List A) (x y : A) → y ≡ slice_index_or (xs ++ x ∷ []) (length xs) y → y ≡ x
  last_index [] x y e = e
  last_index (z ∷ xs) x y e = last_index xs x y e

  -- the last of a list in two parts
  pub last_is : (zs xs : List A) (x y : A) (k : ℕ) → zs ≡ xs ++ x ∷ [] → k ≡ length zs - 1 → y ≡ slice_index_or zs k y → y ≡ x
  last_is zs xs x y k e h i =
      let l = last_long xs x in
      let m : length zs ≡ length (xs ++ x ∷ []) = ap length e in
      let n : k ≡ length xs = omega (arith, h, l, m) in
      last_index xs x y (i ∙ ap₂ (λ zs k. slice_index_or zs k y) e n)

  pub before_last : (zs xs : List A) (x : A) → zs ≡ xs ++ x ∷ [] → take (length zs - 1) zs ≡ xs
  before_last zs xs x e =
      let l = last_long xs x in
      let n : length (xs ++ x ∷ []) - 1 ≡ length xs = omega (arith, l) in
      ap (λ zs. take (length zs - 1) zs) e ∙ ap (λ n. take n (xs ++ x ∷ [])) n ∙ take_front xs (x ∷ [])

-- Only the steps before i matter.
last_same : (ss us : List FilledGoal) (n : ℕ) → ((k : ℕ) → k < n → slice_get us k ≡ slice_get ss k) → (i : ℕ) → i ≤ n → last_step us i ≡ last_step ss i
last_same ss us n e zero h = refl
last_same ss us n e (suc i) h = e i (omega (arith, h))

pub reached_same : (r : Tables) (root : Goal) (ss us : List FilledGoal) (n : ℕ) → ((k : ℕ) → k < n → slice_get us k ≡ slice_get ss k) → (i : ℕ) → i ≤ n → (gs : List Goal) → OpenAfter r root ss i gs → OpenAfter r root us i gs
reached_same r root ss us n e zero h gs q = q
reached_same r root ss us n e (suc i) h gs (f, rest, u, g, o) =
    let l = last_same ss us n e i (omega (arith, h)) in
    let v : FitsAt r us i f = record {
      found = e i (omega (arith, h)) ∙ u.found;
      is_goal = u.is_goal;
      fits = u.fits;
      depth = u.depth ∙ ap (λ o. max (depth_after o) (f.goal.place + depth_of (skeleton r f.step))) (sym l);
      size = u.size ∙ ap (λ o. size_after o + size_of (skeleton r f.step)) (sym l);
      shallow = u.shallow;
      small = u.small;
    } in
    (f, rest, v, g, reached_same r root ss us n e i (omega (arith, h)) (rest ++ f.goal ∷ []) o)

pub reached_kept : (a b : Tables) → Keeps a b → (root : Goal) (ss : List FilledGoal) (i : ℕ) (gs : List Goal) → OpenAfter a root ss i gs → OpenAfter b root ss i gs
reached_kept a b k root ss zero gs q = q
reached_kept a b k root ss (suc i) gs (f, rest, u, g, o) =
    let s : skeleton a f.step ≡ skeleton b f.step = sym (still_step a b k f.goal f.step (holes (arity f.step)) u.fits) in
    let v : FitsAt b ss i f = record {
      found = u.found;
      is_goal = still_goal a b k f.goal u.is_goal;
      fits = still_fits a b k f.goal f.step u.is_goal u.fits;
      depth = u.depth ∙ ap (λ t. max (depth_after (last_step ss i)) (f.goal.place + depth_of t)) s;
      size = u.size ∙ ap (λ t. size_after (last_step ss i) + size_of t) s;
      shallow = u.shallow;
      small = u.small;
    } in
    (f, rest, v, g, reached_kept a b k root ss i (rest ++ f.goal ∷ []) o)

pub sound_kept : (a b : Tables) (root : Goal) (ss : List FilledGoal) (gs : List Goal) → Keeps a b → IsOpenProof a root ss gs → IsOpenProof b root ss gs
sound_kept a b root ss gs k s = record {
  is_goal = still_goal a b k root s.is_goal;
  place = s.place;
  empty = ap (λ m. (scope_of m).entries) (told_stays a b root.ctx k s.is_goal.ctx) ∙ s.empty;
  reached = reached_kept a b k root ss (length ss) gs s.reached;
}

-- Measures of an open record are within limits.
reached_small : (r : Tables) (root : Goal) (ss : List FilledGoal) (i : ℕ) (gs : List Goal) → OpenAfter r root ss i gs → (depth_after (last_step ss i) ≤ 2000) × (size_after (last_step ss i) ≤ 1000000)
reached_small r root ss zero gs q = (omega arith, omega arith)
reached_small r root ss (suc i) gs (f, rest, u, g, o) =
    let d : depth_after (last_step ss (suc i)) ≡ f.depth = ap depth_after u.found in
    let s : size_after (last_step ss (suc i)) ≡ f.size = ap size_after u.found in
    let a = u.shallow in
    let b = u.small in
    (omega (arith, d, a), omega (arith, s, b))

pub sound_shallow : (r : Tables) (root : Goal) (ss : List FilledGoal) (gs : List Goal) → IsOpenProof r root ss gs → depth_after (last_step ss (length ss)) ≤ 2000
sound_shallow r root ss gs s = (reached_small r root ss (length ss) gs s.reached).0

pub sound_small : (r : Tables) (root : Goal) (ss : List FilledGoal) (gs : List Goal) → IsOpenProof r root ss gs → size_after (last_step ss (length ss)) ≤ 1000000
sound_small r root ss gs s = (reached_small r root ss (length ss) gs s.reached).1

-- The first goal, apart from the others.
abbrev pub FitsSplit : Tables → List Goal → Step → Type 0
FitsSplit r gs s = (rest : List Goal) × (g : Goal) × (gs ≡ rest ++ g ∷ []) × Fits r g s

split_last : (gs : List Goal) (g : Goal) → slice_get gs (length gs - 1) ≡ Some g → (rest : List Goal) × (gs ≡ rest ++ g ∷ [])
split_last [] g e = absurd (cc e)
split_last (h ∷ []) g e = let x : Some h ≡ Some g = e in let y : h ≡ g = cc x in ([], ap (λ h. h ∷ []) y)
split_last (h ∷ k ∷ gs) g e =
    let n : length (h ∷ k ∷ gs) - 1 ≡ suc (length (k ∷ gs) - 1) = omega arith in
    let x : slice_get (k ∷ gs) (length (k ∷ gs) - 1) ≡ Some g = sym (ap (slice_get (h ∷ k ∷ gs)) n) ∙ e in
    let (rest, q) = split_last (k ∷ gs) g x in
    (h ∷ rest, ap (λ l. h ∷ l) q)

pub split_first : (r : Tables) (gs : List Goal) (s : Step) → FitsFirst r gs s → FitsSplit r gs s
split_first r gs s h = let (rest, q) = split_last gs h.goal h.first in (rest, h.goal, q, h.fits)

all_goals_at : (r : Tables) (gs : List Goal) (k : ℕ) (g : Goal) → AllGoals r gs → slice_get gs k ≡ Some g → IsGoal r g
all_goals_at r [] k g a e = absurd (cc e)
all_goals_at r (h ∷ gs) zero g a e = let x : Some h ≡ Some g = e in let y : h ≡ g = cc x in subst (IsGoal r) y a.0
all_goals_at r (h ∷ gs) (suc k) g a e = all_goals_at r gs k g a.1 e

-- Each open goal is a goal.
pub sound_goal : (r : Tables) (root : Goal) (ss : List FilledGoal) (gs : List Goal) (k : ℕ) (g : Goal) → IsOpenProof r root ss gs → slice_get gs k ≡ Some g → IsGoal r g
sound_goal r root ss gs k g w e = all_goals_at r gs k g (reached_goals r root ss (length ss) gs w.is_goal w.reached) e

-- The first goal, and a step that fits it.
module _ (r : Tables) (root : Goal) (ss : List FilledGoal) (gs : List Goal) (w : IsOpenProof r root ss gs) (s : Step) (h : FitsSplit r gs s) (g : Goal) (k : ℕ) (i : k ≡ length gs - 1) (e : g ≡ slice_index_or gs k g) where
  is_first : g ≡ h.1
  is_first = last_is gs h.0 h.1 g k h.2 i e

  pub first_fits : Fits r g s
  first_fits = subst (λ g. Fits r g s) (sym is_first) h.3

  first_reached : OpenAfter r root ss (length ss) (h.0 ++ g ∷ [])
  first_reached = subst (OpenAfter r root ss (length ss)) (h.2 ∙ ap (λ g. h.0 ++ g ∷ []) (sym is_first)) w.reached

  goals_are : gs ≡ h.0 ++ g ∷ []
  goals_are = h.2 ∙ ap (λ g. h.0 ++ g ∷ []) (sym is_first)

  one_less : pred (length gs) ≡ length h.0
  one_less = ap (λ gs. pred (length gs)) goals_are ∙ ap pred (last_long h.0 g)

  pub with_step : (t : Named) → MakesWithHoles r ss gs s t → (depth_of t ≡ max (depth_after (last_step ss (length ss))) (g.place + depth_of (skeleton r s))) × (size_of t + 1 ≡ size_after (last_step ss (length ss)) + size_of (skeleton r s))
  with_step t o = filled_depth r root ss (length ss) h.0 g (skeleton r s) t w.place first_reached (subst (λ n. Makes r ss (length ss) (holes n ++ skeleton r s ∷ []) t) one_less o)

  pub first_place : g.place + 1 ≤ 2000
  first_place =
      let a = place_small r root ss (length ss) h.0 g w.place first_reached in
      let b = sound_shallow r root ss gs w in
      omega (arith, a, b)

  -- the step is put in
  pub filled_sound : (f : FilledGoal) → f.goal ≡ g → f.step ≡ s → f.depth ≡ max (depth_after (last_step ss (length ss))) (g.place + depth_of (skeleton r s)) → f.size + 1 ≡ size_after (last_step ss (length ss)) + size_of (skeleton r s) → f.depth ≤ 2000 → f.size ≤ 1000000 → IsOpenProof r root (ss ++ f ∷ []) (take (length gs - 1) gs ++ subgoals g s)
  filled_sound f a b d z l m =
      let v : FitsAt r (ss ++ f ∷ []) (length ss) f = record {
        found = get_last ss f;
        is_goal = subst (IsGoal r) (sym a) (first_goal (length ss) w.is_goal w.reached);
        fits = subst (λ s. Fits r f.goal s) (sym b) (subst (λ g. Fits r g s) (sym a) first_fits);
        depth = d ∙ ap₂ (λ o x. max (depth_after o) x) (sym same) (ap₂ (λ g s. g.place + depth_of (skeleton r s)) (sym a) (sym b));
        size = z ∙ ap₂ (λ o s. size_after o + size_of (skeleton r s)) (sym same) (sym b);
        shallow = l;
        small = m;
      } in
      let rest = before_last gs h.0 g goals_are in
      let q : OpenAfter r root (ss ++ f ∷ []) (length ss) (h.0 ++ f.goal ∷ []) = reached_same r root ss (ss ++ f ∷ []) (length ss) front (length ss) (omega arith) (h.0 ++ f.goal ∷ []) (subst (λ g. OpenAfter r root ss (length ss) (h.0 ++ g ∷ [])) (sym a) first_reached) in
      let x : take (length gs - 1) gs ++ subgoals g s ≡ h.0 ++ subgoals f.goal f.step = ap₂ (λ r o. r ++ o) rest (ap₂ subgoals (sym a) (sym b)) in
      record {
        is_goal = w.is_goal;
        place = w.place;
        empty = w.empty;
        reached = subst (λ n. OpenAfter r root (ss ++ f ∷ []) n (take (length gs - 1) gs ++ subgoals g s)) (sym (last_long ss f)) (f, h.0, v, x, q);
      } where
        front : (k : ℕ) → k < length ss → slice_get (ss ++ f ∷ []) k ≡ slice_get ss k
        front k l = get_front ss (f ∷ []) k l

        same : last_step (ss ++ f ∷ []) (length ss) ≡ last_step ss (length ss)
        same = last_same ss (ss ++ f ∷ []) (length ss) front (length ss) (omega arith)

        first_goal : (n : ℕ) → IsGoal r root → OpenAfter r root ss n gs → IsGoal r g
        first_goal n i q = let a = reached_goals r root ss n gs i q in (goals_last r h.0 g (subst (AllGoals r) goals_are a))

-- The last step is taken back.
pub undone_sound : (r : Tables) (root : Goal) (ss us : List FilledGoal) (gs : List Goal) (f : FilledGoal) (k : ℕ) → ss ≡ us ++ f ∷ [] → k ≡ length gs - arity f.step → IsOpenProof r root ss gs → IsOpenProof r root us (take k gs ++ f.goal ∷ []) × (gs ≡ take k gs ++ subgoals f.goal f.step)
undone_sound r root ss us gs f k e i w =
    let (g, rest, u, h, o) = subst (λ n. OpenAfter r root (us ++ f ∷ []) n gs) (last_long us f) (subst (λ ss. OpenAfter r root ss (length ss) gs) e w.reached) in
    let x : Some g ≡ Some f = sym u.found ∙ get_last us f in
    let v : g ≡ f = cc x in
    let y : gs ≡ rest ++ subgoals f.goal f.step = h ∙ ap (λ g. rest ++ subgoals g.goal g.step) v in
    let a = long rest (subgoals f.goal f.step) in
    let b = opened_many f.goal f.step in
    let c : length gs ≡ length (rest ++ subgoals f.goal f.step) = ap length y in
    let n : k ≡ length rest = omega (arith, i, a, b, c) in
    let z : take k gs ≡ rest = ap₂ take n y ∙ take_front rest (subgoals f.goal f.step) in
    let q : OpenAfter r root us (length us) (rest ++ f.goal ∷ []) = reached_same r root (us ++ f ∷ []) us (length us) (λ k l. sym (get_front us (f ∷ []) k l)) (length us) (omega arith) (rest ++ f.goal ∷ []) (subst (λ g. OpenAfter r root (us ++ f ∷ []) (length us) (rest ++ g.goal ∷ [])) v o) in (
      record {
        is_goal = w.is_goal;
        place = w.place;
        empty = w.empty;
        reached = subst (λ rest. OpenAfter r root us (length us) (rest ++ f.goal ∷ [])) (sym z) q;
      },
      y ∙ ap (λ rest. rest ++ subgoals f.goal f.step) (sym z),
    )
