-- The fields of an open proof and what contracts see of it.
use Rattle.std.proofs.Common.{◌≡◌, ℕ, zero, suc, ◌<◌, ◌≤◌, ◌+◌, ◌-◌, List, [], ◌∷◌, ◌++◌, length, refl, sym, ap, ◌∙◌, subst, Option, Some, None, Bool, true, false, arith}
use Rattle.std.specs.Prelude.{slice_get, slice_index_or, max, take, if◌then◌else◌, ◌&&◌, nat_le, IfSome}
use Rattle.std.proofs.lemmas.Bool.Decides.{nat_tests}
use mathlib.Core.Path.{ap₂}
use Rattle.pts_terms.specs.Tree.{Named}
use Rattle.pts_terms.specs.Limits.{within, depth_of, size_of}
use Rattle.pts_record.specs.Table.{Tables}
use Rattle.pts_grow.specs.Keeps.{Keeps}
use Rattle.pts_goals.specs.declared.proof.Proof.TheInside.{Inside}
use Rattle.pts_goals.specs.declared.step.Goal.{Goal}
use Rattle.pts_goals.specs.declared.step.FilledGoal.{FilledGoal}
use Rattle.pts_goals.specs.declared.step.Step.{Step}
use Rattle.pts_goals.specs.Steps.{Fits, IsGoal, subgoals, arity}
use Rattle.pts_goals.specs.OpenGoals.{skeleton, depth_after, size_after, last_step, IsOpenProof, MakesWithHoles, OpenAfter}
use Rattle.pts_goals.specs.OpenProofs.{OpenProof, FitsFirst, IsFilled}
use Rattle.pts_goals.specs.Parts.{IsUndone, links_in}
use Rattle.pts_goals.proofs.Turn.{got}
use Rattle.pts_goals.proofs.Backward.{long, opened_many}
use Rattle.pts_goals.proofs.LinkLoops.{few_links}
use Rattle.pts_goals.proofs.Filling.{FitsSplit, split_first, sound_goal, last_long, get_last, first_fits, first_place, with_step, filled_sound, before_last, sound_kept, undone_sound, last_is}

-- Limits by the two measures.
pub limits : (d s : ℕ) → d ≤ 2000 → s ≤ 1000000 → (nat_le d 2000 && nat_le s 1000000) ≡ true
limits d s h g = grind (arith, nat_tests)

deeper : (d s : ℕ) → 2000 < d → (nat_le d 2000 && nat_le s 1000000) ≡ false
deeper d s h = grind (arith, nat_tests)

larger : (d s : ℕ) → 1000000 < s → (nat_le d 2000 && nat_le s 1000000) ≡ false
larger d s h = grind (arith, nat_tests)

-- The record of a proof: its own, or the one that was lent.
abbrev pub record_of : Inside → Tables
record_of p = if p.is_lent then p.lent.value else p.scratch

abbrev pub view_of : Inside → OpenProof
view_of p = record { name = p.name; scratch = record_of p; is_lent = p.is_lent; root = p.root; steps = p.steps.items; goals = p.goals.items }

abbrev pub IsOpen : Inside → Type 0
IsOpen p = IsOpenProof (record_of p) p.root p.steps.items p.goals.items

-- The same proof with other steps and goals.
abbrev pub with_goals : Inside → List FilledGoal → List Goal → OpenProof
with_goals p ss gs = record { name = p.name; scratch = record_of p; is_lent = p.is_lent; root = p.root; steps = ss; goals = gs }

module _ (p : Inside) (S : OpenProof) (v : view_of p ≡ S) where
  -- a goal that is open
  pub goal_at : (k : ℕ) (g : Goal) → IsOpen p → k < length p.goals.items → g ≡ slice_index_or p.goals.items k g → IsGoal S.scratch g
  goal_at k g w h e = subst (λ r. IsGoal r g) (ap (λ o. o.scratch) v) (sound_goal (record_of p) p.root p.steps.items p.goals.items k g w (got p.goals.items k g h e))

  -- the scratch record grew while it was lent
  pub restored : (given : Tables) → Keeps S.scratch given → IsOpen p → IsOpenProof given p.root p.steps.items p.goals.items
  restored given k w = sound_kept S.scratch given p.root p.steps.items p.goals.items k (subst (λ r. IsOpenProof r p.root p.steps.items p.goals.items) (ap (λ o. o.scratch) v) w)

  module _ (h : S.is_lent ≡ false) where
    is_here : p.is_lent ≡ false
    is_here = ap (λ o. o.is_lent) v ∙ h

    pub own_record : record_of p ≡ p.scratch
    own_record = ap (λ b. if b then p.lent.value else p.scratch) is_here

    pub same_scratch : S.scratch ≡ p.scratch
    same_scratch = sym (ap (λ o. o.scratch) v) ∙ own_record

    pub own_open : IsOpen p → IsOpenProof p.scratch p.root p.steps.items p.goals.items
    own_open w = subst (λ r. IsOpenProof r p.root p.steps.items p.goals.items) own_record w

    -- the scratch record grew in its place
    pub grown_open : (z : Tables) → Keeps p.scratch z → IsOpen p → IsOpenProof (if p.is_lent then p.lent.value else z) p.root p.steps.items p.goals.items
    grown_open z k w =
        let e : (if p.is_lent then p.lent.value else z) ≡ z = ap (λ b. if b then p.lent.value else z) is_here in
        subst (λ r. IsOpenProof r p.root p.steps.items p.goals.items) (sym e) (sound_kept p.scratch z p.root p.steps.items p.goals.items k (own_open w))

    module _ (w : IsOpen p) (s : Step) (f : FitsFirst S.scratch S.goals s) where
      fits : FitsSplit p.scratch p.goals.items s
      fits = split_first p.scratch p.goals.items s (subst (λ r. FitsFirst r p.goals.items s) own_record (subst (λ o. FitsFirst o.scratch o.goals s) (sym v) f))

      makes : (t : Named) → MakesWithHoles S.scratch S.steps S.goals s t → MakesWithHoles p.scratch p.steps.items p.goals.items s t
      makes t o = subst (λ r. MakesWithHoles r p.steps.items p.goals.items s t) own_record (subst (λ o. MakesWithHoles o.scratch o.steps o.goals s t) (sym v) o)

      pub some_goal : 0 < length p.goals.items
      some_goal = let e : length p.goals.items ≡ length (fits.0 ++ fits.1 ∷ []) = ap length fits.2 in let l = last_long fits.0 fits.1 in omega (arith, e, l)

      -- the goal that comes first
      module _ (g : Goal) (k : ℕ) (i : k ≡ length p.goals.items - 1) (e : g ≡ slice_index_or p.goals.items k g) where
        pub step_fits : Fits p.scratch g s
        step_fits = first_fits p.scratch p.root p.steps.items p.goals.items (own_open w) s fits g k i e

        pub step_place : g.place + 1 ≤ 2000
        step_place = first_place p.scratch p.root p.steps.items p.goals.items (own_open w) s fits g k i e

        pub step_few : length (links_in s) ≤ 2000
        step_few = few_links p.scratch g s step_fits

        module _ (d z : ℕ) (a : d ≡ max (depth_after (last_step p.steps.items (length p.steps.items))) (g.place + depth_of (skeleton p.scratch s))) (b : z + 1 ≡ size_after (last_step p.steps.items (length p.steps.items)) + size_of (skeleton p.scratch s)) where
          measured : (t : Named) → MakesWithHoles S.scratch S.steps S.goals s t → (depth_of t ≡ d) × (size_of t ≡ z)
          measured t o =
              let m = with_step p.scratch p.root p.steps.items p.goals.items (own_open w) s fits g k i e t (makes t o) in
              let m0 = m.0 in
              let m1 = m.1 in
              (omega (arith, m0, a), omega (arith, m1, b))

          pub step_within : d ≤ 2000 → z ≤ 1000000 → (t : Named) → MakesWithHoles S.scratch S.steps S.goals s t → within t ≡ true
          step_within l m t o = let n = measured t o in let n0 = n.0 in let n1 = n.1 in limits (depth_of t) (size_of t) (omega (arith, n0, l)) (omega (arith, n1, m))

          pub step_deep : 2000 < d → (t : Named) → MakesWithHoles S.scratch S.steps S.goals s t → within t ≡ false
          step_deep l t o = let n = measured t o in let n0 = n.0 in deeper (depth_of t) (size_of t) (omega (arith, n0, l))

          pub step_large : 1000000 < z → (t : Named) → MakesWithHoles S.scratch S.steps S.goals s t → within t ≡ false
          step_large l t o = let n = measured t o in let n1 = n.1 in larger (depth_of t) (size_of t) (omega (arith, n1, l))

          abbrev pub step_in : FilledGoal
          step_in = record { goal = g; step = s; depth = d; size = z }

          goals_are : p.goals.items ≡ take (length p.goals.items - 1) p.goals.items ++ g ∷ []
          goals_are =
              let c : g ≡ fits.1 = last_is p.goals.items fits.0 fits.1 g k fits.2 i e in
              fits.2 ∙ ap₂ (λ r g. r ++ g ∷ []) (sym (before_last p.goals.items fits.0 fits.1 fits.2)) (sym c)

          -- what the code makes of the two lists
          module _ (ss us : List FilledGoal) (hs ws os : List Goal) (c : us ≡ p.steps.items) (j : ws ≡ p.goals.items) (o : os ≡ subgoals g s) (l : hs ≡ take (length ws - 1) ws ++ os) (x : (g : Goal) → g ≡ slice_index_or ws (length ws - 1) g → ss ≡ us ++ (record { goal = g; step = s; depth = d; size = z }) ∷ []) where
            steps_now : ss ≡ p.steps.items ++ step_in ∷ []
            steps_now = x g (e ∙ ap₂ (λ gs k. slice_index_or gs k g) (sym j) (i ∙ ap (λ gs. length gs - 1) (sym j))) ∙ ap (λ us. us ++ step_in ∷ []) c

            goals_now : hs ≡ take (length p.goals.items - 1) p.goals.items ++ subgoals g s
            goals_now = l ∙ ap₂ (λ ws os. take (length ws - 1) ws ++ os) j o

            pub filled_open : d ≤ 2000 → z ≤ 1000000 → IsOpenProof (record_of p) p.root ss hs
            filled_open m n =
                let y = filled_sound p.scratch p.root p.steps.items p.goals.items (own_open w) s fits g k i e step_in refl refl a b m n in
                let r = subst (λ ss. IsOpenProof p.scratch p.root ss (take (length p.goals.items - 1) p.goals.items ++ subgoals g s)) (sym steps_now) y in
                subst (λ r. IsOpenProof r p.root ss hs) (sym own_record) (subst (IsOpenProof p.scratch p.root ss) (sym goals_now) r)

            pub is_filled : IsFilled S s (with_goals p ss hs)
            is_filled = record {
              rest = take (length p.goals.items - 1) p.goals.items;
              filled = step_in;
              step = refl;
              goals = sym (ap (λ o. o.goals) v) ∙ goals_are;
              now_goals = goals_now;
              now_steps = steps_now ∙ ap (λ o. o.steps ++ step_in ∷ []) v;
              same = (ap (λ o. o.name) v, ap (λ o. o.scratch) v, ap (λ o. o.is_lent) v, ap (λ o. o.root) v);
            }

nothing : {A : Type 0} (xs : List A) → length xs ≡ 0 → xs ≡ []
nothing [] h = refl
nothing (x ∷ xs) h = absurd (omega (arith, h))

-- The goals of the last step are open.
pub enough_goals : (ss us : List FilledGoal) (f : FilledGoal) (gs : List Goal) → ss ≡ us ++ f ∷ [] → IfSome (last_step ss (length ss)) (λ f. arity f.step ≤ length gs) → arity f.step ≤ length gs
enough_goals ss us f gs e h =
    let a : last_step ss (length ss) ≡ last_step (us ++ f ∷ []) (suc (length us)) = ap₂ last_step e (ap length e ∙ last_long us f) in
    let b : last_step ss (length ss) ≡ Some f = a ∙ get_last us f in
    subst (λ o. IfSome o (λ f. arity f.step ≤ length gs)) b h

pub all_gone : {A B : Type 0} (ss us : List A) (gs : List B) (m n : ℕ) → m ≡ 0 → m ≡ length ss → n ≡ 0 → n ≡ length us → (ss ≡ []) × (us ≡ ss) × (gs ≡ gs)
all_gone ss us gs m n e h k l =
    let a = nothing ss (sym h ∙ e) in
    let b = nothing us (sym l ∙ k) in
    (a, b ∙ sym a, refl)

-- The last step is taken back, where there is one.
module _ (p : Inside) (w : IsOpen p) where
  pub last_enough : IfSome (last_step p.steps.items (length p.steps.items)) (λ f. arity f.step ≤ length p.goals.items)
  last_enough = go (length p.steps.items) w.reached where
    go : (n : ℕ) → OpenAfter (record_of p) p.root p.steps.items n p.goals.items → IfSome (last_step p.steps.items n) (λ f. arity f.step ≤ length p.goals.items)
    go zero q = tt
    go (suc n) (f, rest, u, h, o) =
        let a = long rest (subgoals f.goal f.step) in
        let b = opened_many f.goal f.step in
        let c : length p.goals.items ≡ length (rest ++ subgoals f.goal f.step) = ap length h in
        let d : arity f.step ≤ length p.goals.items = omega (arith, a, b, c) in
        subst (λ o. IfSome o (λ f. arity f.step ≤ length p.goals.items)) (sym u.found) d

  module _ (us : List FilledGoal) (hs : List Goal) where
    pub undo_open : (b : Bool) → (b ≡ false → (p.steps.items ≡ []) × (us ≡ p.steps.items) × (hs ≡ p.goals.items)) → (b ≡ true → IsUndone p.steps.items p.goals.items us hs) → IsOpenProof (record_of p) p.root us hs
    undo_open false n a = let m = n refl in subst (λ us. IsOpenProof (record_of p) p.root us hs) (sym m.1) (subst (IsOpenProof (record_of p) p.root p.steps.items) (sym m.2) w)
    undo_open true n a =
        let u = a refl in
        subst (IsOpenProof (record_of p) p.root us) (sym u.goals) (undone_sound (record_of p) p.root p.steps.items us p.goals.items u.filled (length p.goals.items - arity u.filled.step) u.steps refl w).0

    pub undo_filled : (S : OpenProof) → view_of p ≡ S → IsUndone p.steps.items p.goals.items us hs → (s : Step) × IsFilled (with_goals p us hs) s S
    undo_filled S v u = (
      u.filled.step,
      record {
        rest = take (length p.goals.items - arity u.filled.step) p.goals.items;
        filled = u.filled;
        step = refl;
        goals = u.goals;
        now_goals = sym (ap (λ o. o.goals) v) ∙ (undone_sound (record_of p) p.root p.steps.items us p.goals.items u.filled (length p.goals.items - arity u.filled.step) u.steps refl w).1;
        now_steps = sym (ap (λ o. o.steps) v) ∙ u.steps;
        same = (sym (ap (λ o. o.name) v), sym (ap (λ o. o.scratch) v), sym (ap (λ o. o.is_lent) v), sym (ap (λ o. o.root) v));
      },
    )
