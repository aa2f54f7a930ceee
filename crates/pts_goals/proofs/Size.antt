-- How deep and how large the term of an open record is.
use Rattle.std.proofs.Common.{◌≡◌, ℕ, zero, suc, pred, ◌<◌, ◌≤◌, ◌+◌, ◌-◌, List, [], ◌∷◌, ◌++◌, length, refl, sym, ap, ◌∙◌, subst, Option, Some, None, true, arith}
use Rattle.std.specs.Prelude.{slice_get, map, max, take, drop}
use mathlib.Core.Path.{ap₂}
use Rattle.pts_terms.specs.Tree.{Named, sort, const, var, app, named_lam, named_pi, named_let}
use Rattle.pts_terms.specs.Limits.{within, depth_of, size_of}
use Rattle.pts_record.specs.Table.{Tables, named_at, at}
use Rattle.pts_goals.specs.declared.step.Goal.{Goal}
use Rattle.pts_goals.specs.declared.step.FilledGoal.{FilledGoal}
use Rattle.pts_goals.specs.declared.step.Step.{Step}
use Rattle.pts_goals.specs.declared.step.Step.TheVariants.{Intro, Exact, Cut, Apply, Change}
use Rattle.pts_goals.specs.declared.step.Link.{Link}
use Rattle.pts_goals.specs.declared.step.Argument.{Argument}
use Rattle.pts_goals.specs.declared.step.Argument.TheVariants.{Given, Left}
use Rattle.pts_goals.specs.Steps.{subgoals, arity, step_term, goal_of, argument_goals, link_goals, argument_arity, links_arity, argument_term, spine}
use Rattle.pts_goals.specs.OpenGoals.{holes, skeleton, depth_after, size_after, last_step, OpenAfter, Makes, FitsAt}
use Rattle.pts_goals.proofs.Backward.{long, opened_many, links_many}

-- The depth that terms reach at the places of goals, and their size.
abbrev pub deep : List Goal → List Named → ℕ
deep (g ∷ gs) (t ∷ ts) = max (g.place + depth_of t) (deep gs ts)
deep _ _ = 0

abbrev pub sizes : List Named → ℕ
sizes [] = 0
sizes (t ∷ ts) = size_of t + sizes ts

deep_both : (gs hs : List Goal) (ts us : List Named) → length ts ≡ length gs → deep (gs ++ hs) (ts ++ us) ≡ max (deep gs ts) (deep hs us)
deep_both [] hs [] us n = omega arith
deep_both (g ∷ gs) hs (t ∷ ts) us n = let e = deep_both gs hs ts us (omega (arith, n)) in omega (arith, e)
deep_both [] hs (t ∷ ts) us n = absurd (omega (arith, n))
deep_both (g ∷ gs) hs [] us n = absurd (omega (arith, n))

sizes_both : (ts us : List Named) → sizes (ts ++ us) ≡ sizes ts + sizes us
sizes_both [] us = omega arith
sizes_both (t ∷ ts) us = let e = sizes_both ts us in omega (arith, e)

deep_snoc : (gs : List Goal) (h : Goal) (ts : List Named) → length gs < length ts → deep (gs ++ h ∷ []) ts ≡ max (deep gs ts) (h.place + depth_of (at ts (length gs)))
deep_snoc [] h [] l = absurd (omega (arith, l))
deep_snoc [] h (t ∷ ts) l = omega arith
deep_snoc (g ∷ gs) h [] l = absurd (omega (arith, l))
deep_snoc (g ∷ gs) h (t ∷ ts) l = let e = deep_snoc gs h ts (omega (arith, l)) in omega (arith, e)

sizes_snoc : (n : ℕ) (ts : List Named) → n < length ts → sizes (take (suc n) ts) ≡ sizes (take n ts) + size_of (at ts n)
sizes_snoc n [] l = absurd (omega (arith, l))
sizes_snoc zero (t ∷ ts) l = omega arith
sizes_snoc (suc n) (t ∷ ts) l = let e = sizes_snoc n ts (omega (arith, l)) in omega (arith, e)

-- What the arguments themselves have.
abbrev pub argument_depth : Tables → Argument → ℕ
argument_depth r (Given j) = depth_of (named_at r.shapes j.subject)
argument_depth r (Left s) = 0

abbrev pub argument_size : Tables → Argument → ℕ
argument_size r (Given j) = size_of (named_at r.shapes j.subject)
argument_size r (Left s) = 0

abbrev pub links_depth : Tables → ℕ → List Link → ℕ
links_depth r d [] = d
links_depth r d (l ∷ ls) = links_depth r (max d (argument_depth r l.argument) + 1) ls

abbrev pub links_size : Tables → ℕ → List Link → ℕ
links_size r s [] = s
links_size r s (l ∷ ls) = links_size r (s + argument_size r l.argument + 1) ls

links_long : (r : Tables) (d : ℕ) (ls : List Link) → d + length ls ≤ links_depth r d ls
links_long r d [] = omega arith
links_long r d (l ∷ ls) = let e = links_long r (max d (argument_depth r l.argument) + 1) ls in omega (arith, e)

nothing_more : {A : Type 0} (xs : List A) → xs ++ [] ≡ xs
nothing_more [] = refl
nothing_more (x ∷ xs) = ap (λ l. x ∷ l) (nothing_more xs)

chain_depth : (r : Tables) (g : Goal) (ls : List Link) (ts : List Named) (t : Named) (d e : ℕ) → depth_of t ≡ max d e → links_arity ls ≤ length ts → g.place + depth_of (spine r t ls ts) ≡ max (g.place + links_depth r d ls) (max (g.place + (e + length ls)) (deep (link_goals g ls) ts))
chain_depth r g [] ts t d e h n = omega (arith, h)
chain_depth r g (l ∷ ls) ts t d e h n = go l.argument n (λ x d e p q. chain_depth r g ls ts x d e p q) where
  go : (x : Argument) → links_arity ls + argument_arity x ≤ length ts → ((y : Named) (d e : ℕ) → depth_of y ≡ max d e → links_arity ls ≤ length ts → g.place + depth_of (spine r y ls ts) ≡ max (g.place + links_depth r d ls) (max (g.place + (e + length ls)) (deep (link_goals g ls) ts))) → g.place + depth_of (spine r (app t (argument_term r x (at ts (links_arity ls)))) ls ts) ≡ max (g.place + links_depth r (max d (argument_depth r x) + 1) ls) (max (g.place + (e + suc (length ls))) (deep (link_goals g ls ++ argument_goals g (length ls) x) ts))
  go (Given j) m f =
      let a = f (app t (named_at r.shapes j.subject)) (max d (depth_of (named_at r.shapes j.subject)) + 1) (e + 1) (omega (arith, h)) (omega (arith, m)) in
      let b : deep (link_goals g ls ++ []) ts ≡ deep (link_goals g ls) ts = ap (λ gs. deep gs ts) (nothing_more (link_goals g ls)) in
      omega (arith, a, b)
  go (Left s) m f =
      let u = at ts (links_arity ls) in
      let a = f (app t u) (max d 0 + 1) (max e (depth_of u) + 1) (omega (arith, h)) (omega (arith, m)) in
      let c = links_many g ls in
      let b = deep_snoc (link_goals g ls) (goal_of g.names g.ctx s (g.place + (length ls + 1))) ts (omega (arith, c, m)) in
      let i : depth_of (at ts (length (link_goals g ls))) ≡ depth_of u = ap (λ n. depth_of (at ts n)) c in
      omega (arith, a, b, i)

chain_size : (r : Tables) (ls : List Link) (ts : List Named) (t : Named) (s e : ℕ) → size_of t ≡ s + e → links_arity ls ≤ length ts → size_of (spine r t ls ts) ≡ links_size r s ls + (e + sizes (take (links_arity ls) ts))
chain_size r [] ts t s e h n = omega (arith, h)
chain_size r (l ∷ ls) ts t s e h n = go l.argument n (λ x s e p q. chain_size r ls ts x s e p q) where
  go : (x : Argument) → links_arity ls + argument_arity x ≤ length ts → ((y : Named) (s e : ℕ) → size_of y ≡ s + e → links_arity ls ≤ length ts → size_of (spine r y ls ts) ≡ links_size r s ls + (e + sizes (take (links_arity ls) ts))) → size_of (spine r (app t (argument_term r x (at ts (links_arity ls)))) ls ts) ≡ links_size r (s + argument_size r x + 1) ls + (e + sizes (take (links_arity ls + argument_arity x) ts))
  go (Given j) m f =
      let a = f (app t (named_at r.shapes j.subject)) (s + size_of (named_at r.shapes j.subject) + 1) e (omega (arith, h)) (omega (arith, m)) in
      let b : sizes (take (links_arity ls + 0) ts) ≡ sizes (take (links_arity ls) ts) = let z : links_arity ls + 0 ≡ links_arity ls = omega arith in ap (λ n. sizes (take n ts)) z in
      omega (arith, a, b)
  go (Left j) m f =
      let u = at ts (links_arity ls) in
      let a = f (app t u) (s + 0 + 1) (e + size_of u) (omega (arith, h)) (omega (arith, m)) in
      let b = sizes_snoc (links_arity ls) ts (omega (arith, m)) in
      let i : sizes (take (links_arity ls + 1) ts) ≡ sizes (take (suc (links_arity ls)) ts) = let z : links_arity ls + 1 ≡ suc (links_arity ls) = omega arith in ap (λ n. sizes (take n ts)) z in
      omega (arith, a, b, i)

all_taken : (n : ℕ) (ts : List Named) → length ts ≡ n → sizes (take n ts) ≡ sizes ts
all_taken zero [] h = refl
all_taken zero (t ∷ ts) h = absurd (omega (arith, h))
all_taken (suc n) [] h = absurd (omega (arith, h))
all_taken (suc n) (t ∷ ts) h = let e = all_taken n ts (omega (arith, h)) in omega (arith, e)

-- What a step itself has.
abbrev pub own_depth : Tables → Step → ℕ
own_depth r (Intro x p d i s o) = depth_of (named_at r.shapes d.subject) + 1
own_depth r (Exact j) = depth_of (named_at r.shapes j.subject)
own_depth r (Cut x l p i s) = depth_of (named_at r.shapes l.subject) + 2
own_depth r (Apply f ls) = links_depth r (depth_of (named_at r.shapes f.subject)) ls
own_depth r (Change t s o) = 0

abbrev pub own_size : Tables → Step → ℕ
own_size r (Intro x p d i s o) = size_of (named_at r.shapes d.subject) + 1
own_size r (Exact j) = size_of (named_at r.shapes j.subject)
own_size r (Cut x l p i s) = size_of (named_at r.shapes l.subject) + 2
own_size r (Apply f ls) = links_size r (size_of (named_at r.shapes f.subject)) ls
own_size r (Change t s o) = 0

module _ (r : Tables) where
  step_depth : (g : Goal) (s : Step) (ts : List Named) → length ts ≡ arity s → g.place + depth_of (step_term r s ts) ≡ max (g.place + own_depth r s) (deep (subgoals g s) ts)
  step_depth g (Intro x p d i s o) (t ∷ []) n = omega arith
  step_depth g (Exact j) [] n = omega arith
  step_depth g (Cut x l p i s) (t ∷ u ∷ []) n = omega arith
  step_depth g (Apply f ls) ts n =
      let t = named_at r.shapes f.subject in
      let a = chain_depth r g ls ts t (depth_of t) 0 (omega arith) (omega (arith, n)) in
      let b = links_long r (depth_of t) ls in
      omega (arith, a, b)
  step_depth g (Change a s o) (t ∷ []) n = omega arith
  step_depth g (Intro x p d i s o) [] n = absurd (cc n)
  step_depth g (Intro x p d i s o) (t ∷ u ∷ ts) n = absurd (omega (arith, n))
  step_depth g (Exact j) (t ∷ ts) n = absurd (cc n)
  step_depth g (Cut x l p i s) [] n = absurd (cc n)
  step_depth g (Cut x l p i s) (t ∷ []) n = absurd (omega (arith, n))
  step_depth g (Cut x l p i s) (t ∷ u ∷ v ∷ ts) n = absurd (omega (arith, n))
  step_depth g (Change a s o) [] n = absurd (cc n)
  step_depth g (Change a s o) (t ∷ u ∷ ts) n = absurd (omega (arith, n))

  step_size : (s : Step) (ts : List Named) → length ts ≡ arity s → size_of (step_term r s ts) ≡ own_size r s + sizes ts
  step_size (Intro x p d i s o) (t ∷ []) n = omega arith
  step_size (Exact j) [] n = omega arith
  step_size (Cut x l p i s) (t ∷ u ∷ []) n = omega arith
  step_size (Apply f ls) ts n =
      let t = named_at r.shapes f.subject in
      let a = chain_size r ls ts t (size_of t) 0 (omega arith) (omega (arith, n)) in
      let b = all_taken (links_arity ls) ts n in
      omega (arith, a, b)
  step_size (Change a s o) (t ∷ []) n = omega arith
  step_size (Intro x p d i s o) [] n = absurd (cc n)
  step_size (Intro x p d i s o) (t ∷ u ∷ ts) n = absurd (omega (arith, n))
  step_size (Exact j) (t ∷ ts) n = absurd (cc n)
  step_size (Cut x l p i s) [] n = absurd (cc n)
  step_size (Cut x l p i s) (t ∷ []) n = absurd (omega (arith, n))
  step_size (Cut x l p i s) (t ∷ u ∷ v ∷ ts) n = absurd (omega (arith, n))
  step_size (Change a s o) [] n = absurd (cc n)
  step_size (Change a s o) (t ∷ u ∷ ts) n = absurd (omega (arith, n))

pub leaves_long : (n : ℕ) → length (holes n) ≡ n
leaves_long zero = refl
leaves_long (suc n) = ap suc (leaves_long n)

pub leaves_both : (m n : ℕ) → holes (m + n) ≡ holes m ++ holes n
leaves_both zero n = let e : zero + n ≡ n = omega arith in ap holes e
leaves_both (suc m) n = let e : suc m + n ≡ suc (m + n) = omega arith in ap holes e ∙ ap (λ l. sort 0 ∷ l) (leaves_both m n)

joined : {A : Type 0} (k : ℕ) (xs : List A) → take k xs ++ drop k xs ≡ xs
joined zero xs = refl
joined (suc k) [] = refl
joined (suc k) (x ∷ xs) = ap (λ l. x ∷ l) (joined k xs)

cut_length : {A : Type 0} (k : ℕ) (xs : List A) → k ≤ length xs → (length (take k xs) ≡ k) × (length (drop k xs) + k ≡ length xs)
cut_length zero xs h = (refl, omega arith)
cut_length (suc k) [] h = absurd (omega (arith, h))
cut_length (suc k) (x ∷ xs) h = let e = cut_length k xs (omega (arith, h)) in let e0 = e.0 in let e1 = e.1 in (omega (arith, e0), omega (arith, e1))

-- A depth and a size that the holes have no part in; with them the terms in the holes decide.
record Spread (r : Tables) (ss : List FilledGoal) (i : ℕ) (gs : List Goal) : Type 0 where
  depth : ℕ
  size : ℕ
  whole : (ts : List Named) (t : Named) → Makes r ss i ts t → length ts ≡ length gs → (depth_of t ≡ max depth (deep gs ts)) × (size_of t ≡ size + sizes ts)
  depth_is : depth_after (last_step ss i) ≡ max depth (deep gs (holes (length gs)))
  size_is : size_after (last_step ss i) ≡ size + length gs

sizes_leaves : (n : ℕ) → sizes (holes n) ≡ n
sizes_leaves zero = refl
sizes_leaves (suc n) = let e = sizes_leaves n in omega (arith, e)

rest_length : (ts us : List Named) (m n : ℕ) → length (ts ++ us) ≡ m + n → length us ≡ n → length ts ≡ m
rest_length ts us m n e h = let l = long ts us in omega (arith, l, e, h)

pub no_depth : (t : Named) → 1 ≤ depth_of t
no_depth (sort s) = omega arith
no_depth (const c) = omega arith
no_depth (var i) = omega arith
no_depth (app f a) = omega arith
no_depth (named_lam x A b) = omega arith
no_depth (named_pi x A b) = omega arith
no_depth (named_let x a A b) = omega arith

leaves_snoc : (gs : List Goal) (g : Goal) → holes (length (gs ++ g ∷ [])) ≡ holes (length gs) ++ sort 0 ∷ []
leaves_snoc gs g = let l = long gs (g ∷ []) in ap holes l ∙ leaves_both (length gs) 1

module _ (r : Tables) (root : Goal) (ss : List FilledGoal) (i : ℕ) (gs : List Goal) (f : FilledGoal) (rest : List Goal) (u : FitsAt r ss i f) (h : gs ≡ rest ++ subgoals f.goal f.step) (b : Spread r ss i (rest ++ f.goal ∷ [])) where
  abbrev new : List Goal
  new = subgoals f.goal f.step

  many : length gs ≡ length rest + arity f.step
  many = let l = long rest new in let a = opened_many f.goal f.step in let g : length gs ≡ length (rest ++ new) = ap length h in omega (arith, l, a, g)

  inside : (ts : List Named) (t : Named) → Makes r ss (suc i) ts t → length ts ≡ length gs → (depth_of t ≡ max (max b.depth (f.goal.place + own_depth r f.step)) (deep gs ts)) × (size_of t ≡ (b.size + own_size r f.step) + sizes ts)
  inside ts t (g, front, parts, e, q, n, o) l =
      let y : Some g ≡ Some f = sym e ∙ u.found in
      let v : g ≡ f = cc y in
      let m : length parts ≡ arity f.step = n ∙ ap (λ g. arity g.step) v in
      let x = step_term r f.step parts in
      let p : Makes r ss i (front ++ x ∷ []) t = subst (λ g. Makes r ss i (front ++ step_term r g.step parts ∷ []) t) v o in
      let a = long front parts in
      let j : length ts ≡ length (front ++ parts) = ap length q in
      let c = many in
      let k : length front ≡ length rest = omega (arith, a, j, c, l, m) in
      let lx = long front (x ∷ []) in
      let lr = long rest (f.goal ∷ []) in
      let w = b.whole (front ++ x ∷ []) t p (omega (arith, lx, lr, k)) in
      let d1 = deep_both rest (f.goal ∷ []) front (x ∷ []) k in
      let d2 = step_depth r f.goal f.step parts m in
      let d3 : deep gs ts ≡ max (deep rest front) (deep new parts) = ap₂ deep h q ∙ deep_both rest new front parts k in
      let s1 = sizes_both front (x ∷ []) in
      let s2 = step_size r f.step parts m in
      let s3 : sizes ts ≡ sizes front + sizes parts = ap sizes q ∙ sizes_both front parts in
      let w0 = w.0 in
      let w1 = w.1 in
      (omega (arith, w0, d1, d2, d3), omega (arith, w1, s1, s2, s3))

  depth_on : depth_after (last_step ss (suc i)) ≡ max (max b.depth (f.goal.place + own_depth r f.step)) (deep gs (holes (length gs)))
  depth_on =
      let a : depth_after (last_step ss (suc i)) ≡ f.depth = ap depth_after u.found in
      let c = u.depth in
      let d = b.depth_is in
      let n = leaves_long (length rest) in
      let e : deep (rest ++ f.goal ∷ []) (holes (length (rest ++ f.goal ∷ []))) ≡ max (deep rest (holes (length rest))) (max (f.goal.place + 1) 0) =
      ap (deep (rest ++ f.goal ∷ [])) (leaves_snoc rest f.goal) ∙ deep_both rest (f.goal ∷ []) (holes (length rest)) (sort 0 ∷ []) n in
      let k = step_depth r f.goal f.step (holes (arity f.step)) (leaves_long (arity f.step)) in
      let o = no_depth (skeleton r f.step) in
      let q : deep gs (holes (length gs)) ≡ max (deep rest (holes (length rest))) (deep new (holes (arity f.step))) =
      ap₂ deep h (ap holes many ∙ leaves_both (length rest) (arity f.step)) ∙ deep_both rest new (holes (length rest)) (holes (arity f.step)) n in
      omega (arith, a, c, d, e, k, o, q)

  size_on : size_after (last_step ss (suc i)) ≡ (b.size + own_size r f.step) + length gs
  size_on =
      let a : size_after (last_step ss (suc i)) ≡ f.size = ap size_after u.found in
      let c = u.size in
      let d = b.size_is in
      let l = long rest (f.goal ∷ []) in
      let k = step_size r f.step (holes (arity f.step)) (leaves_long (arity f.step)) in
      let e = sizes_leaves (arity f.step) in
      let m = many in
      omega (arith, a, c, d, l, k, e, m)

spread : (r : Tables) (root : Goal) (ss : List FilledGoal) (i : ℕ) (gs : List Goal) → root.place ≡ 0 → OpenAfter r root ss i gs → Spread r ss i gs
spread r root ss zero gs z e = record {
  depth = 0;
  size = 0;
  whole = λ ts t o n.
      let d : deep gs ts ≡ max (root.place + depth_of t) 0 = ap₂ deep e o in
      let s : sizes ts ≡ size_of t + 0 = ap sizes o in
      (omega (arith, d, z), omega (arith, s));
  depth_is =
      let d : deep gs (holes (length gs)) ≡ max (root.place + 1) 0 = ap (λ gs. deep gs (holes (length gs))) e in
      omega (arith, d, z);
  size_is = let l : length gs ≡ 1 = ap length e in omega (arith, l);
}
spread r root ss (suc i) gs z (f, rest, u, h, o) =
    let b = spread r root ss i (rest ++ f.goal ∷ []) z o in
    record {
      depth = max b.depth (f.goal.place + own_depth r f.step);
      size = b.size + own_size r f.step;
      whole = λ ts t q n. inside r root ss i gs f rest u h b ts t q n;
      depth_is = depth_on r root ss i gs f rest u h b;
      size_is = size_on r root ss i gs f rest u h b;
    }

-- With a term x in the first hole.
pub filled_depth : (r : Tables) (root : Goal) (ss : List FilledGoal) (i : ℕ) (gs : List Goal) (g : Goal) (x t : Named) → root.place ≡ 0 → OpenAfter r root ss i (gs ++ g ∷ []) → Makes r ss i (holes (length gs) ++ x ∷ []) t → (depth_of t ≡ max (depth_after (last_step ss i)) (g.place + depth_of x)) × (size_of t + 1 ≡ size_after (last_step ss i) + size_of x)
filled_depth r root ss i gs g x t z q o =
    let b = spread r root ss i (gs ++ g ∷ []) z q in
    let n = leaves_long (length gs) in
    let a = long (holes (length gs)) (x ∷ []) in
    let l = long gs (g ∷ []) in
    let w = b.whole (holes (length gs) ++ x ∷ []) t o (omega (arith, n, a, l)) in
    let d = b.depth_is in
    let s = b.size_is in
    let e = deep_both gs (g ∷ []) (holes (length gs)) (x ∷ []) n in
    let k : deep (gs ++ g ∷ []) (holes (length (gs ++ g ∷ []))) ≡ max (deep gs (holes (length gs))) (max (g.place + 1) 0) =
    ap (deep (gs ++ g ∷ [])) (leaves_snoc gs g) ∙ deep_both gs (g ∷ []) (holes (length gs)) (sort 0 ∷ []) n in
    let c = no_depth x in
    let p = sizes_both (holes (length gs)) (x ∷ []) in
    let y = sizes_leaves (length gs) in
    let w0 = w.0 in
    let w1 = w.1 in
    (omega (arith, w0, d, e, k, c), omega (arith, w1, s, p, y, l))

-- The term with holes.
pub partial_depth : (r : Tables) (root : Goal) (ss : List FilledGoal) (i : ℕ) (gs : List Goal) (t : Named) → root.place ≡ 0 → OpenAfter r root ss i gs → Makes r ss i (holes (length gs)) t → (depth_of t ≡ depth_after (last_step ss i)) × (size_of t ≡ size_after (last_step ss i))
partial_depth r root ss i gs t z q o =
    let b = spread r root ss i gs z q in
    let w = b.whole (holes (length gs)) t o (leaves_long (length gs)) in
    let y = sizes_leaves (length gs) in
    let d = b.depth_is in
    let s = b.size_is in
    let w0 = w.0 in
    let w1 = w.1 in
    (omega (arith, w0, d), omega (arith, w1, s, y))

-- There is a term for all terms in the holes.
pub some_term : (r : Tables) (root : Goal) (ss : List FilledGoal) (i : ℕ) (gs : List Goal) (ts : List Named) → OpenAfter r root ss i gs → length ts ≡ length gs → (t : Named) × Makes r ss i ts t
some_term r root ss zero gs ts e n = one ts (n ∙ ap length e) where
  one : (ts : List Named) → length ts ≡ 1 → (t : Named) × (ts ≡ t ∷ [])
  one [] n = absurd (cc n)
  one (t ∷ []) n = (t, refl)
  one (t ∷ u ∷ ts) n = absurd (omega (arith, n))
some_term r root ss (suc i) gs ts (f, rest, u, h, o) n =
    let front = take (length rest) ts in
    let parts = drop (length rest) ts in
    let x = step_term r f.step parts in
    let w = cut_length (length rest) ts in
    let m = long rest (subgoals f.goal f.step) in
    let a = opened_many f.goal f.step in
    let g : length gs ≡ length (rest ++ subgoals f.goal f.step) = ap length h in
    let k : length rest ≤ length ts = omega (arith, n, m, g) in
    let v = w k in
    let v0 = v.0 in
    let v1 = v.1 in
    let lf = long front (x ∷ []) in
    let lr = long rest (f.goal ∷ []) in
    let y = some_term r root ss i (rest ++ f.goal ∷ []) (front ++ x ∷ []) o (omega (arith, v0, lf, lr)) in
    (y.0, (f, front, parts, u.found, sym (joined (length rest) ts), omega (arith, v1, n, m, a, g), y.1))

pub place_small : (r : Tables) (root : Goal) (ss : List FilledGoal) (i : ℕ) (gs : List Goal) (g : Goal) → root.place ≡ 0 → OpenAfter r root ss i (gs ++ g ∷ []) → g.place + 1 ≤ depth_after (last_step ss i)
place_small r root ss i gs g z q =
    let b = spread r root ss i (gs ++ g ∷ []) z q in
    let d = b.depth_is in
    let k : deep (gs ++ g ∷ []) (holes (length (gs ++ g ∷ []))) ≡ max (deep gs (holes (length gs))) (max (g.place + 1) 0) =
    ap (deep (gs ++ g ∷ [])) (leaves_snoc gs g) ∙ deep_both gs (g ∷ []) (holes (length gs)) (sort 0 ∷ []) (leaves_long (length gs)) in
    omega (arith, d, k)

pub no_size : (t : Named) → 1 ≤ size_of t
no_size (sort s) = omega arith
no_size (const c) = omega arith
no_size (var i) = omega arith
no_size (app f a) = omega arith
no_size (named_lam x A b) = omega arith
no_size (named_pi x A b) = omega arith
no_size (named_let x a A b) = omega arith
