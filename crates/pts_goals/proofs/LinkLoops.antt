-- Loops over the links of a step.
use Rattle.std.proofs.Common.{◌≡◌, ℕ, zero, suc, ◌<◌, ◌≤◌, ◌+◌, ◌-◌, ◌*◌, List, [], ◌∷◌, ◌++◌, length, refl, sym, ap, ◌∙◌, subst, true, arith}
use Rattle.std.specs.Prelude.{max, drop}
use mathlib.Core.Path.{ap₂}
use Rattle.pts_terms.specs.Tree.{Named, Bare, sort, app}
use Rattle.pts_terms.specs.Limits.{depth_of, size_of}
use Rattle.pts_record.specs.Table.{Tables, named_at, bare_at, at}
use Rattle.pts_goals.specs.declared.step.Goal.{Goal}
use Rattle.pts_goals.specs.declared.step.Step.{Step}
use Rattle.pts_goals.specs.declared.step.Step.TheVariants.{Intro, Exact, Cut, Apply, Change}
use Rattle.pts_goals.specs.declared.step.Link.{Link}
use Rattle.pts_goals.specs.declared.step.Argument.{Argument}
use Rattle.pts_goals.specs.declared.step.Argument.TheVariants.{Given, Left}
use Rattle.pts_goals.specs.Steps.{Fits, IsLink, LinksFit, IsArgument, arity, argument_arity, argument_goals, links_arity, link_goals, argument_term, spine}
use Rattle.pts_goals.specs.OpenGoals.{holes, skeleton}
use Rattle.pts_goals.specs.Parts.{links_in, argument_subject, spine_depth, spine_size}
use Rattle.pts_goals.proofs.Backward.{long}

pub counted : (k c a : ℕ) (all : List Link) (l : Link) (ls : List Link) → all ≡ l ∷ ls → a ≡ argument_arity l.argument → k ≡ c + links_arity all → k ≡ (c + a) + links_arity ls
counted k c a all l ls e h q = let x : links_arity all ≡ links_arity ls + argument_arity l.argument = ap links_arity e in omega (arith, x, h, q)

lefts_few : (ls : List Link) → links_arity ls ≤ length ls
lefts_few [] = omega arith
lefts_few (l ∷ ls) = let e = lefts_few ls in go l.argument e where
  go : (x : Argument) → links_arity ls ≤ length ls → links_arity ls + argument_arity x ≤ suc (length ls)
  go (Given j) e = omega (arith, e)
  go (Left s) e = omega (arith, e)

pub few_goals : (r : Tables) (g : Goal) (s : Step) → Fits r g s → arity s ≤ 2000
few_goals r g (Intro x p d i s o) q = omega arith
few_goals r g (Exact j) q = omega arith
few_goals r g (Cut x l p i s) q = omega arith
few_goals r g (Apply f ls) q = let e = lefts_few ls in let h = q.1 in omega (arith, e, h)
few_goals r g (Change t s o) q = omega arith

pub few_links : (r : Tables) (g : Goal) (s : Step) → Fits r g s → length (links_in s) ≤ 2000
few_links r g (Intro x p d i s o) q = omega arith
few_links r g (Exact j) q = omega arith
few_links r g (Cut x l p i s) q = omega arith
few_links r g (Apply f ls) q = q.1
few_links r g (Change t s o) q = omega arith

leaf_at : (n k : ℕ) → at (holes n) k ≡ sort 0
leaf_at zero k = refl
leaf_at (suc n) zero = refl
leaf_at (suc n) (suc k) = leaf_at n k

pub hole_depth : (r : Tables) (t : Named) (ls : List Link) (n : ℕ) → depth_of (spine r t ls (holes n)) ≡ spine_depth r (depth_of t) ls
hole_depth r t [] n = refl
hole_depth r t (l ∷ ls) n =
    let u = argument_term r l.argument (at (holes n) (links_arity ls)) in
    hole_depth r (app t u) ls n ∙ ap (λ v. spine_depth r (max (depth_of t) (depth_of (argument_term r l.argument v)) + 1) ls) (leaf_at n (links_arity ls))

pub hole_size : (r : Tables) (t : Named) (ls : List Link) (n : ℕ) → size_of (spine r t ls (holes n)) ≡ spine_size r (size_of t) ls
hole_size r t [] n = refl
hole_size r t (l ∷ ls) n =
    let u = argument_term r l.argument (at (holes n) (links_arity ls)) in
    let e : size_of t + size_of u + 1 ≡ size_of t + (size_of u + 1) = omega arith in
    hole_size r (app t u) ls n ∙ ap (λ s. spine_size r s ls) e ∙ ap (λ v. spine_size r (size_of t + (size_of (argument_term r l.argument v) + 1)) ls) (leaf_at n (links_arity ls))

-- Each given argument stands.
argument_stands : (r : Tables) (c : ℕ) (x : Argument) (A B C : Bare) → IsArgument r c x A B C → argument_subject x < length r.shapes
argument_stands r c (Given j) A B C q = q.0.0
argument_stands r c (Left s) A B C q = q.0.0.0

pub first_stands : (r : Tables) (g : Goal) (t : ℕ) (all : List Link) (l : Link) (ls : List Link) → all ≡ l ∷ ls → LinksFit r g t all → (argument_subject l.argument < length r.shapes) × LinksFit r g l.after ls
first_stands r g t all l ls e q =
    let f = subst (LinksFit r g t) e q in
    (argument_stands r g.ctx l.argument (bare_at r.shapes l.domain) (bare_at r.shapes l.codomain) (bare_at r.shapes l.after) f.0.argument, f.1)

pub full_on : (r : Tables) (d : ℕ) (all : List Link) (l : Link) (ls : List Link) (o e : ℕ) → all ≡ l ∷ ls → o ≡ depth_of (argument_term r l.argument (sort 0)) → e ≡ max d o + 1 → spine_depth r e ls ≡ spine_depth r d all
full_on r d all l ls o e h p q = ap (λ e. spine_depth r e ls) (q ∙ ap (λ o. max d o + 1) p) ∙ sym (ap (spine_depth r d) h)

pub size_on : (r : Tables) (s : ℕ) (all : List Link) (l : Link) (ls : List Link) (o e : ℕ) → all ≡ l ∷ ls → o ≡ size_of (argument_term r l.argument (sort 0)) → e ≡ s + (o + 1) → spine_size r e ls ≡ spine_size r s all
size_on r s all l ls o e h p q = ap (λ e. spine_size r e ls) (q ∙ ap (λ o. s + (o + 1)) p) ∙ sym (ap (spine_size r s) h)

pub lefts_drop : (k : ℕ) (ls : List Link) → links_arity (drop k ls) ≤ links_arity ls
lefts_drop zero ls = omega arith
lefts_drop (suc k) [] = omega arith
lefts_drop (suc k) (l ∷ ls) = let e = lefts_drop k ls in omega (arith, e)

pub drop_length : {A : Type 0} (k : ℕ) (xs : List A) → k ≤ length xs → length (drop k xs) + k ≡ length xs
drop_length zero xs h = omega arith
drop_length (suc k) [] h = absurd (omega (arith, h))
drop_length (suc k) (x ∷ xs) h = let e = drop_length k xs (omega (arith, h)) in omega (arith, e)

pub all_dropped : {A : Type 0} (xs : List A) → drop (length xs) xs ≡ []
all_dropped [] = refl
all_dropped (x ∷ xs) = all_dropped xs

nothing_added : {A : Type 0} (xs : List A) → xs ++ [] ≡ xs
nothing_added [] = refl
nothing_added (x ∷ xs) = ap (λ l. x ∷ l) (nothing_added xs)

joined_lists : {A : Type 0} (xs ys zs : List A) → (xs ++ ys) ++ zs ≡ xs ++ (ys ++ zs)
joined_lists [] ys zs = refl
joined_lists (x ∷ xs) ys zs = ap (λ l. x ∷ l) (joined_lists xs ys zs)

pub open_start : (g : Goal) (hs : List Goal) (ls : List Link) → hs ≡ hs ++ link_goals g (drop (length ls) ls)
open_start g hs ls = sym (ap (λ ls. hs ++ link_goals g ls) (all_dropped ls) ∙ nothing_added hs)

pub open_on : (g : Goal) (hs now next : List Goal) (all : List Link) (l : Link) (ls : List Link) → all ≡ l ∷ ls → now ≡ hs ++ link_goals g ls → next ≡ now ++ argument_goals g (length ls) l.argument → next ≡ hs ++ link_goals g all
open_on g hs now next all l ls e p q = q ∙ ap (λ now. now ++ argument_goals g (length ls) l.argument) p ∙ joined_lists hs (link_goals g ls) (argument_goals g (length ls) l.argument) ∙ sym (ap (λ ls. hs ++ link_goals g ls) e)
