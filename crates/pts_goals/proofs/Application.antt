-- One application of a spine.
use Rattle.std.proofs.Common.{◌≡◌, ℕ, zero, suc, ◌<◌, ◌≤◌, ◌+◌, ◌-◌, List, [], ◌∷◌, ◌++◌, length, refl, sym, ap, ◌∙◌, subst, true, arith}
use Rattle.std.specs.Prelude.{slice_get, slice_index_or, map, take, drop}
use mathlib.Core.Path.{ap₂}
use Rattle.pts_terms.specs.Tree.{Named, Bare, app, lift, subst as put_in}
use Rattle.pts_terms.specs.Limits.{within}
use Rattle.pts_record.specs.Table.{Tables, named_at, bare_at, at}
use Rattle.pts_grow.specs.Keeps.{Keeps}
use Rattle.pts_grow.specs.declared.judged.Judged.{Judged}
use Rattle.pts_grow.specs.Judges.{Judges}
use Rattle.pts_goals.specs.declared.step.Goal.{Goal}
use Rattle.pts_goals.specs.declared.step.Link.{Link}
use Rattle.pts_goals.specs.declared.step.Argument.{Argument}
use Rattle.pts_goals.specs.declared.step.Argument.TheVariants.{Given, Left}
use Rattle.pts_goals.specs.Steps.{IsGoal, Closes, IsArgument, IsLink, LinksFit, argument_goals, link_goals, argument_arity, links_arity, argument_term, spine}
use Rattle.pts_goals.specs.OpenGoals.{AllClose, subjects_of}
use Rattle.pts_goals.specs.Parts.{pick, OnSpine}
use Rattle.pts_goals.proofs.Within.{put_back_at}
use Rattle.pts_goals.proofs.Parts.{all_length}
use Rattle.pts_goals.proofs.Kept.{still_links, still_closes}
use Rattle.pts_goals.proofs.Backward.{map_take, close_before, close_behind, still_close, still_terms, still_chain, links_many, links_goals, chain_head}

module _ {A : Type 0} where
  take_all : (xs : List A) → take (length xs) xs ≡ xs
  take_all [] = refl
  take_all (x ∷ xs) = ap (λ l. x ∷ l) (take_all xs)

  take_take : (n m : ℕ) (xs : List A) → take n (take (n + m) xs) ≡ take n xs
  take_take zero m xs = refl
  take_take (suc n) m [] = let e : suc n + m ≡ suc (n + m) = omega arith in ap (λ k. take (suc n) (take k [])) e
  take_take (suc n) m (x ∷ xs) = let e : suc n + m ≡ suc (n + m) = omega arith in ap (λ k. take (suc n) (take k (x ∷ xs))) e ∙ ap (λ l. x ∷ l) (take_take n m xs)

  pub drop_at : (k : ℕ) (xs : List A) (x : A) → k < length xs → x ≡ slice_index_or xs k x → drop k xs ≡ x ∷ drop (suc k) xs
  drop_at k [] x h e = absurd (omega (arith, h))
  drop_at zero (y ∷ xs) x h e = ap (λ y. y ∷ xs) (sym e)
  drop_at (suc k) (y ∷ xs) x h e = drop_at k xs x (omega (arith, h)) e

  last_part : (n : ℕ) (xs : List A) (d : A) → n < length xs → drop n (take (suc n) xs) ≡ slice_index_or xs n d ∷ []
  last_part n [] d h = absurd (omega (arith, h))
  last_part zero (x ∷ xs) d h = refl
  last_part (suc n) (x ∷ xs) d h = last_part n xs d (omega (arith, h))

at_part : (f : Judged → Named) (n : ℕ) (js : List Judged) (d : Judged) → n < length js → at (map f (take (suc n) js)) n ≡ f (slice_index_or js n d)
at_part f n [] d h = absurd (omega (arith, h))
at_part f zero (j ∷ js) d h = refl
at_part f (suc n) (j ∷ js) d h = at_part f n js d (omega (arith, h))

-- Only the terms of its goals matter to a spine.
at_same : (n m : ℕ) (ts us : List Named) → take (n + suc m) ts ≡ take (n + suc m) us → at ts n ≡ at us n
at_same zero m [] [] e = refl
at_same zero m [] (u ∷ us) e = let z : zero + suc m ≡ suc m = omega arith in let f : take (suc m) [] ≡ take (suc m) (u ∷ us) = subst (λ k. take k [] ≡ take k (u ∷ us)) z e in absurd (cc f)
at_same zero m (t ∷ ts) [] e = let z : zero + suc m ≡ suc m = omega arith in let f : take (suc m) (t ∷ ts) ≡ take (suc m) [] = subst (λ k. take k (t ∷ ts) ≡ take k []) z e in absurd (cc f)
at_same zero m (t ∷ ts) (u ∷ us) e = let z : zero + suc m ≡ suc m = omega arith in let f : t ∷ take m ts ≡ u ∷ take m us = subst (λ k. take k (t ∷ ts) ≡ take k (u ∷ us)) z e in cc f
at_same (suc n) m [] [] e = refl
at_same (suc n) m [] (u ∷ us) e = let z : suc n + suc m ≡ suc (n + suc m) = omega arith in let f : take (suc (n + suc m)) [] ≡ take (suc (n + suc m)) (u ∷ us) = subst (λ k. take k [] ≡ take k (u ∷ us)) z e in absurd (cc f)
at_same (suc n) m (t ∷ ts) [] e = let z : suc n + suc m ≡ suc (n + suc m) = omega arith in let f : take (suc (n + suc m)) (t ∷ ts) ≡ take (suc (n + suc m)) [] = subst (λ k. take k (t ∷ ts) ≡ take k []) z e in absurd (cc f)
at_same (suc n) m (t ∷ ts) (u ∷ us) e = let z : suc n + suc m ≡ suc (n + suc m) = omega arith in let f : t ∷ take (n + suc m) ts ≡ u ∷ take (n + suc m) us = subst (λ k. take k (t ∷ ts) ≡ take k (u ∷ us)) z e in let g : take (n + suc m) ts ≡ take (n + suc m) us = cc f in at_same n m ts us g

less_same : (n m : ℕ) (ts us : List Named) → take (n + m) ts ≡ take (n + m) us → take n ts ≡ take n us
less_same n m ts us e = sym (take_take n m ts) ∙ ap (take n) e ∙ take_take n m us

chain_same : (r : Tables) (t : Named) (ls : List Link) (ts us : List Named) → take (links_arity ls) ts ≡ take (links_arity ls) us → spine r t ls ts ≡ spine r t ls us
chain_same r t [] ts us e = refl
chain_same r t (l ∷ ls) ts us e =
    ap (λ a. spine r (app t a) ls ts) (go l.argument e)
    ∙ chain_same r (app t (argument_term r l.argument (at us (links_arity ls)))) ls ts us (less_same (links_arity ls) (argument_arity l.argument) ts us e) where
      go : (x : Argument) → take (links_arity ls + argument_arity x) ts ≡ take (links_arity ls + argument_arity x) us → argument_term r x (at ts (links_arity ls)) ≡ argument_term r x (at us (links_arity ls))
      go (Given j) e = refl
      go (Left s) e = at_same (links_arity ls) 0 ts us e

links_same : (r : Tables) (g : Goal) (t u : ℕ) (ls : List Link) → bare_at r.shapes t ≡ bare_at r.shapes u → LinksFit r g t ls → LinksFit r g u ls
links_same r g t u [] e f = sym e ∙ f
links_same r g t u (l ∷ ls) e f = (subst (λ T. IsLink r g.ctx T l) e f.0, f.1)

-- The argument of the first link.
module _ (p : Tables) (g : Goal) (n : IsGoal p g) (j : Judged) (l : Link) (ls : List Link) (parts : List Judged) (t : Named) (w : within t ≡ true) (m : links_arity ls + argument_arity l.argument ≤ length parts) (c : OnSpine p g j (l ∷ ls) parts t) where
  abbrev pub the_argument : Judged
  the_argument = pick l.argument parts (links_arity ls)

  closes_here : (x : Argument) → links_arity ls + argument_arity x ≤ length parts → AllClose p (argument_goals g (length ls) x) (drop (links_arity ls) (take (links_arity ls + argument_arity x) parts)) → (A B C : Bare) → IsArgument p g.ctx x A B C → Judges p g.ctx (pick x parts (links_arity ls)) × (bare_at p.shapes (pick x parts (links_arity ls)).claim ≡ A) × (C ≡ put_in 0 (bare_at p.shapes (pick x parts (links_arity ls)).subject) B)
  closes_here (Given i) h a A B C q = q
  closes_here (Left s) h a A B C (u, e, f) =
      let z : links_arity ls + 1 ≡ suc (links_arity ls) = omega arith in
      let b = subst (λ k. AllClose p (argument_goals g (length ls) (Left s)) (drop (links_arity ls) (take k parts))) z a in
      let d = subst (AllClose p (argument_goals g (length ls) (Left s))) (last_part (links_arity ls) parts s (omega (arith, h))) b in
      (d.0.judges, d.0.claim ∙ e, put_back_at (bare_at p.shapes (slice_index_or parts (links_arity ls) s).subject) C B C f refl)

  behind : AllClose p (argument_goals g (length ls) l.argument) (drop (links_arity ls) (take (links_arity ls + argument_arity l.argument) parts))
  behind = subst (λ k. AllClose p (argument_goals g (length ls) l.argument) (drop k (take (links_arity ls + argument_arity l.argument) parts))) (links_many g ls) (close_behind p (link_goals g ls) (argument_goals g (length ls) l.argument) (take (links_arity ls + argument_arity l.argument) parts) c.closes)

  front : AllClose p (link_goals g ls) (take (links_arity ls) parts)
  front = subst (AllClose p (link_goals g ls)) (ap (λ k. take k (take (links_arity ls + argument_arity l.argument) parts)) (links_many g ls) ∙ take_take (links_arity ls) (argument_arity l.argument) parts) (close_before p (link_goals g ls) (argument_goals g (length ls) l.argument) (take (links_arity ls + argument_arity l.argument) parts) c.closes)

  pub argument_facts : Judges p g.ctx the_argument × (bare_at p.shapes the_argument.claim ≡ bare_at p.shapes l.domain) × (bare_at p.shapes l.after ≡ put_in 0 (bare_at p.shapes the_argument.subject) (bare_at p.shapes l.codomain))
  argument_facts = closes_here l.argument m behind (bare_at p.shapes l.domain) (bare_at p.shapes l.codomain) (bare_at p.shapes l.after) c.fits.0.argument

  abbrev pub here : Named
  here = app (named_at p.shapes j.subject) (named_at p.shapes the_argument.subject)

  same_argument : (x : Argument) → links_arity ls + argument_arity x ≤ length parts → argument_term p x (at (subjects_of p (take (links_arity ls + argument_arity x) parts)) (links_arity ls)) ≡ named_at p.shapes (pick x parts (links_arity ls)).subject
  same_argument (Given i) h = refl
  same_argument (Left s) h =
      let z : links_arity ls + 1 ≡ suc (links_arity ls) = omega arith in
      ap (λ k. at (subjects_of p (take k parts)) (links_arity ls)) z ∙ at_part (λ j. named_at p.shapes j.subject) (links_arity ls) parts s (omega (arith, h))

  fewer : take (links_arity ls) (subjects_of p (take (links_arity ls + argument_arity l.argument) parts)) ≡ take (links_arity ls) (subjects_of p (take (links_arity ls) parts))
  fewer =
      let f : Judged → Named = λ j. named_at p.shapes j.subject in
      let a = sym (map_take f (links_arity ls) (take (links_arity ls + argument_arity l.argument) parts)) ∙ ap (map f) (take_take (links_arity ls) (argument_arity l.argument) parts) in
      let z : links_arity ls + 0 ≡ links_arity ls = omega arith in
      let b : take (links_arity ls) (take (links_arity ls) parts) ≡ take (links_arity ls) parts = ap (λ k. take (links_arity ls) (take k parts)) (sym z) ∙ take_take (links_arity ls) 0 parts in
      a ∙ sym (sym (map_take f (links_arity ls) (take (links_arity ls) parts)) ∙ ap (map f) b)

  went : spine p here ls (subjects_of p (take (links_arity ls) parts)) ≡ t
  went =
      sym (chain_same p here ls (subjects_of p (take (links_arity ls + argument_arity l.argument) parts)) (subjects_of p (take (links_arity ls) parts)) fewer)
      ∙ ap (λ a. spine p (app (named_at p.shapes j.subject) a) ls (subjects_of p (take (links_arity ls + argument_arity l.argument) parts))) (sym (same_argument l.argument m))
      ∙ c.term

  pub here_within : within here ≡ true
  here_within = chain_head p here ls (subjects_of p (take (links_arity ls) parts)) (subst (λ t. within t ≡ true) (sym went) w)

  pub chain_on : (q : Tables) (i : Judged) → Keeps p q → Judges q g.ctx i → bare_at q.shapes i.claim ≡ bare_at q.shapes l.after → named_at q.shapes i.subject ≡ here → OnSpine q g i ls parts t
  chain_on q i k a e h =
      let r = still_links p q k g l.after ls n c.fits.0.after c.fits.1 in
      let ns = links_goals p g l.after ls n c.fits.1 in
      let x = still_chain p q k g l.after (named_at q.shapes i.subject) here ls (subjects_of q (take (links_arity ls) parts)) h c.fits.1 in
      let y = still_terms p q k (link_goals g ls) (take (links_arity ls) parts) front in
      record {
        judges = a;
        fits = links_same q g l.after i.claim ls (sym e) r;
        closes = still_close p q k (link_goals g ls) (take (links_arity ls) parts) ns front;
        term = x ∙ ap (spine p here ls) y ∙ went;
      }

-- The start and the end of a spine.
pub starts : (p : Tables) (g : Goal) (j : Judged) (ls : List Link) (parts : List Judged) → Judges p g.ctx j → LinksFit p g j.claim ls → AllClose p (link_goals g ls) parts → OnSpine p g j ls parts (spine p (named_at p.shapes j.subject) ls (subjects_of p parts)) × (length parts ≡ links_arity ls)
starts p g j ls parts q f c =
    let n : length parts ≡ links_arity ls = all_length p (link_goals g ls) parts c ∙ links_many g ls in
    let e : take (links_arity ls) parts ≡ parts = ap (λ k. take k parts) (sym n) ∙ take_all parts in (
      record {
        judges = q;
        fits = f;
        closes = subst (AllClose p (link_goals g ls)) (sym e) c;
        term = ap (λ js. spine p (named_at p.shapes j.subject) ls (subjects_of p js)) e;
      },
      n,
    )

pub ends : (p : Tables) (g : Goal) (j : Judged) (ls : List Link) (parts : List Judged) (t : Named) → OnSpine p g j ls parts t → ls ≡ [] → Closes p g j × (named_at p.shapes j.subject ≡ t)
ends p g j ls parts t c e =
    let d = subst (λ ls. OnSpine p g j ls parts t) e c in
    (record { judges = d.judges; claim = d.fits }, d.term)

pub taken_at : {A : Type 0} (k : ℕ) (xs : List A) (d : A) → k < length xs → drop k xs ≡ slice_index_or xs k d ∷ drop (k + 1) xs
taken_at k [] d h = absurd (omega (arith, h))
taken_at zero (y ∷ xs) d h = refl
taken_at (suc k) (y ∷ xs) d h = let e : suc k + 1 ≡ suc (k + 1) = omega arith in taken_at k xs d (omega (arith, h)) ∙ ap (λ n. slice_index_or xs k d ∷ drop n (y ∷ xs)) (sym e)

-- One turn of the loop over the links.
module _ (p : Tables) (g : Goal) (n : IsGoal p g) (j : Judged) (all : List Link) (l : Link) (ls : List Link) (parts : List Judged) (t : Named) (w : within t ≡ true) (e : all ≡ l ∷ ls) (left a : ℕ) (h : left ≡ links_arity all) (k : left ≤ length parts) (b : a ≡ argument_arity l.argument) (c : OnSpine p g j all parts t) where
  here_left : left ≡ links_arity ls + argument_arity l.argument
  here_left = h ∙ ap links_arity e

  pub left_enough : a ≤ left
  left_enough = let x = here_left in omega (arith, x, b)

  pub left_after : left - a ≡ links_arity ls
  left_after = let x = here_left in omega (arith, x, b)

  pub left_room : (left - a) + argument_arity l.argument ≤ length parts
  left_room = let x = here_left in omega (arith, x, b, k)

  room : links_arity ls + argument_arity l.argument ≤ length parts
  room = let x = here_left in omega (arith, x, k)

  on : OnSpine p g j (l ∷ ls) parts t
  on = subst (λ ls. OnSpine p g j ls parts t) e c

  pub turn_link : IsLink p g.ctx (bare_at p.shapes j.claim) l
  turn_link = on.fits.0

  module _ (x : Judged) (q : x ≡ pick l.argument parts (left - a)) where
    is_it : the_argument p g n j l ls parts t w room on ≡ x
    is_it = ap (pick l.argument parts) (sym left_after) ∙ sym q

    facts : Judges p g.ctx x × (bare_at p.shapes x.claim ≡ bare_at p.shapes l.domain) × (bare_at p.shapes l.after ≡ put_in 0 (bare_at p.shapes x.subject) (bare_at p.shapes l.codomain))
    facts = subst (λ x. Judges p g.ctx x × (bare_at p.shapes x.claim ≡ bare_at p.shapes l.domain) × (bare_at p.shapes l.after ≡ put_in 0 (bare_at p.shapes x.subject) (bare_at p.shapes l.codomain))) is_it (argument_facts p g n j l ls parts t w room on)

    pub turn_argument : Judges p g.ctx x
    turn_argument = facts.0

    pub turn_claim : bare_at p.shapes x.claim ≡ bare_at p.shapes l.domain
    turn_claim = facts.1

    pub turn_put : bare_at p.shapes l.after ≡ put_in 0 (bare_at p.shapes x.subject) (bare_at p.shapes l.codomain)
    turn_put = facts.2

    pub turn_within : within (app (named_at p.shapes j.subject) (named_at p.shapes x.subject)) ≡ true
    turn_within = subst (λ x. within (app (named_at p.shapes j.subject) (named_at p.shapes x.subject)) ≡ true) is_it (here_within p g n j l ls parts t w room on)

    pub turn_chain : (q : Tables) (i : Judged) → Keeps p q → Judges q g.ctx i → i.claim ≡ l.after → named_at q.shapes i.subject ≡ app (named_at p.shapes j.subject) (named_at p.shapes x.subject) → OnSpine q g i ls parts t
    turn_chain q i k a e h = chain_on p g n j l ls parts t w room on q i k a (ap (bare_at q.shapes) e) (h ∙ ap (λ x. app (named_at p.shapes j.subject) (named_at p.shapes x.subject)) (sym is_it))

pub no_more : {A : Type 0} (k : ℕ) (xs : List A) → length xs ≤ k → drop k xs ≡ []
no_more zero [] h = refl
no_more (suc k) [] h = refl
no_more zero (x ∷ xs) h = absurd (omega (arith, h))
no_more (suc k) (x ∷ xs) h = no_more k xs (omega (arith, h))
