-- The arguments of a function, one after the other, and the whole command.
use Rattle.std.proofs.Common.{◌≡◌, ℕ, zero, suc, ◌+◌, ◌<◌, ◌≤◌, List, [], ◌∷◌, ◌++◌, length, map, drop, reverse, Option, None, Bool, true, false, Result, Ok, Err, refl, sym, ap, ap₂, ◌∙◌, subst, arith}
use Rattle.std.specs.Global.{Vec}
use Rattle.std.specs.Prelude.{pred, IfOk, IfSome, slice_index_or, if◌then◌else◌}
use Rattle.std.specs.Option.{option_map}
use Rattle.std.specs.Result.{IsErr, IsErrAnd}
use Rattle.std.proofs.lemmas.List.{reverse-append, length-append, length-reverse, map_push, drop_all}
use Rattle.std.proofs.lemmas.List.Elements.{All-nil, All-cons, All-head, All-tail, All-append, All-drop}
use Rattle.pts_terms.specs.Tree.{Named, Bare, bare, same_term}
use Rattle.pts_terms.proofs.Same.{same_term_eq}
use Rattle.pts_record.specs.declared.shape.Shape.{Shape}
use Rattle.pts_record.specs.Table.{Tables, bare_at}
use Rattle.pts_infer_cost.specs.Typing as typing
use Rattle.pts_infer_cost.specs.Typing.{comes}
use Rattle.pts_grow.specs.declared.judged.Judged.{Judged}
use Rattle.pts_grow.specs.Keeps.{Keeps}
use Rattle.pts_grow.specs.Judges.{Judges}
use Rattle.pts_grow.proofs.Grow.{tree_stays}
use Rattle.pts_grow.proofs.Plain.{plain}
use Rattle.pts_reduce.specs.Chain.{entries_of}
use Rattle.pts_infer.specs.declared.part.Part.TheVariants.{Whole}
use Rattle.pts_match.specs.declared.subterm.Subterm.{Subterm}
use Rattle.pts_match.specs.Matching.{AreClear, IsClear, values_of, value_of}
use Rattle.pts_goals.specs.declared.step.Goal.{Goal}
use Rattle.pts_goals.specs.declared.step.Link.{Link}
use Rattle.pts_goals.specs.declared.step.Argument.{Argument as StepArgument}
use Rattle.pts_goals.specs.declared.step.Argument.TheVariants.{Given, Left}
use Rattle.pts_goals.specs.declared.step.Step.{Step}
use Rattle.pts_goals.specs.declared.step.Step.TheVariants.{Apply}
use Rattle.pts_goals.specs.Steps.{IsArgument, IsLink, LinksFit}
use Rattle.pts_goals.proofs.Kept.{still_same, still_link}
use Rattle.pts_prove_cost.specs.Combining.{Free}
use Rattle.pts_prove_cost.specs.Refinement.{Argument, given, asked, by_application}
use Rattle.pts_prove_cost.specs.Commands.{of_term, no_match, limited, applies, searches, takes_arguments}
use Rattle.pts_prove_cost.proofs.OneOutcome.{one_free, one_inferred, one_search, one_next, one_arguments}
use Rattle.pts_prove.specs.declared.fault.ProveFault.{ProveFault}
use Rattle.pts_prove.specs.declared.fault.ProveFault.TheVariants as fault
use Rattle.pts_prove.specs.declared.work.Work.{Work}
use Rattle.pts_prove.specs.declared.work.Place.{Place}
use Rattle.pts_prove.specs.Answered.{Tells}
use Rattle.pts_prove.specs.Refining.{argument_of, refinement_of}
use Rattle.pts_prove.specs.Works.{Grown, IsPlace, HasTerm, IsAsked, IsJudged, FitsAt, Came, term_in, claim_in, sequent_at, inferring}
use Rattle.pts_prove.specs.Applications.{IsPattern, AreFound, IsFound, IsNext, IsChain, found_in, part_in, link_in, arguments_in, searching, applying_next, applying_all, applying_whole}
use Rattle.pts_prove.proofs.Running.{stops, goes_on, hands, comes_to, told}
use Rattle.pts_prove.proofs.Since.{entries_stay, term_stays, inferring_since, ended}
use Rattle.pts_prove.proofs.Working.{grown_trans, place_later, term_later}
use Rattle.pts_prove.proofs.Applied.{place_context, values_stay}

pred_next : (n : ℕ) → n ≡ pred (n + 1)
pred_next n = let e : n + 1 ≡ suc n = omega arith in ap pred (sym e)

-- Links that lead to one type lead to an equal one.
links_to : (r : Tables) (g h : Goal) (t : ℕ) (ls : List Link) → h.ctx ≡ g.ctx → bare_at r.shapes g.statement ≡ bare_at r.shapes h.statement → LinksFit r g t ls → LinksFit r h t ls
links_to r g h t [] c e f = f ∙ e
links_to r g h t (l ∷ ls) c e f = (subst (λ c. IsLink r c (bare_at r.shapes t) l) (sym c) f.0, links_to r g h l.after ls c e f.1)

-- One link more.
links_with : (r : Tables) (g h : Goal) (t : ℕ) (ls : List Link) (l : Link) → h.ctx ≡ g.ctx → IsLink r g.ctx (bare_at r.shapes g.statement) l → l.after ≡ h.statement → LinksFit r g t ls → LinksFit r h t (ls ++ l ∷ [])
links_with r g h t [] l c k e f =
    let x = subst (λ T. IsLink r g.ctx T l) (sym f) k in
    (subst (λ c. IsLink r c (bare_at r.shapes t) l) (sym c) x, ap (bare_at r.shapes) e)
links_with r g h t (m ∷ ls) l c k e f = (subst (λ c. IsLink r c (bare_at r.shapes t) m) (sym c) f.0, links_with r g h m.after ls l c k e f.1)

-- The links later.
links_later : (a b : Tables) (k : Keeps a b) (g : Goal) (t : ℕ) (ls : List Link) → g.ctx < length a.nodes → g.statement < length a.shapes → t < length a.shapes → LinksFit a g t ls → LinksFit b g t ls
links_later a b k g t [] c s p e = still_same a b k t g.statement p s e
links_later a b k g t (l ∷ ls) c s p f = (still_link a b k g.ctx t l c p f.0, links_later a b k g l.after ls c s f.0.after f.1)

argument_stays : (a b : Tables) (k : Keeps a b) (c : ℕ) (x : StepArgument) (A B C : Bare) → IsArgument a c x A B C → argument_of b x ≡ argument_of a x
argument_stays a b k c (Given j) A B C h = ap given (tree_stays a b j.subject k h.0.0)
argument_stays a b k c (Left s) A B C h = ap asked (tree_stays a b s.subject k h.0.0.0)

arguments_stay : (a b : Tables) (k : Keeps a b) (g : Goal) (t : ℕ) (ls : List Link) → LinksFit a g t ls → map (λ l. argument_of b l.argument) ls ≡ map (λ l. argument_of a l.argument) ls
arguments_stay a b k g t [] f = refl
arguments_stay a b k g t (l ∷ ls) f = ap₂ (λ x xs. x ∷ xs) (argument_stays a b k g.ctx l.argument _ _ _ f.0.argument) (arguments_stay a b k g l.after ls f.1)

-- A goal with a context and a statement.
abbrev some_goal : (c s : ℕ) → Goal
some_goal c s = record { names = []; ctx = c; statement = s; sorted = record { subject = 0; claim = 0; node = 0 }; place = 0 }

pub chain_starts : {w : Work} {c t : ℕ} {ls : List Link} → IsPlace w c → HasTerm w t → ls ≡ [] → IsChain w c t t ls
chain_starts {w} {c} {t} {ls} h q e = record {
  place = h;
  first = q;
  last = q;
  links = λ g i s. subst (LinksFit w.proof.now g t) (sym e) (ap (bare_at w.proof.now.shapes) (sym s));
}

pub chain_later : {a b : Work} {c t u : ℕ} {ls : List Link} → Grown a b → IsChain a c t u ls → IsChain b c t u ls
chain_later {a} {b} {c} {t} {u} {ls} k h = record {
  place = place_later k h.place;
  first = term_later k h.first;
  last = term_later k h.last;
  links = λ g i s. links_later a.proof.now b.proof.now k.keeps g t ls (subst (λ c. c < length a.proof.now.nodes) (sym i) h.place.there) (subst (λ s. s < length a.proof.now.shapes) (sym s) h.last.there) h.first.there (h.links g i s);
}

chain_with : {w : Work} {c t u : ℕ} {ls : List Link} {l : Link} → IsChain w c t u ls → IsNext w c u l → IsChain w c t l.after (ls ++ l ∷ [])
chain_with {w} {c} {t} {u} {ls} {l} h n = record {
  place = h.place;
  first = h.first;
  last = n.after;
  links = λ g i s. links_with w.proof.now (some_goal c u) g t ls l i n.link (sym s) (h.links (some_goal c u) refl refl);
}

pub chain_goes_on : {a b : Work} {c t u : ℕ} {ls ms : List Link} {l : Link} → Grown a b → IsChain a c t u ls → IsNext b c u l → ms ≡ ls ++ l ∷ [] → IsChain b c t l.after ms
chain_goes_on {b = b} {c} {t} {l = l} k h n e = subst (IsChain b c t l.after) (sym e) (chain_with (chain_later k h) n)

pub count_more : {ms : List Link} {n : ℕ} (ls : List Link) (l : Link) → ms ≡ ls ++ l ∷ [] → length ls ≡ n → length ms ≡ n + 1
count_more ls l e h = ap length e ∙ length-append ls (l ∷ []) ∙ ap (λ k. k + 1) h

pub count_turned : (r : Result (Vec Link) ProveFault) (ps qs : List (Option Subterm)) → qs ≡ reverse ps → IfOk r (λ ls. length ls.items ≡ length qs) → IfOk r (λ ls. length ls.items ≡ length ps)
count_turned r ps qs e h = subst (λ n. IfOk r (λ ls. length ls.items ≡ n)) (ap length e ∙ length-reverse ps) h

pub chain_ends : {w : Work} {p : Place} {t u : ℕ} {ls : List Link} → IsAsked w p → IsChain w p.ctx t u ls → same_term (bare_at w.proof.now.shapes u) (bare_at w.proof.now.shapes p.statement) ≡ true → IsChain w p.ctx t p.statement ls
chain_ends {w} {p} {t} {u} {ls} q h e = record {
  place = h.place;
  first = h.first;
  last = q.statement;
  links = λ g i s. links_to w.proof.now (some_goal p.ctx u) g t ls i (same_term_eq _ _ e ∙ ap (bare_at w.proof.now.shapes) (sym s)) (h.links (some_goal p.ctx u) refl refl);
}

-- Parts that were found.
pub part_found : {w : Work} (ps : List (Option Subterm)) (k i : ℕ) → AreFound w k ps → i < length ps → IsFound w (slice_index_or ps i None)
part_found ps k i h l = record { clear = h.clear i None l }

first_of_rest : (ps : List (Option Subterm)) (i : ℕ) → i < length ps → drop i ps ≡ slice_index_or ps i None ∷ drop (suc i) ps
first_of_rest [] i l = absurd (omega (arith, l))
first_of_rest (o ∷ ps) zero l = refl
first_of_rest (o ∷ ps) (suc i) l = first_of_rest ps i (omega (arith, l))

map_snoc : (r : Tables) (ls : List Link) (l : Link) → map (λ l. argument_of r l.argument) (ls ++ l ∷ []) ≡ map (λ l. argument_of r l.argument) ls ++ argument_of r l.argument ∷ []
map_snoc r [] l = refl
map_snoc r (m ∷ ls) l = ap (λ xs. argument_of r m.argument ∷ xs) (map_snoc r ls l)

-- No argument is left.
module _ (a : Work) (p : Place) (t i : ℕ) (ps : List (Option Subterm)) (ls : Vec Link) (e : i ≡ length ps) where
  nothing_left : {b : Bool} → b ≡ same_term (bare_at a.proof.now.shapes t) (bare_at a.proof.now.shapes p.statement) → Free (if b then comes (arguments_in a ls.items) else typing.stops (typing.by_flaw (no_match i))) ≡ applying_all a p t (drop i ps) (i + 1) ls.items
  nothing_left {b} h =
      let r = a.proof.now.shapes in
      let x = drop_all i ps (omega (arith, e)) in
      let y : i ≡ pred (i + 1) = pred_next i in
      let z : b ≡ same_term (bare (term_in a t)) (bare (term_in a p.statement)) = h ∙ ap₂ same_term (plain r t _ refl) (plain r p.statement _ refl) in
      ap (λ b. Free (if b then comes (arguments_in a ls.items) else typing.stops (typing.by_flaw (no_match i)))) z
      ∙ ap (λ n. Free (if same_term (bare (term_in a t)) (bare (term_in a p.statement)) then comes (arguments_in a ls.items) else typing.stops (typing.by_flaw (no_match n)))) y
      ∙ ap (λ qs. applying_all a p t qs (i + 1) ls.items) (sym x)

  pub all_arrived : same_term (bare_at a.proof.now.shapes t) (bare_at a.proof.now.shapes p.statement) ≡ true → Came a a (λ (ls : Vec Link). arguments_in a ls.items) (Ok ls) (applying_all a p t (drop i ps) (i + 1) ls.items)
  all_arrived h = comes_to (nothing_left (sym h)) (ended (arguments_in a ls.items) refl)

  pub all_elsewhere : {r : Result (Vec Link) ProveFault} {x : ProveFault} → IsErr r × IsErrAnd r (λ y. y ≡ x) → (x ≡ fault.NoMatch i) × (same_term (bare_at a.proof.now.shapes t) (bare_at a.proof.now.shapes p.statement) ≡ false) → Came a a (λ (ls : Vec Link). arguments_in a ls.items) r (applying_all a p t (drop i ps) (i + 1) ls.items)
  all_elsewhere {r} {x} l h =
      let d : Tells a.names.now (no_match i) x = subst (Tells a.names.now (no_match i)) (sym h.0) refl in
      let s : Came a a (λ (ls : Vec Link). arguments_in a ls.items) (Err x) (Free (typing.stops (typing.by_flaw (no_match i)))) = told d in
      hands l (comes_to (nothing_left (sym h.1)) s)

-- One argument more.
module _ (a b : Work) (p : Place) (t i : ℕ) (ps : List (Option Subterm)) (ls : List Link) (h : i < length ps) where
  one_left : takes_arguments a.system.now a.front.now.entries (entries_of a.proof.now p.ctx) (term_in a p.statement) (i + 1) (term_in a t) (values_of a.proof.now.shapes (slice_index_or ps i None ∷ drop (suc i) ps)) (arguments_in a ls) ≡ applying_all a p t (drop i ps) (i + 1) ls
  one_left = ap (λ qs. applying_all a p t qs (i + 1) ls) (sym (first_of_rest ps i h))

  pub next_stops : {r : Result (Vec Link) ProveFault} {e : ProveFault} → IsErr r × IsErrAnd r (λ y. y ≡ e) → Came a b (link_in b) (Err e) (applying_next a p.ctx t (slice_index_or ps i None) (i + 1)) → Came a b (λ (ls : Vec Link). arguments_in b ls.items) r (applying_all a p t (drop i ps) (i + 1) ls)
  next_stops l v = comes_to one_left (stops _ l v)

  pub next_goes_on : {d : Work} {l : Link} {ms : List Link} {first j : ℕ} {r : Result (Vec Link) ProveFault} → j ≡ i + 1 → Grown a b → IsAsked a p → AreFound a (length ps) ps → IsChain a p.ctx first t ls → ms ≡ ls ++ l ∷ [] → Came a b (link_in b) (Ok l) (applying_next a p.ctx t (slice_index_or ps i None) (i + 1)) → Came b d (λ (ls : Vec Link). arguments_in d ls.items) r (applying_all b p l.after (drop j ps) (j + 1) ms) → Came a d (λ (ls : Vec Link). arguments_in d ls.items) r (applying_all a p t (drop i ps) (i + 1) ls)
  next_goes_on {d} {l} {ms} {first} {j} {r} k g q f c e v u =
      let s = g.system in
      let y = g.front in
      let x1 = entries_stay a.proof.now b.proof.now p.ctx g.keeps q.place.there in
      let x2 = term_stays g q.statement in
      let x3 = values_stay a.proof.now b.proof.now (drop j ps) g.keeps (All-drop (λ o. IfSome o (IsClear a.proof.now.shapes)) j ps f.clear) in
      let x4 : arguments_in b ms ≡ arguments_in a ls ++ (link_in b l).0 ∷ [] = ap (arguments_in b) e ∙ map_snoc b.proof.now ls l ∙ ap (λ xs. xs ++ (link_in b l).0 ∷ []) (arguments_stay a.proof.now b.proof.now g.keeps (some_goal p.ctx t) first ls (c.links (some_goal p.ctx t) refl refl)) in
      let z : applying_all b p l.after (drop j ps) (j + 1) ms ≡ takes_arguments a.system.now a.front.now.entries (entries_of a.proof.now p.ctx) (term_in a p.statement) (j + 1) (link_in b l).1 (values_of a.proof.now.shapes (drop j ps)) (arguments_in a ls ++ (link_in b l).0 ∷ []) = rw (s, y, x1, x2, x3, x4) refl in
      let w : j + 1 ≡ suc (i + 1) = omega (arith, k) in
      let v1 : j ≡ suc i = omega (arith, k) in
      let o : drop j ps ≡ drop (suc i) ps = ap (λ n. drop n ps) v1 in
      let m = ap (λ n. takes_arguments a.system.now a.front.now.entries (entries_of a.proof.now p.ctx) (term_in a p.statement) n (link_in b l).1 (values_of a.proof.now.shapes (drop j ps)) (arguments_in a ls ++ (link_in b l).0 ∷ [])) w
      ∙ ap (λ qs. takes_arguments a.system.now a.front.now.entries (entries_of a.proof.now p.ctx) (term_in a p.statement) (suc (i + 1)) (link_in b l).1 (values_of a.proof.now.shapes qs) (arguments_in a ls ++ (link_in b l).0 ∷ [])) o in
      comes_to one_left (goes_on _ (one_next a.system.now a.front.now.entries (entries_of a.proof.now p.ctx) (i + 1) (term_in a t) (part_in a (slice_index_or ps i None))) v (comes_to (z ∙ m) u))

values_reversed : (ss : List Shape) (ps : List (Option Subterm)) → values_of ss (reverse ps) ≡ reverse (values_of ss ps)
values_reversed ss [] = refl
values_reversed ss (o ∷ ps) =
    ap (values_of ss) (reverse-append (o ∷ []) ps) ∙ map_push (option_map (value_of ss)) (reverse ps) o ∙ ap (λ l. l ++ option_map (value_of ss) o ∷ []) (values_reversed ss ps)
    ∙ sym (reverse-append (option_map (value_of ss) o ∷ []) (values_of ss ps))

-- All arguments.
pub whole_is : {X : Type 0} {a b : Work} {value : X → List Argument} {n : ℕ} {r : Result X ProveFault} (p : Place) (t : ℕ) (ps qs : List (Option Subterm)) (ls : List Link) → qs ≡ reverse ps → ls ≡ [] → n ≡ 0 → Came a b value r (applying_all a p t (drop n qs) (n + 1) ls) → Came a b value r (applying_whole a p t ps)
whole_is {a = a} p t ps qs ls e f z v =
    let x : applying_all a p t (drop 0 (reverse ps)) 1 [] ≡ applying_whole a p t ps = ap (λ s. takes_arguments a.system.now a.front.now.entries (entries_of a.proof.now p.ctx) (term_in a p.statement) 1 (term_in a t) s []) (values_reversed a.proof.now.shapes ps) in
    comes_to (rw (z, e, f) x) v

clear_reversed : (ss : List Shape) (ps : List (Option Subterm)) → AreClear ss ps → AreClear ss (reverse ps)
clear_reversed ss [] h = h
clear_reversed ss (o ∷ ps) h =
    subst (AreClear ss) (sym (reverse-append (o ∷ []) ps))
    (All-append (λ o. IfSome o (IsClear ss)) (reverse ps) (o ∷ []) (clear_reversed ss ps (All-tail (λ o. IfSome o (IsClear ss)) o ps h)) (All-cons (λ o. IfSome o (IsClear ss)) o [] (All-head (λ o. IfSome o (IsClear ss)) o ps h) (All-nil (λ o. IfSome o (IsClear ss)))))

pub found_reversed : {w : Work} {k n : ℕ} (ps qs : List (Option Subterm)) → qs ≡ reverse ps → AreFound w k ps → n ≡ length qs → AreFound w n qs
found_reversed {w} {k} {n} ps qs e h l = record { clear = subst (AreClear w.proof.now.shapes) (sym e) (clear_reversed w.proof.now.shapes ps h.clear); length = sym l }

-- The search later, for any number of products.
search_later : {a d : Work} {p : Place} (t n : ℕ) → Grown a d → IsAsked a p → searches d.front.now.entries (term_in d p.statement) n 0 (entries_of d.proof.now p.ctx) (term_in d t) ≡ searches a.front.now.entries (term_in a p.statement) n 0 (entries_of a.proof.now p.ctx) (term_in d t)
search_later {a} {d} {p} t n o q =
    let y = o.front in
    let x1 = entries_stay a.proof.now d.proof.now p.ctx o.keeps q.place.there in
    let x2 = term_stays o q.statement in
    rw (y, x1, x2) refl

-- The whole command.
module _ {a b : Work} {p : Place} {t : ℕ} (T : Named) (q : IsAsked a p) (g : Grown a b) (w : Came a b (term_in b) (Ok t) (limited T)) where
  pub apply_uninferred : {d : Work} {r : Result Step ProveFault} {e : ProveFault} → IsErr r × IsErrAnd r (λ y. y ≡ e) → Came b d (claim_in d) (Err e) (inferring b p.ctx Whole t) → Came a d (refinement_of d.proof.now) r (applies a.system.now a.front.now.entries (sequent_at a p) T)
  apply_uninferred i v = goes_on _ (one_free _) w (stops _ i (comes_to (inferring_since Whole t g q.place) v))

  module _ {d : Work} {f : Judged} (k : Grown b d) (v : Came b d (claim_in d) (Ok f) (inferring b p.ctx Whole t)) where
    search_since : searching d (record { ctx = p.ctx; ty = f.claim; taken = 0 }) p.statement ≡ searches a.front.now.entries (term_in a p.statement) 2000 0 (entries_of a.proof.now p.ctx) (claim_in d f)
    search_since = search_later f.claim 2000 (grown_trans g k) q

    pub apply_unmatched : {m : Work} {r : Result Step ProveFault} {e : ProveFault} → IsErr r × IsErrAnd r (λ y. y ≡ e) → Came d m (found_in m) (Err e) (searching d (record { ctx = p.ctx; ty = f.claim; taken = 0 }) p.statement) → Came a m (refinement_of m.proof.now) r (applies a.system.now a.front.now.entries (sequent_at a p) T)
    apply_unmatched i u =
        goes_on _ (one_free _) w (
        goes_on _ (one_inferred a.system.now a.front.now.entries (entries_of a.proof.now p.ctx) of_term (term_in b t)) (comes_to (inferring_since Whole t g q.place) v) (
        stops _ i (comes_to search_since u)))

    module _ {m : Work} {ps : Vec (Option Subterm)} (l : Grown d m) (h : HasTerm d f.claim) (u : Came d m (found_in m) (Ok ps) (searching d (record { ctx = p.ctx; ty = f.claim; taken = 0 }) p.statement)) where
      whole_since : applying_whole m p f.claim ps.items ≡ takes_arguments a.system.now a.front.now.entries (entries_of a.proof.now p.ctx) (term_in a p.statement) 1 (claim_in d f) (reverse (found_in m ps)) []
      whole_since =
          let o = grown_trans (grown_trans g k) l in
          let y = o.front in
          let s = o.system in
          let x1 = entries_stay a.proof.now m.proof.now p.ctx o.keeps q.place.there in
          let x2 = term_stays o q.statement in
          let x3 = term_stays l h in
          rw (y, s, x1, x2, x3) refl

      pub apply_refused : {n : Work} {r : Result Step ProveFault} {e : ProveFault} → IsErr r × IsErrAnd r (λ y. y ≡ e) → Came m n (λ (ls : Vec Link). arguments_in n ls.items) (Err e) (applying_whole m p f.claim ps.items) → Came a n (refinement_of n.proof.now) r (applies a.system.now a.front.now.entries (sequent_at a p) T)
      apply_refused i z =
          goes_on _ (one_free _) w (
          goes_on _ (one_inferred a.system.now a.front.now.entries (entries_of a.proof.now p.ctx) of_term (term_in b t)) (comes_to (inferring_since Whole t g q.place) v) (
          goes_on _ (one_search a.front.now.entries (term_in a p.statement) 2000 0 (entries_of a.proof.now p.ctx) (claim_in d f)) (comes_to search_since u) (
          stops _ i (comes_to whole_since z))))

      pub apply_comes : {n : Work} {vs : Vec Link} {ls : List Link} → Grown m n → f.subject ≡ t → HasTerm b t → ls ≡ vs.items → Came m n (λ (ls : Vec Link). arguments_in n ls.items) (Ok vs) (applying_whole m p f.claim ps.items) → Came a n (refinement_of n.proof.now) (Ok (Apply f ls)) (applies a.system.now a.front.now.entries (sequent_at a p) T)
      apply_comes {n} {vs} {ls} o e j c z =
          let y : term_in n f.subject ≡ term_in b t = ap (term_in n) e ∙ term_stays (grown_trans (grown_trans k l) o) j in
          let x : refinement_of n.proof.now (Apply f ls) ≡ by_application (term_in b t) (arguments_in n vs.items) = rw (y, c) refl in
          goes_on _ (one_free _) w (
          goes_on _ (one_inferred a.system.now a.front.now.entries (entries_of a.proof.now p.ctx) of_term (term_in b t)) (comes_to (inferring_since Whole t g q.place) v) (
          goes_on _ (one_search a.front.now.entries (term_in a p.statement) 2000 0 (entries_of a.proof.now p.ctx) (claim_in d f)) (comes_to search_since u) (
          goes_on _ (one_arguments a.system.now a.front.now.entries (entries_of a.proof.now p.ctx) (term_in a p.statement) 1 (claim_in d f) (reverse (found_in m ps)) []) (comes_to whole_since z) (
          ended (by_application (term_in b t) (arguments_in n vs.items)) x))))

pub first_pattern : {w : Work} {p : Place} {t : ℕ} → IsAsked w p → HasTerm w t → IsPattern w (record { ctx = p.ctx; ty = t; taken = 0 })
first_pattern q h =
    let n : 0 ≤ 2000 = omega arith in
    record { ctx = place_context q.place; ty = h; few = n }

pub apply_fits : {w : Work} {p : Place} {t n : ℕ} {f : Judged} {ls : List Link} (ms : List Link) → ls ≡ ms → IsJudged w p.ctx t f → length ms ≡ n → n ≤ 2000 → IsChain w p.ctx f.claim p.statement ms → FitsAt w p (Apply f ls)
apply_fits {w} {p} {t} {n} {f} {ls} ms e h l m k =
    let few : length ls ≤ 2000 = subst (λ xs. length xs ≤ 2000) (sym e) (subst (λ n. n ≤ 2000) (sym l) m) in
    record {
      fits = λ g c s. (subst (λ c. Judges w.proof.now c f) (sym c) h.judges, few, subst (LinksFit w.proof.now g f.claim) (sym e) (k.links g c s));
    }

pub ruleset linking = (chain_later, part_found)
