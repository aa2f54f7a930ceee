-- Parentheses that are one too many stand in the terms of a text.
use Rattle.std.proofs.Common.{ℕ, ◌≡◌, refl, sym, ◌∙◌, ap, subst, List, [], ◌∷◌, ◌++◌, false, Some, None, append_assoc}
use Rattle.pts_tokens.specs.declared.token.Token.TheVariants.{Open}
use Rattle.pts_tokens.specs.Tokens.{Spot}
use Rattle.pts_grammar.specs.Syntax.{Syntax}
use Rattle.pts_grammar.specs.Grammar.{Reads}
use Rattle.pts_grammar.specs.Machine.{syntax, State, begin, Move, go, stay, fail, deep, ParseOutcome, read, too_deep, step, run}
use Rattle.pts_grammar.specs.Open.{more}
use Rattle.pts_grammar.specs.Refusals as grammar
use Rattle.pts_grammar.proofs.Complete.{follow, Ends, continues, Agrees, exactly, cut_off}
use Rattle.pts_grammar.proofs.Sound.{always}
use Rattle.pts_grammar.proofs.Reach.{bound_cuts, reach}
use Rattle.pts_grammar.proofs.Refusals.{viable_here}
use Rattle.pts_grammar.proofs.TooDeep.{too_deep_is_too_many, none_too_many}
use Rattle.pts_lines.specs.Refusals.{CanGoOn, too_many, NoneTooMany, FirstTooMany, first_too_many}
use Rattle.pts_lines.proofs.Marks.{nothing_marked, Side, in_front, in_rest, side}

-- Where the machine comes by the front of tokens with which a term begins: to a state, or behind the term.
pub data Comes (S : State Syntax) (vs us : List Spot) (T : Syntax) (rest : List Spot) : Type 0 where
  comes_to : (R : State Syntax) → reach S vs ≡ Some R → Comes S vs us T rest
  comes_behind : (x : Spot) (ws : List Spot) → rest ≡ x ∷ (ws ++ us) → ((n : ℕ) (xs : List Spot) → run syntax always n S (vs ++ xs) ≡ read T (x ∷ (ws ++ xs))) → Comes S vs us T rest

comes_move : (t : Spot) (vs us : List Spot) (T : Syntax) (rest : List Spot) (S : State Syntax) → ((Q : State Syntax) → run syntax always 0 Q (vs ++ us) ≡ read T rest → Comes Q vs us T rest) → (m : Move Syntax) → step syntax always S t ≡ m → follow always 0 m t (vs ++ us) ≡ read T rest → Comes S (t ∷ vs) us T rest
unfolding follow
comes_move t vs us T rest S ih (go Q) e h = by (ih Q h)
  where
    by : Comes Q vs us T rest → Comes S (t ∷ vs) us T rest
    by (comes_to R g) = comes_to R (ap (λ m. elim m [ go P ↦ reach P vs | stay U ↦ None | fail k ↦ None | deep ↦ None ]) e ∙ g)
    by (comes_behind x ws r f) = comes_behind x ws r (λ n xs. ap (λ m. follow always n m t (vs ++ xs)) e ∙ f n xs)
comes_move t vs us T rest S ih (stay U) e h =
    let terms : U ≡ T = cc h in
    let rests : t ∷ (vs ++ us) ≡ rest = cc h in
    comes_behind t vs (sym rests) (λ n xs. ap (λ m. follow always n m t (vs ++ xs)) e ∙ ap (λ V. read V (t ∷ (vs ++ xs))) terms)
comes_move t vs us T rest S ih (fail k) e h = absurd (cc h)
comes_move t vs us T rest S ih deep e h = absurd (cc h)

pub comes : (vs us : List Spot) (T : Syntax) (rest : List Spot) (S : State Syntax) → run syntax always 0 S (vs ++ us) ≡ read T rest → Comes S vs us T rest
unfolding follow
comes [] us T rest S h = comes_to S refl
comes (t ∷ vs) us T rest S h = comes_move t vs us T rest S (λ Q q. comes vs us T rest Q q) (step syntax always S t) refl h

-- None is in tokens with which the machine comes behind no term, if it is not cut off.
pub none_inside : (Is : List Spot → Type 0) (begins : (ts : List Spot) → Is ts → (T : Syntax) × (rest : List Spot) × (run syntax always 0 (begin []) ts ≡ read T rest)) (size : ℕ) (ts : List Spot) (o : ParseOutcome Syntax) → run syntax more size (begin []) ts ≡ o → ((q : ℕ) → ¬ (o ≡ too_deep q)) → ((T : Syntax) (x : Spot) (ws : List Spot) → ¬ (o ≡ read T (x ∷ ws))) → NoneTooMany Is 2000 ts
none_inside Is begins size ts o e shallow whole p (too_many vs us s (xs, d) n) = let b = begins _ d in by b.0 b.1 (comes (vs ++ (p, Open) ∷ []) xs b.0 b.1 (begin []) b.2)
  where
    behind : (T : Syntax) (x : Spot) (ws : List Spot) → run syntax always size (begin []) ts ≡ read T (x ∷ ws) → Agrees (run syntax more size (begin []) ts) (run syntax always size (begin []) ts) → ⊥
    behind T x ws h (exactly g) = whole T x ws (sym e ∙ (g ∙ h))
    behind T x ws h (cut_off q g) = shallow q (sym e ∙ g)

    by : (T : Syntax) (rest : List Spot) → Comes (begin []) (vs ++ (p, Open) ∷ []) xs T rest → ⊥
    by T rest (comes_to R g) = none_too_many 2000 size ts o e shallow p (grammar.too_many vs us s (viable_here (vs ++ (p, Open) ∷ []) R g) n)
    by T rest (comes_behind x ws r f) = behind T x (ws ++ us) (ap (run syntax always size (begin [])) (s ∙ sym (append_assoc vs ((p, Open) ∷ []) us)) ∙ f size us) (bound_cuts more size ts (begin []))

viable_front : (vs ws : List Spot) → grammar.Viable (vs ++ ws) → grammar.Viable vs
viable_front vs ws (us, T, d) = (ws ++ us, T, subst (λ l. Reads l T []) (append_assoc vs ws us) d)

-- The first in a term is the first in a text that the term begins.
pub first_inside : (Is : List Spot → Type 0) (inside : (vs us : List Spot) (T : Syntax) → Reads (vs ++ us) T [] → CanGoOn Is vs) (size : ℕ) (ts : List Spot) (p : ℕ) → run syntax more size (begin []) ts ≡ too_deep p → FirstTooMany Is 2000 ts p
first_inside Is inside size ts p h = by (too_deep_is_too_many 2000 size p ts h)
  where
    none : (vs : List Spot) → grammar.Viable (vs ++ (p, Open) ∷ []) → grammar.NoneTooMany 2000 vs → NoneTooMany Is 2000 vs
    none vs v few q (too_many ws zs e d n) = few q (grammar.too_many ws zs e (viable_front (ws ++ (q, Open) ∷ []) (zs ++ (p, Open) ∷ []) (subst grammar.Viable (ap (λ x. x ++ (p, Open) ∷ []) e ∙ (append_assoc ws ((q, Open) ∷ zs) ((p, Open) ∷ []) ∙ sym (append_assoc ws ((q, Open) ∷ []) (zs ++ (p, Open) ∷ [])))) v)) n)

    by : grammar.FirstTooMany 2000 ts p → FirstTooMany Is 2000 ts p
    by (grammar.first_too_many vs us e v n few) = first_too_many vs us e (inside _ v.0 v.1 v.2) n (none vs v few)

-- None is in a term that was read, nor is the token behind it one.
pub none_before : (Is : List Spot → Type 0) (ts vs us : List Spot) (s : Spot) (T : Syntax) → grammar.NoneTooMany 2000 ts → ts ≡ vs ++ s ∷ us → Reads vs T [] → Ends (s ∷ us) → NoneTooMany Is 2000 (vs ++ s ∷ [])
unfolding Ends continues
none_before Is ts vs us s T few e d stops p (too_many ws zs h v n) = by (side vs (s ∷ []) ws zs (p, Open) h)
  where
    by : Side vs (s ∷ []) ws zs (p, Open) → ⊥
    by (in_front ys g) = few p (grammar.too_many ws (ys ++ s ∷ us) (e ∙ (ap (λ x. x ++ s ∷ us) g ∙ (append_assoc (ws ++ (p, Open) ∷ []) ys (s ∷ us) ∙ append_assoc ws ((p, Open) ∷ []) (ys ++ s ∷ us)))) (ys, T, subst (λ x. Reads x T []) g d) n)
    by (in_rest [] g f) =
        let m : ◌≡◌ {A = Spot} s (p, Open) = cc f in
        let b : continues Open ≡ false = ap (λ x. continues x.1) (sym m) ∙ stops in
        absurd (cc b)
    by (in_rest (y ∷ ys) g f) = let r : [] ≡ ys ++ (p, Open) ∷ zs = cc f in nothing_marked ys zs (p, Open) r
