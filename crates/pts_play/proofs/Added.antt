-- One more line of a round.
use Rattle.std.proofs.Common.{ℕ, zero, suc, ◌+◌, ◌<◌, ◌≤◌, ◌≡◌, refl, sym, ap, subst, ◌∙◌, Bool, true, false, List, [], ◌∷◌, ◌++◌, length, slice_set, slice_get, nat_eq, Option, Some, None, Result, Ok, Err, OnOk, arith}
use Rattle.pts_play.specs.Rounds.{lines_of}
use Rattle.pts_play.specs.declared.seat.Seat.{Seat}
use Rattle.pts_play.specs.Turns.{HaveLines, AllClear, IsClear, players}
use Rattle.pts_play.proofs.Seated.{same_some}

pub lines_of_own : (n : ℕ) (t : List ℕ) (ls : List (ℕ × List ℕ)) → lines_of n (ls ++ (n, t) ∷ []) ≡ lines_of n ls ++ t ∷ []
lines_of_own n t [] = grind arith
lines_of_own n t (l ∷ ls) = grind (arith, lines_of_own n t ls)

pub lines_of_other : (n m : ℕ) (t : List ℕ) (ls : List (ℕ × List ℕ)) → nat_eq m n ≡ false → lines_of n (ls ++ (m, t) ∷ []) ≡ lines_of n ls
lines_of_other n m t [] differ = grind arith
lines_of_other n m t (l ∷ ls) differ = grind (arith, lines_of_other n m t ls differ)

-- A seat with one more line.
pub data Pushed {P Q : Type 0} (s : Seat P Q) (t : List ℕ) (s' : Seat P Q) : Type 0 where
  pushed : s'.lines.items ≡ s.lines.items ++ t ∷ [] → s'.player ≡ s.player → s'.next ≡ s.next → s'.replies.items ≡ s.replies.items → s'.asked ≡ s.asked → Pushed s t s'

pub have_other : {P Q : Type 0} (n m : ℕ) (t : List ℕ) (lines : List (ℕ × List ℕ)) (seats : List (Seat P Q)) → m < n → HaveLines n lines seats → HaveLines n (lines ++ (m, t) ∷ []) seats
have_other n m t lines [] less have = tt
have_other n m t lines (s ∷ ss) less have = let differ : nat_eq m n ≡ false = grind arith in (have.0 ∙ sym (lines_of_other n m t lines differ), have_other (suc n) m t lines ss (omega (arith, less)) have.1)

pub have_set : {P Q : Type 0} (n i m : ℕ) (t : List ℕ) (lines : List (ℕ × List ℕ)) (seats : List (Seat P Q)) (s s' : Seat P Q) → m ≡ n + i → slice_get seats i ≡ Some s → Pushed s t s' → HaveLines n lines seats → HaveLines n (lines ++ (m, t) ∷ []) (slice_set seats i s')
have_set n i m t lines [] s s' e here p have = absurd (cc here)
have_set n zero m t lines (x ∷ xs) s s' e here (pushed more player next replies asked) have =
    let same : m ≡ n = omega (arith, e) in
    let own = more ∙ ap (λ y. y.lines.items ++ t ∷ []) (sym (same_some here)) ∙ ap (λ ls. ls ++ t ∷ []) have.0 ∙ sym (lines_of_own n t lines) ∙ ap (λ k. lines_of n (lines ++ (k, t) ∷ [])) (sym same) in
    (own, have_other (suc n) m t lines xs (omega (arith, e)) have.1)
have_set n (suc i) m t lines (x ∷ xs) s s' e here p have =
    let differ : nat_eq m n ≡ false = grind (arith, e) in
    (have.0 ∙ sym (lines_of_other n m t lines differ), have_set (suc n) i m t lines xs s s' (omega (arith, e)) here p have.1)

pub clear_set : {P Q : Type 0} (i : ℕ) (t : List ℕ) (seats : List (Seat P Q)) (s s' : Seat P Q) → slice_get seats i ≡ Some s → Pushed s t s' → AllClear seats → AllClear (slice_set seats i s')
clear_set i t [] s s' here p clear = absurd (cc here)
clear_set zero t (x ∷ xs) s s' here (pushed more player next replies asked) clear =
    let f = subst (λ y. IsClear y) (same_some here) clear.0 in
    ((asked ∙ f.0, next ∙ f.1, replies ∙ f.2), clear.1)
clear_set (suc i) t (x ∷ xs) s s' here p clear = (clear.0, clear_set i t xs s s' here p clear.1)

pub players_set : {P Q : Type 0} (i : ℕ) (t : List ℕ) (seats : List (Seat P Q)) (s s' : Seat P Q) → slice_get seats i ≡ Some s → Pushed s t s' → players (slice_set seats i s') ≡ players seats
players_set i t [] s s' here p = absurd (cc here)
players_set zero t (x ∷ xs) s s' here (pushed more player next replies asked) = ap (λ q. q ∷ players xs) (player ∙ ap (λ y. y.player) (sym (same_some here)))
players_set (suc i) t (x ∷ xs) s s' here p = ap (λ qs. x.player ∷ qs) (players_set i t xs s s' here p)

pub with_ok : {A E : Type 0} (r : Result A E) (X Y : Type 0) → OnOk r X → (X → Y) → OnOk r Y
with_ok (Ok a) X Y x f = f x
with_ok (Err e) X Y x f = tt
