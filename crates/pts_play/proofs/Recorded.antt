-- A round of the code is a round of the play.
use Rattle.std.proofs.Common.{ℕ, suc, ◌≡◌, ◌≤◌, refl, sym, ap, subst, ◌∙◌, List, [], ◌∷◌, ◌++◌, map, length, arith, All}
use Rattle.std.proofs.lemmas.List.{length-map}
use Rattle.pts_play.specs.Machines.{Outcome, Call, Event}
use Rattle.pts_play.specs.Rounds.{order_of, order_line, done_line, OrderFrom}
use Rattle.pts_play.specs.Play.{Playing, PlaysRound}
use Rattle.pts_play.specs.declared.seat.Seat.{Seat}
use Rattle.pts_play.specs.Turns.{players, replies_of, PlayedRound}

module _ {P Q A C : Type 0} (Local : P → List ℕ → Outcome P P Q → Type 0) (Resume : P → A → List (List ℕ) → P → Type 0) (Step : C → ℕ → Q → A → C → Type 0) where
  pub plays_round : (lines : List (ℕ × List ℕ)) (numbers : List ℕ) (core core' : C) (starts seats : List (Seat P Q)) (orders : List (List ℕ)) (order : List ℕ) → PlayedRound Local Resume Step lines numbers core starts core' seats order → PlaysRound Step Local Resume OrderFrom (record { core = core; sessions = players starts; lines = lines; orders = orders }) numbers (replies_of 1 seats ++ order_line order ∷ done_line (suc (length orders)) ∷ []) (record { core = core'; sessions = players seats; lines = []; orders = orders ++ order ∷ [] })
  plays_round lines numbers core core' starts seats orders order p = record {
    events = p.events;
    replies = replies_of 1 seats;
    known = subst (λ o. All (λ n. (1 ≤ n) × (n ≤ length (players starts))) o) p.ordered (λ k d small. let w = p.known k d small in (w.0, let m = w.1 in let l = length-map starts (λ s. s.player) in omega (arith, m, l)));
    order = subst (λ o. OrderFrom numbers o) p.ordered p.made_from;
    steps = p.steps;
    runs = p.runs;
    printed = ap (λ o. replies_of 1 seats ++ order_line o ∷ done_line (suc (length orders)) ∷ []) p.ordered;
    emptied = refl;
    recorded = ap (λ o. orders ++ o ∷ []) p.ordered;
  }
