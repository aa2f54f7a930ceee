-- Seats of one owner, as the public calls speak of them.
use Rattle.std.specs.Prelude.{ℕ, List, [], ◌∷◌, Option, None}
use Rattle.atomic_table.specs.Table.{Me}
use Rattle.pts_lock.specs.declared.seat.View.{View}
use Rattle.pts_lock.specs.Views.{view}

module _ {E : Type 0} where
  -- The history of the first pair.
  abbrev pub first_history : List (ℕ × List (ℕ × E)) → List (ℕ × E)
  first_history [] = []
  first_history (p ∷ ps) = p.1

  module _ {S : Type 0} where
    -- The history that the seat has seen.
    abbrev pub history_seen : Me (Option S) (View E) → List (ℕ × E)
    history_seen me = first_history me.0.pairs

    -- The seat of an owner who has seen this history: it has no ticket, no turn and no slot.
    abbrev pub seat_at_rest : ℕ → List (ℕ × E) → Me (Option S) (View E)
    seat_at_rest owner now = (view ((owner, now) ∷ []) None None, [])
