-- What the steps of a lock tell the seat that makes them.
use Rattle.std.specs.Prelude.{◌≡◌, ◌≢◌, ℕ, ◌%◌, ◌^◌, List, [], ◌∷◌, Option, Some, None}
use Rattle.atomic_table.specs.Table.{Me, Step}
use Rattle.pts_lock.specs.declared.seat.View.{View}
use Rattle.pts_lock.specs.Views.{EachSawItsOwn, view, view_with, with_seen}

module _ {E S : Type 0} (history : S → List (ℕ × E)) where
  abbrev pub Mine : Type 0
  Mine = Me (Option S) (View E)

  -- A ticket is drawn.
  abbrev pub Draws : Step (Option S) → Mine → ℕ → Mine → Type 0
  Draws step me found new = (t : ℕ) × (found ≡ t % 2 ^ 64) × (new ≡ (view_with me.0 (Some t) None, me.1))

  -- Where the seat's ticket is served, the seat takes the slot with the value, of whose history its owners have seen their own
  -- entries; else nothing changes.
  abbrev pub Loads : Step (Option S) → Mine → ℕ → Mine → Type 0
  Loads step me found new = (t : ℕ) → me.0.ticket ≡ Some t
      → (found ≡ t % 2 ^ 64 → (x : S) × (new ≡ (view_with me.0 (Some t) (Some (history x)), (0, Some x) ∷ [])) × EachSawItsOwn me.0.pairs (history x)) × (found ≢ t % 2 ^ 64 → new ≡ me)

  -- The lock has the history of the value in the seat's slot.
  abbrev pub Raises : Step (Option S) → Mine → ℕ → Mine → Type 0
  Raises step me found new = (x : S) → me.1 ≡ (0, Some x) ∷ [] → new ≡ (view_with me.0 me.0.ticket (Some (history x)), me.1)

  -- The seat gives the slot back, and its owners have seen the history of the value.
  abbrev pub Serves : Step (Option S) → Mine → ℕ → Mine → Type 0
  Serves step me found new = (x : S) → me.1 ≡ (0, Some x) ∷ [] → new ≡ (view (with_seen (history x) me.0.pairs) None None, [])
