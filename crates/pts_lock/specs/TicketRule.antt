-- The rule of a lock whose turns go by tickets. Word 0 is the length of the history, word 1 how many tickets were drawn, and
-- word 2 which is served, the last two up to 2 ^ 64. Slot 0 has the value, but while a seat has it.
use Rattle.std.specs.Prelude.{◌≡◌, ◌≢◌, ◌⊎◌, ℕ, ◌+◌, ◌%◌, ◌^◌, ◌<◌, ◌≤◌, List, [], ◌∷◌, length, Option, Some, None}
use mathlib.Core.Option.{some, none}
use lib.ListN.{get_elem?}
use Rattle.atomic_table.specs.Table.{State}
use Rattle.pts_names.specs.Lists.{In}
use Rattle.pts_lock.specs.declared.seat.View.{View}
use Rattle.pts_lock.specs.Histories.{AddedBy}
use Rattle.pts_lock.specs.Views.{Owns, OwnersDiffer, EachSawItsOwn, BeginsWithEach}

abbrev pub ticket_count : Option ℕ → ℕ
ticket_count None = 0
ticket_count (Some t) = 1

-- A ticket that was drawn is served now or later.
abbrev pub IsInUse : Option ℕ → ℕ → ℕ → Type 0
IsInUse None served drawn = Unit {0}
IsInUse (Some t) served drawn = (served ≤ t) × (t < drawn)

module _ {E : Type 0} where
  -- What a seat knows of the present history: without the turn, what its owners have seen of it; with the turn, all of it.
  abbrev pub KnowsAt : Option (List (ℕ × E)) → List (ℕ × List (ℕ × E)) → ℕ → Option ℕ → List (ℕ × E) → Type 0
  KnowsAt None pairs served ticket now = EachSawItsOwn pairs now
  KnowsAt (Some turn) pairs served ticket now = (turn ≡ now) × BeginsWithEach pairs now × (ticket ≡ Some served)

  abbrev pub Knows : ℕ → List (ℕ × E) → View E → Type 0
  Knows served now v = KnowsAt v.turn v.pairs served v.ticket now

  -- How many of the seats have a ticket.
  abbrev pub tickets : List (View E) → ℕ
  tickets [] = 0
  tickets (v ∷ vs) = ticket_count v.ticket + tickets vs

  -- How many pairs all seats have.
  abbrev pub pair_count : List (View E) → ℕ
  pair_count [] = 0
  pair_count (v ∷ vs) = length v.pairs + pair_count vs

  abbrev pub ViewAt : List (View E) → ℕ → View E → Type 0
  ViewAt vs k v = get_elem? vs k ≡ some v

  -- The value is in its slot, and no seat has the turn.
  abbrev pub IsHome : {S : Type 0} → (S → List (ℕ × E)) → List (ℕ × E) → State (Option S) (View E) → Type 0
  IsHome {S} history now s = (x : S) × (s.homes ≡ some (Some x) ∷ []) × (history x ≡ now) × ((k : ℕ) (v : View E) → ViewAt s.views k v → v.turn ≡ None)

  -- One seat has it, and the turn, and no other has.
  abbrev pub IsOut : {S : Type 0} → List (ℕ × E) → State (Option S) (View E) → Type 0
  IsOut now s = (k : ℕ) × (v : View E) × ViewAt s.views k v × (v.turn ≡ Some now) × (s.homes ≡ none ∷ []) × ((i : ℕ) (w : View E) → ViewAt s.views i w → i ≢ k → w.turn ≡ None)

  -- What holds after every step, of a lock that began with these owners and this history.
  pub record TicketRule {S : Type 0} (history : S → List (ℕ × E)) (owners : List ℕ) (opening : List (ℕ × E)) (s : State (Option S) (View E)) : Type 0 where
    pub now : List (ℕ × E)
    pub drawn : ℕ
    pub served : ℕ
    pub words : s.words ≡ length now ∷ (drawn % 2 ^ 64) ∷ (served % 2 ^ 64) ∷ []
    pub short : length now < 2 ^ 64
    pub few : pair_count s.views < 2 ^ 32
    pub counted : tickets s.views + served ≡ drawn
    pub backed : (k : ℕ) (v : View E) → ViewAt s.views k v → ticket_count v.ticket ≤ length v.pairs
    pub in_use : (k : ℕ) (v : View E) → ViewAt s.views k v → IsInUse v.ticket served drawn
    pub apart : (i k : ℕ) (v w : View E) (t : ℕ) → ViewAt s.views i v → ViewAt s.views k w → v.ticket ≡ Some t → w.ticket ≡ Some t → i ≡ k
    pub differ : (k : ℕ) (v : View E) → ViewAt s.views k v → OwnersDiffer v.pairs
    pub owned : (i k : ℕ) (v w : View E) (n : ℕ) → ViewAt s.views i v → ViewAt s.views k w → Owns n v.pairs → Owns n w.pairs → i ≡ k
    pub of_lock : (k : ℕ) (v : View E) (n : ℕ) → ViewAt s.views k v → Owns n v.pairs → In n owners
    pub added : AddedBy owners opening now
    pub known : (k : ℕ) (v : View E) → ViewAt s.views k v → Knows served now v
    pub place : IsHome history now s ⊎ IsOut now s
