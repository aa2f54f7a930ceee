-- A seat in a round, and the run of its session.
use Rattle.std.specs.Prelude.{ℕ, suc, ◌+◌, ◌-◌, ◌≡◌, ◌≤◌, ◌<◌, Bool, true, false, List, [], ◌∷◌, ◌++◌, drop, length, Option, Some, None}
use Rattle.pts_play.specs.Machines.{Outcome, Call, Position, ready, waits, Runs}
use Rattle.pts_play.specs.declared.seat.Seat.{Seat}
use Rattle.pts_play.specs.declared.machines.Local.{Local}
use Rattle.pts_play.specs.declared.machines.Local.TheVariants.{Done, Ask}

abbrev pub position_with : {P Q : Type 0} → P → List (List ℕ) → Option Q → Position P P Q
position_with p left None = ready p left
position_with p left (Some q) = waits q p left

-- Where its session is among its lines.
abbrev pub position_of : {P Q : Type 0} → Seat P Q → Position P P Q
position_of s = position_with s.player (drop s.next s.lines.items) s.asked

-- It waits for an answer, or no line is left.
abbrev pub Settled : {P Q : Type 0} (free : P → Type 0) (awaits : P → Q → Type 0) → Seat P Q → Option Q → Type 0
Settled free awaits s None = free s.player × (drop s.next s.lines.items ≡ [])
Settled free awaits s (Some q) = awaits s.player q

abbrev pub Rests : {P Q : Type 0} (free : P → Type 0) (awaits : P → Q → Type 0) → Seat P Q → Type 0
Rests free awaits s = Settled free awaits s s.asked

-- It waits for an answer, or may go on.
abbrev pub Upright : {P Q : Type 0} (free : P → Type 0) (awaits : P → Q → Type 0) → P → Option Q → Type 0
Upright free awaits p None = free p
Upright free awaits p (Some q) = awaits p q

abbrev pub Unsettled : {P Q : Type 0} (free : P → Type 0) (awaits : P → Q → Type 0) → Seat P Q → Type 0
Unsettled free awaits s = Upright free awaits s.player s.asked

-- What a line adds to the replies, and what it asks.
abbrev pub replies_in : {Q : Type 0} → Local Q → List (List ℕ)
replies_in (Done replies) = replies.items
replies_in (Ask q) = []

abbrev pub asked_in : {Q : Type 0} → Local Q → Option Q
asked_in (Done replies) = None
asked_in (Ask q) = Some q

-- How many lines and answers it has yet to take.
abbrev pub asked_rank : {Q : Type 0} → Option Q → ℕ
asked_rank None = 0
asked_rank (Some q) = 1

abbrev pub rank : {P Q : Type 0} → Seat P Q → ℕ
rank s = (length s.lines.items - s.next) + asked_rank s.asked

module _ {P Q A : Type 0} (Local : P → List ℕ → Outcome P P Q → Type 0) (Resume : P → A → List (List ℕ) → P → Type 0) where
  -- A run that has come to the first seat has come to the second, with no call in between.
  abbrev pub RunsOn : Seat P Q → Seat P Q → Type 0
  RunsOn s t = (u : P) (lines : List (List ℕ)) (calls : List (Call Q A)) → Runs Local Resume u lines calls s.replies.items (position_of s) → Runs Local Resume u lines calls t.replies.items (position_of t)

  -- The same where the first waits for the answer to a request, which it is given.
  abbrev pub Hears : Seat P Q → A → Seat P Q → Type 0
  Hears s a t = (q : Q) (u : P) (lines : List (List ℕ)) (calls : List (Call Q A)) → Runs Local Resume u lines calls s.replies.items (waits q s.player (drop s.next s.lines.items)) → Runs Local Resume u lines (calls ++ record { request = q; answer = a } ∷ []) t.replies.items (position_of t)

  -- The same with this call in between.
  abbrev pub RunsOnBy : Seat P Q → Call Q A → Seat P Q → Type 0
  RunsOnBy s c t = (u : P) (lines : List (List ℕ)) (calls : List (Call Q A)) → Runs Local Resume u lines calls s.replies.items (position_of s) → Runs Local Resume u lines (calls ++ c ∷ []) t.replies.items (position_of t)

  module _ {C : Type 0} (Step : C → ℕ → Q → A → C → Type 0) (free : P → Type 0) (awaits : P → Q → Type 0) (fits : P → C → Type 0) where
    -- The turn of a seat: one that doesn't wait is passed over; another makes its call and runs on.
    pub data Turn (number : ℕ) (core : C) (s : Seat P Q) : Bool → C → Seat P Q → Type 0 where
      passed_over : s.asked ≡ None → Turn number core s false core s
      taken : {core' : C} {t : Seat P Q} (c : Call Q A) → s.asked ≡ Some c.request → Step core number c.request c.answer core' → RunsOnBy s c t → Rests free awaits t → fits t.player core' → rank t < rank s → Turn number core s true core' t
