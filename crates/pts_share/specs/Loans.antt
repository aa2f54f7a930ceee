-- One number for the loans on which a port to a shared core works.
use Rattle.std.specs.Prelude.{◌≡◌, ℕ, ◌+◌, ◌*◌, List, [], ◌∷◌}
use Prim.Native.Nat.{zero, suc}
use Rattle.atomic_table.specs.Seated.{TableId}

-- A number that is doubled so many times.
abbrev pub doubled : ℕ → ℕ → ℕ
doubled zero n = n
doubled (suc k) n = 2 * doubled k n

-- A number for a list: 0 for the empty one; else how often the number can be halved is the first element, and the odd number that
-- is left is one more than twice that of the rest.
abbrev pub number_of : List ℕ → ℕ
number_of [] = 0
number_of (n ∷ ns) = doubled n (2 * number_of ns + 1)

-- A port works on a pass, which is lent to it under a name, and on a lock, which has a table.
abbrev pub loans : ℕ → TableId → ℕ
loans name t = number_of (name ∷ t.words ∷ t.slots ∷ t.views_name ∷ t.atom ∷ t.block ∷ t.offset ∷ t.slot_names)

-- Ports whose loans have the same number work on the same pass and on the same lock.
abbrev pub LoansDiffer : Type 0
LoansDiffer = (n m : ℕ) (t u : TableId) → loans n t ≡ loans m u → (n ≡ m) × (t ≡ u)
