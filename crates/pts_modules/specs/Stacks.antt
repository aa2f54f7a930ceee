-- Orders as a loop goes through them, with a stack of the modules that are open.
use Rattle.std.specs.Prelude.{Vec, ◌≡◌, ℕ, ◌+◌, zero, List, [], ◌∷◌, ◌++◌, map, drop, length, Bool, false, ◌||◌, Option, Some, None, Result, Ok, Err, ◌⊎◌, if◌then◌else◌}
use Rattle.pts_names.specs.Name.{Name, same_name}
use Rattle.pts_module_file.specs.File.{File, module_of}
use Rattle.pts_modules.specs.declared.fault.OrderFault.{OrderFault}
use Rattle.pts_modules.specs.declared.uses.Opened.{Opened}
use Rattle.pts_modules.specs.Orders.{Order, Orders, Turn, passed, opens, is_in, turn_by_bytes, used_by}

-- A module that is open, with the uses that are left of it. In a stack the newest comes first.
abbrev pub Open : Type 0
Open = Name × List Name

abbrev pub names_of : List Open → List Name
names_of s = map (λ m. m.0) s

-- The program's stack has the newest last.
abbrev pub opened_one : Opened → Open
opened_one m = (m.name, drop m.next m.uses.items)

abbrev pub opened_after : List Open → List Opened → List Open
opened_after s [] = s
opened_after s (m ∷ ms) = opened_after (opened_one m ∷ s) ms

abbrev pub open_of : List Opened → List Open
open_of ms = opened_after [] ms

abbrev pub names_open : List Opened → List Name
names_open ms = names_of (open_of ms)

-- The module with this name is open.
abbrev pub is_open : Name → List Opened → Bool
is_open x [] = false
is_open x (m ∷ ms) = same_name x m.name || is_open x ms

-- A turn with which it goes on, and the uses that come next by it.
abbrev pub Goes : {H : Type 0} → Turn → Option (Vec Name H) → Type 0
Goes t None = t ≡ passed
Goes t (Some uses) = (f : File) × (t ≡ opens f) × (uses.items ≡ used_by f)

-- Where these modules are open, the rest of the order comes to o.
abbrev pub Ends : List (Name × List ℕ) → List Open → List Name → Order → Type 0
Ends files [] done o = o ≡ Ok done
Ends files (m ∷ s) done o =
    ((e : OrderFault) × (o ≡ Err e) × Orders files (m.0 ∷ names_of s) done m.1 (Err e))
    ⊎ ((before : List Name) × Orders files (m.0 ∷ names_of s) done m.1 (Ok before) × Ends files s (before ++ m.0 ∷ []) o)

-- The same where one name more is gone through first: the next use of the newest, or the word that was given.
abbrev pub EndsWith : List (Name × List ℕ) → List Open → List Name → Name → Order → Type 0
EndsWith files [] done x o = Orders files [] done (x ∷ []) o
EndsWith files (m ∷ s) done x o = Ends files ((m.0, x ∷ m.1) ∷ s) done o

-- The steps that a module takes at most: one for each use and two of its own.
abbrev pub steps_of : Turn → ℕ
steps_of (opens f) = length (used_by f) + 2
steps_of t = zero

-- The steps of those files whose modules are neither open nor done.
abbrev pub steps_left : List (Name × List ℕ) → (seen : Name → Bool) → ℕ
steps_left [] seen = zero
steps_left (f ∷ fs) seen = (if seen f.0 then zero else steps_of (turn_by_bytes f.0 (Some f.1))) + steps_left fs seen

-- The steps that are left of the modules that are open.
abbrev pub steps_open : List Open → ℕ
steps_open [] = zero
steps_open (m ∷ s) = (length m.1 + 1) + steps_open s

-- How many steps there are at most before the order is whole.
abbrev pub work : List (Name × List ℕ) → List Open → List Name → ℕ
work files s done = steps_left files (λ x. is_in x (names_of s) || is_in x done) + steps_open s
