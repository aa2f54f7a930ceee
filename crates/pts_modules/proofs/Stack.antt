-- The program's stack, newest last, as a list, newest first.
use Rattle.std.proofs.Common.{List, [], ◌∷◌, ◌++◌, Bool, false, ◌||◌, ◌≡◌, refl, sym, ◌∙◌, arith}
use Rattle.pts_names.specs.Name.{Name, same_name}
use Rattle.pts_modules.specs.declared.uses.Opened.{Opened}
use Rattle.pts_modules.specs.Orders.{is_in}
use Rattle.pts_modules.specs.Stacks.{Open, names_of, opened_one, opened_after, open_of, names_open, is_open}

exchanged : (a b c : Bool) → (b || (a || c)) ≡ ((a || b) || c)
exchanged a b c = grind arith

open_after : (x : Name) (ms : List Opened) (s : List Open) → is_in x (names_of (opened_after s ms)) ≡ (is_open x ms || is_in x (names_of s))
open_after x [] s = refl
open_after x (m ∷ ms) s = open_after x ms (opened_one m ∷ s) ∙ exchanged (same_name x m.name) (is_open x ms) (is_in x (names_of s))

or_false : (a : Bool) → (a || false) ≡ a
or_false a = grind arith

pub open_names : (x : Name) (ms : List Opened) → is_open x ms ≡ is_in x (names_open ms)
open_names x ms = sym (open_after x ms [] ∙ or_false (is_open x ms))

last_after : (ms : List Opened) (m : Opened) (s : List Open) → opened_after s (ms ++ m ∷ []) ≡ opened_one m ∷ opened_after s ms
last_after [] m s = refl
last_after (n ∷ ms) m s = last_after ms m (opened_one n ∷ s)

-- The module that was pushed last comes first.
pub open_last : (ms : List Opened) (m : Opened) → open_of (ms ++ m ∷ []) ≡ opened_one m ∷ open_of ms
open_last ms m = last_after ms m []
