-- The work that is left grows less with each step.
use Rattle.std.proofs.Common.{ℕ, ◌+◌, ◌≤◌, ◌<◌, zero, List, [], ◌∷◌, ◌++◌, length, Bool, true, false, ◌||◌, ◌≡◌, refl, sym, ap, ◌∙◌, subst, arith, Option, Some, None, if◌then◌else◌}
use Rattle.pts_names.specs.Name.{Name, same_name}
use Rattle.pts_names.proofs.Same.{same_name-true, same_name-self}
use Rattle.std.specs.Prelude.{Ok}
use Rattle.pts_module_file.specs.File.{File, module_of}
use Rattle.pts_modules.specs.declared.fault.OrderFault.{OrderFault}
use Rattle.pts_modules.specs.declared.fault.OrderFault.TheVariants.{CycleOfUses}
use Rattle.pts_modules.specs.Shelves.{file_among}
use Rattle.pts_modules.specs.Orders.{Turn, passed, stopped, opens, is_in, used_by, turn_by_file, turn_by_bytes, turn_of}
use Rattle.pts_modules.specs.Stacks.{Open, names_of, steps_of, steps_left, steps_open, work}

part_less : (a b : Bool) (n : ℕ) → (a ≡ true → b ≡ true) → (if b then zero else n) ≤ (if a then zero else n)
part_less true true n h = omega arith
part_less true false n h = absurd (cc (h refl))
part_less false true n h = omega arith
part_less false false n h = omega arith

-- Where more is seen, fewer steps are left.
pub fewer : (fs : List (Name × List ℕ)) (p q : Name → Bool) → ((x : Name) → p x ≡ true → q x ≡ true) → steps_left fs q ≤ steps_left fs p
fewer [] p q h = omega arith
fewer (f ∷ fs) p q h =
    let own = part_less (p f.0) (q f.0) (steps_of (turn_by_bytes f.0 (Some f.1))) (h f.0) in
    let rest = fewer fs p q h in
    omega (arith, own, rest)

module _ (p q : Name → Bool) (more : (x : Name) → p x ≡ true → q x ≡ true) (m : Name) (new : p m ≡ false) (seen : q m ≡ true) where
  own_part : (n : ℕ) → (if q m then zero else n) + n ≤ (if p m then zero else n)
  own_part n = subst (λ b. (if q m then zero else n) + n ≤ (if b then zero else n)) (sym new) (subst (λ b. (if b then zero else n) + n ≤ n) (sym seen) (omega arith))

  -- A file whose module is seen now has no steps left.
  lighter_by : (fs : List (Name × List ℕ)) (f : Name × List ℕ) (bytes : List ℕ) (b : Bool) → same_name f.0 m ≡ b → (file_among fs m ≡ Some bytes → steps_left fs q + steps_of (turn_by_bytes m (Some bytes)) ≤ steps_left fs p) → (if b then Some f.1 else file_among fs m) ≡ Some bytes → steps_left (f ∷ fs) q + steps_of (turn_by_bytes m (Some bytes)) ≤ steps_left (f ∷ fs) p
  lighter_by fs f bytes true e back h =
      let i : f.0 ≡ m = same_name-true f.0 m e in
      let j : f.1 ≡ bytes = cc h in
      let own : (if q f.0 then zero else steps_of (turn_by_bytes f.0 (Some f.1))) + steps_of (turn_by_bytes m (Some bytes)) ≤ (if p f.0 then zero else steps_of (turn_by_bytes f.0 (Some f.1))) =
      subst (λ x. (if q x then zero else steps_of (turn_by_bytes x (Some f.1))) + steps_of (turn_by_bytes m (Some bytes)) ≤ (if p x then zero else steps_of (turn_by_bytes x (Some f.1)))) (sym i)
      (subst (λ c. (if q m then zero else steps_of (turn_by_bytes m (Some c))) + steps_of (turn_by_bytes m (Some bytes)) ≤ (if p m then zero else steps_of (turn_by_bytes m (Some c)))) (sym j) (own_part (steps_of (turn_by_bytes m (Some bytes))))) in
      let rest = fewer fs p q more in
      omega (arith, own, rest)
  lighter_by fs f bytes false e back h =
      let own = part_less (p f.0) (q f.0) (steps_of (turn_by_bytes f.0 (Some f.1))) (more f.0) in
      let rest = back h in
      omega (arith, own, rest)

  pub lighter : (fs : List (Name × List ℕ)) (bytes : List ℕ) → file_among fs m ≡ Some bytes → steps_left fs q + steps_of (turn_by_bytes m (Some bytes)) ≤ steps_left fs p
  lighter [] bytes h = absurd (cc h)
  lighter (f ∷ fs) bytes h = lighter_by fs f bytes (same_name f.0 m) refl (lighter fs bytes) h

-- What a turn says of the lists.
by_open : (files : List (Name × List ℕ)) (m : Name) (f : File) (b : Bool) → (if b then stopped (CycleOfUses m) else turn_by_bytes m (file_among files m)) ≡ opens f → (b ≡ false) × (turn_by_bytes m (file_among files m) ≡ opens f)
by_open files m f true h = absurd (cc h)
by_open files m f false h = (refl, h)

by_done : (files : List (Name × List ℕ)) (s : List Name) (m : Name) (f : File) (b : Bool) → (if b then passed else (if is_in m s then stopped (CycleOfUses m) else turn_by_bytes m (file_among files m))) ≡ opens f → (b ≡ false) × ((is_in m s ≡ false) × (turn_by_bytes m (file_among files m) ≡ opens f))
by_done files s m f true h = absurd (cc h)
by_done files s m f false h = (refl, by_open files m f (is_in m s) h)

file_there : (m : Name) (f : File) (o : Option (List ℕ)) → turn_by_bytes m o ≡ opens f → (bytes : List ℕ) × (o ≡ Some bytes) × (turn_by_bytes m (Some bytes) ≡ opens f)
file_there m f None h = absurd (cc h)
file_there m f (Some bytes) h = (bytes, refl, h)

neither : (a b : Bool) → a ≡ false → b ≡ false → (a || b) ≡ false
neither a b p q = grind (arith, p, q)

first_is : (a b : Bool) → a ≡ true → (a || b) ≡ true
first_is a b p = grind (arith, p)

still_seen : (a b c : Bool) → (b || c) ≡ true → ((a || b) || c) ≡ true
still_seen a b c h = grind (arith, h)

-- A module that is opened takes its steps.
pub opening_less : (files : List (Name × List ℕ)) (s : List Open) (done : List Name) (m : Name) (f : File) → turn_of files (names_of s) done m ≡ opens f → work files ((m, used_by f) ∷ s) done ≤ work files s done
opening_less files s done m f h =
    let h = by_done files (names_of s) m f (is_in m done) h in
    let t = file_there m f (file_among files m) h.1.1 in
    let p : Name → Bool = λ x. is_in x (names_of s) || is_in x done in
    let q : Name → Bool = λ x. is_in x (names_of ((m, used_by f) ∷ s)) || is_in x done in
    let l = lighter p q (λ x. still_seen (same_name x m) (is_in x (names_of s)) (is_in x done)) m (neither (is_in m (names_of s)) (is_in m done) h.1.0 h.0) (first_is (is_in m (names_of ((m, used_by f) ∷ s))) (is_in m done) (first_is (same_name m m) (is_in m (names_of s)) (same_name-self m))) files t.0 t.1 in
    let e : steps_of (turn_by_bytes m (Some t.0)) ≡ length (used_by f) + 2 = ap steps_of t.2 in
    omega (arith, l, e)

in_last : (x m : Name) (done : List Name) → is_in x (done ++ m ∷ []) ≡ (is_in x done || same_name x m)
in_last x m [] = last_false (same_name x m)
  where
    last_false : (a : Bool) → (a || false) ≡ a
    last_false a = grind arith
in_last x m (y ∷ done) = ap (λ b. same_name x y || b) (in_last x m done) ∙ regrouped (same_name x y) (is_in x done) (same_name x m)
  where
    regrouped : (a b c : Bool) → (a || (b || c)) ≡ ((a || b) || c)
    regrouped a b c = grind arith

moved_seen : (a b c : Bool) → ((a || b) || c) ≡ true → (b || (c || a)) ≡ true
moved_seen a b c h = grind (arith, h)

-- A module that takes its place is open no more.
pub placing_less : (files : List (Name × List ℕ)) (s : List Open) (done : List Name) (m : Name) (left : List Name) → work files s (done ++ m ∷ []) < work files ((m, left) ∷ s) done
placing_less files s done m left =
    let p : Name → Bool = λ x. is_in x (names_of ((m, left) ∷ s)) || is_in x done in
    let q : Name → Bool = λ x. is_in x (names_of s) || is_in x (done ++ m ∷ []) in
    let more : (x : Name) → p x ≡ true → q x ≡ true = λ x h. ap (λ b. is_in x (names_of s) || b) (in_last x m done) ∙ moved_seen (same_name x m) (is_in x (names_of s)) (is_in x done) h in
    let l = fewer files p q more in
    omega (arith, l)

-- The module whose file is read is opened.
pub opens_by : (files : List (Name × List ℕ)) (s done : List Name) (m : Name) (bytes : List ℕ) (f : File) → is_in m done ≡ false → is_in m s ≡ false → file_among files m ≡ Some bytes → module_of m bytes ≡ Ok f → turn_of files s done m ≡ opens f
opens_by files s done m bytes f p q h k =
    ap (λ b. if b then passed else (if is_in m s then stopped (CycleOfUses m) else turn_by_bytes m (file_among files m))) p
    ∙ ap (λ b. if b then stopped (CycleOfUses m) else turn_by_bytes m (file_among files m)) q
    ∙ ap (turn_by_bytes m) h
    ∙ ap turn_by_file k

-- A use that is gone through next is left no more.
pub using_less : (files : List (Name × List ℕ)) (s : List Open) (done : List Name) (m x : Name) (left : List Name) → work files ((m, left) ∷ s) done < work files ((m, x ∷ left) ∷ s) done
using_less files s done m x left = omega arith
