-- The order in which modules are loaded: each after those that it uses, and each once.
use Rattle.std.specs.Prelude.{◌≡◌, ℕ, List, [], ◌∷◌, ◌++◌, map, Bool, true, false, ◌||◌, Option, Some, None, Result, Ok, Err, if◌then◌else◌}
use Rattle.pts_names.specs.Name.{Name, same_name}
use Rattle.pts_module_file.specs.declared.fault.FileWhy.{FileWhy}
use Rattle.pts_module_file.specs.File.{File, module_of}
use Rattle.pts_modules.specs.declared.fault.OrderFault.{OrderFault}
use Rattle.pts_modules.specs.declared.fault.OrderFault.TheVariants.{NoModule, BadFile, CycleOfUses, Memory}
use Rattle.pts_modules.specs.Shelves.{file_among}

abbrev pub is_in : Name → List Name → Bool
is_in x [] = false
is_in x (y ∷ ys) = same_name x y || is_in x ys

-- The modules that a file uses, in the order of its lines.
abbrev pub used_by : File → List Name
used_by f = map (λ u. u.1) f.used

-- What is done about a name: nothing, since its module has its place already; all stops; or the uses of its file come first.
pub data Turn : Type 0 where
  passed : Turn
  stopped : OrderFault → Turn
  opens : File → Turn

abbrev pub turn_by_file : Result File (ℕ × FileWhy) → Turn
turn_by_file (Ok f) = opens f
turn_by_file (Err w) = stopped (BadFile w.0 w.1)

abbrev pub turn_by_bytes : Name → Option (List ℕ) → Turn
turn_by_bytes m None = stopped (NoModule m)
turn_by_bytes m (Some bytes) = turn_by_file (module_of m bytes)

-- The modules that are done have their places, and the uses of those that are open are gone through now.
abbrev pub turn_of : List (Name × List ℕ) → (open_now done : List Name) → Name → Turn
turn_of files open_now done m = if is_in m done then passed else (if is_in m open_now then stopped (CycleOfUses m) else turn_by_bytes m (file_among files m))

-- The whole order, or why there is none.
abbrev pub Order : Type 0
Order = Result (List Name) OrderFault

-- Orders files open_now done names o: the modules with these names are gone through one after the other, each after those that it
-- uses. The order goes on from the modules that are done, and comes to o.
pub data Orders (files : List (Name × List ℕ)) : (open_now done names : List Name) → Order → Type 0 where
  none_left : {open_now done : List Name} → Orders files open_now done [] (Ok done)
  has_place : {open_now done ms : List Name} {m : Name} {o : Order} → turn_of files open_now done m ≡ passed → Orders files open_now done ms o → Orders files open_now done (m ∷ ms) o
  stops : {open_now done ms : List Name} {m : Name} {e : OrderFault} → turn_of files open_now done m ≡ stopped e → Orders files open_now done (m ∷ ms) (Err e)
  uses_stop : {open_now done ms : List Name} {m : Name} {f : File} {e : OrderFault} → turn_of files open_now done m ≡ opens f → Orders files (m ∷ open_now) done (used_by f) (Err e) → Orders files open_now done (m ∷ ms) (Err e)
  takes_place : {open_now done before ms : List Name} {m : Name} {f : File} {o : Order} → turn_of files open_now done m ≡ opens f → Orders files (m ∷ open_now) done (used_by f) (Ok before) → Orders files open_now (before ++ m ∷ []) ms o → Orders files open_now done (m ∷ ms) o

-- What a fault means. Out of memory is free.
abbrev pub UnlessMemory : (OrderFault → Type 0) → OrderFault → Type 0
UnlessMemory P Memory = Unit {0}
UnlessMemory P (NoModule m) = P (NoModule m)
UnlessMemory P (BadFile n w) = P (BadFile n w)
UnlessMemory P (CycleOfUses m) = P (CycleOfUses m)
