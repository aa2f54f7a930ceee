-- Fronts, which are global contexts, and local contexts.
use Rattle.std.specs.Prelude.{ℕ, zero, suc, List, [], ◌∷◌, map, Option, Some, None, ◌≡◌, if◌then◌else◌}
use Rattle.std.specs.Option.{option_map}
use Rattle.pts_names.specs.Name.{Name, same_name}
use Rattle.pts_terms.specs.Tree.{Tree, Bare, bare}

-- An entry of a front: a definition where it has a body, else an assumption.
pub record Global (B : Type 0) : Type 0 where
  pub name : Name
  pub body : Option (Tree B)
  pub type : Tree B

-- What a step may put in for the name of an entry.
abbrev pub open_body : {B : Type 0} → Global B → Option (Tree B)
open_body e = e.body

-- A front as the rules see it, the oldest entry first.
abbrev pub Front : Type 0
Front = List (Global (Unit {0}))

abbrev pub assumption : Name → Bare → Global (Unit {0})
assumption x A = record { name = x; body = None; type = A }

abbrev pub definition : Name → Bare → Bare → Global (Unit {0})
definition x a A = record { name = x; body = Some a; type = A }

-- The first entry of a name.
unfoldable pub find : {B : Type 0} → Name → List (Global B) → Option (Global B)
find x [] = None
find x (e ∷ G) = if same_name x e.name then Some e else find x G

-- The name does not stand in the front.
abbrev pub Fresh : {B : Type 0} → Name → List (Global B) → Type 0
Fresh x G = find x G ≡ None

-- Every entry of the first stands in the second under its name.
abbrev pub HasEntries : Front → Front → Type 0
HasEntries G H = (x : Name) (e : Global (Unit {0})) → find x G ≡ Some e → find x H ≡ Some e

-- An entry without printed names.
abbrev pub bare_global : {B : Type 0} → Global B → Global (Unit {0})
bare_global e = record { name = e.name; body = option_map bare e.body; type = bare e.type }

-- A front without printed names.
abbrev pub bare_front : {B : Type 0} → List (Global B) → Front
bare_front G = map bare_global G

-- An entry of a local context. Nothing is known of a bare one.
pub data Local (B : Type 0) : Type 0 where
  assumed : (type : Tree B) → Local B
  defined : (body type : Tree B) → Local B
  unknown : Local B

-- A local context as the rules see it, the newest entry first, so that an index is a place.
abbrev pub Locals : Type 0
Locals = List (Local (Unit {0}))

-- The entry of an index.
abbrev pub entry_at : {B : Type 0} → List (Local B) → ℕ → Option (Local B)
entry_at [] i = None
entry_at (e ∷ L) zero = Some e
entry_at (e ∷ L) (suc i) = entry_at L i
