-- What the parts of a context hold.
use Rattle.std.specs.Prelude.{◌≡◌, ◌<◌, ◌^◌, ℕ, true, List, [], ◌∷◌, ◌++◌, length}
use Rattle.std.specs.Arc.{arc_value}
use Rattle.pts_names.specs.Name.{Name}
use Rattle.pts_ctx.specs.declared.slot.Held.{Held}
use Rattle.pts_ctx.specs.declared.slot.Held.TheVariants.{Own, Shared}
use Rattle.pts_ctx.specs.Front.{Global}
use Rattle.pts_ctx.specs.Entries.{global_of}
use Rattle.pts_ctx.specs.Index.{hashes_of}
use Rattle.pts_ctx.specs.Seen.{NamesDiffer, globals_within, LabelsInside}

-- The entry of a slot.
abbrev pub held_global : Held → Global Name
held_global (Own e) = global_of e
held_global (Shared e) = global_of (arc_value e)

-- The entries of a part, the oldest first, and how many more it takes without memory.
pub record SeenPart : Type 0 where
  pub entries : List (Global Name)
  pub spare : ℕ

-- What is sure of a part: its index has the hashes of its names, which differ.
pub record IsPart (G : List (Global Name)) (hashes : List ℕ) : Type 0 where
  pub hashed : hashes ≡ hashes_of G
  pub names : NamesDiffer G

-- The items of all lists, in order.
abbrev pub flat : {A : Type 0} → List (List A) → List A
flat [] = []
flat (xs ∷ lists) = xs ++ flat lists

-- What is sure of the entries and labels of every context.
pub record IsOrderly (G : List (Global Name)) (marked : List (Name × ℕ)) : Type 0 where
  pub fits : length G < 2 ^ 64
  pub names : NamesDiffer G
  pub within : globals_within G ≡ true
  pub labels : LabelsInside (length G) marked
