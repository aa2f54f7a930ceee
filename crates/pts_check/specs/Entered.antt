-- What declarations add to a front, what is wrong with one, and which may be added.
use Rattle.std.specs.Prelude.{◌≡◌, ℕ, List, [], ◌∷◌, ◌++◌, map, length, Bool, true, false, Option, Some, None}
use Rattle.std.specs.Option.{option_map}
use Rattle.pts_terms.specs.Seen.{named}
use Rattle.pts_names.specs.Name.{Name}
use Rattle.pts_ctx.specs.System.{Specification}
use Rattle.pts_ctx.specs.Front.{Global, Fresh, bare_global, bare_front}
use Rattle.pts_ctx.specs.Seen.{global_within}
use Rattle.pts_record.specs.Table.{Tables}
use Rattle.pts_record.specs.declared.declaration.Declaration.{Declaration}
use Rattle.pts_rules.specs.declared.why.Why.{Why}
use Rattle.pts_rules.specs.declared.why.Why.TheVariants.{Conclusion}
use Rattle.pts_rules.specs.Valid.{IsValid, first_fault, concludes}

-- The entry, with its printed names and without them.
abbrev pub declared : Declaration → Global Name
declared d = record { name = d.name; body = option_map named d.body; type = named d.ty }

abbrev pub bare_declared : Declaration → Global (Unit {0})
bare_declared d = bare_global (declared d)

-- The entries of declarations.
abbrev pub declared_entries : List Declaration → List (Global Name)
declared_entries ds = map declared ds

-- A valid record that does not conclude the entry has its fault after its last node.
abbrev pub unless_concluded : Tables → Bool → Option (ℕ × Why)
unless_concluded r true = None
unless_concluded r false = Some (length r.nodes, Conclusion)

abbrev pub or_conclusion : Tables → Global Name → Option (ℕ × Why) → Option (ℕ × Why)
or_conclusion r e (Some f) = Some f
or_conclusion r e None = unless_concluded r (concludes r (bare_global e))

-- The fault over a front of a record that is to conclude an entry.
unfoldable pub declaration_fault : Specification → List (Global Name) → Tables → Global Name → Option (ℕ × Why)
declaration_fault S G r e = or_conclusion r e (first_fault S (bare_front G) r)

-- A declaration that may be added to the front: its name is new, its terms are within limits, and its record is valid
-- and concludes it.
pub record MayEnter (S : Specification) (G : List (Global Name)) (d : Declaration) : Type 0 where
  pub fresh : Fresh d.name G
  pub within : global_within (declared d) ≡ true
  pub valid : IsValid S (bare_front G) d.proof
  pub concluded : concludes d.proof (bare_declared d) ≡ true

-- Each declaration may be added to the front and the entries of those before it.
abbrev pub MayFollow : Specification → List (Global Name) → List Declaration → Type 0
MayFollow S G [] = Unit {0}
MayFollow S G (d ∷ ds) = MayEnter S G d × MayFollow S (G ++ declared d ∷ []) ds
