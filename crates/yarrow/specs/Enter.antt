-- Declarations enter a context in order, until the first that is refused.
use Rattle.std.specs.Prelude.{ℕ, List, [], ◌∷◌, ◌++◌, length, nat_le, Option, Some, None, if◌then◌else◌}
use Rattle.std.specs.Option.{option_map}
use Rattle.pts_names.specs.Name.{Name}
use Rattle.pts_ctx.specs.System.{Specification}
use Rattle.pts_ctx.specs.Front.{Global}
use Rattle.pts_ctx.specs.Seen.{place_of}
use Rattle.pts_check.specs.Entered.{declaration_fault}
use Rattle.pts_certificate.specs.Certificate.{Declared}
use Rattle.yarrow.specs.declared.enter.Refusal.{Refusal}
use Rattle.yarrow.specs.declared.enter.Refusal.TheVariants.{Clash, Full, Faulty}

abbrev pub entry_of : Declared → Global Name
entry_of d = record { name = d.name; body = d.body; type = d.type }

-- A context has room for 200,000 entries.
abbrev pub or_full : List (Global Name) → Option Refusal → Option Refusal
or_full G later = if nat_le 200000 (length G) then Some Full else later

abbrev pub or_clash : Name → Option ℕ → Option Refusal → Option Refusal
or_clash x None later = later
or_clash x (Some k) later = Some (Clash x k)

-- Why a declaration does not enter: its name stands already, the context is full, or its record is faulty.
unfoldable pub refusal_of : Specification → List (Global Name) → Declared → Option Refusal
refusal_of S G d =
    or_clash d.name (place_of d.name G)
    (or_full G (option_map (λ f. Faulty d.name f.0 f.1) (declaration_fault S G d.proof (entry_of d))))

-- The entries that stand at the end, and the first refusal.
pub record Entered : Type 0 where
  pub entries : List (Global Name)
  pub refusal : Option Refusal

abbrev pub or_on : List (Global Name) → Option Refusal → Entered → Entered
or_on G None later = later
or_on G (Some w) later = record { entries = G; refusal = Some w }

abbrev pub enter_all : Specification → List (Global Name) → List Declared → Entered
enter_all S G [] = record { entries = G; refusal = None }
enter_all S G (d ∷ ds) = or_on G (refusal_of S G d) (enter_all S (G ++ entry_of d ∷ []) ds)
