-- What is found of the declarations of an offer, in the order in which they are offered.
use Rattle.std.specs.Prelude.{ℕ, suc, List, [], ◌∷◌, ◌++◌, Option, Some, None}
use Rattle.pts_names.specs.Name.{Name}
use Rattle.pts_ctx.specs.System.{Specification}
use Rattle.pts_ctx.specs.Front.{Global}
use Rattle.pts_ctx.specs.Seen.{place_of}
use Rattle.pts_record.specs.declared.declaration.Declaration.{Declaration}
use Rattle.pts_rules.specs.declared.why.Why.{Why}
use Rattle.pts_check.specs.Entered.{declared, declaration_fault}
use Rattle.pts_core.specs.declared.finding.Finding.{Finding}
use Rattle.pts_core.specs.declared.finding.Finding.TheVariants.{Sound, Faulty, Doubled}

abbrev pub or_doubled : ℕ → Option ℕ → Finding → Finding
or_doubled k None later = later
or_doubled k (Some place) later = Doubled k

abbrev pub or_faulty : ℕ → Option (ℕ × Why) → Finding → Finding
or_faulty k None later = later
or_faulty k (Some fault) later = Faulty k fault.0 fault.1

-- The first declaration whose name exists already, or whose record is not valid or does not conclude it; each is looked at
-- over the front and the entries of those before it. The first of these declarations has the number k.
abbrev pub finding_from : Specification → List (Global Name) → ℕ → List Declaration → Finding
finding_from S G k [] = Sound
finding_from S G k (d ∷ ds) =
    or_doubled k (place_of d.name G)
    (or_faulty k (declaration_fault S G d.proof (declared d)) (finding_from S (G ++ declared d ∷ []) (suc k) ds))

-- What is found of declarations over a front.
unfoldable pub finding_of : Specification → List (Global Name) → List Declaration → Finding
finding_of S G ds = finding_from S G 0 ds
