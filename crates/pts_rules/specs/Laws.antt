-- What the nodes of a record stand for, and the laws of valid records and of legal fronts.
use Rattle.std.specs.Prelude.{ℕ, [], ◌∷◌, ◌++◌, length, ◌≡◌, true, Some}
use Rattle.pts_terms.specs.Tree.{Bare, Below}
use Rattle.pts_ctx.specs.System.{Specification}
use Rattle.pts_ctx.specs.Front.{Global, Front, Fresh, HasEntries, Locals}
use Rattle.pts_record.specs.Table.{Tables}
use Rattle.pts_record.specs.Said.{Said, nothing, context, judgement, comparison, all_known, told}
use Rattle.pts_rules.specs.Step.{Step, Convertible, head_step}
use Rattle.pts_rules.specs.Derives.{Derives, Legal}
use Rattle.pts_rules.specs.WellFormed.{WellFormed}
use Rattle.pts_rules.specs.Valid.{IsValid, concludes}

-- What a node says is so: a context without a bare entry is well formed, a judgement is derivable in a well-formed
-- context, and the terms of a comparison are convertible.
abbrev pub Stands : Specification → Front → Said (Unit {0}) → Type 0
Stands S G nothing = Unit {0}
Stands S G (context s) = all_known s.entries ≡ true → WellFormed S G s.entries
Stands S G (judgement c s t T) = WellFormed S G s.entries × Derives S G s.entries t T
Stands S G (comparison c s t u) = Convertible G s.entries t u

-- Whatever a node of a valid record over a legal front says is so.
abbrev pub ValidRecordsAreSound : Type 0
ValidRecordsAreSound = (S : Specification) (G : Front) (r : Tables) → Legal S G → IsValid S G r → (k : ℕ) → Stands S G (told r k)

-- The entry that a valid record over a legal front concludes may follow the front, if its name is fresh.
abbrev pub ConclusionsAreLegal : Type 0
ConclusionsAreLegal = (S : Specification) (G : Front) (r : Tables) (e : Global (Unit {0})) → Legal S G → IsValid S G r → Fresh e.name G → concludes r e ≡ true → Legal S (G ++ e ∷ [])

-- What is derivable over a front is derivable over every legal front that has its entries.
abbrev pub JudgementsAreThinned : Type 0
JudgementsAreThinned = (S : Specification) (G H : Front) (L : Locals) (t T : Bare) → Legal S H → HasEntries G H → Derives S G L t T → Derives S H L t T

-- A record that is valid over a front is valid over every front that has its entries.
abbrev pub ValidRecordsAreThinned : Type 0
ValidRecordsAreThinned = (S : Specification) (G H : Front) (r : Tables) → HasEntries G H → IsValid S G r → IsValid S H r

-- A prefix of a legal front is legal.
abbrev pub PrefixesAreLegal : Type 0
PrefixesAreLegal = (S : Specification) (G H : Front) → Legal S (G ++ H) → Legal S G

-- A longer front has the entries of its beginning.
abbrev pub LongerFrontsHaveEntries : Type 0
LongerFrontsHaveEntries = (G H : Front) → HasEntries G (G ++ H)

-- The free indices of a derivable judgement point into its local context.
abbrev pub JudgementsAreScoped : Type 0
JudgementsAreScoped = (S : Specification) (G : Front) (L : Locals) (t T : Bare) → Derives S G L t T → Below (length L) t × Below (length L) T

-- A head step is a step.
abbrev pub HeadStepsAreSteps : Type 0
HeadStepsAreSteps = (G : Front) (L : Locals) (t u : Bare) → head_step G L t ≡ Some u → Step G L t u
