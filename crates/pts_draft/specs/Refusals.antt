-- What is answered where a draft refuses.
use Rattle.std.specs.Prelude.{◌≡◌, ℕ, Option, Some}
use Rattle.pts_names.specs.Name.{Name}
use Rattle.pts_ctx.specs.Front.{Fresh}
use Rattle.pts_ctx.specs.Seen.{place_of}
use Rattle.pts_declare.specs.declared.fault.DeclareFault.{DeclareFault}
use Rattle.pts_declare.specs.declared.fault.DeclareFault.TheVariants as declare
use Rattle.pts_declare.specs.Stated.{Stated}
use Rattle.pts_declare.specs.Refusals.{NotDeclared}
use Rattle.pts_draft.specs.declared.fault.DraftFault.{DraftFault}
use Rattle.pts_draft.specs.declared.fault.DraftFault.TheVariants.{Taken, Infer, Memory}
use Rattle.pts_draft.specs.Drafts.{SeenDraft, scope}

-- The same fault of a draft.
abbrev pub draft_fault : DeclareFault → DraftFault
draft_fault (declare.Infer part fault) = Infer part fault
draft_fault declare.Memory = Memory

-- With b units before and k after it: x exists in the scope of d, at that place, and nothing is spent; or x is free, and the
-- inference of what is stated of it has that fault. Out of memory is free.
abbrev pub RefusesStated : SeenDraft → Name → Stated → DraftFault → ℕ → ℕ → Type 0
RefusesStated d x s (Taken y place) b k = (y ≡ x) × (place_of x (scope d) ≡ Some place) × (k ≡ b)
RefusesStated d x s (Infer part fault) b k = Fresh x (scope d) × NotDeclared d.system (scope d) x s (declare.Infer part fault) b k
RefusesStated d x s Memory b k = Unit {0}

-- The fault names what is taken, if anything is. Out of memory is free.
abbrev pub IsTaken : Option (Name × ℕ) → DraftFault → Type 0
IsTaken taken (Taken x place) = taken ≡ Some (x, place)
IsTaken taken (Infer part fault) = ⊥
IsTaken taken Memory = Unit {0}
