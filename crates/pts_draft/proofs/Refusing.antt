-- The fault of what is stated, as one of a draft.
use Rattle.std.proofs.Common.{ℕ}
use Rattle.pts_names.specs.Name.{Name}
use Rattle.pts_ctx.specs.Front.{Fresh}
use Rattle.pts_declare.specs.declared.fault.DeclareFault.{DeclareFault}
use Rattle.pts_declare.specs.declared.fault.DeclareFault.TheVariants.{Infer, Memory}
use Rattle.pts_declare.specs.Stated.{Stated}
use Rattle.pts_declare.specs.Refusals.{NotDeclared}
use Rattle.pts_draft.specs.Drafts.{SeenDraft, scope}
use Rattle.pts_draft.specs.Refusals.{draft_fault, RefusesStated}

pub stated_refused : (d : SeenDraft) (x : Name) (s : Stated) (e : DeclareFault) (b k : ℕ) → Fresh x (scope d) → NotDeclared d.system (scope d) x s e b k → RefusesStated d x s (draft_fault e) b k
stated_refused d x s (Infer part fault) b k free h = (free, h)
stated_refused d x s Memory b k free h = tt
