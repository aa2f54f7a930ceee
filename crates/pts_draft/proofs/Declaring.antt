-- What is added to a draft is the declaration of what was stated.
use Rattle.std.proofs.Common.{◌≡◌, ℕ, List, [], ◌∷◌, ◌++◌, subst}
use Rattle.pts_names.specs.Name.{Name}
use Rattle.pts_ctx.specs.System.{Specification}
use Rattle.pts_ctx.specs.Front.{Global, Fresh}
use Rattle.pts_record.specs.declared.declaration.Declaration.{Declaration}
use Rattle.pts_check.specs.Entered.{declared}
use Rattle.pts_reduce_cost.specs.Laws.{WithinBudget}
use Rattle.pts_infer_cost.specs.Typing.{comes}
use Rattle.pts_declare.specs.Stated.{Stated}
use Rattle.pts_declare.specs.Checking.{Checks}
use Rattle.pts_draft.specs.Drafts.{SeenDraft, IsDeclared, scope}

-- What was found in the system of a draft and over its scope, by other names of both.
pub declared_over : (d : SeenDraft) (x : Name) (s : Stated) (b k : ℕ) (S : Specification) (G : List (Global Name)) (e : Declaration) (later : List Declaration) → S ≡ d.system → G ≡ scope d → Fresh x G → WithinBudget (Checks S G x s) b (comes (declared e)) k → later ≡ d.declarations ++ e ∷ [] → IsDeclared d x s b k later
declared_over d x s b k S G e later q g f w a = record {
  declaration = e;
  free = subst (Fresh x) g f;
  outcome = subst (λ H. WithinBudget (Checks d.system H x s) b (comes (declared e)) k) g (subst (λ R. WithinBudget (Checks R G x s) b (comes (declared e)) k) q w);
  added = a;
}
