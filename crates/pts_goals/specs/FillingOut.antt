-- What it is to fill an open proof out, and when it is sound.
use Rattle.std.specs.Prelude.{◌≡◌, ℕ, List, length, Some, true}
use Rattle.pts_terms.specs.Tree.{Named, bare}
use Rattle.pts_terms.specs.Limits.{within}
use Rattle.pts_ctx.specs.System.{Specification}
use Rattle.pts_ctx.specs.Front.{Front}
use Rattle.pts_record.specs.Table.{Tables, NodesLinked, bare_at}
use Rattle.pts_rules.specs.Valid.{IsValid, last_said, concludes_as}
use Rattle.pts_grow.specs.Keeps.{Keeps}
use Rattle.pts_grow.specs.declared.judged.Judged.{Judged}
use Rattle.pts_goals.specs.OpenGoals.{Makes, AllClose, subjects_of}
use Rattle.pts_goals.specs.OpenProofs.{OpenProof}

-- Each node leads to earlier nodes and to terms that exist.
abbrev pub IsLinked : Tables → Type 0
IsLinked r = NodesLinked (length r.shapes) 0 r.nodes

-- A valid record that has what the scratch record has, and for each open goal a judgement that closes it; of their subjects
-- the steps make the term t, which is within limits.
pub record FillsOut (S : Specification) (G : Front) (p : OpenProof) (q : Tables) (js : List Judged) (t : Named) : Type 0 where
  pub keeps : Keeps p.scratch q
  pub linked : IsLinked q
  pub valid : IsValid S G q
  pub closes : AllClose q p.goals js
  pub made : Makes p.scratch p.steps (length p.steps) (subjects_of q js) t
  pub within : within t ≡ true

-- A valid record that has what the first one has, and concludes that t has the theorem's statement as its type.
pub record Proves (S : Specification) (G : Front) (p : OpenProof) (q : Tables) (t : Named) (z : Tables) : Type 0 where
  pub keeps : Keeps q z
  pub linked : IsLinked z
  pub valid : IsValid S G z
  pub concludes : concludes_as (last_said z) (Some (bare t)) (bare_at p.scratch.shapes p.root.statement) ≡ true

-- Every filling-out of the proof comes with further lines to a record that proves the theorem.
abbrev pub IsSound : OpenProof → Type 0
IsSound p = (S : Specification) (G : Front) (q : Tables) (js : List Judged) (t : Named) → FillsOut S G p q js t → (z : Tables) × Proves S G p q t z
