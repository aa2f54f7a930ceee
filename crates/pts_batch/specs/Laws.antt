-- The law of batches.
use Rattle.std.specs.Prelude.{◌≡◌, ℕ, List}
use Rattle.pts_names.specs.Name.{Name}
use Rattle.pts_ctx.specs.System.{Specification}
use Rattle.pts_batch.specs.Batches.{BatchAnswer, BatchAnswers}

-- A module has one answer at most, at one cost.
abbrev pub ModulesHaveOneAnswer : Type 0
ModulesHaveOneAnswer = (S : Specification) (M : Name) (bytes : List ℕ) (b : ℕ) (a c : BatchAnswer) (u v : ℕ) → BatchAnswers S M bytes b a u → BatchAnswers S M bytes b c v → (a ≡ c) × (u ≡ v)
