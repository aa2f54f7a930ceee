-- Well-formed local contexts.
use Rattle.std.specs.Prelude.{ℕ, [], ◌∷◌}
use Rattle.pts_terms.specs.Tree.{Bare, sort}
use Rattle.pts_ctx.specs.System.{Specification}
use Rattle.pts_ctx.specs.Front.{Front, assumed, defined, Locals}
use Rattle.pts_rules.specs.Derives.{Derives}

-- Each entry of the local context is well typed in the entries before it. So no entry is unknown.
pub data WellFormed (S : Specification) (G : Front) : Locals → Type 0 where
  no_entries : WellFormed S G []
  and_assumed : {L : Locals} {A : Bare} {s : ℕ} → WellFormed S G L → Derives S G L A (sort s) → WellFormed S G (assumed A ∷ L)
  and_defined : {L : Locals} {a A : Bare} → WellFormed S G L → Derives S G L a A → WellFormed S G (defined a A ∷ L)
