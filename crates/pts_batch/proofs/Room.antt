-- More entries than a front has.
use Rattle.std.proofs.Common.{◌≡◌, ◌<◌, ℕ, List, length, arith}
use Rattle.std.specs.Prelude.{codes}
use Rattle.pts_names.specs.Name.{Name}
use Rattle.pts_reduce_cost.specs.Costs.{Globals}
use Rattle.pts_batch.specs.Batches.{BatchAnswer, refusal, with_entries}

pub too_many : (sorts : List (List ℕ)) (M : Name) (G : Globals) (a : BatchAnswer) → 200000 < length G → a ≡ refusal M (codes "ContextFull 0") → a ≡ with_entries sorts M G
too_many sorts M G a h e = grind (arith, h, e)
