use Rattle.pts_ctx.proofs.Hashed.{IsSearch}
use Rattle.pts_ctx.proofs.part.Part.place_of.Given as goal

abbrev pub invariant-loop-after : goal.invariant-loop-after
invariant-loop-after l = IsSearch l.name l.self.entries l.after

abbrev pub decreases-loop-after : goal.decreases-loop-after
decreases-loop-after l = l.after
