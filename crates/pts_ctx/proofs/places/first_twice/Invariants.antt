use Rattle.std.proofs.Common.{◌≡◌, drop}
use Rattle.pts_names.specs.Name.{same_name}
use Rattle.pts_ctx.specs.System.{first_pair}
use Rattle.pts_ctx.proofs.places.first_twice.Given as goal

abbrev pub invariant-loop-place : goal.invariant-loop-place
invariant-loop-place l = first_pair same_name l.place (drop l.place l.sorts) ≡ first_pair same_name 0 l.sorts
