use Rattle.std.proofs.Common.{◌≡◌, drop, take, map, length}
use Rattle.std.specs.List.{AllByRecursion}
use Rattle.pts_ctx.specs.Firsts.{Knows}
use Rattle.pts_ctx.specs.System.{AxiomBelow}
use Rattle.pts_ctx.specs.Tables.{axiom_places}
use Rattle.pts_ctx.proofs.firsts.axiom_firsts.Given as goal

abbrev pub invariant-loop-place : goal.invariant-loop-place
invariant-loop-place l =
    record {
      knows : Knows l.firsts.rights.items l.firsts.places.items l.firsts.clash (map axiom_places (take l.place l.axioms));
      rights : length l.firsts.rights.items ≡ l.sorts;
      places : length l.firsts.places.items ≡ l.sorts;
      below : AllByRecursion (AxiomBelow l.sorts) (map axiom_places (drop l.place l.axioms));
    }
