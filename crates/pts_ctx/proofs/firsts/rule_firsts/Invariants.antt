use Rattle.std.proofs.Common.{◌≡◌, ◌*◌, drop, take, map, length}
use Rattle.std.specs.List.{AllByRecursion}
use Rattle.pts_ctx.specs.Firsts.{Knows}
use Rattle.pts_ctx.specs.System.{RuleBelow}
use Rattle.pts_ctx.specs.Tables.{rule_places, rule_line}
use Rattle.pts_ctx.proofs.firsts.rule_firsts.Given as goal

abbrev pub invariant-loop-place : goal.invariant-loop-place
invariant-loop-place l =
    record {
      knows : Knows l.firsts.rights.items l.firsts.places.items l.firsts.clash (map rule_line (map rule_places (take l.place l.rules)));
      rights : length l.firsts.rights.items ≡ 64 * l.sorts;
      places : length l.firsts.places.items ≡ 64 * l.sorts;
      below : AllByRecursion (RuleBelow l.sorts) (map rule_places (drop l.place l.rules));
    }
