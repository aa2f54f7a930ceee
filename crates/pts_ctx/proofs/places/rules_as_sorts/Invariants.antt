use Rattle.std.proofs.Common.{◌≡◌, drop, take, map, not, length}
use Rattle.std.specs.List.{AllByRecursion, position_from, position}
use Rattle.pts_ctx.specs.System.{rule_is_declared, rule_at, RuleBelow}
use Rattle.pts_ctx.specs.Tables.{rule_places}
use Rattle.pts_ctx.proofs.places.rules_as_sorts.Given as goal

abbrev pub invariant-loop-place : goal.invariant-loop-place
invariant-loop-place l =
    record {
      places : map rule_places l.found.items ≡ map (rule_at l.sorts) (take l.place l.rules);
      below : AllByRecursion (RuleBelow (length l.sorts)) (map rule_places l.found.items);
      declared :
          position_from (λ r. not (rule_is_declared l.sorts r)) l.place (drop l.place l.rules) ≡ position (λ r. not (rule_is_declared l.sorts r)) l.rules;
    }
