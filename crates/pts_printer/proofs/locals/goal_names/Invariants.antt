use Rattle.std.proofs.Common.{◌≡◌, ◌++◌, [], drop, length, map}
use Rattle.pts_terms.specs.Seen.{named}
use Rattle.pts_printed.specs.Locals.{named_locals, goal_uses, goal_constants}
use Rattle.pts_printer.proofs.locals.goal_names.Given as goal

abbrev pub invariant-loop-place : goal.invariant-loop-place
invariant-loop-place l = record {
  variables : l.taken.variables ++ named_locals (goal_constants (map named l.types) (named l.statement)) l.taken.variables (goal_uses (drop l.place l.names) (map named (drop l.place l.types)) (named l.statement)) ≡ named_locals (goal_constants (map named l.types) (named l.statement)) [] (goal_uses l.names (map named l.types) (named l.statement));
  count : length l.taken.variables ≡ l.place;
  constants : l.taken.constants ≡ goal_constants (map named l.types) (named l.statement);
}
