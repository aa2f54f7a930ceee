use Rattle.std.proofs.Common.{◌≡◌, ◌++◌, drop, map}
use Rattle.pts_terms.specs.Seen.{named}
use Rattle.pts_printed.specs.Locals.{goal_constants}
use Rattle.pts_printer.proofs.locals.add_goal_constants.Given as goal

abbrev pub invariant-loop-ty : goal.invariant-loop-ty
invariant-loop-ty l = record {
  variables : l.taken.variables ≡ l.initial.taken.variables;
  constants : l.taken.constants ++ goal_constants (map named (drop l.ty-index l.types)) (named l.statement) ≡ l.initial.taken.constants ++ goal_constants (map named l.types) (named l.statement);
}
