use Rattle.std.proofs.Common.{◌≡◌, ◌++◌, [], drop}
use Rattle.pts_terms.specs.Seen.{named}
use Rattle.pts_printed.specs.Choice.{constants}
use Rattle.pts_printed.specs.Locals.{named_locals, uses}
use Rattle.pts_printer.proofs.locals.chosen_locals.Given as goal

abbrev pub invariant-loop-place : goal.invariant-loop-place
invariant-loop-place l = record {
  variables : l.taken.variables ++ named_locals (constants (named l.term)) l.taken.variables (uses (drop l.place l.locals) (named l.term)) ≡ named_locals (constants (named l.term)) [] (uses l.locals (named l.term));
  constants : l.taken.constants ≡ constants (named l.term);
}
