use Rattle.std.proofs.Common.{◌≡◌, drop, map}
use Rattle.pts_terms.specs.Seen.{named}
use Rattle.pts_printed.specs.Locals.{occurs_behind}
use Rattle.pts_printer.proofs.locals.occurs_behind.Given as goal

abbrev pub invariant-loop-place : goal.invariant-loop-place
invariant-loop-place l = occurs_behind l.place (map named (drop l.place l.types)) (named l.statement) ≡ occurs_behind 0 (map named l.types) (named l.statement)
