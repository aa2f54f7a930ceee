use Rattle.std.proofs.Common.{◌≡◌, ◌++◌, [], drop, map, reverse, take}
use Rattle.pts_terms.specs.Seen.{named}
use Rattle.pts_printed.specs.Locals.{comma_joined, hypotheses}
use Rattle.pts_printer.specs.Commas.{commas}
use Rattle.pts_printer.proofs.goal.hypotheses_at.Given as goal

abbrev pub invariant-loop-place : goal.invariant-loop-place
invariant-loop-place l = record {
  text : l.page ++ commas l.place (hypotheses l.system.sorts (take l.place l.names) (drop l.place l.names) (map named (drop l.place l.types))) ≡ l.initial.page ++ comma_joined (hypotheses l.system.sorts [] l.names (map named l.types));
  outer : l.outer ≡ reverse (take l.place l.names);
}
