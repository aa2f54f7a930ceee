use Rattle.std.proofs.Common.{◌≡◌, ◌++◌, drop, reverse}
use Rattle.pts_printer.specs.Marks.{picked}
use Rattle.pts_printer.proofs.outer.add_marked.Given as goal

abbrev pub invariant-loop-behind : goal.invariant-loop-behind
invariant-loop-behind l = record {
  variables : l.taken.variables ++ picked (drop l.behind (reverse l.names)) (drop l.behind l.marks) ≡ l.initial.taken.variables ++ picked (reverse l.names) l.marks;
  constants : l.taken.constants ≡ l.initial.taken.constants;
}
