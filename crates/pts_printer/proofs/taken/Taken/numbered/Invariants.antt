use Rattle.std.proofs.Common.{◌≡◌, ◌-◌, ◌+◌, length}
use Rattle.pts_printed.specs.Choice.{numbered}
use Rattle.pts_printer.specs.Calls.{forbidden}
use Rattle.pts_printer.proofs.taken.Taken.numbered.Given as goal

abbrev pub invariant-loop-number : goal.invariant-loop-number
invariant-loop-number l = record {
  count : l.number-end ≡ length (forbidden l.self) + 1;
  same : numbered l.number-counter (l.number-end - l.number-counter) l.name (forbidden l.self) ≡ numbered 1 (length (forbidden l.self)) l.name (forbidden l.self);
}
