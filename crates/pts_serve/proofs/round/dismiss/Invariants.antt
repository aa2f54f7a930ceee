use Rattle.std.proofs.Common.{◌≡◌, ◌≤◌, ◌+◌, ◌++◌, true, map, length, vec_len, vec_capacity}
use Rattle.std.specs.List.{AllByRecursion}
use Rattle.pts_serve.specs.Workers.{turned, finish_of, finish_with}
use Rattle.pts_serve.proofs.round.dismiss.Given as goal

abbrev pub invariant-loop-worker : goal.invariant-loop-worker
invariant-loop-worker g l = record {
  passes : l.passes.items ++ turned (map (λ w. w.pass) l.workers.items) ≡ turned (map (λ w. w.pass) l.fn.workers.items);
  finishes : map finish_of l.staff.items ++ turned (map finish_with l.workers.items) ≡ turned (map finish_with l.fn.workers.items);
  numbers : map (λ s. s.number) l.staff.items ++ turned (map (λ w. w.pass.owner) l.workers.items) ≡ turned (map (λ w. w.pass.owner) l.fn.workers.items);
  ended : l.all ≡ true → AllByRecursion (λ w. w.ended ≡ true) l.workers.items → AllByRecursion (λ w. w.ended ≡ true) l.fn.workers.items;
  room : length l.workers.items + vec_len l.passes ≤ vec_capacity l.passes;
  places : length l.workers.items + vec_len l.staff ≤ vec_capacity l.staff;
}

abbrev pub decreases-loop-worker : goal.decreases-loop-worker
decreases-loop-worker g l = length l.workers.items
