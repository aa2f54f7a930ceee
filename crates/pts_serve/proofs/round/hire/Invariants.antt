use Rattle.std.proofs.Common.{◌≡◌, ◌≤◌, ◌+◌, ◌++◌, map, length, vec_len, vec_capacity}
use Rattle.std.specs.List.{AllByRecursion}
use Rattle.pts_serve.specs.Workers.{turned, job_of, job_with}
use Rattle.pts_serve.proofs.round.hire.Given as goal

abbrev pub invariant-loop-pass : goal.invariant-loop-pass
invariant-loop-pass g l = record {
  jobs : map job_of l.staff.items ++ turned (map job_with l.workers.items) ≡ map job_of l.fn.staff.items;
  passes : l.passes.items ++ turned (map (λ w. w.pass) l.workers.items) ≡ l.fn.passes.items;
  owners : map (λ p. p.owner) l.passes.items ≡ map (λ s. s.number) l.staff.items;
  shared : AllByRecursion (λ w. w.shared.now ≡ l.shared) l.workers.items;
  world : AllByRecursion (λ w. w.world.now ≡ l.world) l.workers.items;
  capacity : vec_capacity l.passes ≡ vec_capacity l.fn.passes;
  room : length l.staff.items + vec_len l.workers ≤ vec_capacity l.workers;
}

abbrev pub decreases-loop-pass : goal.decreases-loop-pass
decreases-loop-pass g l = length l.passes.items
