use Rattle.std.proofs.Common.{◌≡◌, ◌≤◌, ◌-◌, [], length, map, min}
use Rattle.std.specs.Vec.Iter.{into_iter_items, into_iter_len}
use Rattle.pts_certificate.specs.Seen.{declared_of}
use Rattle.yarrow.specs.Enter.{enter_all}
use Rattle.yarrow.proofs.enter.enter_all.Given as goal

abbrev pub invariant-loop-declaration : goal.invariant-loop-declaration
invariant-loop-declaration l = record {
  rest : enter_all l.system l.context.entries (map declared_of (into_iter_items l.rest)) ≡ enter_all l.system [] (map declared_of l.fn.declarations.items);
  labels : l.context.labels ≡ [];
  room : min (into_iter_len l.rest) (200000 - length l.context.entries) ≤ l.context.spare_entries;
}

abbrev pub decreases-loop-declaration : goal.decreases-loop-declaration
decreases-loop-declaration l = into_iter_len l.rest
