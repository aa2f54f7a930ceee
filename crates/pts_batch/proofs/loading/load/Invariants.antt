use Rattle.std.proofs.Common.{◌≡◌, ◌≤◌, ℕ, [], ◌∷◌, length, map}
use Rattle.std.specs.Vec.Iter.{into_iter_items, into_iter_len}
use Rattle.pts_rules.specs.Meter.{left}
use Rattle.pts_reduce.specs.Given.{Later}
use Rattle.pts_check.specs.Entered.{declared_entries, MayFollow}
use Rattle.pts_batch.specs.Evidence.{numbered, AllDeclarable}
use Rattle.pts_batch.specs.Loading.{Loaded, Loads}
use Rattle.pts_batch.proofs.loading.load.Given as goal

abbrev pub invariant-loop-line : goal.invariant-loop-line
invariant-loop-line l = record {
  behind : (o : Loaded) (k : ℕ) → Loads l.system l.label l.loading.context.entries (map numbered (into_iter_items l.rest)) (left l.meter) o k → Loads l.system l.label [] (map numbered l.fn.lines.items) (left l.fn.meter) o k;
  names : AllDeclarable (into_iter_items l.rest);
  labels : l.loading.context.labels ≡ (l.label, 0) ∷ [];
  entries : l.loading.context.entries ≡ declared_entries l.loading.declarations.items;
  evidence : MayFollow l.system [] l.loading.declarations.items;
  long : into_iter_len l.rest ≡ length (into_iter_items l.rest);
  room : length (into_iter_items l.rest) ≤ l.loading.context.spare_entries;
  later : Later l.fn.meter l.meter;
}

abbrev pub decreases-loop-line : goal.decreases-loop-line
decreases-loop-line l = into_iter_len l.rest
