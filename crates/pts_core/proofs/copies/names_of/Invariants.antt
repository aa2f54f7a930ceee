use Rattle.std.proofs.Common.{◌≡◌, ◌++◌, map, drop}
use Rattle.pts_check.specs.Entered.{declared_entries}
use Rattle.pts_core.proofs.copies.names_of.Given as goal

abbrev pub invariant-loop-declaration : goal.invariant-loop-declaration
invariant-loop-declaration l =
    record {
      kept : map (λ c. c.kept) l.names.items ++ map (λ e. e.name) (declared_entries (drop l.declaration-index l.declarations)) ≡ map (λ e. e.name) (declared_entries l.declarations);
      shown : map (λ c. c.shown) l.names.items ++ map (λ e. e.name) (declared_entries (drop l.declaration-index l.declarations)) ≡ map (λ e. e.name) (declared_entries l.declarations);
    }
