use Rattle.std.proofs.Common.{ℕ, [], ◌∷◌}
use Rattle.pts_modules.specs.Orders.{Order, Orders}
use Rattle.pts_modules.specs.Stacks.{Ends, open_of, work}
use Rattle.pts_modules.proofs.order.place_module.Given as goal

abbrev pub invariant-loop-newest : goal.invariant-loop-newest
invariant-loop-newest l = (o : Order) → Ends l.shelf.modules (open_of l.opened.items) l.done.items o → Orders l.shelf.modules [] l.fn.done.items (l.name ∷ []) o

abbrev pub decreases-loop-newest : goal.decreases-loop-newest
decreases-loop-newest l = work l.shelf.modules (open_of l.opened.items) l.done.items
