use Rattle.std.proofs.Common.{[], drop}
use Rattle.pts_modules.specs.Orders.{Order, Orders}
use Rattle.pts_modules.proofs.order.order_modules.Given as goal

abbrev pub invariant-loop-name : goal.invariant-loop-name
invariant-loop-name l = (o : Order) → Orders l.shelf.modules [] l.done.items (drop l.name-index l.names) o → Orders l.shelf.modules [] [] l.names o
