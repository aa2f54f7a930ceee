-- The laws of modules.
use Rattle.std.specs.Prelude.{◌≡◌, ℕ, List, []}
use Rattle.pts_names.specs.Name.{Name}
use Rattle.pts_modules.specs.Orders.{Order, Orders}

-- There is one order at most, or one fault.
abbrev pub ModulesHaveOneOrder : Type 0
ModulesHaveOneOrder = (files : List (Name × List ℕ)) (names : List Name) (o p : Order) → Orders files [] [] names o → Orders files [] [] names p → o ≡ p
