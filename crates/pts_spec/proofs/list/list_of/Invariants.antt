use Rattle.std.proofs.Common.{◌≡◌, ◌++◌, drop, option_map}
use Rattle.toml.specs.View.{items_view}
use Rattle.pts_spec.specs.Shapes.{items_as}
use Rattle.pts_spec.proofs.list.list_of.Given as goal

-- The items so far and those of the rest are those of all.
abbrev pub invariant-loop-value : goal.invariant-loop-value
invariant-loop-value g l =
    option_map (λ rest. l.items.items ++ rest) (items_as g.T.Item.item_of (items_view (drop l.value-index l.value-items))) ≡ items_as g.T.Item.item_of (items_view l.value-items)
