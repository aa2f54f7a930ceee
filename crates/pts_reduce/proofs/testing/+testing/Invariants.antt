use Rattle.std.proofs.Common.{◌+◌, ◌*◌}
use Rattle.pts_reduce.proofs.testing.+testing.Given as goal

abbrev pub decreases-convert_in : goal.decreases-convert_in
decreases-convert_in l = 5 * l.allowed

abbrev pub decreases-convert_unequal : goal.decreases-convert_unequal
decreases-convert_unequal l = 5 * l.allowed + 4

abbrev pub decreases-convert_forms : goal.decreases-convert_forms
decreases-convert_forms l = 5 * l.allowed + 3

abbrev pub decreases-convert_applications : goal.decreases-convert_applications
decreases-convert_applications l = 5 * l.allowed + 2

abbrev pub decreases-convert_abstractions : goal.decreases-convert_abstractions
decreases-convert_abstractions l = 5 * l.allowed + 2

abbrev pub decreases-convert_products : goal.decreases-convert_products
decreases-convert_products l = 5 * l.allowed + 2

abbrev pub decreases-convert_both : goal.decreases-convert_both
decreases-convert_both l = 5 * l.allowed + 1
