use Rattle.std.proofs.Common.{◌+◌, ◌*◌}
use Rattle.pts_infer.proofs.work.Work.+inferring.Given as goal

abbrev pub decreases-fit : goal.decreases-fit
decreases-fit l = 16 * l.at.allowed + 3

abbrev pub decreases-fitted_argument : goal.decreases-fitted_argument
decreases-fitted_argument l = 16 * l.at.allowed + 4

abbrev pub decreases-fitted_value : goal.decreases-fitted_value
decreases-fitted_value l = 16 * l.at.allowed + 4

abbrev pub decreases-function_part : goal.decreases-function_part
decreases-function_part l = 16 * l.at.allowed + 4

abbrev pub decreases-infer : goal.decreases-infer
decreases-infer l = 16 * l.at.allowed

abbrev pub decreases-infer_abstraction : goal.decreases-infer_abstraction
decreases-infer_abstraction l = 16 * l.at.allowed + 12

abbrev pub decreases-infer_application : goal.decreases-infer_application
decreases-infer_application l = 16 * l.at.allowed + 12

abbrev pub decreases-infer_definition : goal.decreases-infer_definition
decreases-infer_definition l = 16 * l.at.allowed + 13

abbrev pub decreases-infer_form : goal.decreases-infer_form
decreases-infer_form l = 16 * l.at.allowed + 15

abbrev pub decreases-infer_let_type : goal.decreases-infer_let_type
decreases-infer_let_type l = 16 * l.over.inner.allowed + 11

abbrev pub decreases-infer_product : goal.decreases-infer_product
decreases-infer_product l = 16 * l.at.allowed + 12

abbrev pub decreases-inferred_part : goal.decreases-inferred_part
decreases-inferred_part l = 16 * l.at.allowed + 1

abbrev pub decreases-product_of : goal.decreases-product_of
decreases-product_of l = 16 * l.at.allowed + 3

abbrev pub decreases-sorted : goal.decreases-sorted
decreases-sorted l = 16 * l.at.allowed + 1

abbrev pub decreases-sorted_form : goal.decreases-sorted_form
decreases-sorted_form l = 16 * l.at.allowed + 2

abbrev pub decreases-sorted_part : goal.decreases-sorted_part
decreases-sorted_part l = 16 * l.at.allowed + 2

abbrev pub decreases-sorted_type : goal.decreases-sorted_type
decreases-sorted_type l = 16 * l.at.allowed + 2

abbrev pub decreases-sorted_wanted : goal.decreases-sorted_wanted
decreases-sorted_wanted l = 16 * l.at.allowed + 2
