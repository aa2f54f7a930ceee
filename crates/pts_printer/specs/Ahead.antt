-- Whether the variable of each binder of a term occurs in its body: a list, in the order in which the binders are written.
use Rattle.std.specs.Prelude.{List, [], ◌∷◌, Bool, ◌≡◌}
use Rattle.pts_terms.specs.Tree.{Named, sort, const, var, app, named_lam, named_pi, named_let}
use Rattle.pts_printed.specs.Choice.{occurs}
use Rattle.pts_printer.specs.Calls.{first_or_false, without_first}

-- What is left of a list after a term.
abbrev pub behind : Named → List Bool → List Bool
behind (sort s) us = us
behind (const c) us = us
behind (var i) us = us
behind (app f a) us = behind a (behind f us)
behind (named_lam x A b) us = behind b (behind A (without_first us))
behind (named_pi x A b) us = behind b (behind A (without_first us))
behind (named_let x d A b) us = behind b (behind A (behind d (without_first us)))

-- The list begins with that of the term.
abbrev pub IsTold : Named → List Bool → Type 0
IsTold (sort s) us = Unit {0}
IsTold (const c) us = Unit {0}
IsTold (var i) us = Unit {0}
IsTold (app f a) us = IsTold f us × IsTold a (behind f us)
IsTold (named_lam x A b) us = (first_or_false us ≡ occurs 0 b) × IsTold A (without_first us) × IsTold b (behind A (without_first us))
IsTold (named_pi x A b) us = (first_or_false us ≡ occurs 0 b) × IsTold A (without_first us) × IsTold b (behind A (without_first us))
IsTold (named_let x d A b) us = (first_or_false us ≡ occurs 0 b) × IsTold d (without_first us) × IsTold A (behind d (without_first us)) × IsTold b (behind A (behind d (without_first us)))
