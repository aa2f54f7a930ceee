-- A term with its names chosen and its sorts spelled, which is what is printed.
use Rattle.std.specs.Prelude.{ℕ, List, [], ◌∷◌, if◌then◌else◌, get_or}
use Rattle.pts_names.specs.Name.{Name, underscore}
use Rattle.pts_terms.specs.Tree.{Named, sort, const, var, app, named_lam, named_pi, named_let}
use Rattle.pts_grammar.specs.Syntax.{Syntax, sort as a_sort, name as a_name, app as applied, lam, pi, let_in}
use Rattle.pts_printed.specs.Choice.{occurs, chosen}

-- The printed name of the variable of a product. It is `_` exactly where the variable does not occur; such a product is
-- written with an arrow.
abbrev pub product_name : Name → List Name → Named → Name
product_name x L body = if occurs 0 body then chosen x L body else underscore

-- The syntax of a term. `sorts` are the spellings of the sorts, and L the printed names of the variables around the term,
-- the innermost first. All places are 0. A sort or a variable that there is not would be an empty word.
abbrev pub spelled : (sorts : List (List ℕ)) → List Name → Named → Syntax
spelled sorts L (sort s) = a_sort 0 (get_or sorts s [])
spelled sorts L (const c) = a_name 0 c
spelled sorts L (var i) = a_name 0 (get_or L i [])
spelled sorts L (app f a) = applied (spelled sorts L f) (spelled sorts L a)
spelled sorts L (named_lam x A b) = lam (chosen x L b) (spelled sorts L A) (spelled sorts (chosen x L b ∷ L) b)
spelled sorts L (named_pi x A B) = pi (product_name x L B) (spelled sorts L A) (spelled sorts (product_name x L B ∷ L) B)
spelled sorts L (named_let x a A b) = let_in (chosen x L b) (spelled sorts L a) (spelled sorts L A) (spelled sorts (chosen x L b ∷ L) b)
