-- Closed terms in the place of constants, all at once.
use Rattle.std.specs.Prelude.{List, [], ◌∷◌, if◌then◌else◌}
use Rattle.pts_names.specs.Name.{Name, same_name}
use Rattle.pts_terms.specs.Tree.{Tree, sort, const, var, app, named_lam, named_pi, named_let}

-- The term with f(c) in the place of each constant c. Binders keep their printed names; f answers closed terms, so nothing is lifted.
abbrev pub replaced : {B : Type 0} → (Name → Tree B) → Tree B → Tree B
replaced f (sort s) = sort s
replaced f (const c) = f c
replaced f (var i) = var i
replaced f (app g a) = app (replaced f g) (replaced f a)
replaced f (named_lam x A b) = named_lam x (replaced f A) (replaced f b)
replaced f (named_pi x A B) = named_pi x (replaced f A) (replaced f B)
replaced f (named_let x a A b) = named_let x (replaced f a) (replaced f A) (replaced f b)

-- The term that a list of pairs has for a constant: that of the first pair with its name. A constant without a pair stays.
abbrev pub among : {B : Type 0} → List (Name × Tree B) → Name → Tree B
among [] c = const c
among (p ∷ ps) c = if same_name p.0 c then p.1 else among ps c
