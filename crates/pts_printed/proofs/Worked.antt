-- Printed terms and goals that are computed.
use Rattle.std.proofs.Common.{List, [], ◌∷◌, ◌++◌, ◌≡◌, refl, ℕ}
use Rattle.std.specs.Prelude.{codes, replicate}
use Rattle.std.specs.Fmt.{digits}
use Rattle.std.specs.Str as str
use Rattle.unicode_ident.proofs.Computing.{unicode_ident}
use Rattle.pts_names.specs.Name.{Name, is_identifier}
use Rattle.pts_terms.specs.Tree.{Named, sort, const, var, app, named_lam, named_pi, named_let}
use Rattle.pts_printed.specs.Choice.{choice}
use Rattle.pts_printed.specs.Locals.{chosen_locals, printed, goal_locals, printed_goal}

abbrev x : Name
x = codes "x"

abbrev A : Name
A = codes "A"

abbrev blank : Name
blank = codes "_"

abbrev star : Named
star = sort 0

abbrev sorts : List (List ℕ)
sorts = codes "*" ∷ codes "#" ∷ []

-- The outer variable does not occur behind the inner binder, which keeps its name; and where it does, a number is added.
hidden : printed sorts [] (named_lam x star (named_lam x (var 0) (var 0))) ≡ codes "\\x:*. \\x:x. x"
unfolding printed chosen_locals choice is_identifier digits str.chars unicode_ident
hidden = refl

captured : printed sorts [] (named_lam x star (named_lam x (var 0) (var 1))) ≡ codes "\\x:*. \\x1:x. x"
unfolding printed chosen_locals choice is_identifier digits str.chars unicode_ident
captured = refl

-- A product whose variable does not occur is written with an arrow. It has parentheses to the left of another.
arrow : printed sorts [] (named_pi A star (named_pi x (named_pi x (var 0) (var 1)) (var 1))) ≡ codes "@A:*. (A -> A) -> A"
unfolding printed chosen_locals choice is_identifier digits str.chars unicode_ident
arrow = refl

-- A function has parentheses where it binds, and an argument also where it is an application.
parentheses : printed sorts [] (app (named_lam x star (var 0)) (app (const A) (const A))) ≡ codes "(\\x:*. x) (A A)"
unfolding printed chosen_locals choice is_identifier digits str.chars unicode_ident
parentheses = refl

local : printed sorts [] (named_let x star (sort 1) (var 0)) ≡ codes "let x := * : # in x"
unfolding printed chosen_locals choice is_identifier digits str.chars unicode_ident
local = refl

-- Two locals that do not occur keep `_` and get a number; where the inner one occurs, it is called `x`.
unused : chosen_locals (blank ∷ blank ∷ []) star ≡ codes "_" ∷ codes "_1" ∷ []
unfolding printed chosen_locals choice is_identifier digits str.chars unicode_ident
unused = refl

used : printed sorts (blank ∷ blank ∷ []) (named_lam blank (var 0) (const blank)) ≡ codes "\\_1:x. _"
unfolding printed chosen_locals choice is_identifier digits str.chars unicode_ident
used = refl

-- A name of several parts is `x`, and a constant of several parts hides nothing.
several_parts : printed sorts [] (named_lam (codes "a.x") star (const (codes "a.x"))) ≡ codes "\\x:*. a.x"
unfolding printed chosen_locals choice is_identifier digits str.chars unicode_ident
several_parts = refl

-- Goals. A hypothesis is over those before it.
no_hypotheses : printed_goal sorts [] [] star ≡ codes "|- *"
unfolding printed_goal goal_locals choice is_identifier digits str.chars unicode_ident
no_hypotheses = refl

two_hypotheses : printed_goal sorts (A ∷ x ∷ []) (star ∷ var 0 ∷ []) (var 1) ≡ codes "A : *, x : A |- A"
unfolding printed_goal goal_locals choice is_identifier digits str.chars unicode_ident
two_hypotheses = refl

-- A name of 128 bytes gets no number: `x` is taken for it, with a number where that is forbidden too.
long : Name
long = replicate 128 97

too_long : printed sorts [] (named_lam long star (named_lam long star (var 1))) ≡ codes "\\" ++ (long ++ (codes ":*. \\x:*. " ++ long))
unfolding printed chosen_locals choice is_identifier digits str.chars unicode_ident long
too_long = refl

long_twice : printed sorts [] (named_lam long star (named_lam x star (named_lam long (var 1) (app (var 2) (var 1))))) ≡ codes "\\" ++ (long ++ (codes ":*. \\x:*. \\x1:" ++ (long ++ (codes ". " ++ (long ++ codes " x")))))
unfolding printed chosen_locals choice is_identifier digits str.chars unicode_ident long
long_twice = refl
