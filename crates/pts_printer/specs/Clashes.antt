-- Whether a name may not be chosen, as it is asked while a term is gone through.
use Rattle.std.specs.Prelude.{ℕ, suc, ◌-◌, List, [], Bool, false, ◌||◌, ◌&&◌, nat_lt, length, get_or, if◌then◌else◌}
use Rattle.pts_names.specs.Name.{Name, same_name, is_identifier}
use Rattle.pts_terms.specs.Tree.{Named, sort, const, var, app, named_lam, named_pi, named_let}

-- Whether this is the name of the variable of index i; the first name is that of the variable of index k.
abbrev pub is_outer : Name → List Name → ℕ → ℕ → Bool
is_outer x L k i = if nat_lt i k then false else (if nat_lt (i - k) (length L) then same_name x (get_or L (i - k) []) else false)

-- Whether this is the name of a variable that occurs in the term, or a constant of one part that does.
abbrev pub clashes : Name → List Name → ℕ → Named → Bool
clashes x L k (sort s) = false
clashes x L k (const c) = is_identifier c && same_name x c
clashes x L k (var i) = is_outer x L k i
clashes x L k (app f a) = clashes x L k f || clashes x L k a
clashes x L k (named_lam y A b) = clashes x L k A || clashes x L (suc k) b
clashes x L k (named_pi y A b) = clashes x L k A || clashes x L (suc k) b
clashes x L k (named_let y d A b) = clashes x L k d || (clashes x L k A || clashes x L (suc k) b)
