-- Marks of variables, as they are made while a term is gone through.
use Rattle.std.specs.Prelude.{ℕ, suc, ◌-◌, List, [], ◌∷◌, Bool, true, false, nat_lt, if◌then◌else◌, slice_set, length}
use Rattle.pts_names.specs.Name.{Name}
use Rattle.pts_terms.specs.Tree.{Named, sort, const, var, app, named_lam, named_pi, named_let}
use Rattle.pts_printer.specs.Calls.{without_first}

-- The mark of the variable of index i set, where there is one; the first mark is that of the variable of index k.
abbrev pub mark_at : ℕ → ℕ → List Bool → List Bool
mark_at k i ms = if nat_lt i k then ms else (if nat_lt (i - k) (length ms) then slice_set ms (i - k) true else ms)

-- The marks of the variables that occur in a term set too.
abbrev pub marked : ℕ → List Bool → Named → List Bool
marked k ms (sort s) = ms
marked k ms (const c) = ms
marked k ms (var i) = mark_at k i ms
marked k ms (app f a) = marked k (marked k ms f) a
marked k ms (named_lam x A b) = marked (suc k) (marked k ms A) b
marked k ms (named_pi x A b) = marked (suc k) (marked k ms A) b
marked k ms (named_let x d A b) = marked (suc k) (marked k (marked k ms d) A) b

-- The same where the parts of a term are gone through from the last to the first, and each binder around a body has its mark
-- before the others. The first mark is that of the variable of index 0.
abbrev pub noted : List Bool → Named → List Bool
noted ms (sort s) = ms
noted ms (const c) = ms
noted ms (var i) = mark_at 0 i ms
noted ms (app f a) = noted (noted ms a) f
noted ms (named_lam x A b) = noted (without_first (noted (false ∷ ms) b)) A
noted ms (named_pi x A b) = noted (without_first (noted (false ∷ ms) b)) A
noted ms (named_let x d A b) = noted (noted (without_first (noted (false ∷ ms) b)) A) d

-- The names whose marks are set.
abbrev pub picked : List Name → List Bool → List Name
picked [] ms = []
picked (x ∷ L) [] = []
picked (x ∷ L) (m ∷ ms) = if m then x ∷ picked L ms else picked L ms
