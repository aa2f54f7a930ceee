-- The printed name of a binder.
use Rattle.std.specs.Prelude.{ℕ, zero, suc, List, [], ◌∷◌, ◌++◌, Bool, false, ◌||◌, if◌then◌else◌, nat_eq, nat_lt, length, codes, decimal}
use Rattle.pts_names.specs.Name.{Name, same_name, is_identifier, underscore}
use Rattle.pts_terms.specs.Tree.{Tree, sort, const, var, app, named_lam, named_pi, named_let}

-- Whether the variable of index k occurs in a term.
abbrev pub occurs : {B : Type 0} → ℕ → Tree B → Bool
occurs k (sort s) = false
occurs k (const c) = false
occurs k (var i) = nat_eq i k
occurs k (app f a) = occurs k f || occurs k a
occurs k (named_lam x A b) = occurs k A || occurs (suc k) b
occurs k (named_pi x A B) = occurs k A || occurs (suc k) B
occurs k (named_let x a A b) = occurs k a || (occurs k A || occurs (suc k) b)

-- The name, if it has one part.
abbrev pub if_one_part : Name → List Name
if_one_part c = if is_identifier c then c ∷ [] else []

-- The constants of one part that occur in a term, from left to right.
abbrev pub constants : {B : Type 0} → Tree B → List Name
constants (sort s) = []
constants (const c) = if_one_part c
constants (var i) = []
constants (app f a) = constants f ++ constants a
constants (named_lam x A b) = constants A ++ constants b
constants (named_pi x A B) = constants A ++ constants B
constants (named_let x a A b) = constants a ++ (constants A ++ constants b)

-- Those names whose variables occur in a term; the first name is that of the variable of index k.
abbrev pub occurring : {B : Type 0} → ℕ → List Name → Tree B → List Name
occurring k [] t = []
occurring k (x ∷ L) t = if occurs k t then x ∷ occurring (suc k) L t else occurring (suc k) L t

-- What a binder with this body may not be called, where L are the printed names of the outer variables, the innermost
-- first: the names of those that occur in the body, and the constants of one part that occur in it.
abbrev pub forbidden : {B : Type 0} → List Name → Tree B → List Name
forbidden L body = occurring 1 L body ++ constants body

-- Whether the name is one of these.
abbrev pub is_among : Name → List Name → Bool
is_among x [] = false
is_among x (y ∷ F) = same_name x y || is_among x F

-- The name x with the least number from n on that makes it none of F; `more` numbers are tried, and the one after them
-- is taken as it is. Of as many numbers as F has names, and one more, some number always does.
abbrev pub numbered : ℕ → (more : ℕ) → Name → List Name → Name
numbered n zero x F = x ++ decimal n
numbered n (suc more) x F = if is_among (x ++ decimal n) F then numbered (suc n) more x F else (x ++ decimal n)

-- The name x, if it is none of F, and else x with the least number from 1 on that makes it none of F.
abbrev pub allowed : Name → List Name → Name
allowed x F = if is_among x F then numbered 1 (length F) x F else x

-- `x`, which stands for a name of several parts, and for `_` where the variable occurs.
abbrev pub letter_x : Name
letter_x = codes "x"

-- Where the choice begins: at the binder's own name, if that will do.
abbrev pub base : Name → (used : Bool) → Name
base x used = if is_identifier x then (if same_name x underscore then (if used then letter_x else underscore) else x) else letter_x

-- The first name, if it has at most 128 bytes, or else the second.
abbrev pub if_short : Name → Name → Name
if_short y z = if nat_lt 128 (length y) then z else y

-- The name that is chosen for a variable called x, given whether it occurs, where F is forbidden.
unfoldable pub choice : Name → (used : Bool) → List Name → Name
choice x used F = if_short (allowed (base x used) F) (allowed letter_x F)

-- The printed name of a binder called x with this body.
abbrev pub chosen : {B : Type 0} → Name → List Name → Tree B → Name
chosen x L body = choice x (occurs 0 body) (forbidden L body)
