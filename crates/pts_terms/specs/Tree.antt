-- Terms as plain data, with lifting and the two substitutions (de Bruijn's indices, 1972).
use Rattle.std.specs.Prelude.{ℕ, suc, pred, ◌+◌, ◌<◌, Bool, false, ◌&&◌, nat_lt, nat_eq, if◌then◌else◌}
use Rattle.pts_names.specs.Name.{Name, same_name}

-- A term with something of type `B` at each binder: its printed name, or nothing.
-- `var 0` is the innermost binder. A local definition has its definition, the type of that, and its body.
pub data Tree (B : Type 0) : Type 0 where
  sort : (s : ℕ) → Tree B
  const : (c : Name) → Tree B
  var : (i : ℕ) → Tree B
  app : (function argument : Tree B) → Tree B
  named_lam : (x : B) (domain body : Tree B) → Tree B
  named_pi : (x : B) (domain body : Tree B) → Tree B
  named_let : (x : B) (definition type body : Tree B) → Tree B

-- A term with the printed names of its binders.
abbrev pub Named : Type 0
Named = Tree Name

-- A term as the rules see it: without printed names.
abbrev pub Bare : Type 0
Bare = Tree (Unit {0})

-- Abstraction, product and local definition without a printed name.
pattern abbrev pub lam : Bare → Bare → Bare
lam A b = named_lam tt A b

pattern abbrev pub pi : Bare → Bare → Bare
pi A B = named_pi tt A B

pattern abbrev pub let_in : Bare → Bare → Bare → Bare
let_in a A b = named_let tt a A b

-- The term without its printed names.
abbrev pub bare : {B : Type 0} → Tree B → Bare
bare (sort s) = sort s
bare (const c) = const c
bare (var i) = var i
bare (app f a) = app (bare f) (bare a)
bare (named_lam x A b) = lam (bare A) (bare b)
bare (named_pi x A B) = pi (bare A) (bare B)
bare (named_let x a A b) = let_in (bare a) (bare A) (bare b)

-- Adds n to an index that is at least k.
abbrev pub lift_index : ℕ → ℕ → ℕ → ℕ
lift_index k n i = if nat_lt i k then i else (i + n)

-- Adds n to each free index that is at least k: the term after n further binders.
abbrev pub lift : {B : Type 0} → ℕ → ℕ → Tree B → Tree B
lift k n (sort s) = sort s
lift k n (const c) = const c
lift k n (var i) = var (lift_index k n i)
lift k n (app f a) = app (lift k n f) (lift k n a)
lift k n (named_lam x A b) = named_lam x (lift k n A) (lift (suc k) n b)
lift k n (named_pi x A B) = named_pi x (lift k n A) (lift (suc k) n B)
lift k n (named_let x a A b) = named_let x (lift k n a) (lift k n A) (lift (suc k) n b)

-- What stands for index i where a, lifted by the n binders that were passed, is put for index k.
abbrev pub put_index : {B : Type 0} → ℕ → ℕ → Tree B → ℕ → Tree B
put_index k n a i = if nat_lt i k then var i else (if nat_eq i k then lift 0 n a else var (pred i))

-- Puts a for index k, n binders having been passed, and lowers each greater index by one.
abbrev pub put : {B : Type 0} → ℕ → ℕ → Tree B → Tree B → Tree B
put k n a (sort s) = sort s
put k n a (const c) = const c
put k n a (var i) = put_index k n a i
put k n a (app f b) = app (put k n a f) (put k n a b)
put k n a (named_lam x A b) = named_lam x (put k n a A) (put (suc k) (suc n) a b)
put k n a (named_pi x A B) = named_pi x (put k n a A) (put (suc k) (suc n) a B)
put k n a (named_let x d A b) = named_let x (put k n a d) (put k n a A) (put (suc k) (suc n) a b)

-- t[k := a], written `subst k a t`.
abbrev pub subst : {B : Type 0} → ℕ → Tree B → Tree B → Tree B
subst k a t = put k 0 a t

-- t{c := a}: the closed term a for the constant c.
abbrev pub subst_const : {B : Type 0} → Name → Tree B → Tree B → Tree B
subst_const c a (sort s) = sort s
subst_const c a (const d) = if same_name c d then a else const d
subst_const c a (var i) = var i
subst_const c a (app f b) = app (subst_const c a f) (subst_const c a b)
subst_const c a (named_lam x A b) = named_lam x (subst_const c a A) (subst_const c a b)
subst_const c a (named_pi x A B) = named_pi x (subst_const c a A) (subst_const c a B)
subst_const c a (named_let x d A b) = named_let x (subst_const c a d) (subst_const c a A) (subst_const c a b)

-- Every free index is below k.
abbrev pub Below : {B : Type 0} → ℕ → Tree B → Type 0
Below k (sort s) = Unit {0}
Below k (const c) = Unit {0}
Below k (var i) = i < k
Below k (app f a) = Below k f × Below k a
Below k (named_lam x A b) = Below k A × Below (suc k) b
Below k (named_pi x A B) = Below k A × Below (suc k) B
Below k (named_let x a A b) = Below k a × Below k A × Below (suc k) b

-- Whether two terms without printed names are one.
abbrev pub same_term : Bare → Bare → Bool
same_term (sort s) (sort r) = nat_eq s r
same_term (const c) (const d) = same_name c d
same_term (var i) (var j) = nat_eq i j
same_term (app f a) (app g b) = same_term f g && same_term a b
same_term (named_lam x A b) (named_lam y C d) = same_term A C && same_term b d
same_term (named_pi x A b) (named_pi y C d) = same_term A C && same_term b d
same_term (named_let x a A b) (named_let y c C d) = same_term a c && (same_term A C && same_term b d)
same_term _ _ = false
