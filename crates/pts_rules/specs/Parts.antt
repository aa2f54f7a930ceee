-- What a term is, and what is said of a node: the tests and the parts that conditions speak of.
use Rattle.std.specs.Prelude.{ℕ, List, ◌∷◌, Bool, false, ◌&&◌, Option, Some, None, nat_eq, position}
use Rattle.std.specs.Option.{option_map}
use Rattle.pts_terms.specs.Tree.{Bare, sort, const, var, named_pi, same_term, let_in}
use Rattle.pts_ctx.specs.Front.{Local, assumed, defined, unknown, Locals}
use Rattle.pts_record.specs.Said.{Made, by_assume, by_define, by_bare, Said, scope_of, place_of, all_known, is_context}

-- The sort, the constant's name, the index, or the parts of the product that a term is.
abbrev pub sort_in : Bare → Option ℕ
sort_in (sort s) = Some s
sort_in _ = None

abbrev pub const_in : Bare → Option (List ℕ)
const_in (const c) = Some c
const_in _ = None

abbrev pub var_in : Bare → Option ℕ
var_in (var i) = Some i
var_in _ = None

abbrev pub domain_in : Bare → Option Bare
domain_in (named_pi x A B) = Some A
domain_in _ = None

abbrev pub codomain_in : Bare → Option Bare
codomain_in (named_pi x A B) = Some B
codomain_in _ = None

-- There is such a term, and t is equal to it.
abbrev pub is_that : Bare → Option Bare → Bool
is_that t None = false
is_that t (Some u) = same_term t u

-- A context without a bare entry.
abbrev pub is_typed_context : Said (Unit {0}) → Bool
is_typed_context m = is_context m && all_known (scope_of m).entries

-- The premise is in the context with the number c.
abbrev pub is_in : ℕ → Said (Unit {0}) → Bool
is_in c p = nat_eq (place_of p) c

-- The context was made by `assume` from the judgement with the number p.
abbrev pub is_assume_of : ℕ → Made → Bool
is_assume_of p (by_assume q d) = nat_eq q p
is_assume_of p _ = false

-- The context was made by `bare` from the context with the number c.
abbrev pub is_bare_of : ℕ → Made → Bool
is_bare_of c (by_bare d) = nat_eq d c
is_bare_of c _ = false

-- The context was made by `assume`, or by `define`, from a judgement in the context with the number c.
abbrev pub is_assume_in : ℕ → Made → Bool
is_assume_in c (by_assume q d) = nat_eq d c
is_assume_in c _ = false

abbrev pub is_define_in : ℕ → Made → Bool
is_define_in c (by_define q d) = nat_eq d c
is_define_in c _ = false

-- The type of the newest entry, where that is an assumption.
abbrev pub newest_assumption : Locals → Option Bare
newest_assumption (assumed A ∷ L) = Some A
newest_assumption _ = None

-- A term over the newest entry of the premise's context: `make` puts the assumption's type in front of it.
abbrev pub over_assumption : (Bare → Bare → Bare) → Said (Unit {0}) → Bare → Option Bare
over_assumption make p t = option_map (λ A. make A t) (newest_assumption (scope_of p).entries)

-- The local definition of the newest entry of the premise's context, where that is a definition, with the body t.
abbrev pub let_with : Locals → Bare → Option Bare
let_with (defined a A ∷ L) t = Some (let_in a A t)
let_with _ t = None

abbrev pub over_definition : Said (Unit {0}) → Bare → Option Bare
over_definition p t = let_with (scope_of p).entries t

-- The type of an entry; a bare one has none.
abbrev pub type_of : Local (Unit {0}) → Option Bare
type_of (assumed A) = Some A
type_of (defined a A) = Some A
type_of unknown = None

-- How many entries the context c has more than the premise's, where that is c or an ancestor of it.
abbrev pub distance : (c p : Said (Unit {0})) → Option ℕ
distance c p = position (nat_eq (place_of p)) (scope_of c).trail
