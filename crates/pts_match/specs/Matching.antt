-- First-order matching of a pattern with a term: what the pattern's variables are to be, so that it becomes the term.
use Rattle.std.specs.Prelude.{◌≡◌, ◌<◌, ◌≤◌, map, replicate, ℕ, zero, suc, ◌+◌, ◌-◌, List, [], ◌∷◌, length, Bool, true, Option, Some, None, IfSome, nat_lt, nat_eq, if◌then◌else◌}
use Rattle.std.specs.List.{All}
use Rattle.std.specs.Option.{option_map, option_and_then}
use Rattle.pts_names.specs.Name.{same_name}
use Rattle.pts_terms.specs.Tree.{Named, bare, same_term, sort, const, var, app, named_lam, named_pi, named_let}
use Rattle.pts_record.specs.declared.shape.Shape.{Shape}
use Rattle.pts_record.specs.Table.{named_at}
use Rattle.pts_match.specs.declared.subterm.Subterm.{Subterm}
use Rattle.pts_match.specs.Lowering.{is_clear, lower}

-- The terms that the variables of a pattern are to be, as far as they are known. The variables are the pattern's least
-- indices, and the one of index 0 comes first.
abbrev pub Assignment : Type 0
Assignment = List (Option Named)

-- The variable with the number j is to be a. If it is a term already, then that stays, and a has to be equal to it.
abbrev pub joined : Named → Option Named → Option Named
joined a None = Some a
joined a (Some b) = if same_term (bare a) (bare b) then Some b else None

abbrev pub assign : ℕ → Named → Assignment → Option Assignment
assign j a [] = None
assign zero a (o ∷ s) = option_map (λ b. Some b ∷ s) (joined a o)
assign (suc j) a (o ∷ s) = option_map (λ r. o ∷ r) (assign j a s)

-- The assignment, if the test holds.
abbrev pub only_if : Bool → Assignment → Option Assignment
only_if b s = if b then Some s else None

abbrev pub is_index : ℕ → Named → Bool
is_index i g = same_term (var i) (bare g)

-- The variable with the number j meets a part g of the term, under n binders: it may not be a term that has their variables.
abbrev pub match_variable : ℕ → ℕ → Named → Assignment → Option Assignment
match_variable n j g s = if is_clear 0 n g then assign j (lower 0 n g) s else None

-- The index i of the pattern meets the part g, under n binders. It is a variable of these, or one of the pattern, or one
-- of the context, and this is a lesser index in the term, which is outside of the pattern's variables.
abbrev pub match_index : ℕ → ℕ → Named → Assignment → Option Assignment
match_index n i g s = if nat_lt i n then only_if (is_index i g) s else (if nat_lt i (n + length s) then match_variable n (i - n) g s else only_if (is_index (i - length s) g) s)

-- The pattern meets a part of the term, under n binders, from left to right. Printed names don't count.
abbrev pub match_under : ℕ → Named → Named → Assignment → Option Assignment
match_under n (var i) g s = match_index n i g s
match_under n (sort q) (sort r) s = only_if (nat_eq q r) s
match_under n (const c) (const d) s = only_if (same_name c d) s
match_under n (app f a) (app g b) s = option_and_then (match_under n a b) (match_under n f g s)
match_under n (named_lam x A b) (named_lam y C d) s = option_and_then (match_under (suc n) b d) (match_under n A C s)
match_under n (named_pi x A b) (named_pi y C d) s = option_and_then (match_under (suc n) b d) (match_under n A C s)
match_under n (named_let x a A b) (named_let y c C d) s = option_and_then (match_under (suc n) b d) (option_and_then (match_under n A C) (match_under n a c s))
match_under n t g s = None

-- The match of a pattern, whose k least indices are its variables, with a term. A variable that does not occur stays open.
abbrev pub match_of : ℕ → Named → Named → Option Assignment
match_of k C g = match_under 0 C g (replicate k None)

-- The term that a part is outside of the binders under which it was found.
abbrev pub value_of : List Shape → Subterm → Named
value_of ss p = lower 0 p.binders (named_at ss p.term)

abbrev pub values_of : List Shape → List (Option Subterm) → Assignment
values_of ss ps = map (option_map (value_of ss)) ps

-- The part is a term of the table that has no variable of these binders.
abbrev pub IsClear : List Shape → Subterm → Type 0
IsClear ss p = (p.term < length ss) × (p.binders ≤ 4294967296) × (is_clear 0 p.binders (named_at ss p.term) ≡ true)

abbrev pub AreClear : List Shape → List (Option Subterm) → Type 0
AreClear ss ps = All (λ o. IfSome o (IsClear ss)) ps
