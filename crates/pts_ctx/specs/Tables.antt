-- The tables by which a system finds its axioms and rules.
use Rattle.std.specs.Prelude.{◌≡◌, ℕ, ◌+◌, ◌*◌, List, nat_lt, Option, None, slice_get, if◌then◌else◌}
use Rattle.std.specs.Option.{option_map, option_and_then}
use Rattle.pts_terms.specs.declared.term.Sort.{Sort}
use Rattle.pts_ctx.specs.System.{axiom_among, rule_among}

-- The places of the two sorts of an axiom, and of the three of a rule.
abbrev pub axiom_places : Sort × Sort → ℕ × ℕ
axiom_places a = (a.0.0, a.1.0)

abbrev pub rule_places : Sort × Sort × Sort → ℕ × ℕ × ℕ
rule_places r = (r.0.0, r.1.0, r.2.0)

-- What a table has at a place.
abbrev pub table_at : List (Option Sort) → ℕ → Option ℕ
table_at table k = option_and_then (option_map (λ s. s.0)) (slice_get table k)

-- What a table of rows of 64 has at a row and a column.
abbrev pub square_at : List (Option Sort) → ℕ → ℕ → Option ℕ
square_at table s r = if nat_lt r 64 then table_at table (64 * s + r) else None

-- A table has what a list of axioms, or of rules, says.
abbrev pub TableOf : List (Option Sort) → List (ℕ × ℕ) → Type 0
TableOf table axioms = (s : ℕ) → table_at table s ≡ axiom_among axioms s

abbrev pub SquareOf : List (Option Sort) → List (ℕ × ℕ × ℕ) → Type 0
SquareOf table rules = (s r : ℕ) → square_at table s r ≡ rule_among rules s r

-- A rule as a line, whose left side is its place in a table of rows of 64.
abbrev pub rule_line : ℕ × ℕ × ℕ → ℕ × ℕ
rule_line r = (64 * r.0 + r.1, r.2)
