-- What is known of lines that came one after another. A line has a number as its left side and another as its right.
use Rattle.std.specs.Prelude.{◌≡◌, ℕ, List, map, position, Bool, not, ◌&&◌, nat_eq, nat_lt, Option, Some, None, IfSome, slice_get, if◌then◌else◌}
use Rattle.std.specs.Option.{option_map}
use Rattle.pts_terms.specs.declared.term.Sort.{Sort}
use Rattle.pts_ctx.specs.declared.system.SystemFault.{SystemFault}
use Rattle.pts_ctx.specs.declared.system.SystemFault.TheVariants.{AxiomClash, RuleClash}
use Rattle.pts_ctx.specs.System.{first_pair, or_system_fault}
use Rattle.pts_ctx.specs.Tables.{TableOf, rule_line}

-- Two lines clash if they have one left side and two right sides.
abbrev pub lines_clash : ℕ × ℕ → ℕ × ℕ → Bool
lines_clash l m = nat_eq l.0 m.0 && not (nat_eq l.1 m.1)

-- The place of the first line of a left side.
abbrev pub first_place : List (ℕ × ℕ) → ℕ → Option ℕ
first_place lines s = position (λ l. nat_eq l.0 s) lines

-- A pair of places where another one was known before: the one whose first place is less, the other one if they are equal.
abbrev pub earlier : Option (ℕ × ℕ) → ℕ × ℕ → ℕ × ℕ
earlier None pair = pair
earlier (Some known) pair = if nat_lt pair.0 known.0 then pair else known

-- The right side and the place of the first line of each left side, and the least pair of lines that clash.
pub record Knows (rights : List (Option Sort)) (places : List ℕ) (clash : Option (ℕ × ℕ)) (lines : List (ℕ × ℕ)) : Type 0 where
  pub values : TableOf rights lines
  pub firsts : (s : ℕ) → IfSome (first_place lines s) (λ p. slice_get places s ≡ Some p)
  pub least : clash ≡ first_pair lines_clash 0 lines

-- The clash of axioms and rules, by their places.
abbrev pub clash_fault : List (ℕ × ℕ) → List (ℕ × ℕ × ℕ) → Option SystemFault
clash_fault axioms rules =
    or_system_fault (option_map (λ p. AxiomClash p.0 p.1) (first_pair lines_clash 0 axioms))
    (option_map (λ p. RuleClash p.0 p.1) (first_pair lines_clash 0 (map rule_line rules)))
