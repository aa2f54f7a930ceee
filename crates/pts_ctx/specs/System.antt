-- Systems: sorts, axioms and rules (Barendregt 1992).
use Rattle.std.specs.Prelude.{◌≡◌, ℕ, ◌+◌, ◌<◌, List, [], ◌∷◌, length, map, position, Option, Some, None, Bool, not, nat_eq, nat_lt, ◌&&◌, if◌then◌else◌, is_some}
use Rattle.std.specs.List.{AllByRecursion}
use Rattle.std.specs.Option.{option_map, unwrap_or}
use Rattle.pts_names.specs.Name.{same_name}
use Rattle.pts_ctx.specs.declared.system.SystemPart.TheVariants.{Axiom, Rule}
use Rattle.pts_ctx.specs.declared.system.SystemFault.{SystemFault}
use Rattle.pts_ctx.specs.declared.system.SystemFault.TheVariants.{TooManySorts, DuplicateSort, UnknownSort, AxiomClash, RuleClash, Memory}

-- The sorts' spellings, the axioms s : r, and the rules (s, r, q). A sort is its place among the spellings.
pub record Specification : Type 0 where
  pub sorts : List (List ℕ)
  pub axioms : List (ℕ × ℕ)
  pub rules : List (ℕ × ℕ × ℕ)

-- The right side of the first axiom of a sort.
abbrev pub axiom_among : List (ℕ × ℕ) → ℕ → Option ℕ
axiom_among [] s = None
axiom_among (a ∷ rest) s = if nat_eq a.0 s then Some a.1 else axiom_among rest s

-- The third sort of the first rule of two sorts.
abbrev pub rule_among : List (ℕ × ℕ × ℕ) → ℕ → ℕ → Option ℕ
rule_among [] s r = None
rule_among (q ∷ rest) s r = if nat_eq q.0 s && nat_eq q.1 r then Some q.2 else rule_among rest s r

-- A(s), the sort of s, where there is one.
unfoldable pub axiom_of : Specification → ℕ → Option ℕ
axiom_of S s = axiom_among S.axioms s

-- R(s, r), the sort of a product, where there is one.
unfoldable pub rule_of : Specification → ℕ → ℕ → Option ℕ
rule_of S s r = rule_among S.rules s r

-- A system as it is written: spellings in place of sorts.
pub record Spelled : Type 0 where
  pub sorts : List (List ℕ)
  pub axioms : List (List ℕ × List ℕ)
  pub rules : List (List ℕ × List ℕ × List ℕ)

-- The place of a spelling in the list of sorts.
abbrev pub sort_of : List (List ℕ) → List ℕ → Option ℕ
sort_of sorts x = position (same_name x) sorts

abbrev pub is_sort_of : List (List ℕ) → List ℕ → Bool
is_sort_of sorts x = is_some (sort_of sorts x)

-- The place of a spelling, or 0 where it isn't there, which an accepted system never asks for.
abbrev pub place_among : List (List ℕ) → List ℕ → ℕ
place_among sorts x = unwrap_or (sort_of sorts x) 0

-- An axiom or a rule that is written, by the places of its sorts.
abbrev pub axiom_at : List (List ℕ) → List ℕ × List ℕ → ℕ × ℕ
axiom_at sorts a = (place_among sorts a.0, place_among sorts a.1)

abbrev pub rule_at : List (List ℕ) → List ℕ × List ℕ × List ℕ → ℕ × ℕ × ℕ
rule_at sorts r = (place_among sorts r.0, place_among sorts r.1, place_among sorts r.2)

-- The system that is written, where all its spellings are declared.
abbrev pub specification_of : Spelled → Specification
specification_of w = record { sorts = w.sorts; axioms = map (axiom_at w.sorts) w.axioms; rules = map (rule_at w.sorts) w.rules }

-- The least pair of places i < j, the first place first, whose items clash. The first item's place is k.
abbrev pub first_pair : {A : Type 0} → (A → A → Bool) → ℕ → List A → Option (ℕ × ℕ)
first_pair clash k [] = None
first_pair clash k (x ∷ xs) =
    elim (position (clash x) xs) [ Some d ↦ Some (k, k + 1 + d) | None ↦ first_pair clash (k + 1) xs ]

abbrev pub axioms_clash : (a b : List ℕ × List ℕ) → Bool
axioms_clash a b = same_name a.0 b.0 && not (same_name a.1 b.1)

abbrev pub rules_clash : (a b : List ℕ × List ℕ × List ℕ) → Bool
rules_clash a b = same_name a.0 b.0 && (same_name a.1 b.1 && not (same_name a.2 b.2))

abbrev pub axiom_is_declared : List (List ℕ) → List ℕ × List ℕ → Bool
axiom_is_declared sorts a = is_sort_of sorts a.0 && is_sort_of sorts a.1

abbrev pub rule_is_declared : List (List ℕ) → List ℕ × List ℕ × List ℕ → Bool
rule_is_declared sorts r = is_sort_of sorts r.0 && (is_sort_of sorts r.1 && is_sort_of sorts r.2)

abbrev pub or_system_fault : Option SystemFault → Option SystemFault → Option SystemFault
or_system_fault None later = later
or_system_fault (Some w) later = Some w

-- The first fault of a written system: more than 64 sorts; a sort that stands twice; an axiom, then a rule, with a
-- sort that isn't declared; two axioms of one sort with different right sides; two rules of two sorts with different
-- third sorts. Of several places, or pairs of places, the least is named.
unfoldable pub system_fault : Spelled → Option SystemFault
system_fault w =
    or_system_fault (if nat_lt 64 (length w.sorts) then Some (TooManySorts (length w.sorts)) else None)
    (or_system_fault (option_map (λ p. DuplicateSort p.0 p.1) (first_pair same_name 0 w.sorts))
    (or_system_fault (option_map (UnknownSort Axiom) (position (λ a. not (axiom_is_declared w.sorts a)) w.axioms))
    (or_system_fault (option_map (UnknownSort Rule) (position (λ r. not (rule_is_declared w.sorts r)) w.rules))
    (or_system_fault (option_map (λ p. AxiomClash p.0 p.1) (first_pair axioms_clash 0 w.axioms))
    (option_map (λ p. RuleClash p.0 p.1) (first_pair rules_clash 0 w.rules))))))

-- The lists of spellings that are written, as one record.
abbrev pub written : List (List ℕ) → List (List ℕ × List ℕ) → List (List ℕ × List ℕ × List ℕ) → Spelled
written sorts axioms rules = record { sorts = sorts; axioms = axioms; rules = rules }

-- Both sorts of an axiom, or all three of a rule, are below n.
abbrev pub AxiomBelow : ℕ → ℕ × ℕ → Type 0
AxiomBelow n a = (a.0 < n) × (a.1 < n)

abbrev pub RuleBelow : ℕ → ℕ × ℕ × ℕ → Type 0
RuleBelow n r = (r.0 < n) × (r.1 < n) × (r.2 < n)

-- Every sort of an axiom or a rule is declared.
abbrev pub IsDeclared : Specification → Type 0
IsDeclared S = AllByRecursion (AxiomBelow (length S.sorts)) S.axioms × AllByRecursion (RuleBelow (length S.sorts)) S.rules

-- Two systems have the same spellings in the same order, and the same axioms and rules as partial functions.
abbrev pub SameSystem : Specification → Specification → Type 0
SameSystem S T =
    (S.sorts ≡ T.sorts) × ((s : ℕ) → axiom_of S s ≡ axiom_of T s) × ((s r : ℕ) → rule_of S s r ≡ rule_of T s r)

-- What a fault means, unless memory ran out.
abbrev pub UnlessMemory : SystemFault → Type 0 → Type 0
UnlessMemory Memory P = Unit {0}
UnlessMemory (TooManySorts n) P = P
UnlessMemory (DuplicateSort i j) P = P
UnlessMemory (UnknownSort part i) P = P
UnlessMemory (AxiomClash i j) P = P
UnlessMemory (RuleClash i j) P = P
