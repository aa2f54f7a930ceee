-- A table of the lines of rules is a table of the rules.
use Rattle.std.proofs.Common.{◌≡◌, ℕ, ◌+◌, ◌*◌, ◌<◌, ◌≤◌, ◌&&◌, Bool, true, false, if◌then◌else◌, nat_eq, nat_lt, List, [], ◌∷◌, map, Option, Some, None, IfSome, refl, sym, ap, ◌∙◌, arith, ltb-true, ltb-false}
use Rattle.std.specs.List.{AllByRecursion}
use Rattle.std.specs.Option.{option_map}
use Rattle.pts_terms.specs.declared.term.Sort.{Sort}
use Rattle.pts_ctx.specs.System.{axiom_among, rule_among, AxiomBelow, RuleBelow}
use Rattle.pts_ctx.specs.Tables.{table_at, TableOf, SquareOf, rule_line}

-- Two places in a table of rows of 64 are one where both the rows and the columns are.
pub same-square : (s r t u : ℕ) → r < 64 → u < 64 → nat_eq (64 * s + r) (64 * t + u) ≡ (nat_eq s t && nat_eq r u)
same-square s r t u small less = by (nat_eq s t) (nat_eq r u) refl refl
  where
    by : (b c : Bool) → nat_eq s t ≡ b → nat_eq r u ≡ c → nat_eq (64 * s + r) (64 * t + u) ≡ (b && c)
    by true true e f = grind arith
    by true false e f = grind arith
    by false true e f = grind arith
    by false false e f = grind arith

pub value-square : (n : ℕ) (rules : List (ℕ × ℕ × ℕ)) (s r : ℕ) → n ≤ 64 → r < 64 → AllByRecursion (RuleBelow n) rules → axiom_among (map rule_line rules) (64 * s + r) ≡ rule_among rules s r
value-square n [] s r few small below = refl
value-square n (q ∷ rules) s r few small below =
    let column : q.1 < 64 = omega arith in
    λ j. if same-square q.0 q.1 s r column small j then Some q.2 else value-square n rules s r few small below.1 j

past-square : (n : ℕ) (rules : List (ℕ × ℕ × ℕ)) (s r : ℕ) → n ≤ 64 → 64 ≤ r → AllByRecursion (RuleBelow n) rules → rule_among rules s r ≡ None
past-square n [] s r few great below = refl
past-square n (q ∷ rules) s r few great below =
    let apart : nat_eq q.1 r ≡ false = grind arith in
    let other : (nat_eq q.0 s && nat_eq q.1 r) ≡ false = grind arith in
    ap (λ b. if b then Some q.2 else rule_among rules s r) other ∙ past-square n rules s r few great below.1

pub square-of : (n : ℕ) (table : List (Option Sort)) (rules : List (ℕ × ℕ × ℕ)) → n ≤ 64 → AllByRecursion (RuleBelow n) rules → TableOf table (map rule_line rules) → SquareOf table rules
square-of n table rules few below known s r = by (nat_lt r 64) refl
  where
    by : (b : Bool) → nat_lt r 64 ≡ b → (if b then table_at table (64 * s + r) else None) ≡ rule_among rules s r
    by true e = known (64 * s + r) ∙ value-square n rules s r few (ltb-true r 64 e) below
    by false e = sym (past-square n rules s r few (ltb-false r 64 e) below)

-- What an axiom or a rule says is declared.
pub axiom-declared : (n : ℕ) (axioms : List (ℕ × ℕ)) (s : ℕ) (r : Option Sort) → AllByRecursion (AxiomBelow n) axioms → option_map (λ (q : Sort). q.0) r ≡ axiom_among axioms s → IfSome r (λ q. q.0 < n)
axiom-declared n axioms s None below is = tt
axiom-declared n [] s (Some q) below is = absurd (cc is)
axiom-declared n (a ∷ axioms) s (Some q) below is = by (nat_eq a.0 s) is (λ h. axiom-declared n axioms s (Some q) below.1 h)
  where
    by : (b : Bool) → Some q.0 ≡ (if b then Some a.1 else axiom_among axioms s) → (Some q.0 ≡ axiom_among axioms s → q.0 < n) → q.0 < n
    by true h rest = let e : q.0 ≡ a.1 = cc h in omega arith
    by false h rest = rest h

pub rule-declared : (n : ℕ) (rules : List (ℕ × ℕ × ℕ)) (s t : ℕ) (r : Option Sort) → AllByRecursion (RuleBelow n) rules → option_map (λ (q : Sort). q.0) r ≡ rule_among rules s t → IfSome r (λ q. q.0 < n)
rule-declared n rules s t None below is = tt
rule-declared n [] s t (Some q) below is = absurd (cc is)
rule-declared n (a ∷ rules) s t (Some q) below is = by (nat_eq a.0 s && nat_eq a.1 t) is (λ h. rule-declared n rules s t (Some q) below.1 h)
  where
    by : (b : Bool) → Some q.0 ≡ (if b then Some a.2 else rule_among rules s t) → (Some q.0 ≡ rule_among rules s t → q.0 < n) → q.0 < n
    by true h rest = let e : q.0 ≡ a.2 = cc h in omega arith
    by false h rest = rest h
