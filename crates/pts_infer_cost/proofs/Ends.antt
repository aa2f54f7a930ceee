-- How a rule ends: by what the system, the front and the limits say.
use Rattle.std.proofs.Common.{◌≡◌, ℕ, ap, true, false, Option, Some, None}
use Rattle.std.specs.Prelude.{if◌then◌else◌}
use Rattle.pts_terms.specs.Tree.{Named, sort}
use Rattle.pts_terms.specs.Limits.{within}
use Rattle.pts_reduce_cost.specs.Run.{ends, fails, deep, spent}
use Rattle.pts_infer_cost.specs.Typing.{Flaw, here, by_limits, comes, stops, no_rule, no_axiom, made, by_axiom, by_rule}
use Rattle.pts_infer_cost.specs.Inference.{gives, looked_up}

pub axiom_found : (s r k : ℕ) (o : Option ℕ) → o ≡ Some r → gives (by_axiom s o) k ≡ ends (sort r) k
unfolding gives
axiom_found s r k o e = ap (λ o. gives (by_axiom s o) k) e

pub axiom_missing : (s k : ℕ) (o : Option ℕ) → o ≡ None → gives (by_axiom s o) k ≡ fails (here (no_axiom s)) k
unfolding gives
axiom_missing s k o e = ap (λ o. gives (by_axiom s o) k) e

pub type_looked_up : (o : Option Named) (T : Named) (k : ℕ) → o ≡ Some T → looked_up o k ≡ ends T k
unfolding looked_up
type_looked_up o T k e = ap (λ o. looked_up o k) e

pub nothing_looked_up : (o : Option Named) (k : ℕ) → o ≡ None → looked_up o k ≡ spent
unfolding looked_up
nothing_looked_up o k e = ap (λ o. looked_up o k) e

pub made_within : (T : Named) (k : ℕ) → within T ≡ true → gives (made T) k ≡ ends T k
unfolding gives
made_within T k e = ap (λ b. gives (if b then comes T else stops by_limits) k) e

pub made_beyond : (T : Named) (k : ℕ) → within T ≡ false → gives (made T) k ≡ deep k
unfolding gives
made_beyond T k e = ap (λ b. gives {F = Flaw} (if b then comes T else stops by_limits) k) e

pub product_ruled : (s r q k : ℕ) (o : Option ℕ) → o ≡ Some q → gives (by_rule s r o (λ q. comes (sort q))) k ≡ ends (sort q) k
unfolding gives
product_ruled s r q k o e = ap (λ o. gives (by_rule s r o (λ q. comes (sort q))) k) e

pub product_unruled : (s r k : ℕ) (o : Option ℕ) → o ≡ None → gives (by_rule s r o (λ q. comes (sort q))) k ≡ fails (here (no_rule s r)) k
unfolding gives
product_unruled s r k o e = ap (λ o. gives (by_rule s r o (λ q. comes (sort q))) k) e

pub abstraction_ruled : (s r q k : ℕ) (T : Named) (o : Option ℕ) → o ≡ Some q → gives (by_rule s r o (λ q. made T)) k ≡ gives (made T) k
abstraction_ruled s r q k T o e = ap (λ o. gives (by_rule s r o (λ q. made T)) k) e

pub abstraction_unruled : (s r k : ℕ) (T : Named) (o : Option ℕ) → o ≡ None → gives (by_rule s r o (λ q. made T)) k ≡ fails (here (no_rule s r)) k
unfolding gives
abstraction_unruled s r k T o e = ap (λ o. gives (by_rule s r o (λ q. made T)) k) e

pub ruleset ends_of_rules = (axiom_found, axiom_missing, type_looked_up, nothing_looked_up, made_within, made_beyond, product_ruled, product_unruled, abstraction_ruled, abstraction_unruled)
