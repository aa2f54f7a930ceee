-- Terms that are equal apart from printed names are within limits together.
use Rattle.std.proofs.Common.{◌≡◌, ℕ, ◌+◌, ◌≤◌, refl, ap, ◌∙◌, arith, max, Bool, true, nat_le}
use Rattle.std.specs.Prelude.{◌&&◌}
use Rattle.std.proofs.lemmas.Bool.Decides.{nat_tests}
use mathlib.Core.Path.{ap₂}
use Rattle.pts_terms.specs.Tree.{Named, Bare, sort, const, var, app, named_lam, named_pi, named_let, bare, same_term}
use Rattle.pts_terms.specs.Limits.{depth_of, size_of, within}
use Rattle.pts_terms.proofs.Same.{same_term_eq}

depth_bare : (t : Named) → depth_of (bare t) ≡ depth_of t
depth_bare (sort s) = refl
depth_bare (const c) = refl
depth_bare (var i) = refl
depth_bare (app f a) = ap₂ (λ d e. max d e + 1) (depth_bare f) (depth_bare a)
depth_bare (named_lam x A b) = ap₂ (λ d e. max d e + 1) (depth_bare A) (depth_bare b)
depth_bare (named_pi x A b) = ap₂ (λ d e. max d e + 1) (depth_bare A) (depth_bare b)
depth_bare (named_let x a A b) = ap₂ (λ d e. max d e + 1) (ap₂ (λ d e. max d e) (depth_bare a) (depth_bare A)) (depth_bare b)

size_bare : (t : Named) → size_of (bare t) ≡ size_of t
size_bare (sort s) = refl
size_bare (const c) = refl
size_bare (var i) = refl
size_bare (app f a) = ap₂ (λ d e. d + e + 1) (size_bare f) (size_bare a)
size_bare (named_lam x A b) = ap₂ (λ d e. d + e + 1) (size_bare A) (size_bare b)
size_bare (named_pi x A b) = ap₂ (λ d e. d + e + 1) (size_bare A) (size_bare b)
size_bare (named_let x a A b) = ap₂ (λ d e. d + e + 1) (ap₂ (λ d e. d + e) (size_bare a) (size_bare A)) (size_bare b)

limits_within : (d s : ℕ) → d ≤ 2000 → s ≤ 1000000 → (nat_le d 2000 && nat_le s 1000000) ≡ true
limits_within d s a b = grind (arith, nat_tests)

pub type_within : (u : Bare) (t : Named) → same_term u (bare t) ≡ true → (depth_of u ≤ 2000) × (size_of u ≤ 1000000) → within t ≡ true
type_within u t h l =
    let e : u ≡ bare t = same_term_eq u (bare t) h in
    let d : depth_of u ≡ depth_of t = ap depth_of e ∙ depth_bare t in
    let s : size_of u ≡ size_of t = ap size_of e ∙ size_bare t in
    limits_within (depth_of t) (size_of t) (omega (arith, d, l.0)) (omega (arith, s, l.1))

both_true : (a b : Bool) → a ≡ true → b ≡ true → (a && b) ≡ true
both_true a b p q = cc

pub body_and_type_within : (u v : Bare) (a t : Named) → same_term u (bare a) ≡ true → same_term v (bare t) ≡ true → (depth_of u ≤ 2000) × (size_of u ≤ 1000000) → (depth_of v ≤ 2000) × (size_of v ≤ 1000000) → (within a && within t) ≡ true
body_and_type_within u v a t p q k l = both_true (within a) (within t) (type_within u a p k) (type_within v t q l)
