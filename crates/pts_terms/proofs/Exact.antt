-- The test of two terms with their printed names decides whether they are one.
use Rattle.std.proofs.Common.{◌≡◌, Bool, true, ap, arith}
use Rattle.std.specs.Prelude.{◌&&◌}
use Rattle.pts_names.proofs.Same.{same_name-true, same_name-self}
use Rattle.pts_names.specs.Name.{same_name}
use Rattle.pts_terms.specs.Tree.{Named, sort, const, var, app, named_lam, named_pi, named_let}
use Rattle.pts_terms.specs.Exact.{same_named}

both : (a b : Bool) → (a && b) ≡ true → (a ≡ true) × (b ≡ true)
both a b h = grind arith

three : (a b c : Bool) → (a && (b && c)) ≡ true → (a ≡ true) × (b ≡ true) × (c ≡ true)
three a b c h = grind arith

four : (a b c d : Bool) → (a && (b && (c && d))) ≡ true → (a ≡ true) × (b ≡ true) × (c ≡ true) × (d ≡ true)
four a b c d h = grind arith

pub same_named-self : (t : Named) → same_named t t ≡ true
same_named-self (sort s) = grind arith
same_named-self (const c) = same_name-self c
same_named-self (var i) = grind arith
same_named-self (app f a) = grind (arith, same_named-self f, same_named-self a)
same_named-self (named_lam x A b) = grind (arith, same_name-self x, same_named-self A, same_named-self b)
same_named-self (named_pi x A b) = grind (arith, same_name-self x, same_named-self A, same_named-self b)
same_named-self (named_let x a A b) = grind (arith, same_name-self x, same_named-self a, same_named-self A, same_named-self b)

pub same_named-true : (t u : Named) → same_named t u ≡ true → t ≡ u
same_named-true (sort s) (sort r) h = let e : s ≡ r = grind arith in ap sort e
same_named-true (const c) (const d) h = ap const (same_name-true c d h)
same_named-true (var i) (var j) h = let e : i ≡ j = grind arith in ap var e
same_named-true (app f a) (app g b) h =
    let (p, q) = both (same_named f g) (same_named a b) h in
    λ k. app (same_named-true f g p k) (same_named-true a b q k)
same_named-true (named_lam x A b) (named_lam y C d) h =
    let (n, p, q) = three (same_name x y) (same_named A C) (same_named b d) h in
    λ k. named_lam (same_name-true x y n k) (same_named-true A C p k) (same_named-true b d q k)
same_named-true (named_pi x A b) (named_pi y C d) h =
    let (n, p, q) = three (same_name x y) (same_named A C) (same_named b d) h in
    λ k. named_pi (same_name-true x y n k) (same_named-true A C p k) (same_named-true b d q k)
same_named-true (named_let x a A b) (named_let y c C d) h =
    let (n, p, q, r) = four (same_name x y) (same_named a c) (same_named A C) (same_named b d) h in
    λ k. named_let (same_name-true x y n k) (same_named-true a c p k) (same_named-true A C q k) (same_named-true b d r k)
same_named-true _ _ h = absurd (cc h)
