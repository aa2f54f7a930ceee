-- How large a term is, and the limits of this project.
use Rattle.std.specs.Prelude.{ℕ, suc, pred, ◌+◌, ◌<◌, Bool, ◌&&◌, nat_le, max}
use Rattle.pts_terms.specs.Tree.{Tree, sort, const, var, app, named_lam, named_pi, named_let}

-- The depth; that of a leaf is 1.
abbrev pub depth_of : {B : Type 0} → Tree B → ℕ
depth_of (sort s) = 1
depth_of (const c) = 1
depth_of (var i) = 1
depth_of (app f a) = max (depth_of f) (depth_of a) + 1
depth_of (named_lam x A b) = max (depth_of A) (depth_of b) + 1
depth_of (named_pi x A B) = max (depth_of A) (depth_of B) + 1
depth_of (named_let x a A b) = max (max (depth_of a) (depth_of A)) (depth_of b) + 1

-- The number of places of the term, as a tree.
abbrev pub size_of : {B : Type 0} → Tree B → ℕ
size_of (sort s) = 1
size_of (const c) = 1
size_of (var i) = 1
size_of (app f a) = size_of f + size_of a + 1
size_of (named_lam x A b) = size_of A + size_of b + 1
size_of (named_pi x A B) = size_of A + size_of B + 1
size_of (named_let x a A b) = size_of a + size_of A + size_of b + 1

-- Each free index is below this number, and it is the least such.
abbrev pub free_of : {B : Type 0} → Tree B → ℕ
free_of (sort s) = 0
free_of (const c) = 0
free_of (var i) = suc i
free_of (app f a) = max (free_of f) (free_of a)
free_of (named_lam x A b) = max (free_of A) (pred (free_of b))
free_of (named_pi x A B) = max (free_of A) (pred (free_of B))
free_of (named_let x a A b) = max (max (free_of a) (free_of A)) (pred (free_of b))

-- A term is within limits if it is at most 2,000 deep and has at most 1,000,000 places.
abbrev pub within : {B : Type 0} → Tree B → Bool
within t = nat_le (depth_of t) 2000 && nat_le (size_of t) 1000000

-- Each index, free or bound, is below m.
abbrev pub IndicesBelow : {B : Type 0} → ℕ → Tree B → Type 0
IndicesBelow m (sort s) = Unit {0}
IndicesBelow m (const c) = Unit {0}
IndicesBelow m (var i) = i < m
IndicesBelow m (app f a) = IndicesBelow m f × IndicesBelow m a
IndicesBelow m (named_lam x A b) = IndicesBelow m A × IndicesBelow m b
IndicesBelow m (named_pi x A b) = IndicesBelow m A × IndicesBelow m b
IndicesBelow m (named_let x a A b) = IndicesBelow m a × IndicesBelow m A × IndicesBelow m b
