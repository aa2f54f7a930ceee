-- Terms that are taken out of binders.
use Rattle.std.specs.Prelude.{ℕ, suc, ◌+◌, ◌-◌, Bool, true, ◌&&◌, ◌||◌, nat_lt, nat_le, if◌then◌else◌}
use Rattle.pts_terms.specs.Tree.{Tree, sort, const, var, app, named_lam, named_pi, named_let}

-- No free index is from k to k + n - 1: none is a variable of the n binders outside of the k innermost ones.
abbrev pub is_clear : {B : Type 0} → ℕ → ℕ → Tree B → Bool
is_clear k n (sort s) = true
is_clear k n (const c) = true
is_clear k n (var i) = nat_lt i k || nat_le (k + n) i
is_clear k n (app f a) = is_clear k n f && is_clear k n a
is_clear k n (named_lam x A b) = is_clear k n A && is_clear (suc k) n b
is_clear k n (named_pi x A B) = is_clear k n A && is_clear (suc k) n B
is_clear k n (named_let x a A b) = is_clear k n a && (is_clear k n A && is_clear (suc k) n b)

-- Takes n from an index that is at least k.
abbrev pub lower_index : ℕ → ℕ → ℕ → ℕ
lower_index k n i = if nat_lt i k then i else (i - n)

-- Takes n from each free index that is at least k. A term that is clear of n binders is the lowered one, lifted by them.
abbrev pub lower : {B : Type 0} → ℕ → ℕ → Tree B → Tree B
lower k n (sort s) = sort s
lower k n (const c) = const c
lower k n (var i) = var (lower_index k n i)
lower k n (app f a) = app (lower k n f) (lower k n a)
lower k n (named_lam x A b) = named_lam x (lower k n A) (lower (suc k) n b)
lower k n (named_pi x A B) = named_pi x (lower k n A) (lower (suc k) n B)
lower k n (named_let x a A b) = named_let x (lower k n a) (lower k n A) (lower (suc k) n b)
