-- No variable has an index beyond the program's.
use Rattle.std.proofs.Common.{ℕ, suc, ◌≡◌, ◌<◌, ◌≤◌, refl, arith, Bool, false, ◌||◌, nat_eq}
use Rattle.pts_terms.specs.Tree.{Named, sort, const, var, app, named_lam, named_pi, named_let}
use Rattle.pts_terms.specs.Limits.{IndicesBelow}
use Rattle.pts_printed.specs.Choice.{occurs}

other_index : (m k i : ℕ) → m ≤ k → i < m → nat_eq i k ≡ false
other_index m k i h b = grind arith

or_none : (p q : Bool) → p ≡ false → q ≡ false → (p || q) ≡ false
or_none p q e f = grind (arith, e, f)

none_from : (m k : ℕ) (t : Named) → m ≤ k → IndicesBelow m t → occurs k t ≡ false
none_from m k (sort s) h b = refl
none_from m k (const c) h b = refl
none_from m k (var i) h b = other_index m k i h b
none_from m k (app f a) h b = or_none _ _ (none_from m k f h b.0) (none_from m k a h b.1)
none_from m k (named_lam x A t) h b = or_none _ _ (none_from m k A h b.0) (none_from m (suc k) t (omega (arith, h)) b.1)
none_from m k (named_pi x A t) h b = or_none _ _ (none_from m k A h b.0) (none_from m (suc k) t (omega (arith, h)) b.1)
none_from m k (named_let x d A t) h b = or_none _ _ (none_from m k d h b.0) (or_none _ _ (none_from m k A h b.1) (none_from m (suc k) t (omega (arith, h)) b.2))

pub none_beyond : (k : ℕ) (t : Named) → 4294967296 ≤ k → IndicesBelow 4294967296 t → occurs k t ≡ false
none_beyond k t h b = none_from 4294967296 k t h b
