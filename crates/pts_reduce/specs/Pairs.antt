-- How two forms of a record are compared.
use Rattle.std.specs.Prelude.{◌≡◌, ◌<◌, ℕ, List, ◌∷◌, length, true}
use Rattle.pts_terms.specs.Tree.{Bare, app, lam, pi, same_term}
use Rattle.pts_ctx.specs.Front.{unknown}
use Rattle.pts_record.specs.declared.shape.Shape.{Shape}
use Rattle.pts_record.specs.Table.{named_at, bare_at}
use Rattle.pts_reduce_cost.specs.Costs.{Entries, leaves, parts, pairing}
use Rattle.pts_reduce.specs.declared.pairs.Parts.{Parts}
use Rattle.pts_reduce.specs.declared.pairs.Both.{Both}
use Rattle.pts_reduce.specs.declared.pairs.Paired.{Paired}
use Rattle.pts_reduce.specs.declared.pairs.Paired.TheVariants.{Leaves, Applications, Abstractions, Products}

-- The four parts stand.
abbrev pub Stand : List Shape → Parts → Type 0
Stand ss p = (p.left_first < length ss) × (p.right_first < length ss) × (p.left_second < length ss) × (p.right_second < length ss)

-- Both terms are made of their parts so.
abbrev pub MadeOf : List Shape → (Bare → Bare → Bare) → ℕ → ℕ → Parts → Type 0
MadeOf ss make left right p = (bare_at ss left ≡ make (bare_at ss p.left_first) (bare_at ss p.left_second)) × (bare_at ss right ≡ make (bare_at ss p.right_first) (bare_at ss p.right_second))

-- The forms are compared by these parts, the second ones in the context with these entries.
abbrev pub ByParts : List Shape → Entries → ℕ → ℕ → Entries → Parts → Type 0
ByParts ss L left right M p = pairing L (named_at ss left) (named_at ss right) ≡ parts (named_at ss p.left_first) (named_at ss p.right_first) M (named_at ss p.left_second) (named_at ss p.right_second)

-- The comparisons are those of the parts.
abbrev pub AreOf : Both → Parts → Type 0
AreOf b p = (b.firsts.left ≡ p.left_first) × (b.firsts.right ≡ p.right_first) × (b.seconds.left ≡ p.left_second) × (b.seconds.right ≡ p.right_second)

abbrev pub IsPaired : List Shape → ℕ → ℕ → Paired → Type 0
IsPaired ss left right (Leaves same) = ((L : Entries) → pairing L (named_at ss left) (named_at ss right) ≡ leaves same) × (same ≡ true → same_term (bare_at ss left) (bare_at ss right) ≡ true)
IsPaired ss left right (Applications p) = Stand ss p × MadeOf ss app left right p × ((L : Entries) → ByParts ss L left right L p)
IsPaired ss left right (Abstractions p) = Stand ss p × MadeOf ss (λ A b. lam A b) left right p × ((L : Entries) → ByParts ss L left right (unknown ∷ L) p)
IsPaired ss left right (Products p) = Stand ss p × MadeOf ss (λ A b. pi A b) left right p × ((L : Entries) → ByParts ss L left right (unknown ∷ L) p)
