-- The test of two texts is std's test of their bytes.
use Rattle.std.proofs.Common.{◌≡◌, ℕ, List, sym, nat_eq}
use Rattle.std.specs.Cmp.Lexicographic.{pointwise}
use Rattle.pts_names.specs.Name.{same_name}
use Rattle.pts_names.proofs.Same.{same_name-pointwise}

pub same_bytes : (x y : List ℕ) → pointwise nat_eq x y ≡ same_name x y
same_bytes x y = sym (same_name-pointwise x y)
