-- How entries are found among others by the hashes of their names.
use Rattle.std.specs.Prelude.{ℕ, zero, suc, ◌*◌, ◌/◌, ◌^◌, ◌<◌, ◌≤◌, ◌≡◌, Bool, if◌then◌else◌, nat_eq, List, map, length, slice_index}
use Rattle.std.specs.List.{fold}
use Rattle.std.specs.Hash as fed
use Rattle.std.specs.Hash.FoldHasher as folding
use Rattle.pts_names.specs.Name.{Name}
use Rattle.pts_ctx.specs.Front.{Global}

-- The hash of a name: the upper half of the one that the library makes of its text.
unfoldable pub hash_of : Name → ℕ
hash_of x = folding.finish (fold folding.write folding.initial (fed.str x)) / 2 ^ 32

abbrev pub hashes_of : List (Global Name) → List ℕ
hashes_of G = map (λ e. hash_of e.name) G

-- Hashes in order, the number of buckets, and how many more hashes are taken without memory.
pub record SeenIndex : Type 0 where
  pub hashes : List ℕ
  pub buckets : ℕ
  pub spare : ℕ

-- One more than the last of the first `n` places whose number passes the test, or 0.
abbrev pub last_before : (ℕ → Bool) → List ℕ → ℕ → ℕ
last_before test xs zero = 0
last_before test xs (suc n) = if test (slice_index xs n) then suc n else last_before test xs n

-- The bucket of a hash among so many.
unfoldable pub bucket_of : ℕ → ℕ → ℕ
bucket_of buckets hash = hash * buckets / 2 ^ 32

abbrev pub is_in : ℕ → ℕ → ℕ → Bool
is_in buckets bucket hash = nat_eq bucket (bucket_of buckets hash)

-- Each bucket leads to the last of the first `n` places that fall into it, and each of those places to the one before it.
pub record IsChained (buckets n : ℕ) (heads hashes before : List ℕ) : Type 0 where
  pub last : (b : ℕ) → b < buckets → slice_index heads b ≡ last_before (is_in buckets b) hashes n
  pub earlier : (i : ℕ) → i < n → slice_index before i ≡ last_before (is_in buckets (bucket_of buckets (slice_index hashes i))) hashes i

-- What is sure of an index.
pub record IsIndex (heads hashes before : List ℕ) : Type 0 where
  pub chained : IsChained (length heads) (length hashes) heads hashes before
  pub paired : length before ≡ length hashes
  pub fits : length hashes ≤ length heads
  pub small : length heads < 2 ^ 32
