-- The least key of a table among those that are none of the three: the first, since the keys ascend.
use Rattle.std.proofs.Common.{◌≡◌, List, [], ◌∷◌, ℕ, Bool, true, false, if◌then◌else◌, Option, Some, None, String, Global, Less, string_bytes, nat_cmp, refl}
use Rattle.std.proofs.lemmas.Cmp.{nat_list_cmp_total}
use Rattle.std.specs.Cmp.Lexicographic.{slice_cmp}
use Rattle.std.specs.List.{AllByRecursion}
use Rattle.std.specs.List.Sorted.{IsStrictlySortedBy}
use Rattle.std.specs.Map.{keys_of}
use Rattle.std.specs.Ordering.{is_lt}
use Rattle.std.specs.String.{string_cmp}
use Rattle.toml.specs.declared.value.Value.{Value}
use Rattle.toml.specs.View.{members_view}
use Rattle.pts_spec.specs.SpecFile.{is_known, lesser, least_other}

-- The first of some keys that is none of the three.
abbrev pub first_other : List (String Global) → Option (List ℕ)
first_other [] = None
first_other (k ∷ ks) = if is_known (string_bytes k) then first_other ks else Some (string_bytes k)

-- A later key is not the lesser.
lesser_than : (k x : List ℕ) → slice_cmp nat_cmp k x ≡ Less → lesser k (Some x) ≡ k
lesser_than k x below = rw (nat_list_cmp_total.antisymm x k, below)

lesser_still_by : (k x y : List ℕ) (b : Bool) → lesser k (Some x) ≡ k → lesser k (Some y) ≡ k → lesser k (Some (if b then y else x)) ≡ k
lesser_still_by k x y true below more = more
lesser_still_by k x y false below more = below

lesser_still : (k x : List ℕ) (m : Option (List ℕ)) → lesser k (Some x) ≡ k → lesser k m ≡ k → lesser k (Some (lesser x m)) ≡ k
lesser_still k x None below more = below
lesser_still k x (Some y) below more = lesser_still_by k x y (is_lt (slice_cmp nat_cmp y x)) below more

least_with : (k x : List ℕ) (b : Bool) (m : Option (List ℕ)) → lesser k (Some x) ≡ k → lesser k m ≡ k → lesser k (if b then m else Some (lesser x m)) ≡ k
least_with k x true m below more = more
least_with k x false m below more = lesser_still k x m below more

-- A key before all others is the lesser of it and their least.
before_all : (k : String Global) (es : List (String Global × Value)) → AllByRecursion (λ y. string_cmp k y ≡ Less) (keys_of es) → lesser (string_bytes k) (least_other (members_view es)) ≡ string_bytes k
before_all k [] all = refl
before_all k (e ∷ es) all =
    least_with (string_bytes k) (string_bytes e.0) (is_known (string_bytes e.0)) (least_other (members_view es))
    (lesser_than (string_bytes k) (string_bytes e.0) all.0)
    (before_all k es all.1)

pub least_is_first : (es : List (String Global × Value)) → IsStrictlySortedBy string_cmp (keys_of es) → least_other (members_view es) ≡ first_other (keys_of es)
unfolding IsStrictlySortedBy
least_is_first [] sorted = refl
least_is_first (e ∷ es) sorted = rw (before_all e.0 es sorted.0, least_is_first es sorted.1)
