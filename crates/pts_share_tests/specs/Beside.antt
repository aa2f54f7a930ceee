-- Passes before and after their sessions asked.
use Rattle.std.specs.Prelude.{◌≡◌, ◌<◌, ℕ, List, length, slice_index_or}
use Rattle.pts_share.specs.Passes.{Pass}

-- Each is still a pass of which this holds, and of the same session.
abbrev pub EachStays : (Pass → Type 0) → (before after : List Pass) → Type 0
EachStays is_pass before after =
    (length after ≡ length before)
    × ((k : ℕ) (d : Pass) → k < length before → is_pass (slice_index_or after k d) × ((slice_index_or after k d).owner ≡ (slice_index_or before k d).owner))
