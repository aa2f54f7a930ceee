-- The place of a name in lists of entries that are asked from the last to the first.
use Rattle.std.proofs.Common.{◌≡◌, ℕ, ◌+◌, ◌<◌, List, [], ◌∷◌, ◌++◌, length, take, drop, slice_get, Some, None, ap, ◌∙◌, subst}
use Rattle.std.proofs.lemmas.List.Quantifiers.{position-Some}
use Rattle.pts_names.specs.Name.{Name, same_name}
use Rattle.pts_ctx.specs.Front.{Global}
use Rattle.pts_ctx.specs.Seen.{place_of, NamesDiffer}
use Rattle.pts_ctx.specs.Chunks.{flat}
use Rattle.pts_ctx.proofs.Flat.{flat-around, flat-rest}
use Rattle.pts_ctx.proofs.Lookups.{place-left, place-right}

module _ (x : Name) (lists : List (List (Global Name))) (i : ℕ) (G : List (Global Name)) (at : slice_get lists i ≡ Some G) (none : place_of x (flat (drop (i + 1) lists)) ≡ None) where
  -- A list that has it, where those behind it don't.
  pub newest-here : (p : ℕ) → NamesDiffer (flat lists) → place_of x G ≡ Some p → place_of x (flat lists) ≡ Some (length (flat (take i lists)) + p)
  newest-here p differ here =
      let whole : flat lists ≡ flat (take i lists) ++ (G ++ flat (drop (i + 1) lists)) = flat-around lists i G at in
      ap (place_of x) whole
      ∙ place-right x (flat (take i lists)) (G ++ flat (drop (i + 1) lists)) p (subst NamesDiffer whole differ) (place-left x G (flat (drop (i + 1) lists)) none ∙ here)

  -- A list that doesn't have it either.
  pub newest-before : place_of x G ≡ None → place_of x (flat (drop i lists)) ≡ None
  newest-before absent = ap (place_of x) (flat-rest lists i G at) ∙ (place-left x G (flat (drop (i + 1) lists)) none ∙ absent)

pub place-within : (x : Name) (G : List (Global Name)) (p : ℕ) → place_of x G ≡ Some p → p < length G
place-within x (e ∷ G) p at = (position-Some (λ d. same_name x d.name) (e ∷ G) p e at).0
place-within x [] p at = absurd (cc at)
