-- What is sure of a context stays so as entries and labels come, and as last entries go.
use Rattle.std.proofs.Common.{◌≡◌, ℕ, ◌+◌, ◌<◌, ◌≤◌, ◌^◌, true, List, [], ◌∷◌, ◌++◌, length, take, drop, sym, ap, ◌∙◌, subst, arith}
use Rattle.std.proofs.lemmas.List.{length-append, length-take-le, take-append-drop}
use Rattle.pts_names.specs.Name.{Name}
use Rattle.pts_ctx.specs.Front.{Global, Fresh}
use Rattle.pts_ctx.specs.Seen.{NamesDiffer, global_within, globals_within, LabelsInside}
use Rattle.pts_ctx.specs.Chunks.{IsOrderly}
use Rattle.pts_ctx.proofs.Labels.{labels-weaken, labels-behind}
use Rattle.pts_ctx.proofs.Lookups.{differ-behind, within-behind, differ-left, within-left, within-right, within-both}

module _ (G : List (Global Name)) (ls : List (Name × ℕ)) (sure : IsOrderly G ls) where
  pub orderly-push : (e : Global Name) → length G + 1 < 2 ^ 64 → Fresh e.name G → global_within e ≡ true → IsOrderly (G ++ e ∷ []) ls
  orderly-push e room fresh within =
      let longer : length (G ++ e ∷ []) ≡ length G + 1 = length-append G (e ∷ []) in
      record {
        fits = subst (λ (n : ℕ). n < 2 ^ 64) (sym longer) room;
        names = differ-behind G e sure.names fresh;
        within = within-behind G e sure.within within;
        labels = labels-weaken (length G) (length (G ++ e ∷ [])) ls (omega (arith, longer)) sure.labels;
      }

  -- Entries of another context, from a place on, come after the others.
  pub orderly-join : (H : List (Global Name)) (n : ℕ) → length (G ++ drop n H) < 2 ^ 64 → NamesDiffer (G ++ drop n H) → globals_within H ≡ true → IsOrderly (G ++ drop n H) ls
  orderly-join H n room names within =
      let longer = length-append G (drop n H) in
      let rest = within-right (take n H) (drop n H) (ap globals_within (take-append-drop n H) ∙ within) in
      record {
        fits = room;
        names = names;
        within = within-both G (drop n H) sure.within rest;
        labels = labels-weaken (length G) (length (G ++ drop n H)) ls (omega (arith, longer)) sure.labels;
      }

  pub orderly-mark : (x : Name) → IsOrderly G (ls ++ (x, length G) ∷ [])
  orderly-mark x =
      record {
        fits = sure.fits;
        names = sure.names;
        within = sure.within;
        labels = labels-behind (length G) (length G) x ls (omega arith) sure.labels;
      }

  pub orderly-cut : (n : ℕ) → n ≤ length G → LabelsInside n ls → IsOrderly (take n G) ls
  orderly-cut n inside marked =
      let whole : take n G ++ drop n G ≡ G = take-append-drop n G in
      let len : length (take n G) ≡ n = length-take-le n G inside in
      record {
        fits = let fits = sure.fits in omega (arith, len);
        names = differ-left (take n G) (drop n G) (subst NamesDiffer (sym whole) sure.names);
        within = within-left (take n G) (drop n G) (ap globals_within whole ∙ sure.within);
        labels = subst (λ (k : ℕ). LabelsInside k ls) (sym len) marked;
      }
