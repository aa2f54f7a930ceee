-- Scopes: the names of a front with declarations after it differ, and the entries come and go with the declarations.
use Rattle.std.proofs.Common.{◌≡◌, ℕ, ◌+◌, ◌-◌, ◌≤◌, List, [], ◌∷◌, ◌++◌, length, take, sym, ap, ◌∙◌, subst, arith}
use Rattle.std.proofs.lemmas.List.{append-nil, append_assoc, take-map, length-map, length-append}
use Rattle.std.proofs.Math.Seq.{take-append-add}
use Rattle.pts_names.specs.Name.{Name}
use Rattle.pts_ctx.specs.System.{Specification}
use Rattle.pts_ctx.specs.Front.{Global}
use Rattle.pts_ctx.specs.Seen.{NamesDiffer, LabelsInside}
use Rattle.pts_ctx.proofs.Labels.{labels-weaken}
use Rattle.pts_ctx.proofs.Lookups.{differ-behind}
use Rattle.pts_record.specs.declared.declaration.Declaration.{Declaration}
use Rattle.pts_check.specs.Entered.{declared, declared_entries, MayFollow}

-- The names of what follows a front differ from each other and from those of the front.
pub follow_differ : (S : Specification) (G : List (Global Name)) (ds : List Declaration) → NamesDiffer G → MayFollow S G ds → NamesDiffer (G ++ declared_entries ds)
follow_differ S G [] n m = subst NamesDiffer (sym (append-nil G)) n
follow_differ S G (d ∷ ds) n m =
    subst NamesDiffer (append_assoc G (declared d ∷ []) (declared_entries ds))
    (follow_differ S (G ++ declared d ∷ []) ds (differ-behind G (declared d) n m.0.fresh) m.1)

-- A scope from which this many last entries are taken.
module _ (F : List (Global Name)) (ds : List Declaration) (count : ℕ) (few : count ≤ length ds) where
  scope_long : length (F ++ declared_entries ds) ≡ length F + length ds
  scope_long = length-append F (declared_entries ds) ∙ ap (λ n. length F + n) (length-map ds declared)

  pub count_inside : count ≤ length (F ++ declared_entries ds)
  count_inside = let l = scope_long in omega (arith, l, few)

  scope_less : length (F ++ declared_entries ds) - count ≡ length F + (length ds - count)
  scope_less = let l = scope_long in omega (arith, l, few)

  pub fewer_entries : take (length (F ++ declared_entries ds) - count) (F ++ declared_entries ds) ≡ F ++ declared_entries (take (length ds - count) ds)
  fewer_entries =
      ap (λ n. take n (F ++ declared_entries ds)) scope_less
      ∙ (take-append-add F (declared_entries ds) (length ds - count) ∙ ap (λ es. F ++ es) (take-map declared (length ds - count) ds))

  pub labels_stay : (labels : List (Name × ℕ)) → LabelsInside (length F) labels → LabelsInside (length (F ++ declared_entries ds) - count) labels
  labels_stay labels inside = labels-weaken (length F) (length (F ++ declared_entries ds) - count) labels (let l = scope_less in omega (arith, l)) inside
