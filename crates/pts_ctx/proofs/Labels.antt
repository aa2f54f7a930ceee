-- Look-ups among the labels of a context.
use Rattle.std.proofs.Common.{◌≡◌, ℕ, ◌≤◌, Bool, true, false, cond, if◌then◌else◌, nat_eq, List, [], ◌∷◌, ◌++◌, Some, IfSome, refl, sym, arith}
use Rattle.std.specs.Cmp.Lexicographic.{pointwise}
use Rattle.std.specs.Map.{lookup}
use Rattle.pts_names.specs.Name.{Name, same_name}
use Rattle.pts_names.proofs.Same.{same_name-pointwise}
use Rattle.pts_ctx.specs.Seen.{label_place, LabelsInside}

-- The map of labels finds the place of a label.
pub lookup-label : (x : Name) (ls : List (Name × ℕ)) → lookup (pointwise nat_eq x) ls ≡ label_place x ls
lookup-label x [] = refl
lookup-label x (l ∷ ls) = λ j. cond (sym (same_name-pointwise x l.0) j) (Some l.1) (lookup-label x ls j)

pub label-inside : (n : ℕ) (x : Name) (ls : List (Name × ℕ)) → LabelsInside n ls → IfSome (label_place x ls) (λ k. k ≤ n)
label-inside n x [] inside = tt
label-inside n x (l ∷ ls) inside = by (same_name x l.0) (label-inside n x ls inside.1)
  where
    by : (b : Bool) → IfSome (label_place x ls) (λ k. k ≤ n) → IfSome (if b then Some l.1 else label_place x ls) (λ k. k ≤ n)
    by true rest = inside.0
    by false rest = rest

pub labels-weaken : (n m : ℕ) (ls : List (Name × ℕ)) → n ≤ m → LabelsInside n ls → LabelsInside m ls
labels-weaken n m [] more inside = tt
labels-weaken n m (l ∷ ls) more inside = (omega (arith, inside.0), labels-weaken n m ls more inside.1)

pub labels-behind : (n k : ℕ) (x : Name) (ls : List (Name × ℕ)) → k ≤ n → LabelsInside n ls → LabelsInside n (ls ++ (x, k) ∷ [])
labels-behind n k x [] small inside = (small, tt)
labels-behind n k x (l ∷ ls) small inside = (inside.0, labels-behind n k x ls small inside.1)
