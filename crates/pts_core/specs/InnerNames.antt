-- Inner names, which no entry of a core has: those of several parts, the first of which is `_`.
use Rattle.std.specs.Prelude.{◌≡◌, List, Bool, false, nat_eq, codes}
use Rattle.std.specs.List.{AllByRecursion, starts_with}
use Rattle.pts_names.specs.Name.{Name}
use Rattle.pts_ctx.specs.Front.{Global}

-- Of a name these are the ones that begin with `_` and a dot.
abbrev pub is_inner : Name → Bool
is_inner x = starts_with nat_eq x (codes "_.")

-- No entry has an inner name.
abbrev pub NoneInner : {B : Type 0} → List (Global B) → Type 0
NoneInner G = AllByRecursion (λ e. is_inner e.name ≡ false) G
