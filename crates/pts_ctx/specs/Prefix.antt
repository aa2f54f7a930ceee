-- The tests by which the lists of two contexts are compared.
use Rattle.std.specs.Prelude.{ℕ, List, [], ◌∷◌, Bool, true, false, ◌&&◌, nat_eq, Option, Some, None}
use Rattle.pts_names.specs.Name.{Name, same_name}
use Rattle.pts_terms.specs.Tree.{Named}
use Rattle.pts_terms.specs.Exact.{same_named}
use Rattle.pts_ctx.specs.Front.{Global}

abbrev pub same_body : Option Named → Option Named → Bool
same_body None None = true
same_body (Some a) (Some b) = same_named a b
same_body None (Some b) = false
same_body (Some a) None = false

-- Whether two entries are one, with their printed names.
abbrev pub same_global : Global Name → Global Name → Bool
same_global e f = same_name e.name f.name && (same_body e.body f.body && same_named e.type f.type)

abbrev pub same_label : Name × ℕ → Name × ℕ → Bool
same_label l m = same_name l.0 m.0 && nat_eq l.1 m.1

-- Whether the first list is a prefix of the second.
abbrev pub begins : {A : Type 0} → (A → A → Bool) → List A → List A → Bool
begins same [] ys = true
begins same (x ∷ xs) [] = false
begins same (x ∷ xs) (y ∷ ys) = same x y && begins same xs ys
