-- How flaws are printed: a name and its values, with a blank before each.
use Rattle.std.specs.Prelude.{ℕ, List, [], ◌∷◌, ◌++◌, codes, get_or}
use Rattle.std.specs.Fmt.{decimal}
use Rattle.pts_names.specs.Name.{Name}
use Rattle.pts_infer_cost.specs.Typing.{Kind, not_a_sort, not_product, no_rule, no_axiom, not_convertible, Flaw}
use Rattle.pts_printed.specs.Locals.{printed}

-- The numbers of a place, with dots between them; `-` where there are none.
abbrev pub dotted_text : List ℕ → List ℕ
dotted_text [] = []
dotted_text (i ∷ place) = codes "." ++ (decimal i ++ dotted_text place)

abbrev pub place_text : List ℕ → List ℕ
place_text [] = codes "-"
place_text (i ∷ place) = decimal i ++ dotted_text place

-- A flaw's terms are printed over its names, each by itself.
module _ (sorts : List (List ℕ)) where
  abbrev pub sort_text : ℕ → List ℕ
  sort_text s = get_or sorts s []

  abbrev pub kind_text : List Name → Kind → List ℕ
  kind_text names (not_a_sort T) = codes "NotASort " ++ printed sorts names T
  kind_text names (not_product T) = codes "NotProduct " ++ printed sorts names T
  kind_text names (no_rule s r) = codes "NoRule " ++ (sort_text s ++ (codes " " ++ sort_text r))
  kind_text names (no_axiom s) = codes "NoAxiom " ++ sort_text s
  kind_text names (not_convertible place T W) = codes "NotConvertible " ++ (place_text place ++ (codes " " ++ (printed sorts names T ++ (codes " ; " ++ printed sorts names W))))

  -- The text of the part that has the flaw comes first.
  abbrev pub flaw_text : (part : List ℕ) → Flaw → List ℕ
  flaw_text part f = part ++ (codes " " ++ (place_text f.place ++ (codes " " ++ kind_text f.names f.kind)))
