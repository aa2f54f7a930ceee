-- What a value of a TOML document writes: a spelling, an axiom, a rule, or a list of these.
use Rattle.std.specs.Prelude.{ℕ, if◌then◌else◌, List, [], ◌∷◌, Option, Some, None, option_map, option_and_then}
use Rattle.toml.specs.Data.{Data, Items, no_items, item, as_str, as_array}
use Rattle.pts_names.specs.Name.{is_sort_spelling}

-- A spelling of a sort: a text that is one.
abbrev pub spelling_of : Data → Option (List ℕ)
spelling_of d = option_and_then (λ text. if is_sort_spelling text then Some text else None) (as_str d)

-- A list, of which each item is read in the same way.
abbrev pub items_as : {A : Type 0} → (Data → Option A) → Items → Option (List A)
items_as one no_items = Some []
items_as one (item d rest) = option_and_then (λ x. option_map (λ xs. x ∷ xs) (items_as one rest)) (one d)

abbrev pub list_of : {A : Type 0} → (Data → Option A) → Data → Option (List A)
list_of one d = option_and_then (items_as one) (as_array d)

-- An axiom: a list of two spellings.
abbrev pub axiom_with : List (List ℕ) → Option (List ℕ × List ℕ)
axiom_with (s ∷ r ∷ []) = Some (s, r)
axiom_with _ = None

abbrev pub axiom_of : Data → Option (List ℕ × List ℕ)
axiom_of d = option_and_then axiom_with (list_of spelling_of d)

-- A rule: a list of three spellings, or of two, of which the second then stands for the third too.
abbrev pub rule_with : List (List ℕ) → Option (List ℕ × List ℕ × List ℕ)
rule_with (s ∷ r ∷ []) = Some (s, r, r)
rule_with (s ∷ r ∷ q ∷ []) = Some (s, r, q)
rule_with _ = None

abbrev pub rule_of : Data → Option (List ℕ × List ℕ × List ℕ)
rule_of d = option_and_then rule_with (list_of spelling_of d)
