-- A set of spellings has those of a list.
use Rattle.std.proofs.Common.{◌≡◌, ℕ, List, [], ◌∷◌, ◌++◌, Bool, true, false, ◌||◌, if◌then◌else◌, nat_eq, refl, sym, ◌∙◌, ap, arith}
use Rattle.std.specs.List.{list_any}
use Rattle.std.specs.Cmp.Lexicographic.{pointwise}
use Rattle.std.proofs.lemmas.List.Folds.{list_any-append}
use Rattle.indexmap.specs.IndexSet.{insert_key}
use Rattle.pts_names.specs.Name.{same_name}
use Rattle.pts_names.proofs.Same.{same_name-pointwise, same_name-true}

-- A spelling that is equal to one that is known is known.
already : (keys : List (List ℕ)) (s x : List ℕ) → list_any (pointwise nat_eq s) keys ≡ true → list_any (pointwise nat_eq x) keys ≡ (list_any (pointwise nat_eq x) keys || same_name x s)
already keys s x known = go (same_name x s) refl
  where
    go : (b : Bool) → same_name x s ≡ b → list_any (pointwise nat_eq x) keys ≡ (list_any (pointwise nat_eq x) keys || b)
    go false other = grind arith
    go true same =
        let e : x ≡ s = same_name-true x s same in
        let found : list_any (pointwise nat_eq x) keys ≡ true = ap (λ y. list_any (pointwise nat_eq y) keys) e ∙ known in
        grind (arith, found)

pub known_more : (keys list : List (List ℕ)) (s : List ℕ) → ((x : List ℕ) → list_any (pointwise nat_eq x) keys ≡ list_any (same_name x) list) →
    (x : List ℕ) → list_any (pointwise nat_eq x) (insert_key (pointwise nat_eq) keys s) ≡ list_any (same_name x) (list ++ s ∷ [])
known_more keys list s same x = go (list_any (pointwise nat_eq s) keys) refl ∙ sym (list_any-append (same_name x) list (s ∷ []))
  where
    go : (b : Bool) → list_any (pointwise nat_eq s) keys ≡ b → list_any (pointwise nat_eq x) (if b then keys else keys ++ s ∷ []) ≡ (list_any (same_name x) list || list_any (same_name x) (s ∷ []))
    go true known = let one = already keys s x known in let all = same x in grind (arith, one, all)
    go false new = let parts = list_any-append (pointwise nat_eq x) keys (s ∷ []) in let all = same x in let last = same_name-pointwise x s in grind (arith, parts, all, last)
