-- The values of a table's lines, each by the values before it.
use Rattle.std.proofs.Common.{◌≡◌, ℕ, zero, suc, ◌+◌, ◌<◌, ◌≤◌, List, [], ◌∷◌, ◌++◌, length, get_or, take, refl, sym, ap, ◌∙◌, arith, length-append}
use Rattle.std.proofs.lemmas.List.{get_or_append_left, get_or_push}
use Rattle.pts_record.specs.Table.{values_behind}

module _ {A D : Type 0} (value : List D → A → D) where
  -- what was there stays
  pub values_front : (xs : List A) (ds : List D) (k : ℕ) (d : D) → k < length ds → get_or (values_behind value ds xs) k d ≡ get_or ds k d
  values_front [] ds k d h = refl
  values_front (x ∷ xs) ds k d h =
      let v = value ds x in
      let h' : k < length (ds ++ v ∷ []) = omega (arith, h, length-append ds (v ∷ [])) in
      values_front xs (ds ++ v ∷ []) k d h' ∙ get_or_append_left ds (v ∷ []) d k h

  pub values_long : (xs : List A) (ds : List D) → length (values_behind value ds xs) ≡ length ds + length xs
  values_long [] ds = omega arith
  values_long (x ∷ xs) ds =
      let v = value ds x in
      values_long xs (ds ++ v ∷ []) ∙ omega (arith, length-append ds (v ∷ []))

  -- a line's value is that over the values of the lines before it
  pub values_here : (xs : List A) (ds : List D) (k : ℕ) (x : A) (d : D) → k < length xs → get_or (values_behind value ds xs) (length ds + k) d ≡ value (values_behind value ds (take k xs)) (get_or xs k x)
  values_here [] ds k x d h = absurd (omega (arith, h))
  values_here (y ∷ xs) ds zero x d h =
      let v = value ds y in
      let z : length ds + 0 ≡ length ds = omega arith in
      let h' : length ds < length (ds ++ v ∷ []) = omega (arith, length-append ds (v ∷ [])) in
      ap (λ i. get_or (values_behind value (ds ++ v ∷ []) xs) i d) z ∙ values_front xs (ds ++ v ∷ []) (length ds) d h' ∙ get_or_push ds v d (length ds) refl
  values_here (y ∷ xs) ds (suc k) x d h =
      let v = value ds y in
      let e : length ds + suc k ≡ length (ds ++ v ∷ []) + k = omega (arith, length-append ds (v ∷ [])) in
      ap (λ i. get_or (values_behind value (ds ++ v ∷ []) xs) i d) e ∙ values_here xs (ds ++ v ∷ []) k x d (omega (arith, h))

  -- the front lines alone give their values the same values
  pub values_take : (xs : List A) (ds : List D) (i k : ℕ) (d : D) → k < length ds + i → i ≤ length xs → get_or (values_behind value ds (take i xs)) k d ≡ get_or (values_behind value ds xs) k d
  values_take xs ds zero k d h le = sym (values_front xs ds k d (omega (arith, h)))
  values_take [] ds (suc i) k d h le = refl
  values_take (x ∷ xs) ds (suc i) k d h le =
      let v = value ds x in
      values_take xs (ds ++ v ∷ []) i k d (omega (arith, h, length-append ds (v ∷ []))) (omega (arith, le))

  pub values_push : (xs : List A) (ds : List D) (x : A) → values_behind value ds (xs ++ x ∷ []) ≡ values_behind value ds xs ++ value (values_behind value ds xs) x ∷ []
  values_push [] ds x = refl
  values_push (y ∷ xs) ds x = values_push xs (ds ++ value ds y ∷ []) x
