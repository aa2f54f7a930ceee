-- Lists that begin as others do, and what two lists have from a place on.
use Rattle.std.proofs.Common.{◌≡◌, ℕ, zero, suc, ◌+◌, ◌-◌, ◌≤◌, List, [], ◌∷◌, ◌++◌, length, take, drop, slice_get, Some, refl, sym, ap, ◌∙◌, subst, arith}
use Rattle.std.proofs.lemmas.List.{append_assoc, append-nil, drop-append-le}
use Rattle.std.proofs.Math.ListN.{drop_of_length-le}
use Rattle.std.proofs.Math.Seq.{drop-append-add, take-append_seam}
use Rattle.pts_names.specs.Name.{Name}
use Rattle.pts_ctx.specs.Front.{Global}
use Rattle.pts_ctx.specs.Seen.{NamesDiffer}
use Rattle.pts_ctx.specs.Chunks.{flat}
use Rattle.pts_ctx.proofs.Flat.{flat-rest}
use Rattle.pts_ctx.proofs.Lookups.{differ-left}

minus-zero : (n : ℕ) → n ≡ n - 0
minus-zero n = omega arith

zero-minus : (n : ℕ) → 0 ≡ 0 - suc n
zero-minus n = omega arith

minus-suc : (m n : ℕ) → m - n ≡ suc m - suc n
minus-suc m n = omega arith

module _ {A : Type 0} where
  -- What begins as a list that begins as a third does.
  pub kept-on : (xs ys zs : List A) → take (length xs) ys ≡ xs → take (length ys) zs ≡ ys → take (length xs) zs ≡ xs
  kept-on [] ys zs first second = refl
  kept-on (x ∷ xs) [] zs first second = absurd (cc first)
  kept-on (x ∷ xs) (y ∷ ys) [] first second = absurd (cc second)
  kept-on (x ∷ xs) (y ∷ ys) (z ∷ zs) first second =
      let here : z ≡ x = cc (first, second) in
      let rest : take (length xs) ys ≡ xs = cc first in
      let more : take (length ys) zs ≡ ys = cc second in
      λ j. here j ∷ kept-on xs ys zs rest more j

  pub kept-by : (ys zs xs : List A) → zs ≡ ys ++ xs → take (length ys) zs ≡ ys
  kept-by ys zs xs more = ap (take (length ys)) more ∙ take-append_seam ys xs

  -- With more after it.
  pub kept-more : (xs ys zs more : List A) → take (length xs) ys ≡ xs → zs ≡ ys ++ more → take (length xs) zs ≡ xs
  kept-more xs ys zs more first longer = kept-on xs ys zs first (kept-by ys zs more longer)

  -- What two lists have from a place on.
  pub drop-both : (n : ℕ) (xs ys : List A) → drop n (xs ++ ys) ≡ drop n xs ++ drop (n - length xs) ys
  drop-both zero [] ys = refl
  drop-both (suc n) [] ys = ap (λ k. drop k ys) (minus-zero (suc n))
  drop-both zero (x ∷ xs) ys = ap (λ k. x ∷ (xs ++ drop k ys)) (zero-minus (length xs))
  drop-both (suc n) (x ∷ xs) ys = drop-both n xs ys ∙ ap (λ k. drop n xs ++ drop k ys) (minus-suc n (length xs))

  module _ (lists : List (List A)) (i : ℕ) (xs : List A) (at : slice_get lists i ≡ Some xs) (all : List A) (have : List A) (s : ℕ) (rest : have ++ drop s (flat (drop i lists)) ≡ all) where
    -- The items from a place on, which is after a list's.
    pub skip-list : length xs ≤ s → have ++ drop (s - length xs) (flat (drop (i + 1) lists)) ≡ all
    skip-list past =
        let more = flat (drop (i + 1) lists) in
        let sum : s ≡ length xs + (s - length xs) = omega (arith, past) in
        ap (λ ys. have ++ ys)
        (sym (drop-append-add xs more (s - length xs)) ∙ (ap (λ k. drop k (xs ++ more)) (sym sum) ∙ ap (drop s) (sym (flat-rest lists i xs at))))
        ∙ rest

    -- The items from a place on, which is among a list's.
    pub among-list : s ≤ length xs → have ++ (drop s xs ++ flat (drop (i + 1) lists)) ≡ all
    among-list inside =
        ap (λ ys. have ++ ys) (sym (drop-append-le s xs (flat (drop (i + 1) lists)) inside) ∙ ap (drop s) (sym (flat-rest lists i xs at))) ∙ rest

    pub add-list : (more : List A) → s ≤ length xs → more ≡ have ++ drop s xs → more ++ flat (drop (i + 1) lists) ≡ all
    add-list more inside added =
        ap (λ ys. ys ++ flat (drop (i + 1) lists)) added ∙ (append_assoc have (drop s xs) (flat (drop (i + 1) lists)) ∙ among-list inside)

  drop-none : (n : ℕ) (xs : List A) → xs ≡ [] → drop n xs ≡ []
  drop-none zero xs none = none
  drop-none (suc n) [] none = refl
  drop-none (suc n) (x ∷ xs) none = absurd (cc none)

  -- All lists are gone through.
  pub list-end : (lists : List (List A)) (i s : ℕ) (have all : List A) → length lists ≤ i → have ++ drop s (flat (drop i lists)) ≡ all → have ≡ all
  list-end lists i s have all past rest =
      let none : drop s (flat (drop i lists)) ≡ [] = drop-none s (flat (drop i lists)) (ap flat (drop_of_length-le lists past)) in
      sym (append-nil have) ∙ (ap (λ ys. have ++ ys) (sym none) ∙ rest)

pub differ-added : (have more rest all : List (Global Name)) → have ++ (more ++ rest) ≡ all → NamesDiffer all → NamesDiffer (have ++ more)
differ-added have more rest all same differ =
    differ-left (have ++ more) rest (subst NamesDiffer (sym (append_assoc have more rest ∙ same)) differ)
