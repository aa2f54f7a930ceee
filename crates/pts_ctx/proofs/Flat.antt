-- Lists of lists, and the items of all of them in order.
use Rattle.std.proofs.Common.{◌≡◌, ℕ, zero, suc, ◌+◌, ◌-◌, ◌<◌, ◌≤◌, List, [], ◌∷◌, ◌++◌, length, take, drop, slice_get, slice_set, Some, refl, sym, ap, ◌∙◌, arith}
use Rattle.std.proofs.lemmas.List.{append_assoc, append-nil, length-append, length-drop, take-append-drop, take-append-le}
use Rattle.std.proofs.Math.Seq.{take-length, take-append-add}
use Rattle.pts_ctx.specs.Chunks.{flat}
use Rattle.pts_ctx.proofs.Parts.{around, take-next, drop-at}

pub flat-append : {A : Type 0} (xss yss : List (List A)) → flat (xss ++ yss) ≡ flat xss ++ flat yss
flat-append [] yss = refl
flat-append (xs ∷ xss) yss = ap (λ zs. xs ++ zs) (flat-append xss yss) ∙ sym (append_assoc xs (flat xss) (flat yss))

module _ {A : Type 0} (lists : List (List A)) (i : ℕ) (xs : List A) (at : slice_get lists i ≡ Some xs) where
  -- The items before a list, its own, and those behind it.
  pub flat-around : flat lists ≡ flat (take i lists) ++ (xs ++ flat (drop (i + 1) lists))
  flat-around = ap flat (sym (around lists i xs at)) ∙ flat-append (take i lists) (xs ∷ drop (i + 1) lists)

  pub flat-next : flat (take (i + 1) lists) ≡ flat (take i lists) ++ xs
  flat-next =
      ap flat (take-next lists i xs at)
      ∙ (flat-append (take i lists) (xs ∷ []) ∙ ap (λ ys. flat (take i lists) ++ ys) (append-nil xs))

  pub flat-split : flat lists ≡ (flat (take i lists) ++ xs) ++ flat (drop (i + 1) lists)
  flat-split = flat-around ∙ sym (append_assoc (flat (take i lists)) xs (flat (drop (i + 1) lists)))

  pub length-next : length (flat (take (i + 1) lists)) ≡ length (flat (take i lists)) + length xs
  length-next = ap length flat-next ∙ length-append (flat (take i lists)) xs

  pub flat-rest : flat (drop i lists) ≡ xs ++ flat (drop (i + 1) lists)
  flat-rest = ap flat (drop-at lists i xs at)

zero-plus : (n : ℕ) → 0 + n ≡ n
zero-plus n = omega arith

suc-plus : (m n : ℕ) → suc m + n ≡ suc (m + n)
suc-plus m n = omega arith

-- An item of two lists, one behind the other.
pub get-left : {A : Type 0} (xs ys : List A) (i : ℕ) → i < length xs → slice_get (xs ++ ys) i ≡ slice_get xs i
get-left [] ys i inside = absurd (omega arith)
get-left (x ∷ xs) ys zero inside = refl
get-left (x ∷ xs) ys (suc i) inside = get-left xs ys i (omega arith)

pub get-right : {A : Type 0} (xs ys : List A) (i : ℕ) → slice_get (xs ++ ys) (length xs + i) ≡ slice_get ys i
get-right [] ys i = ap (slice_get ys) (zero-plus i)
get-right (x ∷ xs) ys i = ap (slice_get (x ∷ (xs ++ ys))) (suc-plus (length xs) i) ∙ get-right xs ys i

take-all : {A : Type 0} (xs : List A) (n : ℕ) → n ≡ length xs → take n xs ≡ xs
take-all xs n e = ap (λ k. take k xs) e ∙ take-length xs

cut-length : (m n k : ℕ) → k ≤ n → (m + n) - k ≡ m + (n - k)
cut-length m n k less = omega arith

cut-rest : (m n k : ℕ) → n ≤ k → (m + n) - k ≡ m - (k - n)
cut-rest m n k more = omega arith

pub minus-le : (m k : ℕ) → m - k ≤ m
minus-le m k = omega arith

-- A list of lists without its last, which is at this place.
module _ {A : Type 0} where
  -- Where last items are taken off two lists, one behind the other.
  pub cut-inside : (xs ys : List A) (k : ℕ) → k ≤ length ys → take (length (xs ++ ys) - k) (xs ++ ys) ≡ xs ++ take (length ys - k) ys
  cut-inside xs ys k less =
      ap (λ n. take (n - k) (xs ++ ys)) (length-append xs ys)
      ∙ (ap (λ n. take n (xs ++ ys)) (cut-length (length xs) (length ys) k less) ∙ take-append-add xs ys (length ys - k))

  pub cut-past : (xs ys : List A) (k : ℕ) → length ys ≤ k → take (length (xs ++ ys) - k) (xs ++ ys) ≡ take (length xs - (k - length ys)) xs
  cut-past xs ys k more =
      ap (λ n. take (n - k) (xs ++ ys)) (length-append xs ys)
      ∙ (ap (λ n. take n (xs ++ ys)) (cut-rest (length xs) (length ys) k more)
      ∙ take-append-le (length xs - (k - length ys)) xs ys (minus-le (length xs) (k - length ys)))

  pub flat-last : (lists : List (List A)) (n : ℕ) (xs : List A) → n + 1 ≡ length lists → slice_get lists n ≡ Some xs → flat lists ≡ flat (take n lists) ++ xs
  flat-last lists n xs last at = ap flat (sym (take-all lists (n + 1) last)) ∙ flat-next lists n xs at

  set-last : (lists : List (List A)) (n : ℕ) (ys : List A) → n + 1 ≡ length lists → slice_set lists n ys ≡ take n lists ++ ys ∷ []
  set-last [] n ys last = absurd (omega arith)
  set-last (xs ∷ []) zero ys last = refl
  set-last (xs ∷ zs ∷ lists) zero ys last = absurd (omega arith)
  set-last (xs ∷ lists) (suc n) ys last = ap (λ zs. xs ∷ zs) (set-last lists n ys (omega arith))

  pub flat-set-last : (lists : List (List A)) (n : ℕ) (ys : List A) → n + 1 ≡ length lists → flat (slice_set lists n ys) ≡ flat (take n lists) ++ ys
  flat-set-last lists n ys last =
      ap flat (set-last lists n ys last)
      ∙ (flat-append (take n lists) (ys ∷ []) ∙ ap (λ zs. flat (take n lists) ++ zs) (append-nil ys))

  -- Some list stands where there is some item.
  pub flat-some : (lists : List (List A)) → 0 < length (flat lists) → 0 < length lists
  flat-some [] some = some
  flat-some (xs ∷ lists) some = omega arith

  -- The items of two lists in four parts.
  pub flat-parted : (lists : List (List A)) (xs : List A) (from n : ℕ) → flat lists ++ xs ≡ flat (take from lists) ++ ((flat (drop from lists) ++ take n xs) ++ drop n xs)
  flat-parted lists xs from n =
      let whole : flat lists ≡ flat (take from lists) ++ flat (drop from lists) =
      ap flat (sym (take-append-drop from lists)) ∙ flat-append (take from lists) (drop from lists) in
      (λ j. whole j ++ sym (take-append-drop n xs) j)
      ∙ (append_assoc (flat (take from lists)) (flat (drop from lists)) (take n xs ++ drop n xs)
      ∙ ap (λ ys. flat (take from lists) ++ ys) (sym (append_assoc (flat (drop from lists)) (take n xs) (drop n xs))))

  -- Items that move from the front of one list to the end of the lists before it.
  pub flat-moved : (lists : List (List A)) (xs : List A) (from n : ℕ)
      → flat (take from lists ++ (flat (drop from lists) ++ take n xs) ∷ []) ++ drop n xs ≡ flat lists ++ xs
  flat-moved lists xs from n =
      let moved = flat (drop from lists) ++ take n xs in
      ap (λ ys. ys ++ drop n xs) (flat-append (take from lists) (moved ∷ []) ∙ ap (λ ys. flat (take from lists) ++ ys) (append-nil moved))
      ∙ (append_assoc (flat (take from lists)) moved (drop n xs) ∙ sym (flat-parted lists xs from n))

  pub length-moved : (ys zs xs : List A) (n : ℕ) → n ≤ length xs → ys ++ drop n xs ≡ zs ++ xs → length ys ≡ length zs + n
  length-moved ys zs xs n small same =
      let sum = ap length same in
      omega (arith, sum, length-append ys (drop n xs), length-append zs xs, length-drop n xs)
