-- The last place of a number before another place, and the chains of an index.
use Rattle.std.proofs.Common.{◌≡◌, ℕ, zero, suc, ◌+◌, ◌*◌, ◌^◌, ◌<◌, ◌≤◌, ◌≢◌, ◌⊎◌, inl, inr, Bool, true, false, if◌then◌else◌, nat_eq, List, ◌++◌, length, take, min, get_or, refl, sym, ap, ◌∙◌, subst, arith}
use Rattle.std.proofs.Math.Nat.{div-lt_iff_lt-mul, mul-lt-mul_of_pos_right}
use Rattle.std.proofs.Math.ListN.{replicate, set}
use Rattle.std.proofs.lemmas.List.{get_or-replicate, get_or-set_same, get_or-set_other, get_or_append_left, get_or-take, length-take}
use Rattle.std.proofs.lemmas.Nat.{mul-lt}
use Rattle.pts_ctx.specs.Index.{last_before, bucket_of, is_in, IsChained, IsIndex}
use Rattle.pts_ctx.proofs.Clashes.{equal-numbers}

number-itself : (a : ℕ) → nat_eq a a ≡ true
number-itself a = grind arith

same-number : (a b : ℕ) → a ≡ b → nat_eq a b ≡ true
same-number a b e = grind arith

pub other-number : (a b : ℕ) → a ≢ b → nat_eq a b ≡ false
other-number a b e = grind arith

-- Whether a place is one before.
below-next : (i n : ℕ) → i < suc n → (i ≡ n) ⊎ (i < n)
below-next i n less = by (nat_eq i n) refl
  where
    by : (b : Bool) → nat_eq i n ≡ b → (i ≡ n) ⊎ (i < n)
    by true e = inl (equal-numbers i n e)
    by false e = inr (grind (arith, e, less))

module _ (p : ℕ → Bool) (xs : List ℕ) where
  pub last-inside : (n : ℕ) → last_before p xs n ≤ n
  last-inside zero = omega arith
  last-inside (suc n) = by (p (get_or xs n 0)) (last-inside n)
    where
      by : (b : Bool) → last_before p xs n ≤ n → (if b then suc n else last_before p xs n) ≤ suc n
      by true h = omega arith
      by false h = omega (arith, h)

  -- A number at the place before passes, or it doesn't.
  pub last-here : (n k : ℕ) → n ≡ suc k → p (get_or xs k 0) ≡ true → last_before p xs n ≡ n
  last-here n k e passes =
      ap (last_before p xs) e ∙ (ap (λ b. if b then suc k else last_before p xs k) passes ∙ sym e)

  pub last-past : (n k : ℕ) → n ≡ suc k → p (get_or xs k 0) ≡ false → last_before p xs n ≡ last_before p xs k
  last-past n k e fails =
      ap (last_before p xs) e ∙ ap (λ b. if b then suc k else last_before p xs k) fails

  -- The number before a last place passes.
  pub last-passes : (n k : ℕ) → n ≡ suc k → n ≡ last_before p xs n → p (get_or xs k 0) ≡ true
  last-passes n k e last = by (p (get_or xs k 0)) refl
    where
      by : (b : Bool) → p (get_or xs k 0) ≡ b → b ≡ true
      by true passes = refl
      by false fails =
          let past = last-past n k e fails in
          let inside = last-inside k in
          absurd (omega (arith, past, inside, last, e))

-- The last place of a test before the last place of one that passes more often.
pub last-through : (p q : ℕ → Bool) → ((g : ℕ) → p g ≡ true → q g ≡ true) → (xs : List ℕ) (n : ℕ) → last_before p xs (last_before q xs n) ≡ last_before p xs n
last-through p q follows xs zero = refl
last-through p q follows xs (suc n) = by (q (get_or xs n 0)) refl (p (get_or xs n 0)) refl (last-through p q follows xs n)
  where
    by : (b : Bool) → q (get_or xs n 0) ≡ b → (a : Bool) → p (get_or xs n 0) ≡ a → last_before p xs (last_before q xs n) ≡ last_before p xs n
        → last_before p xs (if b then suc n else last_before q xs n) ≡ (if a then suc n else last_before p xs n)
    by true hq a hp rest = ap (λ c. if c then suc n else last_before p xs n) hp
    by false hq true hp rest = absurd (cc (follows (get_or xs n 0) hp, hq))
    by false hq false hp rest = rest

pub last-twice : (p : ℕ → Bool) (xs : List ℕ) (n : ℕ) → last_before p xs n ≡ last_before p xs (last_before p xs n)
last-twice p xs n = sym (last-through p p (λ g h. h) xs n)

pub last-alike : (p : ℕ → Bool) (xs ys : List ℕ) (n : ℕ) → ((i : ℕ) → i < n → get_or xs i 0 ≡ get_or ys i 0) → last_before p xs n ≡ last_before p ys n
last-alike p xs ys zero same = refl
last-alike p xs ys (suc n) same =
    let here : get_or xs n 0 ≡ get_or ys n 0 = same n (omega arith) in
    let rest = last-alike p xs ys n (λ i less. same i (omega (arith, less))) in
    λ j. if p (here j) then suc n else rest j

-- A hash of one value falls into one bucket.
pub in-bucket : (m h g : ℕ) → nat_eq h g ≡ true → is_in m (bucket_of m h) g ≡ true
in-bucket m h g e = same-number (bucket_of m h) (bucket_of m g) (ap (bucket_of m) (equal-numbers h g e))

pub bucket-inside : (m h : ℕ) → 0 < m → h < 2 ^ 32 → bucket_of m h < m
unfolding bucket_of
bucket-inside m h some small =
    let more : h * m < 2 ^ 32 * m = mul-lt-mul_of_pos_right small some in
    let less : h * m < m * 2 ^ 32 = grind (arith, more) in
    (div-lt_iff_lt-mul {k = 2 ^ 32} {x = h * m} {y = m} (omega arith)).1 less

pub product-small : (m h : ℕ) → m < 2 ^ 32 → h < 2 ^ 32 → h * m < 2 ^ 64
product-small m h little small = mul-lt h m (2 ^ 32) (2 ^ 32) small little

-- No place is in a chain yet.
pub chained-none : (m : ℕ) (hashes before : List ℕ) → IsChained m 0 (replicate m 0) hashes before
chained-none m hashes before =
    record {
      last = λ b less. get_or-replicate m b 0 0 less;
      earlier = λ i less. absurd (omega (arith, less));
    }

module _ (m n : ℕ) (heads hashes before : List ℕ) where
  abbrev own : ℕ
  own = bucket_of m (get_or hashes n 0)

  in-own : is_in m own (get_or hashes n 0) ≡ true
  in-own = number-itself own

  -- One more place is chained.
  pub chained-next : IsChained m n heads hashes before → n < length before → own < length heads → own < m → IsChained m (n + 1) (set heads own (n + 1)) hashes (set before n (get_or heads own 0))
  chained-next chained inside within bucket =
      record {
        last = λ b less. to b less (nat_eq b own) refl;
        earlier = λ i less. from i (below-next i n (omega (arith, less)));
      }
    where
      next : n + 1 ≡ suc n
      next = omega arith

      to : (b : ℕ) → b < m → (e : Bool) → nat_eq b own ≡ e → get_or (set heads own (n + 1)) b 0 ≡ last_before (is_in m b) hashes (n + 1)
      to b less true e =
          let same : b ≡ own = equal-numbers b own e in
          ap (λ k. get_or (set heads own (n + 1)) k 0) same
          ∙ (get_or-set_same heads own (n + 1) 0 within
          ∙ sym (ap (λ k. last_before (is_in m k) hashes (n + 1)) same ∙ last-here (is_in m own) hashes (n + 1) n next in-own))
      to b less false e =
          let other : b ≢ own = grind (arith, e) in
          get_or-set_other heads own b (n + 1) 0 other
          ∙ (chained.last b less ∙ sym (last-past (is_in m b) hashes (n + 1) n next e))

      from : (i : ℕ) → (i ≡ n) ⊎ (i < n) → get_or (set before n (get_or heads own 0)) i 0 ≡ last_before (is_in m (bucket_of m (get_or hashes i 0))) hashes i
      from i (inl same) =
          ap (λ k. get_or (set before n (get_or heads own 0)) k 0) same
          ∙ (get_or-set_same before n (get_or heads own 0) 0 inside
          ∙ (chained.last own bucket ∙ sym (ap (λ k. last_before (is_in m (bucket_of m (get_or hashes k 0))) hashes k) same)))
      from i (inr less) =
          let other : i ≢ n = omega (arith, less) in
          get_or-set_other before n i (get_or heads own 0) 0 other ∙ chained.earlier i less

  -- The last place is taken out of its chain.
  pub chained-before : IsChained m (suc n) heads hashes before → own < length heads → IsChained m n (set heads own (get_or before n 0)) hashes before
  chained-before chained within =
      record {
        last = λ b less. to b less (nat_eq b own) refl;
        earlier = λ i less. chained.earlier i (omega (arith, less));
      }
    where
      to : (b : ℕ) → b < m → (e : Bool) → nat_eq b own ≡ e → get_or (set heads own (get_or before n 0)) b 0 ≡ last_before (is_in m b) hashes n
      to b less true e =
          let same : b ≡ own = equal-numbers b own e in
          ap (λ k. get_or (set heads own (get_or before n 0)) k 0) same
          ∙ (get_or-set_same heads own (get_or before n 0) 0 within
          ∙ (chained.earlier n (omega arith) ∙ sym (ap (λ k. last_before (is_in m k) hashes n) same)))
      to b less false e =
          let other : b ≢ own = grind (arith, e) in
          get_or-set_other heads own b (get_or before n 0) 0 other
          ∙ (chained.last b less ∙ last-past (is_in m b) hashes (suc n) n refl e)

-- Only the first places count.
module _ (m n : ℕ) (heads hashes before hashes2 before2 : List ℕ) where
  pub chained-alike : ((i : ℕ) → i < n → get_or hashes i 0 ≡ get_or hashes2 i 0) → ((i : ℕ) → i < n → get_or before i 0 ≡ get_or before2 i 0) → IsChained m n heads hashes before → IsChained m n heads hashes2 before2
  chained-alike same paired chained =
      record {
        last = λ b less. chained.last b less ∙ last-alike (is_in m b) hashes hashes2 n same;
        earlier = λ i less.
            sym (paired i less)
            ∙ (chained.earlier i less
            ∙ (ap (λ h. last_before (is_in m (bucket_of m h)) hashes i) (same i less)
            ∙ last-alike (is_in m (bucket_of m (get_or hashes2 i 0))) hashes hashes2 i (λ k near. same k (omega (arith, near, less)))));
      }

module _ (m n : ℕ) (heads hashes before : List ℕ) (chained : IsChained m n heads hashes before) where
  pub chained-more : (xs ys : List ℕ) → n ≤ length hashes → n ≤ length before → IsChained m n heads (hashes ++ xs) (before ++ ys)
  chained-more xs ys inside within =
      chained-alike m n heads hashes before (hashes ++ xs) (before ++ ys) (λ i less. sym (get_or_append_left hashes xs 0 i (omega (arith, less, inside))))
      (λ i less. sym (get_or_append_left before ys 0 i (omega (arith, less, within)))) chained

  pub chained-first : (k : ℕ) → n ≤ k → IsChained m n heads (take k hashes) (take k before)
  chained-first k more =
      chained-alike m n heads hashes before (take k hashes) (take k before) (λ i less. sym (get_or-take k hashes i 0 (omega (arith, less, more)))) (λ i less. sym (get_or-take k before i 0 (omega (arith, less, more))))
      chained

  -- The place before leads on in the chain of its bucket.
  pub walk-on : (hash at k : ℕ) → at ≡ suc k → k < n → at ≡ last_before (is_in m (bucket_of m hash)) hashes at → get_or before k 0 ≡ last_before (is_in m (bucket_of m hash)) hashes k
  walk-on hash at k e less last =
      let passes = last-passes (is_in m (bucket_of m hash)) hashes at k e last in
      let same : bucket_of m hash ≡ bucket_of m (get_or hashes k 0) = equal-numbers (bucket_of m hash) (bucket_of m (get_or hashes k 0)) passes in
      chained.earlier k less ∙ ap (λ b. last_before (is_in m b) hashes k) (sym same)

-- On the way through a bucket no place of the hash is passed over.
pub walk-keeps : (m hash : ℕ) (hashes : List ℕ) (at k next : ℕ) → at ≡ suc k → nat_eq hash (get_or hashes k 0) ≡ false → next ≡ last_before (is_in m (bucket_of m hash)) hashes k
    → last_before (nat_eq hash) hashes next ≡ last_before (nat_eq hash) hashes at
walk-keeps m hash hashes at k next e other last =
    ap (last_before (nat_eq hash) hashes) last
    ∙ (last-through (nat_eq hash) (is_in m (bucket_of m hash)) (λ g h. in-bucket m hash g h) hashes k ∙ sym (last-past (nat_eq hash) hashes at k e other))

-- The same of the place's bucket and of the values that are written.
module _ (m n : ℕ) (heads hashes before : List ℕ) (b : ℕ) (same : b ≡ bucket_of m (get_or hashes n 0)) where
  pub chained-at : (k v : ℕ) → IsChained m n heads hashes before → k ≡ n + 1 → v ≡ get_or heads b 0 → n < length before → b < length heads → b < m → IsChained m (n + 1) (set heads b k) hashes (set before n v)
  chained-at k v chained next value inside within bucket =
      let value-own : v ≡ get_or heads (bucket_of m (get_or hashes n 0)) 0 = value ∙ ap (λ i. get_or heads i 0) same in
      let within-own : bucket_of m (get_or hashes n 0) < length heads = subst (λ (i : ℕ). i < length heads) same within in
      let bucket-own : bucket_of m (get_or hashes n 0) < m = subst (λ (i : ℕ). i < m) same bucket in
      subst (λ (w : ℕ). IsChained m (n + 1) (set heads b k) hashes (set before n w)) (sym value-own)
      (subst (λ (w : ℕ). IsChained m (n + 1) (set heads b w) hashes (set before n (get_or heads (bucket_of m (get_or hashes n 0)) 0))) (sym next)
      (subst (λ (i : ℕ). IsChained m (n + 1) (set heads i (n + 1)) hashes (set before n (get_or heads (bucket_of m (get_or hashes n 0)) 0))) (sym same)
      (chained-next m n heads hashes before chained inside within-own bucket-own)))

  pub unchained-at : (p v : ℕ) → IsChained m p heads hashes before → p ≡ suc n → v ≡ get_or before n 0 → b < length heads → IsChained m n (set heads b v) hashes before
  unchained-at p v chained next value within =
      let within-own : bucket_of m (get_or hashes n 0) < length heads = subst (λ (i : ℕ). i < length heads) same within in
      subst (λ (w : ℕ). IsChained m n (set heads b w) hashes before) (sym value)
      (subst (λ (i : ℕ). IsChained m n (set heads i (get_or before n 0)) hashes before) (sym same)
      (chained-before m n heads hashes before (subst (λ (k : ℕ). IsChained m k heads hashes before) next chained) within-own))

-- The chain of a hash's bucket begins at its last place.
pub chain-start : (m n hash b at : ℕ) (heads hashes before : List ℕ) → IsChained m n heads hashes before → b ≡ bucket_of m hash → b < m → at ≡ get_or heads b 0 → at ≡ last_before (is_in m (bucket_of m hash)) hashes n
chain-start m n hash b at heads hashes before chained same less read =
    read ∙ (chained.last b less ∙ ap (λ k. last_before (is_in m k) hashes n) same)

pub chained-as : (m m2 n n2 : ℕ) (heads hashes hashes2 before before2 : List ℕ) → IsChained m n heads hashes before → m2 ≡ m → n2 ≡ n → hashes2 ≡ hashes → before2 ≡ before → IsChained m2 n2 heads hashes2 before2
chained-as m m2 n n2 heads hashes hashes2 before before2 chained buckets count same paired =
    subst (λ (k : ℕ). IsChained k n2 heads hashes2 before2) (sym buckets)
    (subst (λ (k : ℕ). IsChained m k heads hashes2 before2) (sym count)
    (subst (λ (hs : List ℕ). IsChained m n heads hs before2) (sym same) (subst (λ (bs : List ℕ). IsChained m n heads hashes bs) (sym paired) chained)))

-- An index of the first hashes, whose heads lead no further.
pub index-first : (k m : ℕ) (heads heads2 hashes hashes2 before before2 : List ℕ) → IsIndex heads hashes before → IsChained m (min k (length hashes)) heads2 hashes before → m ≡ length heads → length heads2 ≡ length heads
    → hashes2 ≡ take k hashes → before2 ≡ take k before → IsIndex heads2 hashes2 before2
index-first k m heads heads2 hashes hashes2 before before2 sure chained buckets kept first second =
    let n = ap length first ∙ length-take k hashes in
    let p = ap length second ∙ length-take k before in
    let paired = sure.paired in
    let fits = sure.fits in
    let small = sure.small in
    record {
      chained =
          chained-as m (length heads2) (min k (length hashes)) (length hashes2) heads2 (take k hashes) hashes2 (take k before) before2
          (chained-first m (min k (length hashes)) heads2 hashes before chained k (omega arith))
          (kept ∙ sym buckets) n first second;
      paired = omega (arith, n, p, paired);
      fits = omega (arith, n, kept, fits);
      small = omega (arith, kept, small);
    }
