-- Lines that a line feed ends are answered alike whatever follows them.
use Rattle.std.proofs.Common.{◌≡◌, refl, sym, ap, subst, ◌∙◌, arith, ℕ, zero, suc, ◌<◌, ◌==◌, Bool, true, false, List, [], ◌∷◌, ◌++◌, length, Contains, inl, inr, append_assoc, length-append}
use Rattle.std.specs.Prelude.{if◌then◌else◌}
use Rattle.std.specs.Io.BufRead.{take_through, drop_through, ends_with_byte, strip_last, first_line}
use Rattle.std.proofs.lemmas.Bool.{eqb-true}
use Rattle.pts_io.proofs.Feeds.{through-feed}
use Rattle.pts_io.proofs.Turns.{drop_less, through_parts}
use Rattle.pts_format.specs.Lines.{Answered, none_yet, one_more, LineSays, IsFed}

fed_tail : (x : ℕ) (xs : List ℕ) → IsFed (x ∷ xs) → IsFed xs
fed_tail x xs (inl e) = absurd (cc e)
fed_tail x xs (inr ([], e)) = inl (let t : xs ≡ [] = cc e in t)
fed_tail x xs (inr (y ∷ ys, e)) = inr (ys, let t : xs ≡ ys ++ 10 ∷ [] = cc e in t)

fed_drop : (xs : List ℕ) → IsFed xs → IsFed (drop_through 10 xs)
fed_drop [] f = inl refl
fed_drop (x ∷ xs) f = by_feed (x == 10) (fed_tail x xs f) (fed_drop xs (fed_tail x xs f))
  where
    by_feed : (b : Bool) → IsFed xs → IsFed (drop_through 10 xs) → IsFed (if b then xs else drop_through 10 xs)
    by_feed true f g = f
    by_feed false f g = g

contains_last : (front : List ℕ) → Contains (front ++ 10 ∷ []) 10
contains_last [] = (0, omega arith, refl)
contains_last (x ∷ front) = let (k, inside, here) = contains_last front in (suc k, omega (arith, inside), here)

fed_holds : (xs : List ℕ) → IsFed xs → 0 < length xs → Contains xs 10
fed_holds xs (inl e) some = absurd (omega (arith, ap length e, some))
fed_holds xs (inr (front, e)) some = subst (λ ys. Contains ys 10) (sym e) (contains_last front)

-- the first line, and what comes after it, where more bytes follow
through_more : (xs more : List ℕ) → Contains xs 10 → (take_through 10 (xs ++ more) ≡ take_through 10 xs) × (drop_through 10 (xs ++ more) ≡ drop_through 10 xs ++ more)
through_more [] more (k, inside, here) = absurd (omega (arith, inside))
through_more (x ∷ xs) more (zero, inside, here) =
    let long = through-feed x (xs ++ more) here in
    let short = through-feed x xs here in
    (long.0 ∙ sym short.0, long.1 ∙ ap (λ ys. ys ++ more) (sym short.1))
through_more (x ∷ xs) more (suc k, inside, here) = by_feed (x == 10) (through_more xs more (k, omega (arith, inside), here))
  where
    by_feed : (b : Bool) → (take_through 10 (xs ++ more) ≡ take_through 10 xs) × (drop_through 10 (xs ++ more) ≡ drop_through 10 xs ++ more) → ((if b then x ∷ [] else x ∷ take_through 10 (xs ++ more)) ≡ (if b then x ∷ [] else x ∷ take_through 10 xs)) × ((if b then xs ++ more else drop_through 10 (xs ++ more)) ≡ (if b then xs else drop_through 10 xs) ++ more)
    by_feed true r = (refl, refl)
    by_feed false r = (ap (λ ys. x ∷ ys) r.0, r.1)

-- and where none follow
through_alone : (xs : List ℕ) → (take_through 10 (take_through 10 xs) ≡ take_through 10 xs) × (drop_through 10 (take_through 10 xs) ≡ [])
through_alone [] = (refl, refl)
through_alone (x ∷ xs) = by_feed (x == 10) refl (through_alone xs)
  where
    by_feed : (b : Bool) → (x == 10) ≡ b → (take_through 10 (take_through 10 xs) ≡ take_through 10 xs) × (drop_through 10 (take_through 10 xs) ≡ []) → (take_through 10 (if b then x ∷ [] else x ∷ take_through 10 xs) ≡ (if b then x ∷ [] else x ∷ take_through 10 xs)) × (drop_through 10 (if b then x ∷ [] else x ∷ take_through 10 xs) ≡ [])
    by_feed true e r = (rw e refl, rw e refl)
    by_feed false e r = (rw e (ap (λ ys. x ∷ ys) r.0), rw e r.1)

through_fed : (xs : List ℕ) → Contains xs 10 → (front : List ℕ) × (take_through 10 xs ≡ front ++ 10 ∷ [])
through_fed [] (k, inside, here) = absurd (omega (arith, inside))
through_fed (x ∷ xs) (zero, inside, here) = ([], (through-feed x xs here).0 ∙ ap (λ y. y ∷ []) here)
through_fed (x ∷ xs) (suc k, inside, here) = by_feed (x == 10) refl (through_fed xs (k, omega (arith, inside), here))
  where
    by_feed : (b : Bool) → (x == 10) ≡ b → ((front : List ℕ) × (take_through 10 xs ≡ front ++ 10 ∷ [])) → (front : List ℕ) × ((if b then x ∷ [] else x ∷ take_through 10 xs) ≡ front ++ 10 ∷ [])
    by_feed true e r = ([], ap (λ y. y ∷ []) (eqb-true x 10 e))
    by_feed false e (front, r) = (x ∷ front, ap (λ ys. x ∷ ys) r)

pub fed_through : (whole bytes : List ℕ) → Contains bytes 10 → IsFed (whole ++ take_through 10 bytes)
fed_through whole bytes c = let (front, e) = through_fed bytes c in inr (whole ++ front, ap (λ ys. whole ++ ys) e ∙ sym (append_assoc whole front (10 ∷ [])))

-- The line that bytes begin with, by these bytes and the line feed after them.
abbrev line_of : List ℕ → List ℕ
line_of piece = if ends_with_byte 10 piece then strip_last 13 (strip_last 10 piece) else strip_last 10 piece

same_line : (xs ys : List ℕ) → take_through 10 xs ≡ take_through 10 ys → first_line xs ≡ first_line ys
same_line xs ys e = ap line_of e

module _ (sorts : List (List ℕ)) (whole : List ℕ) (fed : IsFed whole) where
  left_fed : {k : ℕ} {left out : List ℕ} → Answered sorts whole k left out → IsFed left
  left_fed none_yet = fed
  left_fed (one_more {left} a some says) = fed_drop left (left_fed a)

  pub answered_more : (more : List ℕ) {k : ℕ} {left out : List ℕ} → Answered sorts whole k left out → Answered sorts (whole ++ more) k (left ++ more) out
  answered_more more none_yet = none_yet
  answered_more more (one_more {k} {left} {out} {line} a some says) =
      let through = through_more left more (fed_holds left (left_fed a) some) in
      subst (λ rest. Answered sorts (whole ++ more) (suc k) rest (out ++ line)) through.1
      (one_more (answered_more more a) (omega (arith, some, length-append left more)) (subst (λ bytes. LineSays sorts (suc k) bytes line) (sym (same_line (left ++ more) left through.0)) says))

  -- the first line of what follows is answered
  pub answered_line : (k : ℕ) (out bytes line : List ℕ) → Answered sorts whole k [] out → 0 < length bytes → LineSays sorts (suc k) (first_line bytes) line → Answered sorts (whole ++ take_through 10 bytes) (suc k) [] (out ++ line)
  answered_line k out bytes line a some says =
      let piece : List ℕ = take_through 10 bytes in
      let through = through_alone bytes in
      let shorter = drop_less bytes some in
      let more : 0 < length piece = omega (arith, shorter, ap length (through_parts bytes), length-append piece (drop_through 10 bytes)) in
      subst (λ rest. Answered sorts (whole ++ piece) (suc k) rest (out ++ line)) through.1
      (one_more (answered_more piece a) more (subst (λ b. LineSays sorts (suc k) b line) (sym (same_line piece bytes through.0)) says))
