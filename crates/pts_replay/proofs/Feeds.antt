-- Lines that a line feed ends are played alike whatever follows them.
use Rattle.std.proofs.Common.{◌≡◌, refl, sym, ap, subst, ◌∙◌, arith, ℕ, zero, suc, ◌<◌, ◌≤◌, ◌⊎◌, ◌==◌, Bool, true, false, List, [], ◌∷◌, ◌++◌, length, Contains, inl, inr, append_assoc, append-nil, length-append}
use Rattle.std.specs.Prelude.{if◌then◌else◌}
use Rattle.std.specs.Io.BufRead.{take_through, drop_through, ends_with_byte, strip_last, first_line}
use Rattle.std.proofs.lemmas.Bool.{eqb-true}
use Rattle.pts_io.specs.Lines.{IsText}
use Rattle.pts_io.proofs.Feeds.{through-feed}
use Rattle.pts_io.proofs.Turns.{drop_less, through_parts}
use Rattle.pts_play.specs.Play.{Playing, text_of, PlaysLine, Played, none_yet, one_more}
use Rattle.pts_replay.specs.Endings.{IsFed}

fed_tail : (x : ℕ) (xs : List ℕ) → IsFed (x ∷ xs) → IsFed xs
fed_tail x xs (inl e) = absurd (cc e)
fed_tail x xs (inr ([], e)) = inl (let t : xs ≡ [] = cc e in t)
fed_tail x xs (inr (y ∷ ys, e)) = inr (ys, let t : xs ≡ ys ++ 10 ∷ [] = cc e in t)

fed_drop : (xs : List ℕ) → IsFed xs → IsFed (drop_through 10 xs)
fed_drop [] f = inl refl
fed_drop (x ∷ xs) f = by_feed (x == 10) (fed_tail x xs f) (fed_drop xs (fed_tail x xs f))
  where
    by_feed : (b : Bool) → IsFed xs → IsFed (drop_through 10 xs) → IsFed (if b then xs else drop_through 10 xs)
    by_feed true f g = f
    by_feed false f g = g

contains_last : (front : List ℕ) → Contains (front ++ 10 ∷ []) 10
contains_last [] = (0, omega arith, refl)
contains_last (x ∷ front) = let (k, inside, here) = contains_last front in (suc k, omega (arith, inside), here)

fed_holds : (xs : List ℕ) → IsFed xs → 0 < length xs → Contains xs 10
fed_holds xs (inl e) some = absurd (omega (arith, ap length e, some))
fed_holds xs (inr (front, e)) some = subst (λ ys. Contains ys 10) (sym e) (contains_last front)

-- the first line, and what comes after it, where more bytes follow
through_more : (xs more : List ℕ) → Contains xs 10 → (take_through 10 (xs ++ more) ≡ take_through 10 xs) × (drop_through 10 (xs ++ more) ≡ drop_through 10 xs ++ more)
through_more [] more (k, inside, here) = absurd (omega (arith, inside))
through_more (x ∷ xs) more (zero, inside, here) =
    let long = through-feed x (xs ++ more) here in
    let short = through-feed x xs here in
    (long.0 ∙ sym short.0, long.1 ∙ ap (λ ys. ys ++ more) (sym short.1))
through_more (x ∷ xs) more (suc k, inside, here) = by_feed (x == 10) (through_more xs more (k, omega (arith, inside), here))
  where
    by_feed : (b : Bool) → (take_through 10 (xs ++ more) ≡ take_through 10 xs) × (drop_through 10 (xs ++ more) ≡ drop_through 10 xs ++ more) → ((if b then x ∷ [] else x ∷ take_through 10 (xs ++ more)) ≡ (if b then x ∷ [] else x ∷ take_through 10 xs)) × ((if b then xs ++ more else drop_through 10 (xs ++ more)) ≡ (if b then xs else drop_through 10 xs) ++ more)
    by_feed true r = (refl, refl)
    by_feed false r = (ap (λ ys. x ∷ ys) r.0, r.1)

-- and where none follow
through_alone : (xs : List ℕ) → (take_through 10 (take_through 10 xs) ≡ take_through 10 xs) × (drop_through 10 (take_through 10 xs) ≡ [])
through_alone [] = (refl, refl)
through_alone (x ∷ xs) = by_feed (x == 10) refl (through_alone xs)
  where
    by_feed : (b : Bool) → (x == 10) ≡ b → (take_through 10 (take_through 10 xs) ≡ take_through 10 xs) × (drop_through 10 (take_through 10 xs) ≡ []) → (take_through 10 (if b then x ∷ [] else x ∷ take_through 10 xs) ≡ (if b then x ∷ [] else x ∷ take_through 10 xs)) × (drop_through 10 (if b then x ∷ [] else x ∷ take_through 10 xs) ≡ [])
    by_feed true e r = (rw e refl, rw e refl)
    by_feed false e r = (rw e (ap (λ ys. x ∷ ys) r.0), rw e r.1)

through_fed : (xs : List ℕ) → Contains xs 10 → (front : List ℕ) × (take_through 10 xs ≡ front ++ 10 ∷ [])
through_fed [] (k, inside, here) = absurd (omega (arith, inside))
through_fed (x ∷ xs) (zero, inside, here) = ([], (through-feed x xs here).0 ∙ ap (λ y. y ∷ []) here)
through_fed (x ∷ xs) (suc k, inside, here) = by_feed (x == 10) refl (through_fed xs (k, omega (arith, inside), here))
  where
    by_feed : (b : Bool) → (x == 10) ≡ b → ((front : List ℕ) × (take_through 10 xs ≡ front ++ 10 ∷ [])) → (front : List ℕ) × ((if b then x ∷ [] else x ∷ take_through 10 xs) ≡ front ++ 10 ∷ [])
    by_feed true e r = ([], ap (λ y. y ∷ []) (eqb-true x 10 e))
    by_feed false e (front, r) = (x ∷ front, ap (λ ys. x ∷ ys) r)

pub fed_through : (whole bytes : List ℕ) → Contains bytes 10 → IsFed (whole ++ take_through 10 bytes)
fed_through whole bytes c = let (front, e) = through_fed bytes c in inr (whole ++ front, ap (λ ys. whole ++ ys) e ∙ sym (append_assoc whole front (10 ∷ [])))

-- The line that bytes begin with, by these bytes and the line feed after them.
abbrev line_of : List ℕ → List ℕ
line_of piece = if ends_with_byte 10 piece then strip_last 13 (strip_last 10 piece) else strip_last 10 piece

same_line : (xs ys : List ℕ) → take_through 10 xs ≡ take_through 10 ys → first_line xs ≡ first_line ys
same_line xs ys e = ap line_of e

-- The first line is the same, and what follows comes after it, where a line feed ends it or nothing follows.
pub line_kept : (xs more : List ℕ) → Contains xs 10 ⊎ (more ≡ []) → (first_line (xs ++ more) ≡ first_line xs) × (length more ≤ length (drop_through 10 (xs ++ more)))
line_kept xs more (inl c) =
    let through = through_more xs more c in
    (same_line (xs ++ more) xs through.0, omega (arith, ap length through.1, length-append (drop_through 10 xs) more))
line_kept xs more (inr none) = (ap first_line (ap (λ ys. xs ++ ys) none ∙ append-nil xs), omega (arith, ap length none))

module _ {Core State : Type 0} (Round : Playing Core State → (numbers : List ℕ) → (out : List (List ℕ)) → Playing Core State → Type 0) (numbered : Bool) (whole : List ℕ) (fed : IsFed whole) (start : Playing Core State) where
  left_fed : {k : ℕ} {left printed : List ℕ} {p : Playing Core State} → Played Round IsText numbered whole start k left printed p → IsFed left
  left_fed none_yet = fed
  left_fed (one_more {left = left} before some line) = fed_drop left (left_fed before)

  pub played_more : (more : List ℕ) {k : ℕ} {left printed : List ℕ} {p : Playing Core State} → Played Round IsText numbered whole start k left printed p → Played Round IsText numbered (whole ++ more) start k (left ++ more) printed p
  played_more more none_yet = none_yet
  played_more more (one_more {k} {left} {printed} {out} {p} {q} before some line) =
      let through = through_more left more (fed_holds left (left_fed before) some) in
      subst (λ rest. Played Round IsText numbered (whole ++ more) start (suc k) rest (printed ++ text_of out) q) through.1
      (one_more (played_more more before) (omega (arith, some, length-append left more)) (subst (λ bytes. PlaysLine Round IsText numbered (suc k) bytes p out q) (sym (same_line (left ++ more) left through.0)) line))

  -- the first line of what follows is played
  pub played_line : (k : ℕ) (bytes printed : List ℕ) (p : Playing Core State) (out : List (List ℕ)) (q : Playing Core State) → Played Round IsText numbered whole start k [] printed p → 0 < length bytes → PlaysLine Round IsText numbered (suc k) (first_line bytes) p out q → Played Round IsText numbered (whole ++ take_through 10 bytes) start (suc k) [] (printed ++ text_of out) q
  played_line k bytes printed p out q before some line =
      let piece : List ℕ = take_through 10 bytes in
      let through = through_alone bytes in
      let shorter = drop_less bytes some in
      let more : 0 < length piece = omega (arith, shorter, ap length (through_parts bytes), length-append piece (drop_through 10 bytes)) in
      subst (λ rest. Played Round IsText numbered (whole ++ piece) start (suc k) rest (printed ++ text_of out) q) through.1
      (one_more (played_more piece before) more (subst (λ b. PlaysLine Round IsText numbered (suc k) b p out q) (sym (same_line piece bytes through.0)) line))
