-- Known bytes that grow, or that are taken off, in two steps.
use Rattle.std.proofs.Common.{◌≡◌, ℕ, ◌+◌, ◌≤◌, List, [], ◌++◌, length, take, drop, Option, Some, None, refl, ap, sym, ◌∙◌, append_assoc, append-nil, arith, length-append}
use Rattle.std.specs.Option.{option_map}
use Rattle.std.specs.Io.KnownBytes.{prepend_known, append_known}
use Rattle.std.proofs.Math.Seq.{take-add, take-append-add, drop-append_seam}
use Rattle.std.proofs.lemmas.List.{take_all, take-append-le, take-take}
use Rattle.pts_io.specs.Counts.{raised}

pub append_known-nil : (known : Option (List ℕ)) → append_known known [] ≡ known
append_known-nil None = refl
append_known-nil (Some xs) = ap Some (append-nil xs)

pub append_known-append : (known : Option (List ℕ)) (xs ys : List ℕ) → append_known (append_known known xs) ys ≡ append_known known (xs ++ ys)
append_known-append None xs ys = refl
append_known-append (Some zs) xs ys = ap Some (append_assoc zs xs ys)

-- the first n bytes of a piece, then m more of it
pub append_known-take : (known now new : Option (List ℕ)) (n m : ℕ) (piece : List ℕ) → now ≡ append_known known (take n piece) → new ≡ append_known now (take m (drop n piece)) → new ≡ append_known known (take (n + m) piece)
append_known-take known now new n m piece before after =
    after ∙ ap (λ w. append_known w (take m (drop n piece))) before ∙ append_known-append known (take n piece) (take m (drop n piece)) ∙ ap (append_known known) (sym (take-add n m piece))

pub prepend_known-append : (known now new : Option (List ℕ)) (xs ys : List ℕ) → known ≡ prepend_known xs now → now ≡ prepend_known ys new → known ≡ prepend_known (xs ++ ys) new
prepend_known-append known now new xs ys before after = before ∙ ap (prepend_known xs) after ∙ joined new
  where
    joined : (w : Option (List ℕ)) → prepend_known xs (prepend_known ys w) ≡ prepend_known (xs ++ ys) w
    joined None = refl
    joined (Some zs) = ap Some (sym (append_assoc xs ys zs))

-- what is left lacks the bytes that were taken off
pub prepend_known-drop : (old new : Option (List ℕ)) (xs : List ℕ) (n : ℕ) → old ≡ prepend_known xs new → length xs ≡ n → new ≡ option_map (λ all. drop n all) old
prepend_known-drop old new xs n before len = sym (ap (option_map (λ all. drop n all)) before ∙ lacks new)
  where
    lacks : (w : Option (List ℕ)) → option_map (λ all. drop n all) (prepend_known xs w) ≡ w
    lacks None = refl
    lacks (Some zs) = ap Some (ap (λ k. drop k (xs ++ zs)) (sym len) ∙ drop-append_seam xs zs)

-- a source gave xs, and then n bytes more: all of it is off what is left
pub given_on : (given now new : ℕ) (left here there : Option (List ℕ)) (xs ys : List ℕ) (len n most : ℕ) → len ≡ length xs → now ≡ raised given len → left ≡ prepend_known xs here → new ≡ raised now n → here ≡ prepend_known ys there → length ys ≡ n → len + n ≤ most → (k : ℕ) × (k ≤ most) × (new ≡ raised given k) × (there ≡ option_map (λ all. drop k all) left)
given_on given now new left here there xs ys len n most len_is first taken second moved count within =
    (len + n, within, omega arith, prepend_known-drop left there (xs ++ ys) (len + n) (prepend_known-append left here there xs ys taken moved) (omega (arith, length-append xs ys)))

-- a list whose end was written over and cut off behind n elements of that
pub take-written : (old all piece behind rest : List ℕ) (len n most : ℕ) → take len all ≡ old → length old ≡ len → n ≤ length piece → len + n ≤ most → take (len + n) (take most ((take len all ++ (piece ++ behind)) ++ rest)) ≡ old ++ take n piece
take-written old all piece behind rest len n most front len_is count within =
    let whole : List ℕ = old ++ (piece ++ behind) in
    let long : len + n ≤ length whole = omega (arith, length-append old (piece ++ behind), length-append piece behind) in
    rw front (take-take (len + n) most (whole ++ rest) within ∙ take-append-le (len + n) whole rest long ∙ ap (λ k. take (k + n) whole) (sym len_is) ∙ take-append-add old (piece ++ behind) n ∙ ap (λ xs. old ++ xs) (take-append-le n piece behind count))

-- and one that was cut off before it
pub take-kept : (old all piece behind rest : List ℕ) (len most : ℕ) → take len all ≡ old → length old ≡ len → len ≤ most → take len (take most ((take len all ++ (piece ++ behind)) ++ rest)) ≡ old
take-kept old all piece behind rest len most front len_is within =
    let whole : List ℕ = old ++ (piece ++ behind) in
    let long : len ≤ length whole = omega (arith, length-append old (piece ++ behind), len_is) in
    rw front (take-take len most (whole ++ rest) within ∙ take-append-le len whole rest long ∙ take-append-le len old (piece ++ behind) (omega (arith, len_is)) ∙ take_all len old (omega (arith, len_is)))

-- what was taken is held, so the same lies ahead
pub prepend_known-held : (old new taken : List ℕ) (before after : Option (List ℕ)) → new ≡ old ++ taken → before ≡ prepend_known taken after → prepend_known new after ≡ prepend_known old before
prepend_known-held old new taken before after held moved =
    ap (λ xs. prepend_known xs after) held ∙ sym (prepend_known-append _ before after old taken refl moved)

-- a list that was made longer begins as before
pub take-longer : (old all made more : List ℕ) (len most : ℕ) → all ≡ made → made ≡ take (len + most) old ++ more → length old ≡ len → take len all ≡ old
take-longer old all made more len most same longer len_is =
    let whole : take (len + most) old ≡ old = take_all (len + most) old (omega (arith, len_is)) in
    rw (same, longer, whole) (take-append-le len old more (omega (arith, len_is)) ∙ take_all len old (omega (arith, len_is)))
