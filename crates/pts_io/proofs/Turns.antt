-- Lines that are read one after another, and what is said of each by its reader.
use Rattle.std.proofs.Common.{◌≡◌, ℕ, zero, suc, ◌+◌, ◌-◌, ◌<◌, ◌≤◌, ◌==◌, ◌&&◌, nat_lt, Bool, true, false, if◌then◌else◌, List, [], ◌∷◌, ◌++◌, length, take, slice_index, get_or, Contains, Option, Some, None, Result, Ok, Err, IfSome, inl, inr, refl, ap, sym, subst, ◌∙◌, arith, append_assoc, lt_of_not-le, eq-eqb}
use Rattle.std.specs.Option.{option_map}
use Rattle.std.specs.Io.KnownBytes.{prepend_known, append_known}
use Rattle.std.specs.Io.BufRead.{take_through, drop_through, ends_with_byte}
use Rattle.std.proofs.lemmas.Bool.{ne_eqb, lt-ltb}
use Rattle.std.proofs.lemmas.List.{take-append-le, take_all, length-take}
use Rattle.pts_io.specs.Counts.{raised}
use Rattle.pts_io.specs.declared.faults.ReadFail.{ReadFail}
use Rattle.pts_io.specs.declared.lines.Input.{Input}
use Rattle.pts_io.specs.Lines.{HasLine, behind}
use Rattle.pts_io.proofs.Feeds.{through-feed, through-other, ends_with_byte-at}
use Rattle.pts_io.proofs.Known.{append_known-append}

pub if_some_map : {A : Type 0} (o : Option A) (P Q : A → Type 0) → ((a : A) → P a → Q a) → IfSome o P → IfSome o Q
if_some_map None P Q f p = tt
if_some_map (Some a) P Q f p = f a p

-- a line within the limit is a line
pub has_bytes : (most : ℕ) (bytes : List ℕ) → HasLine most bytes → 0 < length bytes
has_bytes most bytes (inl (k, inside, here)) = omega (arith, length-take most bytes, inside)
has_bytes most bytes (inr h) = h.0

-- what is left gets no longer
pub drop_shorter : (bytes : List ℕ) → length (drop_through 10 bytes) ≤ length bytes
drop_shorter [] = omega arith
drop_shorter (x ∷ xs) = by_feed (x == 10) (drop_shorter xs)
  where
    by_feed : (b : Bool) → length (drop_through 10 xs) ≤ length xs → length (if b then xs else drop_through 10 xs) ≤ suc (length xs)
    by_feed true l = omega arith
    by_feed false l = omega (arith, l)

-- and shorter where there is a byte
pub drop_less : (bytes : List ℕ) → 0 < length bytes → length (drop_through 10 bytes) < length bytes
drop_less [] some = absurd (omega (arith, some))
drop_less (x ∷ xs) some = by_feed (x == 10) (drop_shorter xs)
  where
    by_feed : (b : Bool) → length (drop_through 10 xs) ≤ length xs → length (if b then xs else drop_through 10 xs) < suc (length xs)
    by_feed true l = omega arith
    by_feed false l = omega (arith, l)

-- the first line, with its line feed, and the rest
pub through_parts : (bytes : List ℕ) → take_through 10 bytes ++ drop_through 10 bytes ≡ bytes
through_parts [] = refl
through_parts (x ∷ xs) = by_feed (x == 10) (through_parts xs)
  where
    by_feed : (b : Bool) → take_through 10 xs ++ drop_through 10 xs ≡ xs → (if b then x ∷ [] else x ∷ take_through 10 xs) ++ (if b then xs else drop_through 10 xs) ≡ x ∷ xs
    by_feed true e = refl
    by_feed false e = ap (λ ys. x ∷ ys) e

pub ends_more : (x : ℕ) (xs : List ℕ) → ends_with_byte 10 xs ≡ true → ends_with_byte 10 (x ∷ xs) ≡ true
ends_more x [] e = absurd (cc e)
ends_more x (y ∷ ys) e =
    let here : slice_index (y ∷ ys) (length (y ∷ ys) - 1) ≡ 10 = grind (arith, e) in
    let last : length (y ∷ ys) - 1 ≡ length ys = omega arith in
    ends_with_byte-at (x ∷ y ∷ ys) (suc (length ys)) refl (ap (slice_index (y ∷ ys)) (sym last) ∙ here)

-- the first line ends with a line feed where there is one
pub through_ends : (bytes : List ℕ) → Contains bytes 10 → ends_with_byte 10 (take_through 10 bytes) ≡ true
through_ends [] (k, inside, here) = absurd (omega (arith, inside))
through_ends (x ∷ xs) (zero, inside, here) = let e = (through-feed x xs here).0 in let feed : ends_with_byte 10 (x ∷ []) ≡ true = eq-eqb x 10 here in ap (ends_with_byte 10) e ∙ feed
through_ends (x ∷ xs) (suc k, inside, here) = by_feed (x == 10) refl (through_ends xs (k, omega (arith, inside), here))
  where
    by_feed : (b : Bool) → (x == 10) ≡ b → ends_with_byte 10 (take_through 10 xs) ≡ true → ends_with_byte 10 (if b then x ∷ [] else x ∷ take_through 10 xs) ≡ true
    by_feed true is e = is
    by_feed false is e = ends_more x (take_through 10 xs) e

pub ends_append : (front bytes : List ℕ) → ends_with_byte 10 bytes ≡ true → ends_with_byte 10 (front ++ bytes) ≡ true
ends_append [] bytes e = e
ends_append (x ∷ xs) bytes e = ends_more x (xs ++ bytes) (ends_append xs bytes e)

-- a refusal leaves what lies ahead
pub ahead_kept : (e : ReadFail) (o : Option (List ℕ)) → option_map (behind {E = ReadFail} (Err e)) o ≡ o
ahead_kept e None = refl
ahead_kept e (Some bytes) = refl

-- what is held is the front of what lies ahead
pub held_front : (held : List ℕ) (o : Option (List ℕ)) (rest : List ℕ) → prepend_known held o ≡ Some rest → take (length held) rest ≡ held
held_front held None rest h = absurd (cc h)
held_front held (Some ys) rest h =
    let e : held ++ ys ≡ rest = cc h in
    ap (take (length held)) (sym e) ∙ (take-append-le (length held) held ys (omega arith) ∙ take_all (length held) held (omega arith))

-- counts of bytes that were taken one after another
pub raised_on : (given now new from to : ℕ) → now ≡ raised given from → new ≡ raised now (to - from) → from ≤ to → new ≡ raised given to
raised_on given now new from to first second grows = omega (arith, first, second, grows)

pub not_over : (limit taken : ℕ) → ¬ (limit < taken) → taken ≤ limit
not_over limit taken h = let l = lt_of_not-le h in omega (arith, l)

-- a text was printed, and then a line
pub line_written : (written now after : Option (List ℕ)) (out line : List ℕ) → now ≡ append_known written out → after ≡ append_known now line → after ≡ append_known written (out ++ line)
line_written written now after out line is more = more ∙ (ap (λ o. append_known o line) is ∙ append_known-append written out line)
