-- Where the first line ends.
use Rattle.std.proofs.Common.{◌≡◌, ◌≢◌, ℕ, Ok, nat_lt, suc, zero, ◌-◌, List, [], ◌∷◌, length, take, drop, slice_index, refl, ap, ◌∙◌, true, false, arith, eq-eqb}
use Rattle.std.proofs.lemmas.Bool.{ne_eqb, lt-ltb}
use Rattle.std.proofs.lemmas.List.{length-take-le, get_or-take, take-take}
use Rattle.std.specs.Io.BufRead.{take_through, drop_through, ends_with_byte, strip_last, first_line}
use Rattle.pts_io.specs.declared.lines.Input.{Input}
use Rattle.pts_io.specs.declared.lines.Input.TheVariants.{Text, Bad, TooMuch, End}
use Rattle.pts_io.specs.Lines.{NoFeed, IsFirstFeed, IsAnswer, behind}

pub through-feed : (x : ℕ) (xs : List ℕ) → x ≡ 10 → (take_through 10 (x ∷ xs) ≡ x ∷ []) × (drop_through 10 (x ∷ xs) ≡ xs)
through-feed x xs h = let e = eq-eqb x 10 h in (rw e refl, rw e refl)

pub through-other : (x : ℕ) (xs : List ℕ) → x ≢ 10 → (take_through 10 (x ∷ xs) ≡ x ∷ take_through 10 xs) × (drop_through 10 (x ∷ xs) ≡ drop_through 10 xs)
through-other x xs h = let e = ne_eqb x 10 h in (rw e refl, rw e refl)

pub through-first : (xs : List ℕ) (k : ℕ) → IsFirstFeed xs k → (take_through 10 xs ≡ take (suc k) xs) × (drop_through 10 xs ≡ drop (suc k) xs)
through-first [] k h = absurd (omega (arith, h.inside))
through-first (x ∷ xs) zero h = through-feed x xs h.here
through-first (x ∷ xs) (suc k) h =
    let front = through-other x xs (h.before 0 (omega arith)) in
    let rest = through-first xs k record { inside = omega (arith, h.inside); here = h.here; before = λ j below. h.before (suc j) (omega (arith, below)) } in
    (front.0 ∙ ap (λ ys. x ∷ ys) rest.0, front.1 ∙ rest.1)

pub through-none : (xs : List ℕ) → NoFeed xs → (take_through 10 xs ≡ xs) × (drop_through 10 xs ≡ [])
through-none [] h = (refl, refl)
through-none (x ∷ xs) h =
    let front = through-other x xs (h 0 (omega arith)) in
    let rest = through-none xs (λ j below. h (suc j) (omega (arith, below))) in
    (front.0 ∙ ap (λ ys. x ∷ ys) rest.0, front.1 ∙ rest.1)

-- a last byte
pub ends_with_byte-at : (ys : List ℕ) (k : ℕ) → length ys ≡ suc k → slice_index ys k ≡ 10 → ends_with_byte 10 ys ≡ true
ends_with_byte-at [] k len here = absurd (omega (arith, len))
ends_with_byte-at (y ∷ ys) k len here =
    let some : nat_lt 0 (length (y ∷ ys)) ≡ true = lt-ltb _ _ (omega arith) in
    let last : length (y ∷ ys) - 1 ≡ k = omega (arith, len) in
    rw some (eq-eqb _ 10 (ap (λ i. slice_index (y ∷ ys) i) last ∙ here))

pub ends_with_byte-none : (xs : List ℕ) → NoFeed xs → ends_with_byte 10 xs ≡ false
ends_with_byte-none [] h = refl
ends_with_byte-none (x ∷ xs) h =
    let some : nat_lt 0 (length (x ∷ xs)) ≡ true = lt-ltb _ _ (omega arith) in
    rw some (ne_eqb _ 10 (h (length (x ∷ xs) - 1) (omega arith)))

-- the line before the first line feed
pub first_line-first : (xs : List ℕ) (k : ℕ) → IsFirstFeed xs k → first_line xs ≡ strip_last 13 (take k xs)
first_line-first xs k h =
    let through = (through-first xs k h).0 in
    let len : length (take (suc k) xs) ≡ suc k = length-take-le (suc k) xs (omega (arith, h.inside)) in
    let here : slice_index (take (suc k) xs) k ≡ 10 = get_or-take (suc k) xs k 0 (omega arith) ∙ h.here in
    let ends : ends_with_byte 10 (take_through 10 xs) ≡ true = ap (ends_with_byte 10) through ∙ ends_with_byte-at _ k len here in
    let front : take (length (take (suc k) xs) - 1) (take (suc k) xs) ≡ take k xs =
    rw len (ap (λ j. take j (take (suc k) xs)) (omega arith) ∙ take-take k (suc k) xs (omega arith)) in
    let piece : take (length (take_through 10 xs) - 1) (take_through 10 xs) ≡ take k xs = ap (λ ys. take (length ys - 1) ys) through ∙ front in
    rw ends (ap (strip_last 13) piece)

-- the line that no line feed ends
pub first_line-none : (xs : List ℕ) → NoFeed xs → first_line xs ≡ xs
first_line-none xs h =
    let through = (through-none xs h).0 in
    let ends : ends_with_byte 10 (take_through 10 xs) ≡ false = ap (ends_with_byte 10) through ∙ ends_with_byte-none xs h in
    rw ends through

-- a line is behind its answer
pub behind-answer : (E : Type 0) (line bytes : List ℕ) (input : Input) → IsAnswer line input → behind {E = E} (Ok input) bytes ≡ drop_through 10 bytes
behind-answer E line bytes (Text text) h = refl
behind-answer E line bytes Bad h = refl
behind-answer E line bytes TooMuch h = absurd h
behind-answer E line bytes End h = absurd h
