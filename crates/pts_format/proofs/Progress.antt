-- How far the lines of a source are answered.
use Rattle.std.proofs.Common.{◌≡◌, refl, sym, ap, subst, ◌∙◌, arith, ℕ, suc, ◌+◌, ◌-◌, ◌<◌, ◌≤◌, ◌⊎◌, inl, inr, Bool, true, false, List, [], ◌++◌, length, take, Contains, Option, Some, None, Ok, IfSome, append_assoc, append-nil, length-append}
use Rattle.std.specs.Io.KnownBytes.{prepend_known, IsAtEnd}
use Rattle.std.specs.Io.BufRead.{take_through, drop_through, first_line}
use Rattle.std.proofs.Math.Seq.{take-append-add}
use Rattle.std.proofs.lemmas.List.{take-append-le}
use Rattle.pts_io.specs.declared.faults.ReadFail.{ReadFail}
use Rattle.pts_io.specs.declared.lines.Input.{Input}
use Rattle.pts_io.specs.declared.lines.Input.TheVariants.{Text, Bad, TooMuch, End}
use Rattle.pts_io.specs.Lines.{behind}
use Rattle.pts_io.proofs.Known.{prepend_known-append}
use Rattle.pts_io.proofs.Turns.{drop_less, through_parts}
use Rattle.pts_format.specs.Lines.{Answered, none_yet, LineSays, AnswersSome, AnswersAll, IsFed, AnswersFirst}
use Rattle.pts_format.specs.Calls.{Replies}
use Rattle.pts_format.proofs.Feeds.{fed_through, answered_more, answered_line}

-- Of the source, whose bytes were `before` and are `now`, n bytes were taken. Of these k lines are answered by out, and these
-- are held.
pub record Stands (sorts : List (List ℕ)) (before now : Option (List ℕ)) (n k : ℕ) (held out : List ℕ) (ended : Bool) : Type 0 where
  pub whole : List ℕ
  pub count : length (whole ++ held) ≡ n
  pub moved : before ≡ prepend_known (whole ++ held) now
  pub fed : ended ≡ false → IsFed whole
  pub done : Answered sorts whole k [] out

-- as the lines begin
pub begins : (sorts : List (List ℕ)) (source : Option (List ℕ)) (n : ℕ) (held : List ℕ) (ended : Bool) → n ≡ 0 → held ≡ [] → Stands sorts source source n 0 held [] ended
begins sorts source n held ended none empty = record {
  whole = [];
  count = omega (arith, ap length empty, none);
  moved = nothing source ∙ ap (λ bytes. prepend_known bytes source) (sym empty);
  fed = λ e. inl refl;
  done = none_yet;
}
  where
    nothing : (o : Option (List ℕ)) → o ≡ prepend_known [] o
    nothing None = refl
    nothing (Some bytes) = refl

-- more was taken
pub takes_on : (sorts : List (List ℕ)) (before now after : Option (List ℕ)) (n m k : ℕ) (held more out : List ℕ) (ended : Bool) → Stands sorts before now n k held out ended → now ≡ prepend_known more after → m ≡ n + length more → Stands sorts before after m k (held ++ more) out ended
takes_on sorts before now after n m k held more out ended s moved count = record {
  whole = s.whole;
  count = omega (arith, s.count, count, length-append s.whole held, length-append s.whole (held ++ more), length-append held more);
  moved = prepend_known-append before now after (s.whole ++ held) more s.moved moved ∙ ap (λ bytes. prepend_known bytes after) (append_assoc s.whole held more);
  fed = s.fed;
  done = s.done;
}

pub behind_line : (sorts : List (List ℕ)) (k : ℕ) (bytes line : List ℕ) (input : Input) → Replies sorts k input line → behind {E = ReadFail} (Ok input) bytes ≡ drop_through 10 bytes
behind_line sorts k bytes line (Text text) r = refl
behind_line sorts k bytes line Bad r = refl
behind_line sorts k bytes line TooMuch r = absurd r
behind_line sorts k bytes line End r = absurd r

feed_of : (bytes rest : List ℕ) → rest ≡ drop_through 10 bytes → 0 < length bytes → Contains bytes 10 ⊎ (rest ≡ bytes) → Contains bytes 10
feed_of bytes rest is some (inl c) = c
feed_of bytes rest is some (inr same) = absurd (omega (arith, ap length (sym is ∙ same), drop_less bytes some))

-- the first line that is held was answered
pub answers_on : (sorts : List (List ℕ)) (before now : Option (List ℕ)) (n k : ℕ) (held rest after out line : List ℕ) (ended ended_after : Bool) → Stands sorts before now n k held out ended → ended ≡ false → 0 < length held → LineSays sorts (suc k) (first_line held) line → rest ≡ drop_through 10 held → after ≡ rest → (ended_after ≡ false → Contains held 10 ⊎ (rest ≡ held)) → Stands sorts before now n (suc k) after (out ++ line) ended_after
answers_on sorts before now n k held rest after out line ended ended_after s more some says is kept feeds =
    let piece : List ℕ = take_through 10 held in
    let parts : s.whole ++ held ≡ (s.whole ++ piece) ++ after =
    ap (λ bytes. s.whole ++ bytes) (sym (through_parts held)) ∙ (sym (append_assoc s.whole piece (drop_through 10 held)) ∙ ap (λ bytes. (s.whole ++ piece) ++ bytes) (sym (kept ∙ is))) in
    record {
      whole = s.whole ++ piece;
      count = ap length (sym parts) ∙ s.count;
      moved = s.moved ∙ ap (λ bytes. prepend_known bytes now) parts;
      fed = λ e. fed_through s.whole held (feed_of held rest is some (feeds e));
      done = answered_line sorts s.whole (s.fed more) k out held line s.done some says;
    }

-- The bytes of the source: those that are left after what was taken, where they are shown.
abbrev pub left_of : Option (List ℕ) → List ℕ
left_of None = []
left_of (Some bytes) = bytes

none_left : (now : Option (List ℕ)) → IsAtEnd now → left_of now ≡ []
none_left None ended = refl
none_left (Some bytes) ended = ended

is_text : (before now : Option (List ℕ)) (taken : List ℕ) → before ≡ prepend_known taken now → IfSome before (λ all. taken ++ left_of now ≡ all)
is_text before None taken moved = subst (λ o. IfSome o (λ all. taken ++ [] ≡ all)) (sym moved) tt
is_text before (Some bytes) taken moved = subst (λ o. IfSome o (λ all. taken ++ bytes ≡ all)) (sym moved) refl

-- A text of which n bytes were taken, and what is said of it.
abbrev pub HasText : (before : Option (List ℕ)) → ℕ → (List ℕ → Type 0) → Type 0
HasText before n P = (bytes : List ℕ) × IfSome before (λ all. bytes ≡ all) × (n ≤ length bytes) × P bytes

module _ (sorts : List (List ℕ)) (before now : Option (List ℕ)) (n k : ℕ) (held out : List ℕ) (ended : Bool) (s : Stands sorts before now n k held out ended) where
  has_text : (P : List ℕ → Type 0) → P ((s.whole ++ held) ++ left_of now) → HasText before n P
  has_text P p = ((s.whole ++ held) ++ left_of now, is_text before now (s.whole ++ held) s.moved, omega (arith, s.count, length-append (s.whole ++ held) (left_of now)), p)

  -- some lines were answered
  pub answers_some : (ended ≡ true → IsAtEnd now × (held ≡ [])) → HasText before n (λ bytes. AnswersSome sorts n bytes out)
  answers_some at_end = has_text (λ bytes. AnswersSome sorts n bytes out) (by_end ended refl)
    where
      by_end : (b : Bool) → ended ≡ b → AnswersSome sorts n ((s.whole ++ held) ++ left_of now) out
      by_end false e = (
        k,
        held ++ left_of now,
        subst (λ bytes. Answered sorts bytes k (held ++ left_of now) out) (sym (append_assoc s.whole held (left_of now))) (answered_more sorts s.whole (s.fed e) (held ++ left_of now) s.done),
        omega (arith, s.count, length-append (s.whole ++ held) (left_of now), length-append held (left_of now)),
      )
      by_end true e =
          let (last, none) = at_end e in
          let same : (s.whole ++ held) ++ left_of now ≡ s.whole = ap (λ bytes. (s.whole ++ held) ++ bytes) (none_left now last) ∙ (append-nil (s.whole ++ held) ∙ (ap (λ bytes. s.whole ++ bytes) none ∙ append-nil s.whole)) in
          (k, [], subst (λ bytes. Answered sorts bytes k [] out) (sym same) s.done, omega (arith, s.count, ap length same, length-append s.whole held))

  -- the end was read
  pub answers_all : IsAtEnd now → held ≡ [] → HasText before n (λ bytes. (n ≡ length bytes) × AnswersAll sorts bytes out)
  answers_all last none =
      let same : (s.whole ++ held) ++ left_of now ≡ s.whole = ap (λ bytes. (s.whole ++ held) ++ bytes) (none_left now last) ∙ (append-nil (s.whole ++ held) ∙ (ap (λ bytes. s.whole ++ bytes) none ∙ append-nil s.whole)) in
      has_text (λ bytes. (n ≡ length bytes) × AnswersAll sorts bytes out) (omega (arith, s.count, ap length same, length-append s.whole held, ap length none), (k, subst (λ bytes. Answered sorts bytes k [] out) (sym same) s.done))

  -- of what was taken, or of its first bytes, that a line feed ends is answered, and nothing else is
  pub answers_first : (most : ℕ) → ended ≡ false → most ≤ n → length s.whole ≤ most → ¬ Contains (take (most - length s.whole) held) 10 → HasText before n (λ bytes. AnswersFirst sorts (take most bytes) out)
  answers_first most more few fits none =
      let inside : most ≤ length (s.whole ++ held) = omega (arith, few, s.count) in
      let count : most ≡ length s.whole + (most - length s.whole) = omega (arith, fits) in
      let parts : take most ((s.whole ++ held) ++ left_of now) ≡ s.whole ++ take (most - length s.whole) held =
      take-append-le most (s.whole ++ held) (left_of now) inside ∙ (ap (λ m. take m (s.whole ++ held)) count ∙ take-append-add s.whole held (most - length s.whole)) in
      has_text (λ bytes. AnswersFirst sorts (take most bytes) out) (s.whole, take (most - length s.whole) held, parts, s.fed more, none, (k, s.done))
