-- What a reader of lines took, and what it answers by that.
use Rattle.std.proofs.Common.{◌≡◌, ℕ, ◌+◌, ◌-◌, ◌<◌, ◌≤◌, ◌↔◌, ◌⊎◌, Bool, true, false, List, [], ◌++◌, length, take, Contains, Option, Some, None, Result, Ok, Err, IfOk, IfSome, IsErr, MatchResult, inl, inr, refl, ap, sym, subst, ◌∙◌, arith, append_assoc, append-nil, length-append}
use Rattle.std.specs.Io.KnownBytes.{prepend_known}
use Rattle.std.specs.Io.BufRead.{first_line}
use Rattle.std.proofs.lemmas.List.{get_or_default, take-append-le}
use Rattle.pts_io.specs.declared.faults.ReadFail.{ReadFail}
use Rattle.pts_io.specs.declared.lines.Input.{Input}
use Rattle.pts_io.specs.declared.lines.Input.TheVariants.{TooMuch, End}
use Rattle.pts_io.specs.Lines.{Reading, within, NoFeed, IsFirstFeed, IsAnswer, IsNext, behind, Took, Gets}
use Rattle.pts_io.proofs.Known.{prepend_known-append}
use Rattle.pts_io.proofs.Turns.{not_over}
use Rattle.pts_io.proofs.Ahead.{none_contained, IsNext-append, IsNext-last}

prepend_known-nil : (known : Option (List ℕ)) → prepend_known [] known ≡ known
prepend_known-nil None = refl
prepend_known-nil (Some xs) = refl

-- nothing came
pub gets_nothing : (held new : List ℕ) (left after : Option (List ℕ)) → new ≡ held → after ≡ left → Gets held new left after
gets_nothing held new left after same kept = ([], same ∙ sym (append-nil held), sym kept ∙ sym (prepend_known-nil after))

-- more came
pub gets_more : (first held new : List ℕ) (before now after : Option (List ℕ)) → Gets first held before now → Gets held new now after → Gets first new before after
gets_more first held new before now after (xs, a, b) (ys, c, d) =
    (xs ++ ys, c ∙ (ap (λ zs. zs ++ ys) a ∙ append_assoc first xs ys), prepend_known-append before now after xs ys b d)

-- the last byte within the limit was taken before
pub at_limit : (taken limit after : ℕ) → taken ≤ limit → limit < after → (taken < limit → after ≤ limit) → taken ≡ limit
at_limit taken limit after few over one =
    let all : limit ≤ taken = not_over taken limit (λ below. let within = one below in absurd (omega (arith, within, over))) in
    omega (arith, few, all)

-- The reader was `old`, came to hold these bytes, and is `new`.
module _ (old new : Reading) (held : List ℕ) (before after : Option (List ℕ)) (gets : Gets old.held held before after) (count : length held + old.taken ≡ length old.held + new.taken) (empty : new.ended ≡ true → new.held ≡ []) where
  abbrev TookSome : Result Input ReadFail → Type 0
  TookSome result = (taken : List ℕ) × (before ≡ prepend_known taken after) × Took old new result taken

  took : (result : Result Input ReadFail) → new.held ≡ behind result held → (old.taken ≤ old.limit → IfOk result (IsNext (within old) held)) → (new.ended ≡ false → Contains held 10 ⊎ (behind result held ≡ held)) → TookSome result
  took result rest answer fed =
      let (taken, is, left) = gets in (
        taken,
        left,
        record {
          count = omega (arith, count, ap length is, length-append old.held taken);
          rest = rest ∙ ap (behind result) is;
          answer = λ inside. subst (λ bytes. IfOk result (IsNext (within old) bytes)) is (answer inside);
          fed = λ more. subst (λ bytes. Contains bytes 10 ⊎ (behind result bytes ≡ bytes)) is (fed more);
          empty = empty;
        },
      )

  -- the first line is answered, which a line feed ends
  pub took_line : (result : Result Input ReadFail) (end : ℕ) → IsFirstFeed held end → new.held ≡ behind result held → new.taken ≤ old.limit → IfOk result (IsAnswer (first_line held)) → TookSome result
  took_line result end first rest inside answer =
      took result rest (λ few. next_line result held end (within old) first (omega (arith, count, few, inside)) answer) (λ more. inl (end, first.inside, get_or_default held end 10 0 first.inside ∙ first.here))
    where
      next_line : (result : Result Input ReadFail) (held : List ℕ) (end most : ℕ) → IsFirstFeed held end → length held ≤ most → IfOk result (IsAnswer (first_line held)) → IfOk result (IsNext most held)
      next_line (Ok input) held end most first fits answer = subst (λ bytes. IsNext most bytes input) (append-nil held) (IsNext-append input held [] end most first fits answer)
      next_line (Err fail) held end most first fits answer = tt

  -- what is held is answered, as no more comes
  pub took_last : (result : Result Input ReadFail) → ((result ≡ Ok End) ↔ (held ≡ [])) → IfOk result (λ input. 0 < length held → IsAnswer (first_line held) input) → new.held ≡ behind result held → new.taken ≤ old.limit → MatchResult result (λ _. new.ended ≡ true) (λ _. new.ended ≡ false) → TookSome result
  took_last result end answer rest inside ended =
      took result rest (λ few. last_next result held (within old) (omega (arith, count, few, inside)) end answer) (last_open result held new.ended ended)
    where
      last_next : (result : Result Input ReadFail) (held : List ℕ) (most : ℕ) → length held ≤ most → ((result ≡ Ok End) ↔ (held ≡ [])) → IfOk result (λ input. 0 < length held → IsAnswer (first_line held) input) → IfOk result (IsNext most held)
      last_next (Ok input) held most fits end answer = IsNext-last ReadFail input held most fits end answer
      last_next (Err fail) held most fits end answer = tt

      last_open : (result : Result Input ReadFail) (held : List ℕ) (ended : Bool) → MatchResult result (λ _. ended ≡ true) (λ _. ended ≡ false) → ended ≡ false → Contains held 10 ⊎ (behind result held ≡ held)
      last_open (Ok input) held ended is not = absurd (cc (is, not))
      last_open (Err fail) held ended is not = inr refl

  -- the source failed, or memory ran out
  pub took_refused : (result : Result Input ReadFail) → IsErr result → new.held ≡ held → TookSome result
  took_refused (Ok input) refused same = absurd (cc refused)
  took_refused (Err fail) refused same = took (Err fail) same (λ few. tt) (λ more. inr refl)

  -- the last byte that came is after the limit
  pub took_over : (seen : List ℕ) → new.held ≡ held → take (length seen) held ≡ seen → NoFeed seen → old.limit < new.taken → length seen ≡ within old → TookSome (Ok TooMuch)
  took_over seen same front none over most =
      let none_within : ¬ Contains (take (within old) held) 10 = subst (λ bytes. ¬ Contains bytes 10) (sym (ap (λ n. take n held) (sym most) ∙ front)) (none_contained seen none) in
      took (Ok TooMuch) same (λ few. (omega (arith, count, few, over), none_within)) (λ more. inr refl)

-- the last byte that came is after the limit, whatever follows it
pub over_ahead : (held seen : List ℕ) (left before : Option (List ℕ)) (most : ℕ) → prepend_known held left ≡ before → most < length held → length seen ≡ most → take (length seen) held ≡ seen → NoFeed seen → IfSome before (λ bytes. IsNext most bytes TooMuch)
over_ahead held seen None before most ahead over count front none = subst (λ b. IfSome b (λ bytes. IsNext most bytes TooMuch)) ahead tt
over_ahead held seen (Some rest) before most ahead over count front none =
    let same : take most (held ++ rest) ≡ seen = take-append-le most held rest (omega (arith, over)) ∙ (ap (λ n. take n held) (sym count) ∙ front) in
    subst (λ b. IfSome b (λ bytes. IsNext most bytes TooMuch)) ahead
    (omega (arith, over, length-append held rest), subst (λ bytes. ¬ Contains bytes 10) (sym same) (none_contained seen none))

-- nothing more is answered after the limit
pub took_no_more : (reader : Reading) (left : Option (List ℕ)) → reader.limit < reader.taken → (reader.ended ≡ true → reader.held ≡ []) → (taken : List ℕ) × (left ≡ prepend_known taken left) × Took reader reader (Ok TooMuch) taken
took_no_more reader left over empty = (
  [],
  sym (prepend_known-nil left),
  record {
    count = omega arith;
    rest = sym (append-nil reader.held);
    answer = λ few. absurd (omega (arith, few, over));
    fed = λ more. inr refl;
    empty = empty;
  },
)
