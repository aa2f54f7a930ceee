-- What lies ahead of a reader of lines, from what it holds.
use Rattle.std.proofs.Common.{◌≡◌, ℕ, suc, ◌+◌, ◌<◌, ◌≤◌, ◌↔◌, ◌⊎◌, Bool, true, false, List, [], ◌∷◌, ◌++◌, length, take, Contains, Option, Some, None, Result, Ok, Err, IfOk, IfSome, MatchResult, inl, inr, refl, ap, sym, subst, ◌∙◌, arith, append-nil, length-append}
use Rattle.std.specs.Option.{option_map}
use Rattle.std.specs.Io.KnownBytes.{prepend_known, IsAtEnd}
use Rattle.std.specs.Io.BufRead.{strip_last, first_line, drop_through}
use Rattle.std.proofs.lemmas.List.{length-take, take-append-le, drop-append-le, get_or-take, get_or_append_left, get_or_default}
use Rattle.pts_io.specs.declared.lines.Input.{Input}
use Rattle.pts_io.specs.declared.lines.Input.TheVariants.{Text, Bad, TooMuch, End}
use Rattle.pts_io.specs.Lines.{Reading, within, NoFeed, IsFirstFeed, IsAnswer, IsNext, behind}
use Rattle.pts_io.proofs.Feeds.{through-first, first_line-first}

-- no line feed is among bytes that have none, and the first one is among more bytes than stand before it
pub none_contained : (xs : List ℕ) → NoFeed xs → ¬ Contains xs 10
none_contained xs none (k, inside, here) = none k inside (get_or_default xs k 0 10 inside ∙ here)

pub first_contained : (xs : List ℕ) (end most : ℕ) → IsFirstFeed xs end → end < most → Contains (take most xs) 10
first_contained xs end most h below =
    (end, omega (arith, length-take most xs, h.inside), get_or-take most xs end 10 below ∙ get_or_default xs end 10 0 h.inside ∙ h.here)

-- the first line feed and the first line stay where more bytes follow
pub first-append : (xs ys : List ℕ) (end : ℕ) → IsFirstFeed xs end → IsFirstFeed (xs ++ ys) end
first-append xs ys end h = record {
  inside = omega (arith, length-append xs ys, h.inside);
  here = get_or_append_left xs ys 0 end h.inside ∙ h.here;
  before = λ k below e. h.before k below (sym (get_or_append_left xs ys 0 k (omega (arith, h.inside, below))) ∙ e);
}

pub first_line-append : (xs ys : List ℕ) (end : ℕ) → IsFirstFeed xs end → first_line (xs ++ ys) ≡ first_line xs
first_line-append xs ys end h =
    first_line-first (xs ++ ys) end (first-append xs ys end h) ∙ ap (strip_last 13) (take-append-le end xs ys (omega (arith, h.inside))) ∙ sym (first_line-first xs end h)

pub drop_through-append : (xs ys : List ℕ) (end : ℕ) → IsFirstFeed xs end → drop_through 10 (xs ++ ys) ≡ drop_through 10 xs ++ ys
drop_through-append xs ys end h =
    (through-first (xs ++ ys) end (first-append xs ys end h)).1 ∙ drop-append-le (suc end) xs ys (omega (arith, h.inside)) ∙ ap (λ zs. zs ++ ys) (sym (through-first xs end h).1)

-- the bytes behind an answer, where a line feed is held
pub behind-append : (E : Type 0) (result : Result Input E) (xs ys : List ℕ) (end : ℕ) → IsFirstFeed xs end → behind result xs ++ ys ≡ behind result (xs ++ ys)
behind-append E (Ok (Text text)) xs ys end h = sym (drop_through-append xs ys end h)
behind-append E (Ok Bad) xs ys end h = sym (drop_through-append xs ys end h)
behind-append E (Ok TooMuch) xs ys end h = refl
behind-append E (Ok End) xs ys end h = refl
behind-append E (Err fail) xs ys end h = refl

pub behind-ahead : (E : Type 0) (result : Result Input E) (held : List ℕ) (left : Option (List ℕ)) (end : ℕ) → IsFirstFeed held end → prepend_known (behind result held) left ≡ option_map (behind result) (prepend_known held left)
behind-ahead E result held None end h = refl
behind-ahead E result held (Some ys) end h = ap Some (behind-append E result held ys end h)

-- an answer to the first line that is held is one to the first line ahead
pub IsNext-append : (input : Input) (xs ys : List ℕ) (end most : ℕ) → IsFirstFeed xs end → length xs ≤ most → IsAnswer (first_line xs) input → IsNext most (xs ++ ys) input
IsNext-append (Text text) xs ys end most h fits a =
    (inl (first_contained (xs ++ ys) end most (first-append xs ys end h) (omega (arith, h.inside, fits))), subst (λ line. IsAnswer line (Text text)) (sym (first_line-append xs ys end h)) a)
IsNext-append Bad xs ys end most h fits a =
    (inl (first_contained (xs ++ ys) end most (first-append xs ys end h) (omega (arith, h.inside, fits))), subst (λ line. IsAnswer line Bad) (sym (first_line-append xs ys end h)) a)
IsNext-append TooMuch xs ys end most h fits a = absurd a
IsNext-append End xs ys end most h fits a = absurd a

pub answer_ahead : (E : Type 0) (result : Result Input E) (held : List ℕ) (left : Option (List ℕ)) (end most : ℕ) → IsFirstFeed held end → length held ≤ most → IfOk result (IsAnswer (first_line held)) → IfOk result (λ input. IfSome (prepend_known held left) (λ bytes. IsNext most bytes input))
answer_ahead E (Ok input) held None end most h fits a = tt
answer_ahead E (Ok input) held (Some ys) end most h fits a = IsNext-append input held ys end most h fits a
answer_ahead E (Err fail) held left end most h fits a = tt

-- the answer where nothing is left to take
pub IsNext-last : (E : Type 0) (input : Input) (held : List ℕ) (most : ℕ) → length held ≤ most → ((◌≡◌ {A = Result Input E} (Ok input) (Ok End)) ↔ (held ≡ [])) → (0 < length held → IsAnswer (first_line held) input) → IsNext most held input
IsNext-last E (Text text) [] most fits end a = absurd (cc (end.1 refl))
IsNext-last E (Text text) (x ∷ xs) most fits end a = (inr (omega arith, fits), a (omega arith))
IsNext-last E Bad [] most fits end a = absurd (cc (end.1 refl))
IsNext-last E Bad (x ∷ xs) most fits end a = (inr (omega arith, fits), a (omega arith))
IsNext-last E TooMuch [] most fits end a = absurd (cc (end.1 refl))
IsNext-last E TooMuch (x ∷ xs) most fits end a = absurd (a (omega arith))
IsNext-last E End held most fits end a = end.0 refl

pub last_ahead : (E : Type 0) (result : Result Input E) (held : List ℕ) (left : Option (List ℕ)) (most : ℕ) → IsAtEnd left → length held ≤ most → ((result ≡ Ok End) ↔ (held ≡ [])) → IfOk result (λ input. 0 < length held → IsAnswer (first_line held) input) → IfOk result (λ input. IfSome (prepend_known held left) (λ bytes. IsNext most bytes input))
last_ahead E (Ok input) held None most ended fits end a = tt
last_ahead E (Ok input) held (Some ys) most ended fits end a =
    subst (λ bytes. IsNext most bytes input) (sym (ap (λ zs. held ++ zs) ended ∙ append-nil held)) (IsNext-last E input held most fits end a)
last_ahead E (Err fail) held left most ended fits end a = tt

-- what is within the limit gets less by what the answer used up
pub room_ahead : (E : Type 0) (result : Result Input E) (old new : Reading) (held : List ℕ) (left before : Option (List ℕ)) → prepend_known held left ≡ before → new.held ≡ behind result held → ((ys : List ℕ) → left ≡ Some ys → behind result held ++ ys ≡ behind result (held ++ ys)) → (length held + old.taken ≡ length old.held + new.taken) × (new.limit ≡ old.limit) × (old.taken ≤ old.limit) × (new.taken ≤ new.limit + length new.held) → IfSome before (λ bytes. within new + length bytes ≡ within old + length (behind result bytes))
room_ahead E result old new held None before ahead kept behind_is counts = subst (λ b. IfSome b (λ bytes. within new + length bytes ≡ within old + length (behind result bytes))) ahead tt
room_ahead E result old new held (Some ys) before ahead kept behind_is counts =
    let (len, limit, below, most) = counts in
    let rest = ap length (sym (behind_is ys refl)) in
    subst (λ b. IfSome b (λ bytes. within new + length bytes ≡ within old + length (behind result bytes))) ahead
    (omega (arith, len, limit, below, most, rest, ap length kept, length-append held ys, length-append (behind result held) ys))

-- a line feed that is held lies ahead
pub feed_ahead : (E : Type 0) (result : Result Input E) (held : List ℕ) (left : Option (List ℕ)) (end : ℕ) → IsFirstFeed held end → IfSome (prepend_known held left) (λ bytes. Contains bytes 10 ⊎ (behind result bytes ≡ bytes))
feed_ahead E result held None end h = tt
feed_ahead E result held (Some ys) end h = let a = first-append held ys end h in inl (end, a.inside, get_or_default (held ++ ys) end 10 0 a.inside ∙ a.here)

-- a refusal uses nothing up
pub none_used : (E : Type 0) (fail : E) (ahead : Option (List ℕ)) → IfSome ahead (λ bytes. Contains bytes 10 ⊎ (behind {E = E} (Err fail) bytes ≡ bytes))
none_used E fail None = tt
none_used E fail (Some bytes) = inr refl

pub last_fed : (E : Type 0) (result : Result Input E) (ended : Bool) (ahead : Option (List ℕ)) → MatchResult result (λ _. ended ≡ true) (λ _. ended ≡ false) → ended ≡ false → IfSome ahead (λ bytes. Contains bytes 10 ⊎ (behind result bytes ≡ bytes))
last_fed E (Ok input) ended ahead is not = absurd (cc (is, not))
last_fed E (Err fail) ended ahead is not = none_used E fail ahead

-- where nothing is held, and nothing is left, the end is next
pub end_next : (held : List ℕ) (left : Option (List ℕ)) (most : ℕ) → held ≡ [] → IsAtEnd left → IfSome (prepend_known held left) (λ bytes. IsNext most bytes End)
end_next held None most none ended = tt
end_next held (Some ys) most none ended = ap (λ xs. xs ++ ys) none ∙ ended
