-- A line of the input is one thing at most.
use Rattle.std.proofs.Common.{ℕ, zero, suc, ◌<◌, ◌≤◌, ◌≡◌, ◌≢◌, Bool, refl, sym, ap, subst, ◌∙◌, List, [], ◌∷◌, ◌++◌, length, get_or, arith, All, codes}
use Rattle.std.proofs.lemmas.Fmt.{decimal_is_IsNumeral, decimal_injective}
use Rattle.std.specs.Fmt.{decimal}
use Rattle.std.specs.Char.{digit_value}
use Rattle.std.specs.Str.Parse.{AllDigits}
use Rattle.pts_play.specs.Rounds.{numbers_text}
use Rattle.pts_play.specs.Inputs.{Input, of_session, go, end_, unknown_, IsSession, Asks, a_line, plain_go, numbered_go, an_end, Says, has_form, no_form, no_text}

-- Bytes that are none, or begin with a blank.
abbrev pub StartsBlank : List ℕ → Type 0
StartsBlank [] = Unit {0}
StartsBlank (b ∷ bs) = b ≡ 32

blank_is_no_digit : (c : ℕ) → digit_value c < 10 → c ≡ 32 → ⊥
blank_is_no_digit c small e = let here : digit_value 32 < 10 = subst (λ b. digit_value b < 10) e small in absurd (omega (arith, here))

-- Bytes without a blank.
abbrev pub NoBlank : List ℕ → Type 0
NoBlank bytes = (k : ℕ) → k < length bytes → get_or bytes k 0 ≢ 32

digits_have_none : (bytes : List ℕ) → AllDigits 10 bytes → NoBlank bytes
digits_have_none [] d k small e = absurd (omega (arith, small))
digits_have_none (c ∷ cs) d zero small e = blank_is_no_digit c d.0 e
digits_have_none (c ∷ cs) d (suc k) small e = digits_have_none cs d.1 k (omega (arith, small)) e

pub no_blank : (n : ℕ) → IsSession n → NoBlank (decimal n)
no_blank n s = let small = s.1 in digits_have_none (decimal n) (decimal_is_IsNumeral n (omega (arith, small))).0.1

-- A word ends at the first blank.
pub one_word : (a b x y : List ℕ) → NoBlank a → NoBlank b → StartsBlank x → StartsBlank y → a ++ x ≡ b ++ y → (a ≡ b) × (x ≡ y)
one_word [] [] x y na nb sx sy e = (refl, e)
one_word [] (b ∷ bs) x y na nb sx sy e = absurd (nb 0 (omega arith) (subst StartsBlank e sx))
one_word (c ∷ cs) [] x y na nb sx sy e = absurd (na 0 (omega arith) (subst StartsBlank (sym e) sy))
one_word (c ∷ cs) (b ∷ bs) x y na nb sx sy e =
    let h : c ≡ b = cc e in
    let t : cs ++ x ≡ bs ++ y = cc e in
    let r = one_word cs bs x y (λ k small. na (suc k) (omega (arith, small))) (λ k small. nb (suc k) (omega (arith, small))) sx sy t in
    (ap (λ d. d ∷ cs) h ∙ ap (λ ds. b ∷ ds) r.0, r.1)

pub same_session : (n m : ℕ) → IsSession n → IsSession m → decimal n ≡ decimal m → n ≡ m
same_session n m s t e = let a = s.1 in let b = t.1 in decimal_injective n m (omega (arith, a)) (omega (arith, b)) e

pub numbers_start : (ns : List ℕ) → StartsBlank (numbers_text ns)
numbers_start [] = tt
numbers_start (n ∷ ns) = refl

pub same_numbers : (ns ms : List ℕ) → All IsSession ns → All IsSession ms → numbers_text ns ≡ numbers_text ms → ns ≡ ms
same_numbers [] [] a b e = refl
same_numbers [] (m ∷ ms) a b e = absurd (cc e)
same_numbers (n ∷ ns) [] a b e = absurd (cc e)
same_numbers (n ∷ ns) (m ∷ ms) a b e =
    let rest : decimal n ++ numbers_text ns ≡ decimal m ++ numbers_text ms = cc e in
    let s : IsSession n = a 0 n (omega arith) in
    let t : IsSession m = b 0 m (omega arith) in
    let r = one_word (decimal n) (decimal m) (numbers_text ns) (numbers_text ms) (no_blank n s) (no_blank m t) (numbers_start ns) (numbers_start ms) rest in
    let more = same_numbers ns ms (λ k d small. a (suc k) d (omega (arith, small))) (λ k d small. b (suc k) d (omega (arith, small))) r.1 in
    ap (λ k. k ∷ ns) (same_session n m s t r.0) ∙ ap (λ ks. m ∷ ks) more

same_line : (n m : ℕ) (text other : List ℕ) → IsSession n → IsSession m → decimal n ++ (codes " " ++ text) ≡ decimal m ++ (codes " " ++ other) → of_session n text ≡ of_session m other
same_line n m text other s t e =
    let r = one_word (decimal n) (decimal m) (codes " " ++ text) (codes " " ++ other) (no_blank n s) (no_blank m t) refl refl e in
    let after : text ≡ other = cc r.1 in
    ap (λ k. of_session k text) (same_session n m s t r.0) ∙ ap (λ x. of_session m x) after

-- The first byte tells the forms apart.
apart : (a b : ℕ) (x y line : List ℕ) → line ≡ a ∷ x → line ≡ b ∷ y → a ≡ b
apart a b x y line e f = let both : a ∷ x ≡ b ∷ y = sym e ∙ f in cc both

pub asks_one : (numbered : Bool) (line : List ℕ) (i j : Input) → Asks numbered line i → Asks numbered line j → i ≡ j
asks_one numbered line i j (a_line {text} n s e) (a_line {text = other} m t f) = let rest : decimal n ++ (codes " " ++ text) ≡ decimal m ++ (codes " " ++ other) = cc (sym e ∙ f) in same_line n m text other s t rest
asks_one numbered line i j (a_line n s e) (plain_go f) = let k = apart 64 103 _ _ line e f in absurd (omega (arith, k))
asks_one numbered line i j (a_line n s e) (numbered_go is all f) = let k = apart 64 103 _ _ line e f in absurd (omega (arith, k))
asks_one numbered line i j (a_line n s e) (an_end f) = let k = apart 64 101 _ _ line e f in absurd (omega (arith, k))
asks_one numbered line i j (plain_go e) (a_line m t f) = let k = apart 103 64 _ _ line e f in absurd (omega (arith, k))
asks_one numbered line i j (plain_go e) (plain_go f) = refl
asks_one numbered line i j (plain_go e) (numbered_go {ns} is all f) = let rest : [] ≡ numbers_text ns = cc (sym e ∙ f) in ap go (same_numbers [] ns (λ k d small. absurd (omega (arith, small))) all rest)
asks_one numbered line i j (plain_go e) (an_end f) = let k = apart 103 101 _ _ line e f in absurd (omega (arith, k))
asks_one numbered line i j (numbered_go is all e) (a_line m t f) = let k = apart 103 64 _ _ line e f in absurd (omega (arith, k))
asks_one numbered line i j (numbered_go {ns} is all e) (plain_go f) = let rest : numbers_text ns ≡ [] = cc (sym e ∙ f) in ap go (same_numbers ns [] all (λ k d small. absurd (omega (arith, small))) rest)
asks_one numbered line i j (numbered_go {ns} is all e) (numbered_go {ns = ms} is' all' f) = let rest : numbers_text ns ≡ numbers_text ms = cc (sym e ∙ f) in ap go (same_numbers ns ms all all' rest)
asks_one numbered line i j (numbered_go is all e) (an_end f) = let k = apart 103 101 _ _ line e f in absurd (omega (arith, k))
asks_one numbered line i j (an_end e) (a_line m t f) = let k = apart 101 64 _ _ line e f in absurd (omega (arith, k))
asks_one numbered line i j (an_end e) (plain_go f) = let k = apart 101 103 _ _ line e f in absurd (omega (arith, k))
asks_one numbered line i j (an_end e) (numbered_go is all f) = let k = apart 101 103 _ _ line e f in absurd (omega (arith, k))
asks_one numbered line i j (an_end e) (an_end f) = refl

pub says_one : (IsText : List ℕ → Type 0) (numbered : Bool) (line : List ℕ) (i j : Input) → Says IsText numbered line i → Says IsText numbered line j → i ≡ j
says_one IsText numbered line i j (has_form t a) (has_form u b) = asks_one numbered line i j a b
says_one IsText numbered line i j (has_form t a) (no_form none) = absurd (none i a)
says_one IsText numbered line i j (has_form t a) (no_text isnt) = absurd (isnt t)
says_one IsText numbered line i j (no_form none) (has_form u b) = absurd (none j b)
says_one IsText numbered line i j (no_form none) (no_form none') = refl
says_one IsText numbered line i j (no_form none) (no_text isnt) = refl
says_one IsText numbered line i j (no_text isnt) (has_form u b) = absurd (isnt u)
says_one IsText numbered line i j (no_text isnt) (no_form none) = refl
says_one IsText numbered line i j (no_text isnt) (no_text isnt') = refl
