-- Which form a line has.
use Rattle.std.proofs.Common.{ℕ, zero, suc, ◌≡◌, ◌≢◌, Bool, true, false, refl, sym, ap, subst, ◌∙◌, List, [], ◌∷◌, ◌++◌, arith, All, append_assoc, codes, nat_eq, Option, Some, None, MatchOption, lit<, ◌+◌}
use Rattle.std.specs.Fmt.{decimal}
use Rattle.std.specs.Cmp.Lexicographic.{pointwise}
use Rattle.std.specs.Prelude.{IsUtf8, IsCharBoundary}
use Rattle.std.specs.Str.Pattern.{SplitsAroundMatch, FindsChar}
use Rattle.std.proofs.lemmas.Str.{IsUtf8-take, IsUtf8-drop, IsCharBoundary-before_ascii}
use Rattle.std.proofs.lemmas.Bool.Decides.{Decides-eqb}
use Rattle.std.proofs.lemmas.Slice.Eq.{slice_eq-Decides}
use Rattle.std.proofs.lemmas.List.{append-nil}
use Rattle.pts_play.specs.Rounds.{numbers_text}
use Rattle.pts_play.specs.Inputs.{of_session, go, unknown_, IsSession, a_line, plain_go, numbered_go, an_end}
use Rattle.pts_play.proofs.OneInput.{StartsBlank, no_blank, one_word, numbers_start}
use Rattle.pts_replay.specs.Lines.{HasForm, NoBlank, SessionIn}

-- A text is the other, or is not, as the comparison says.
pub is_text : (xs ys : List ℕ) (r : Bool) → r ≡ pointwise nat_eq xs ys → r ≡ true → xs ≡ ys
is_text xs ys r is e = (slice_eq-Decides Decides-eqb xs ys r is).0 e

pub is_no_text : (xs ys : List ℕ) (r : Bool) → r ≡ pointwise nat_eq xs ys → r ≡ false → xs ≢ ys
is_no_text xs ys r is e same = absurd (cc (sym e ∙ (slice_eq-Decides Decides-eqb xs ys r is).1 same))

heads : (a b : ℕ) (x y : List ℕ) → a ∷ x ≡ b ∷ y → a ≡ b
heads a b x y e = cc e

tails : (a b : ℕ) (x y : List ℕ) → a ∷ x ≡ b ∷ y → x ≡ y
tails a b x y e = cc e

-- Both parts of a text that is cut at a blank are text.
pub cut_utf8 : (text word after : List ℕ) → IsUtf8 text → SplitsAroundMatch (FindsChar 32) text word after → IsUtf8 word × IsUtf8 after
cut_utf8 text word after utf8 (i, j, found, front, back, _, _, long) =
    let blank = found.1.byte (lit< tt) in
    let ends : j ≡ i + 1 = found.1.ends in (
      subst IsUtf8 (sym front) (IsUtf8-take text i utf8 (IsCharBoundary-before_ascii text i (omega arith) (omega arith))),
      subst IsUtf8 (sym back) (IsUtf8-drop text j utf8 (subst (IsCharBoundary text) (sym found.1.ends) found.1.after)),
    )

-- A blank is found.
has_blank : (a x : List ℕ) → NoBlank (a ++ 32 ∷ x) → ⊥
has_blank [] x none = none 0 (omega arith) refl
has_blank (c ∷ cs) x none = has_blank cs x (λ k small. none (suc k) (omega (arith, small)))

go_has_none : NoBlank (codes "go")
go_has_none zero small e = absurd (omega (arith, e))
go_has_none (suc zero) small e = absurd (omega (arith, e))
go_has_none (suc (suc k)) small e = absurd (omega (arith, small))

end_has_none : NoBlank (codes "end")
end_has_none zero small e = absurd (omega (arith, e))
end_has_none (suc zero) small e = absurd (omega (arith, e))
end_has_none (suc (suc zero)) small e = absurd (omega (arith, e))
end_has_none (suc (suc (suc k))) small e = absurd (omega (arith, small))

sign_has_none : (n : ℕ) → IsSession n → NoBlank (codes "@" ++ decimal n)
sign_has_none n s zero small e = absurd (omega (arith, e))
sign_has_none n s (suc k) small e = no_blank n s k (omega (arith, small)) e

-- A line without a blank.
pub plain_word : (word : List ℕ) → NoBlank word → word ≢ codes "go" → word ≢ codes "end" → (numbered : Bool) → HasForm numbered word unknown_
plain_word word none other ends numbered i (a_line {text} n s e) = has_blank (codes "@" ++ decimal n) text (subst NoBlank e none)
plain_word word none other ends numbered i (plain_go e) = other e
plain_word word none other ends numbered i (numbered_go {ns} is all e) = by_numbers ns e
  where
    by_numbers : (ns : List ℕ) → word ≡ codes "go" ++ numbers_text ns → ⊥
    by_numbers [] e = other e
    by_numbers (n ∷ ns) e = has_blank (codes "go") (decimal n ++ numbers_text ns) (subst NoBlank e none)
plain_word word none other ends numbered i (an_end e) = ends e

-- A line with a blank whose first word is neither `go` nor that of a session.
pub other_words : (word rest : List ℕ) → NoBlank word → word ≢ codes "go" → ((n : ℕ) → IsSession n → word ≢ codes "@" ++ decimal n) → (numbered : Bool) → HasForm numbered (word ++ 32 ∷ rest) unknown_
other_words word rest none other no_session numbered i (a_line {text} n s e) = no_session n s (one_word word (codes "@" ++ decimal n) (32 ∷ rest) (32 ∷ text) none (sign_has_none n s) refl refl e).0
other_words word rest none other no_session numbered i (plain_go e) = other (one_word word (codes "go") (32 ∷ rest) [] none go_has_none refl tt e).0
other_words word rest none other no_session numbered i (numbered_go {ns} is all e) = other (one_word word (codes "go") (32 ∷ rest) (numbers_text ns) none go_has_none refl (numbers_start ns) e).0
other_words word rest none other no_session numbered i (an_end e) = absurd (cc (one_word word (codes "end") (32 ∷ rest) [] none end_has_none refl tt e).1)

-- The first word is that of a session.
pub session_words : (word rest text : List ℕ) (n : ℕ) (numbered : Bool) → IsSession n → word ≡ codes "@" ++ decimal n → text ≡ rest → HasForm numbered (word ++ 32 ∷ rest) (of_session n text)
session_words word rest text n numbered s e same = a_line n s (ap (λ w. w ++ 32 ∷ rest) e ∙ ap (λ t. codes "@" ++ (decimal n ++ (codes " " ++ t))) (sym same))

-- The word is the sign and the number of a session where the rest of it is that number.
pub after_sign : (word digits : List ℕ) (o : Option ℕ) → word ≡ 64 ∷ digits → SessionIn digits o → MatchOption o ((n : ℕ) → IsSession n → word ≢ codes "@" ++ decimal n) (λ n. IsSession n × (word ≡ codes "@" ++ decimal n))
after_sign word digits None is none = λ n s e. none n s (tails 64 64 digits (decimal n) (sym is ∙ e))
after_sign word digits (Some n) is some = (some.0, is ∙ ap (λ d. 64 ∷ d) some.1)

-- After `go` and a blank come no numbers, or they are not taken.
pub go_unknown : (numbered : Bool) (text : List ℕ) → ((ns : List ℕ) → numbered ≡ true → All IsSession ns → 32 ∷ text ≢ numbers_text ns) → HasForm numbered (codes "go" ++ 32 ∷ text) unknown_
go_unknown numbered text none i (a_line {text = other} n s e) = let k = heads 103 64 _ _ e in absurd (omega (arith, k))
go_unknown numbered text none i (plain_go e) = has_blank (codes "go") text (subst NoBlank (sym e) go_has_none)
go_unknown numbered text none i (numbered_go {ns} is all e) = none ns is all (tails 111 111 (32 ∷ text) (numbers_text ns) (tails 103 103 _ _ e))
go_unknown numbered text none i (an_end e) = has_blank (codes "go") text (subst NoBlank (sym e) end_has_none)

pub go_numbers : (numbered : Bool) (text ns : List ℕ) → numbered ≡ true → All IsSession ns → 32 ∷ text ≡ numbers_text ns → HasForm numbered (codes "go" ++ 32 ∷ text) (go ns)
go_numbers numbered text ns is all e = numbered_go is all (ap (λ t. codes "go" ++ t) e)

-- One more number.
pub numbers_more : (ns : List ℕ) (n : ℕ) (rest : List ℕ) → numbers_text (ns ++ n ∷ []) ++ rest ≡ numbers_text ns ++ 32 ∷ (decimal n ++ rest)
numbers_more [] n rest = ap (λ t. 32 ∷ t) (append_assoc (decimal n) [] rest)
numbers_more (m ∷ ns) n rest =
    ap (λ t. 32 ∷ t) (append_assoc (decimal m) (numbers_text (ns ++ n ∷ [])) rest ∙ ap (λ t. decimal m ++ t) (numbers_more ns n rest) ∙ sym (append_assoc (decimal m) (numbers_text ns) (32 ∷ (decimal n ++ rest))))

pub text_more : (ns more : List ℕ) (n : ℕ) (text rest word after : List ℕ) → more ≡ ns ++ n ∷ [] → 32 ∷ text ≡ numbers_text ns ++ 32 ∷ rest → rest ≡ word ++ 32 ∷ after → word ≡ decimal n → 32 ∷ text ≡ numbers_text more ++ 32 ∷ after
text_more ns more n text rest word after is before cut same =
    before ∙ (ap (λ r. numbers_text ns ++ 32 ∷ r) (cut ∙ ap (λ w. w ++ 32 ∷ after) same) ∙ (sym (numbers_more ns n (32 ∷ after)) ∙ ap (λ ms. numbers_text ms ++ 32 ∷ after) (sym is)))

pub text_whole : (ns more : List ℕ) (n : ℕ) (text rest : List ℕ) → more ≡ ns ++ n ∷ [] → 32 ∷ text ≡ numbers_text ns ++ 32 ∷ rest → rest ≡ decimal n → 32 ∷ text ≡ numbers_text more
text_whole ns more n text rest is before same =
    before ∙ (ap (λ r. numbers_text ns ++ 32 ∷ r) (same ∙ sym (append-nil (decimal n))) ∙ (sym (numbers_more ns n []) ∙ (append-nil (numbers_text (ns ++ n ∷ [])) ∙ ap numbers_text (sym is))))

starts_on : (ms x : List ℕ) → StartsBlank x → StartsBlank (numbers_text ms ++ x)
starts_on [] x start = start
starts_on (m ∷ ms) x start = refl

-- What comes after the first of some numbers is numbers.
begin_with : (ms ns x : List ℕ) → All IsSession ms → All IsSession ns → StartsBlank x → numbers_text ms ++ x ≡ numbers_text ns → (more : List ℕ) × All IsSession more × (x ≡ numbers_text more)
begin_with [] ns x am an start e = (ns, an, e)
begin_with (m ∷ ms) [] x am an start e = absurd (cc e)
begin_with (m ∷ ms) (n ∷ ns) x am an start e =
    let rest : (decimal m ++ numbers_text ms) ++ x ≡ decimal n ++ numbers_text ns = cc e in
    let apart : decimal m ++ (numbers_text ms ++ x) ≡ decimal n ++ numbers_text ns = sym (append_assoc (decimal m) (numbers_text ms) x) ∙ rest in
    let s : IsSession m = am 0 m (omega arith) in
    let t : IsSession n = an 0 n (omega arith) in
    let r = one_word (decimal m) (decimal n) (numbers_text ms ++ x) (numbers_text ns) (no_blank m s) (no_blank n t) (starts_on ms x start) (numbers_start ns) apart in
    begin_with ms ns x (λ k d small. am (suc k) d (omega (arith, small))) (λ k d small. an (suc k) d (omega (arith, small))) start r.1

-- The word after some numbers is none, so these are no numbers.
pub word_spoils : (ms text word rest : List ℕ) → All IsSession ms → 32 ∷ text ≡ numbers_text ms ++ 32 ∷ (word ++ rest) → NoBlank word → StartsBlank rest → ((n : ℕ) → IsSession n → word ≢ decimal n) → (ns : List ℕ) → All IsSession ns → 32 ∷ text ≢ numbers_text ns
word_spoils ms text word rest am is none start no_session ns an e = by_rest (begin_with ms ns (32 ∷ (word ++ rest)) am an refl (sym is ∙ e))
  where
    by_numbers : (more : List ℕ) → All IsSession more → 32 ∷ (word ++ rest) ≡ numbers_text more → ⊥
    by_numbers [] all f = absurd (cc f)
    by_numbers (n ∷ more) all f =
        let s : IsSession n = all 0 n (omega arith) in
        let same : word ++ rest ≡ decimal n ++ numbers_text more = cc f in
        no_session n s (one_word word (decimal n) rest (numbers_text more) none (no_blank n s) start (numbers_start more) same).0

    by_rest : (more : List ℕ) × All IsSession more × (32 ∷ (word ++ rest) ≡ numbers_text more) → ⊥
    by_rest w = by_numbers w.0 w.1 w.2
