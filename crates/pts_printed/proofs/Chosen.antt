-- The name that is chosen is allowed: it is none of the forbidden ones, an identifier, and short.
use Rattle.std.proofs.Common.{ℕ, zero, suc, ◌+◌, ◌^◌, ◌<◌, ◌≤◌, ◌≡◌, refl, sym, ◌∙◌, ap, List, [], ◌∷◌, ◌++◌, Bool, true, false, cond, ◌||◌, nat_lt, length, arith}
use Rattle.std.specs.Prelude.{IsUtf8, decimal}
use Rattle.std.proofs.lemmas.Bool.{ltb-false}
use Rattle.std.proofs.lemmas.List.{length-append}
use Rattle.std.specs.Str as str
use lib.Utf8.{encode}
use Rattle.unicode_ident.proofs.Computing.{unicode_ident}
use Rattle.pts_names.specs.Name.{Name, same_name, is_identifier, underscore, is_plain}
use Rattle.pts_names.proofs.Same.{same_name-true}
use Rattle.pts_names.proofs.OnePart.{identifier_is_name}
use Rattle.pts_terms.specs.Tree.{Tree, Named, sort, const, var, app, named_lam, named_pi, named_let}
use Rattle.pts_terms.specs.Limits.{size_of}
use Rattle.pts_grammar.proofs.Underscore.{underscore_is_identifier}
use Rattle.pts_printed.specs.Choice.{occurs, constants, occurring, forbidden, is_among, numbered, allowed, letter_x, base, if_short, choice, chosen}
use Rattle.pts_printed.specs.Laws.{IsName}
use Rattle.pts_printed.proofs.Numerals.{numbers_apart, not_underscore, numbered_identifier, numbered_utf8, numeral_short}
use Rattle.pts_printed.proofs.Found.{ChoosesWell}

-- The names without x.
without : Name → List Name → List Name
without x [] = []
without x (y ∷ F) = cond (same_name x y) (without x F) (y ∷ without x F)

without_length : (x : Name) (F : List Name) → length (without x F) ≤ length F
unfolding without
without_length x [] = omega arith
without_length x (y ∷ F) = by (same_name x y) (without_length x F)
  where
    by : (b : Bool) → length (without x F) ≤ length F → length (cond b (without x F) (y ∷ without x F)) ≤ suc (length F)
    by true h = omega arith
    by false h = omega arith

without_fewer : (x : Name) (F : List Name) → is_among x F ≡ true → length (without x F) < length F
unfolding without
without_fewer x [] e = absurd (cc e)
without_fewer x (y ∷ F) e = by (same_name x y) (without_length x F) (without_fewer x F) e
  where
    by : (b : Bool) → length (without x F) ≤ length F → (is_among x F ≡ true → length (without x F) < length F) → (b || is_among x F) ≡ true → length (cond b (without x F) (y ∷ without x F)) < suc (length F)
    by true h g e = omega arith
    by false h g e = let l = g e in omega arith

without_others : (x z : Name) (F : List Name) → same_name z x ≡ false → is_among z (without x F) ≡ is_among z F
unfolding without
without_others x z [] e = refl
without_others x z (y ∷ F) e = by (same_name x y) refl (without_others x z F e)
  where
    by : (b : Bool) → same_name x y ≡ b → is_among z (without x F) ≡ is_among z F → is_among z (cond b (without x F) (y ∷ without x F)) ≡ (same_name z y || is_among z F)
    by true q h = h ∙ ap (λ c. c || is_among z F) (sym e ∙ ap (same_name z) (same_name-true x y q))
    by false q h = ap (λ c. same_name z y || c) h

-- As many numbers as there are names to avoid, and one more, are enough.
numbered_free : (x : Name) (F : List Name) (more n : ℕ) (G : List Name) → length G ≤ more → n + more < 10 ^ 64 → ((j : ℕ) → n ≤ j → j ≤ n + more → is_among (x ++ decimal j) G ≡ is_among (x ++ decimal j) F) → is_among (numbered n more x F) F ≡ false
numbered_free x F zero n [] l b h = sym (h n (omega arith) (omega arith))
numbered_free x F zero n (y ∷ G) l b h = absurd (omega arith)
numbered_free x F (suc more) n G l b h = by (is_among (x ++ decimal n) F) refl (λ H short same. numbered_free x F more (suc n) H short (omega arith) same)
  where
    by : (c : Bool) → is_among (x ++ decimal n) F ≡ c → ((H : List Name) → length H ≤ more → ((j : ℕ) → suc n ≤ j → j ≤ suc n + more → is_among (x ++ decimal j) H ≡ is_among (x ++ decimal j) F) → is_among (numbered (suc n) more x F) F ≡ false) → is_among (cond c (numbered (suc n) more x F) (x ++ decimal n)) F ≡ false
    by true e next =
        let fewer = without_fewer (x ++ decimal n) G (h n (omega arith) (omega arith) ∙ e) in
        next (without (x ++ decimal n) G) (omega arith) (λ j p q. without_others (x ++ decimal n) (x ++ decimal j) G (numbers_apart x j n (omega arith) (omega arith) (omega arith)) ∙ h j (omega arith) (omega arith))
    by false e next = e

pub allowed_free : (x : Name) (F : List Name) → 1 + length F < 10 ^ 64 → is_among (allowed x F) F ≡ false
allowed_free x F b = by (is_among x F) refl
  where
    by : (c : Bool) → is_among x F ≡ c → is_among (cond c (numbered 1 (length F) x F) x) F ≡ false
    by true e = numbered_free x F (length F) 1 F (omega arith) b (λ j p q. refl)
    by false e = e

-- What holds of a name, with and without a number, holds of the one that is taken.
module _ (P : Name → Type 0) where
  numbered_has : (x : Name) (F : List Name) (more n : ℕ) → ((j : ℕ) → j ≤ n + more → P (x ++ decimal j)) → P (numbered n more x F)
  numbered_has x F zero n h = h n (omega arith)
  numbered_has x F (suc more) n h = by (is_among (x ++ decimal n) F) (numbered_has x F more (suc n) (λ j l. h j (omega arith)))
    where
      by : (c : Bool) → P (numbered (suc n) more x F) → P (cond c (numbered (suc n) more x F) (x ++ decimal n))
      by true g = g
      by false g = h n (omega arith)

  allowed_has : (x : Name) (F : List Name) → P x → ((j : ℕ) → j ≤ 1 + length F → P (x ++ decimal j)) → P (allowed x F)
  allowed_has x F p h = by (is_among x F)
    where
      by : (c : Bool) → P (cond c (numbered 1 (length F) x F) x)
      by true = numbered_has x F (length F) 1 h
      by false = p

  short_has : (y z : Name) → P y → P z → P (if_short y z)
  short_has y z p q = by (nat_lt 128 (length y))
    where
      by : (c : Bool) → P (cond c z y)
      by true = q
      by false = p

pub letter_is_identifier : is_identifier letter_x ≡ true
unfolding is_identifier str.chars unicode_ident
letter_is_identifier = refl

letter_utf8 : IsUtf8 letter_x
unfolding encode
letter_utf8 = (letter_x, (refl, refl))

underscore_utf8 : IsUtf8 underscore
unfolding encode
underscore_utf8 = (underscore, (refl, refl))

-- An identifier in UTF-8.
IsWord : Name → Type 0
IsWord x = IsUtf8 x × (is_identifier x ≡ true)

word_numbered : (x : Name) (n : ℕ) → n < 10 ^ 64 → IsWord x → IsWord (x ++ decimal n)
unfolding IsWord
word_numbered x n l w = (numbered_utf8 x n l w.0, numbered_identifier x n l w.0 w.1)

base_word : (x : Name) (used : Bool) → IsUtf8 x → IsWord (base x used)
unfolding IsWord
base_word x used utf8 = by (is_identifier x) (same_name x underscore) used refl
  where
    by : (a b u : Bool) → is_identifier x ≡ a → IsWord (cond a (cond b (cond u letter_x underscore) x) letter_x)
    by true true true e = (letter_utf8, letter_is_identifier)
    by true true false e = (underscore_utf8, underscore_is_identifier)
    by true false u e = (utf8, e)
    by false b u e = (letter_utf8, letter_is_identifier)

allowed_word : (x : Name) (F : List Name) → 1 + length F < 10 ^ 64 → IsWord x → IsWord (allowed x F)
allowed_word x F b w = allowed_has IsWord x F w (λ j l. word_numbered x j (omega arith) w)

choice_word : (x : Name) (used : Bool) (F : List Name) → 1 + length F < 10 ^ 64 → IsUtf8 x → IsWord (choice x used F)
unfolding choice IsWord
choice_word x used F b utf8 = short_has IsWord _ _ (allowed_word (base x used) F b (base_word x used utf8)) (allowed_word letter_x F b (letter_utf8, letter_is_identifier))

pub choice_free : (x : Name) (used : Bool) (F : List Name) → 1 + length F < 10 ^ 64 → is_among (choice x used F) F ≡ false
unfolding choice
choice_free x used F b = short_has (λ y. is_among y F ≡ false) _ _ (allowed_free (base x used) F b) (allowed_free letter_x F b)

-- Where the variable occurs, the name is not `_`.
IsOther : Name → Type 0
IsOther x = same_name x underscore ≡ false

base_other : (x : Name) → IsOther (base x true)
unfolding IsOther
base_other x = by (is_identifier x) (same_name x underscore) refl
  where
    by : (a b : Bool) → same_name x underscore ≡ b → same_name (cond a (cond b letter_x x) letter_x) underscore ≡ false
    by true true e = refl
    by true false e = e
    by false b e = refl

allowed_other : (x : Name) (F : List Name) → 1 + length F < 10 ^ 64 → IsOther x → IsOther (allowed x F)
unfolding IsOther
allowed_other x F b o = allowed_has IsOther x F o (λ j l. not_underscore x j (omega arith))

choice_other : (x : Name) (used : Bool) (F : List Name) → 1 + length F < 10 ^ 64 → used ≡ true → same_name (choice x used F) underscore ≡ false
unfolding choice IsOther
choice_other x true F b e = short_has IsOther (allowed (base x true) F) (allowed letter_x F) (allowed_other (base x true) F b (base_other x)) (allowed_other letter_x F b refl)
choice_other x false F b e = absurd (cc e)

pub choice_plain : (x : Name) (used : Bool) (F : List Name) → 1 + length F < 10 ^ 64 → IsUtf8 x → used ≡ true → is_plain (choice x used F) ≡ true
unfolding IsWord
choice_plain x used F b utf8 e = rw (is_plain, (choice_word x used F b utf8).1, choice_other x used F b e) refl

-- It has at most 128 bytes.
choice_short : (x : Name) (used : Bool) (F : List Name) → 1 + length F < 10 ^ 64 → length (choice x used F) ≤ 128
unfolding choice
choice_short x used F b = by (allowed (base x used) F) (nat_lt 128 (length (allowed (base x used) F))) refl
  where
    letter : length (allowed letter_x F) ≤ 128
    letter = allowed_has (λ y. length y ≤ 128) letter_x F (omega arith) (λ j l. let n = numeral_short j (omega arith) in let a = length-append letter_x (decimal j) in omega arith)

    by : (y : Name) (c : Bool) → nat_lt 128 (length y) ≡ c → length (cond c (allowed letter_x F) y) ≤ 128
    by y true e = letter
    by y false e = let l = ltb-false 128 (length y) e in omega arith

-- So it is a name of one part.
pub choice_is_name : (x : Name) (used : Bool) (F : List Name) → 1 + length F < 10 ^ 64 → IsUtf8 x → IsName (choice x used F) × (is_identifier (choice x used F) ≡ true)
unfolding IsWord
choice_is_name x used F b utf8 =
    let w = choice_word x used F b utf8 in
    ((w.0, identifier_is_name _ (choice_short x used F b) w.1), w.1)

-- How many names are forbidden.
occurring_length : {B : Type 0} (k : ℕ) (L : List Name) (t : Tree B) → length (occurring k L t) ≤ length L
occurring_length k [] t = omega arith
occurring_length k (x ∷ L) t = by (occurs k t) (occurring_length (suc k) L t)
  where
    by : (b : Bool) → length (occurring (suc k) L t) ≤ length L → length (cond b (x ∷ occurring (suc k) L t) (occurring (suc k) L t)) ≤ suc (length L)
    by true h = omega arith
    by false h = omega arith

pub constants_length : {B : Type 0} (t : Tree B) → length (constants t) ≤ size_of t
constants_length (sort s) = omega arith
constants_length (const c) = by (is_identifier c)
  where
    by : (b : Bool) → length (cond b (c ∷ []) []) ≤ 1
    by true = omega arith
    by false = omega arith
constants_length (var i) = omega arith
constants_length (app f a) = let h = constants_length f in let g = constants_length a in let l = length-append (constants f) (constants a) in omega arith
constants_length (named_lam x A b) = let h = constants_length A in let g = constants_length b in let l = length-append (constants A) (constants b) in omega arith
constants_length (named_pi x A b) = let h = constants_length A in let g = constants_length b in let l = length-append (constants A) (constants b) in omega arith
constants_length (named_let x a A b) =
    let k = constants_length a in
    let h = constants_length A in
    let g = constants_length b in
    let l = length-append (constants A) (constants b) in
    let m = length-append (constants a) (constants A ++ constants b) in
    omega arith

forbidden_length : {B : Type 0} (L : List Name) (t : Tree B) → length (forbidden L t) ≤ length L + size_of t
forbidden_length L t = let h = occurring_length 1 L t in let g = constants_length t in let l = length-append (occurring 1 L t) (constants t) in omega arith

pub among_apart : (z y : Name) (F : List Name) → is_among z F ≡ true → is_among y F ≡ false → same_name z y ≡ false
among_apart z y F e f = by (same_name z y) refl
  where
    by : (b : Bool) → same_name z y ≡ b → b ≡ false
    by true s = absurd (let m : true ≡ false = sym e ∙ ap (λ w. is_among w F) (same_name-true z y s) ∙ f in cc m)
    by false s = refl

-- The chosen name is good.
pub chosen_good : ChoosesWell (10 ^ 63)
chosen_good x L body name l =
    let few = forbidden_length L body in
    let fits : 1 + length (forbidden L body) < 10 ^ 64 = omega arith in
    record {
      one_part = (choice_is_name x (occurs 0 body) (forbidden L body) fits name.0).1;
      found = choice_plain x (occurs 0 body) (forbidden L body) fits name.0;
      free = λ z among plain. among_apart z _ (forbidden L body) among (choice_free x (occurs 0 body) (forbidden L body) fits);
    }

pub chosen_is_name : (x : Name) (L : List Name) (body : Named) → IsName x → length L + size_of body < 10 ^ 63 → IsName (chosen x L body) × (is_identifier (chosen x L body) ≡ true)
chosen_is_name x L body name l =
    let few = forbidden_length L body in
    choice_is_name x (occurs 0 body) (forbidden L body) (omega arith) name.0

pub chosen_free : (x : Name) (L : List Name) (body : Named) → length L + size_of body < 10 ^ 63 → is_among (chosen x L body) (forbidden L body) ≡ false
chosen_free x L body l =
    let few = forbidden_length L body in
    choice_free x (occurs 0 body) (forbidden L body) (omega arith)

pub underscore_is_name : IsName underscore
underscore_is_name = (underscore_utf8, identifier_is_name underscore (omega arith) underscore_is_identifier)
