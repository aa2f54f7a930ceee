-- Words at the beginning of a text, with what may stand behind them.
use Rattle.std.proofs.Common.{ℕ, ◌+◌, ◌≤◌, ◌≡◌, refl, sym, ◌∙◌, ap, subst, List, [], ◌∷◌, ◌++◌, Bool, true, false, cond, not, ◌&&◌, ◌||◌, ◌==◌, eqb-true, None, is_none, nat_lt, length, append_assoc, arith}
use Rattle.std.specs.Prelude.{chars, codes, take_while}
use Rattle.std.specs.Char.{len_utf8}
use lib.Utf8.{encodes}
use Rattle.std.proofs.lemmas.Bool.{le-ltb}
use Rattle.std.proofs.lemmas.List.Sums.{take_while-cons}
use Rattle.std.proofs.lemmas.Str.{encodes-chars}
use Rattle.unicode_ident.proofs.Computing.{unicode_ident}
use Rattle.pts_names.specs.Name.{Name, same_name, is_keyword, identifier_fault, rest_fault, parts_fault, parts, with_first, width, name_fault, starts_identifier, continues_identifier}
use Rattle.pts_names.specs.Dotted.{dotted}
use Rattle.pts_names.proofs.Sound.{sound_else, sound_then, sound_both, some_part, name_is_sound, identifier_moves}
use Rattle.pts_tokens.specs.declared.token.Token.TheVariants.{Name as Word}
use Rattle.pts_tokens.specs.Tokens.{word, begins_identifier, further, name, First, token, long_name, named, worded, token_first, first, is_blank}
use Rattle.pts_tokens.proofs.Words.{tail, dotted_tail}
use Rattle.pts_tokens.proofs.Worded.{name_word}
use Rattle.pts_printed.specs.Laws.{IsName}
use Rattle.pts_printed.proofs.Found.{or_false}

-- A word goes on no further here; and no name does.
abbrev pub stops : List ℕ → Bool
stops [] = true
stops (c ∷ cs) = not (continues_identifier c)

abbrev pub ends_name : List ℕ → Bool
ends_name [] = true
ends_name (c ∷ cs) = not (continues_identifier c) && not ((c == 46) && begins_identifier cs)

pub ends_stop : (cs : List ℕ) → ends_name cs ≡ true → stops cs ≡ true
ends_stop [] e = refl
ends_stop (c ∷ cs) e = by (not (continues_identifier c)) e
  where
    by : (b : Bool) → (b && not ((c == 46) && begins_identifier cs)) ≡ true → b ≡ true
    by true e = refl
    by false e = absurd (cc e)

pub dot_stops : (cs : List ℕ) → stops (46 ∷ cs) ≡ true
unfolding unicode_ident
dot_stops cs = refl

not_true : (b : Bool) → not b ≡ true → b ≡ false
not_true true e = absurd (cc e)
not_true false e = refl

run_ends : (rest : List ℕ) → stops rest ≡ true → take_while continues_identifier rest ≡ []
run_ends [] s = refl
run_ends (c ∷ cs) s = take_while-cons continues_identifier c cs ∙ ap (λ b. cond b (c ∷ take_while continues_identifier cs) []) (not_true (continues_identifier c) s)

run_before : (place : ℕ) (w rest : List ℕ) → rest_fault place w ≡ None → stops rest ≡ true → take_while continues_identifier (w ++ rest) ≡ w
run_before place [] rest e s = run_ends rest s
run_before place (c ∷ w) rest e s =
    let g = sound_else (continues_identifier c) _ _ e in
    take_while-cons continues_identifier c (w ++ rest)
    ∙ (ap (λ b. cond b (c ∷ take_while continues_identifier (w ++ rest)) []) g.0
    ∙ ap (λ l. c ∷ l) (run_before (place + len_utf8 c) w rest g.1 s))

-- What an identifier begins with.
begins : (a b : Bool) → (a || not b) ≡ false → (a ≡ false) × (b ≡ true)
begins true b e = absurd (cc e)
begins false true e = (refl, refl)
begins false false e = absurd (cc e)

pub starts_well : (c : ℕ) (w : List ℕ) → identifier_fault 0 (c ∷ w) ≡ None → (is_keyword (c ∷ w) ≡ false) × (starts_identifier c ≡ true)
starts_well c w e = begins (is_keyword (c ∷ w)) (starts_identifier c) (sound_then (is_keyword (c ∷ w) || not (starts_identifier c)) _ _ e).0

pub word_before : (p rest : List ℕ) → identifier_fault 0 p ≡ None → stops rest ≡ true → word (p ++ rest) ≡ p
word_before [] rest e s = absurd (cc e)
word_before (c ∷ w) rest e s =
    let g = sound_then (is_keyword (c ∷ w) || not (starts_identifier c)) _ _ e in
    ap (λ b. cond b (c ∷ take_while continues_identifier (w ++ rest)) []) (starts_well c w e).1
    ∙ ap (λ l. c ∷ l) (run_before (0 + len_utf8 c) w rest g.1 s)

-- The parts of a name.
further_behind : (p cs : List ℕ) → further (length p) (p ++ cs) ≡ further 0 cs
further_behind [] cs = refl
further_behind (c ∷ p) cs = further_behind p cs

none_further : (rest : List ℕ) → ends_name rest ≡ true → further 0 rest ≡ []
none_further [] e = refl
none_further (c ∷ cs) e = by (not (continues_identifier c)) ((c == 46) && begins_identifier cs) e
  where
    by : (a b : Bool) → (a && not b) ≡ true → cond b (word cs ∷ further (length (word cs)) cs) [] ≡ []
    by true true e = absurd (cc e)
    by true false e = refl
    by false b e = absurd (cc e)

tail_stops : (ps : List (List ℕ)) (rest : List ℕ) → ends_name rest ≡ true → stops (tail ps ++ rest) ≡ true
tail_stops [] rest e = ends_stop rest e
tail_stops (p ∷ ps) rest e = dot_stops ((p ++ tail ps) ++ rest)

one_further : (q cs : List ℕ) → identifier_fault 0 q ≡ None → stops cs ≡ true → further 0 (46 ∷ (q ++ cs)) ≡ q ∷ further (length q) (q ++ cs)
one_further q cs e s =
    let w = word_before q cs e s in
    ap (λ b. cond b (word (q ++ cs) ∷ further (length (word (q ++ cs))) (q ++ cs)) []) (ap (λ v. is_none (identifier_fault 0 v)) w ∙ ap is_none e)
    ∙ ap (λ v. v ∷ further (length v) (q ++ cs)) w

parts_read : (place : ℕ) (p : List ℕ) (ps : List (List ℕ)) (rest : List ℕ) → parts_fault place ps ≡ None → ends_name rest ≡ true → further (length p) (p ++ (tail ps ++ rest)) ≡ ps
parts_read place p [] rest e s = further_behind p rest ∙ none_further rest s
parts_read place p (q ∷ qs) rest e s =
    let g = sound_both (identifier_fault place q) _ e in
    further_behind p ((46 ∷ (q ++ tail qs)) ++ rest)
    ∙ (ap (λ cs. further 0 (46 ∷ cs)) (append_assoc q (tail qs) rest)
    ∙ (one_further q (tail qs ++ rest) (identifier_moves place 0 q g.0) (tail_stops qs rest s)
    ∙ ap (λ l. q ∷ l) (parts_read (place + width q + 1) q qs rest g.1 s)))

-- The parts of a text spell it.
together : List (List ℕ) → List ℕ
together [] = []
together (p ∷ ps) = p ++ tail ps

parts_spell : (cs : List ℕ) → together (parts cs) ≡ cs
unfolding together
parts_spell [] = refl
parts_spell (c ∷ cs) =
    let (p, ps, f) = some_part cs in
    by p ps f (ap together (sym f) ∙ parts_spell cs) (c == 46) refl
  where
    by : (p : List ℕ) (ps : List (List ℕ)) → parts cs ≡ p ∷ ps → p ++ tail ps ≡ cs → (b : Bool) → (c == 46) ≡ b → together (cond b ([] ∷ parts cs) (with_first c (parts cs))) ≡ c ∷ cs
    by p ps f e true d = ap (λ l. together ([] ∷ l)) f ∙ ap (λ l. 46 ∷ l) e ∙ ap (λ a. a ∷ cs) (sym (eqb-true c 46 d))
    by p ps f e false d = ap (λ l. together (with_first c l)) f ∙ ap (λ l. c ∷ l) e

-- A name as its first part and the further ones.
record Parted (x : Name) : Type 0 where
  front : List ℕ
  later : List (List ℕ)
  spelt : chars x ≡ front ++ tail later
  front_good : identifier_fault 0 front ≡ None
  later_good : parts_fault (width front + 1) later ≡ None

parted : (x : Name) → name_fault x ≡ None → Parted x
unfolding together
parted x e =
    let (p, ps, f) = some_part (chars x) in
    let s = name_is_sound x e in
    let g = sound_both (identifier_fault 0 p) _ (ap (parts_fault 0) (sym f) ∙ s.parts_sound) in
    record { front = p; later = ps; spelt = sym (ap together (sym f) ∙ parts_spell (chars x)); front_good = g.0; later_good = subst (λ n. parts_fault n ps ≡ None) (let m : 0 + width p + 1 ≡ width p + 1 = omega arith in m) g.1 }

-- The text begins with the whole name.
record Opens (x : Name) (rest : List ℕ) : Type 0 where
  opens_word : is_keyword (word (chars x ++ rest)) ≡ false
  opens_name : name (chars x ++ rest) ≡ chars x

opens_parted : (x : Name) (rest : List ℕ) → Parted x → ends_name rest ≡ true → Opens x rest
opens_parted x rest p s =
    let behind = tail p.later ++ rest in
    let whole : chars x ++ rest ≡ p.front ++ behind = ap (λ cs. cs ++ rest) p.spelt ∙ append_assoc p.front (tail p.later) rest in
    let w : word (chars x ++ rest) ≡ p.front = ap word whole ∙ word_before p.front behind p.front_good (tail_stops p.later rest s) in
    let f : further (length (word (chars x ++ rest))) (chars x ++ rest) ≡ p.later = ap (λ v. further (length v) (chars x ++ rest)) w ∙ (ap (further (length p.front)) whole ∙ parts_read (width p.front + 1) p.front p.later rest p.later_good s) in
    record {
      opens_word = ap is_keyword w ∙ no_keyword p.front p.front_good;
      opens_name = ap (λ v. dotted (v ∷ further (length (word (chars x ++ rest))) (chars x ++ rest))) w ∙ (ap (λ l. dotted (p.front ∷ l)) f ∙ (dotted_tail p.front p.later ∙ sym p.spelt));
    }
  where
    no_keyword : (q : List ℕ) → identifier_fault 0 q ≡ None → is_keyword q ≡ false
    no_keyword [] e = absurd (cc e)
    no_keyword (c ∷ w) e = (starts_well c w e).0

-- Its first character.
pub name_starts : (x : Name) → IsName x → (c : ℕ) × (w : List ℕ) × (chars x ≡ c ∷ w) × (starts_identifier c ≡ true)
name_starts x n = let p = parted x n.1 in by p.front (tail p.later) p.spelt p.front_good
  where
    by : (q t : List ℕ) → chars x ≡ q ++ t → identifier_fault 0 q ≡ None → (c : ℕ) × (w : List ℕ) × (chars x ≡ c ∷ w) × (starts_identifier c ≡ true)
    by [] t e g = absurd (cc g)
    by (c ∷ q) t e g = (c, q ++ t, e, (starts_well c q g).1)

-- What begins an identifier is no sign.
pub no_sign : (c d : ℕ) → starts_identifier c ≡ true → starts_identifier d ≡ false → (c == d) ≡ false
no_sign c d s n = by (c == d) refl
  where
    by : (b : Bool) → (c == d) ≡ b → b ≡ false
    by true e = absurd (let m : true ≡ false = sym s ∙ (ap starts_identifier (eqb-true c d e) ∙ n) in cc m)
    by false e = refl

blank_not : (c : ℕ) → starts_identifier c ≡ true → is_blank c ≡ false
unfolding unicode_ident
blank_not c s = ap (λ b. b || (c == 9)) (no_sign c 32 s refl) ∙ no_sign c 9 s refl

-- A choice whose test is known.
pub when : {A : Type 0} (b : Bool) (f g : A) → b ≡ true → cond b f g ≡ f
when true f g e = refl
when false f g e = absurd (cc e)

pub unless : {A : Type 0} (b : Bool) (f g : A) → b ≡ false → cond b f g ≡ g
unless true f g e = absurd (cc e)
unless false f g e = refl

-- The first token of the text is the name.
name_named : (x : Name) → IsName x → named (chars x) ≡ token (Word x) (chars x)
name_named x n =
    let b : encodes (chars x) ≡ x = encodes-chars x n.0 in
    let few : length (encodes (chars x)) ≤ 128 = subst (λ y. length y ≤ 128) (sym b) (name_is_sound x n.1).fits in
    unless (nat_lt 128 (length (encodes (chars x)))) long_name (token (Word (encodes (chars x))) (chars x)) (le-ltb 128 (length (encodes (chars x))) few)
    ∙ ap (λ y. token (Word y) (chars x)) b

name_worded : (x : Name) (rest : List ℕ) → IsName x → Opens x rest → worded (chars x ++ rest) ≡ token (Word x) (chars x)
name_worded x rest n o =
    let k = or_false (same_name (word (chars x ++ rest)) (codes "let")) (same_name (word (chars x ++ rest)) (codes "in")) o.opens_word in
    name_word (chars x ++ rest) k.0 k.1 ∙ (ap named o.opens_name ∙ name_named x n)

pub name_first : (x : Name) (c : ℕ) (w rest : List ℕ) → IsName x → chars x ≡ c ∷ w → starts_identifier c ≡ true → ends_name rest ≡ true → first c (w ++ rest) ≡ token (Word x) (c ∷ w)
unfolding first
name_first x c w rest n e s h =
    let o = opens_parted x rest (parted x n.1) h in
    let whole : chars x ++ rest ≡ c ∷ (w ++ rest) = ap (λ cs. cs ++ rest) e in
    unless (is_blank c) First.blank (token_first c (w ++ rest)) (blank_not c s)
    ∙ (when (starts_identifier c) (worded (c ∷ (w ++ rest))) _ s
    ∙ (ap worded (sym whole)
    ∙ (name_worded x rest n o ∙ ap (token (Word x)) e)))
