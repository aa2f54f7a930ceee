-- A token is written at the beginning of the text, and has at least one character.
use Rattle.std.proofs.Common.{◌≡◌, refl, sym, ◌∙◌, ap, subst, ℕ, ◌<◌, List, [], ◌∷◌, ◌++◌, Bool, true, false, cond, ◌==◌, Option, Some, None, length, drop, nat_lt, arith, eqb-true}
use Rattle.std.specs.Prelude.{codes, take_while}
use Rattle.std.specs.Char.{is_ascii_digit}
use Rattle.std.specs.Option.{option_or}
use lib.Utf8.{encodes}
use Rattle.std.proofs.lemmas.List.Sums.{take_while-cons}
use Rattle.pts_names.specs.Name.{starts_identifier, continues_identifier, same_name, is_sort_spelling}
use Rattle.pts_tokens.specs.declared.token.Token.{Token}
use Rattle.pts_tokens.specs.declared.token.Token.TheVariants.{Name, Sort, Colon, Assign, Arrow}
use Rattle.pts_tokens.specs.Tokens.{word, further, name, First, blank, token, long_name, no_token, worded, number, sort_text, sort_at, bracket, mark, alone, begins_with, colon, minus, sign, begins_sort, token_first}
use Rattle.pts_tokens.proofs.Words.{run_cut, word_cut, name_cut, dotted_tail, tail}
use Rattle.pts_tokens.proofs.Worded.{sort_cut}

pub record Prefix (w cs : List ℕ) : Type 0 where
  pub behind : List ℕ
  pub whole : cs ≡ w ++ behind
  pub some : 0 < length w

unfoldable pub Begun : First → List ℕ → Type 0
Begun (token t w) cs = Prefix w cs
Begun blank cs = Unit {0}
Begun long_name cs = Unit {0}
Begun no_token cs = Unit {0}

begun_if : (b : Bool) (x y : First) (cs : List ℕ) → Begun x cs → Begun y cs → Begun (cond b x y) cs
unfolding Begun
begun_if true x y cs h g = h
begun_if false x y cs h g = g

word_prefix : (c : ℕ) (cs : List ℕ) → starts_identifier c ≡ true → Prefix (word (c ∷ cs)) (c ∷ cs)
word_prefix c cs e = record {
  behind = drop (length (word (c ∷ cs))) (c ∷ cs);
  whole = sym (word_cut (c ∷ cs));
  some = subst (λ w. 0 < length w) (sym (ap (λ b. cond b (c ∷ take_while continues_identifier cs) []) e)) (omega arith);
}

name_prefix : (c : ℕ) (cs : List ℕ) → starts_identifier c ≡ true → Prefix (name (c ∷ cs)) (c ∷ cs)
name_prefix c cs e =
    let (v, whole) = name_cut (c ∷ cs) in
    let w = word (c ∷ cs) in
    let ps = further (length w) (c ∷ cs) in
    record {
      behind = v;
      whole = sym whole;
      some = subst (λ l. 0 < length l) (sym (dotted_tail w ps ∙ ap (λ b. cond b (c ∷ take_while continues_identifier cs) [] ++ tail ps) e)) (omega arith);
    }

worded_begun : (c : ℕ) (cs : List ℕ) → starts_identifier c ≡ true → Begun (worded (c ∷ cs)) (c ∷ cs)
unfolding Begun
worded_begun c cs e =
    begun_if (same_name (word (c ∷ cs)) (codes "let")) _ _ (c ∷ cs) (word_prefix c cs e)
    (begun_if (same_name (word (c ∷ cs)) (codes "in")) _ _ (c ∷ cs) (word_prefix c cs e)
    (begun_if (nat_lt 128 (length (encodes (name (c ∷ cs))))) long_name (token (Name (encodes (name (c ∷ cs)))) (name (c ∷ cs))) (c ∷ cs) tt (name_prefix c cs e)))

number_begun : (c : ℕ) (cs : List ℕ) → is_ascii_digit c ≡ true → Begun (number (take_while is_ascii_digit (c ∷ cs))) (c ∷ cs)
unfolding Begun
number_begun c cs e = record {
  behind = drop (length (take_while is_ascii_digit (c ∷ cs))) (c ∷ cs);
  whole = sym (run_cut is_ascii_digit (c ∷ cs));
  some = subst (λ w. 0 < length w) (sym (take_while-cons is_ascii_digit c cs ∙ ap (λ b. cond b (c ∷ take_while is_ascii_digit cs) []) e)) (omega arith);
}

sort_begun : (c : ℕ) (cs : List ℕ) → Begun (sort_at c cs) (c ∷ cs)
unfolding Begun
sort_begun c cs =
    let (v, whole) = sort_cut c cs in
    begun_if (is_sort_spelling (encodes (sort_text c cs))) (token (Sort (encodes (sort_text c cs))) (sort_text c cs)) no_token (c ∷ cs) (record { behind = v; whole = whole; some = some (c == 39) }) tt
  where
    some : (b : Bool) → 0 < length (cond b (39 ∷ word cs) (c ∷ []))
    some true = omega arith
    some false = omega arith

alone_begun : (o : Option Token) (c : ℕ) (cs : List ℕ) → Begun (alone o c) (c ∷ cs)
unfolding Begun
alone_begun (Some t) c cs = record { behind = cs; whole = refl; some = omega arith }
alone_begun None c cs = tt

-- One character, and two.
one_more : (c d : ℕ) (cs : List ℕ) → c ≡ d → Prefix (d ∷ []) (c ∷ cs)
one_more c d cs e = record { behind = cs; whole = ap (λ x. x ∷ cs) e; some = omega arith }

pair_begun : (c d e : ℕ) (cs : List ℕ) (t : Token) (y : First) → c ≡ d → Begun y (c ∷ cs) → Begun (cond (begins_with e cs) (token t (d ∷ e ∷ [])) y) (c ∷ cs)
unfolding Begun
pair_begun c d e [] t y q h = h
pair_begun c d e (x ∷ cs) t y q h = by (x == e) refl
  where
    by : (b : Bool) → (x == e) ≡ b → Begun (cond b (token t (d ∷ e ∷ [])) y) (c ∷ x ∷ cs)
    by true f = record { behind = cs; whole = ap (λ z. z ∷ x ∷ cs) q ∙ ap (λ z. d ∷ z ∷ cs) (eqb-true x e f); some = omega arith }
    by false f = h

sign_begun : (c : ℕ) (cs : List ℕ) → Begun (sign c cs) (c ∷ cs)
unfolding Begun
sign_begun c cs = by (c == 58) (c == 45) refl refl
  where
    by : (a b : Bool) → (c == 58) ≡ a → (c == 45) ≡ b → Begun (cond a (colon cs) (cond b (minus cs) (alone (option_or (bracket c) (mark c)) c))) (c ∷ cs)
    by true b e f = pair_begun c 58 61 cs Assign (token Colon (58 ∷ [])) (eqb-true c 58 e) (one_more c 58 cs (eqb-true c 58 e))
    by false true e f = pair_begun c 45 62 cs Arrow no_token (eqb-true c 45 f) tt
    by false false e f = alone_begun (option_or (bracket c) (mark c)) c cs

pub begun : (c : ℕ) (cs : List ℕ) → Begun (token_first c cs) (c ∷ cs)
begun c cs = by (starts_identifier c) (is_ascii_digit c) (begins_sort c) refl refl
  where
    by : (a b d : Bool) → starts_identifier c ≡ a → is_ascii_digit c ≡ b → Begun (cond a (worded (c ∷ cs)) (cond b (number (take_while is_ascii_digit (c ∷ cs))) (cond d (sort_at c cs) (sign c cs)))) (c ∷ cs)
    by true b d e f = worded_begun c cs e
    by false true d e f = number_begun c cs f
    by false false true e f = sort_begun c cs
    by false false false e f = sign_begun c cs
