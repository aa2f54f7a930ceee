-- What is written of a syntax, as characters, has the tokens that are written of it.
use Rattle.std.proofs.Common.{ℕ, ◌+◌, ◌≡◌, refl, sym, ◌∙◌, ap, subst, List, [], ◌∷◌, ◌++◌, Bool, true, false, cond, ◌&&◌, ◌||◌, ◌==◌, eqb-true, Ok, length, arith}
use Rattle.std.specs.Prelude.{IsUtf8, chars, codes}
use Rattle.std.specs.Char.{len_utf8}
use Rattle.std.specs.Str as str
use lib.Utf8.{encode, encodes}
use Rattle.std.proofs.lemmas.Str.{encodes-chars, encode_ascii, chars_past_char}
use Rattle.std.proofs.Common.{lit<}
use Rattle.unicode_ident.proofs.Computing.{unicode_ident}
use Rattle.pts_names.specs.Name.{Name, same_name, width, is_identifier, is_quoted, is_sort_spelling, underscore}
use Rattle.pts_names.proofs.Same.{same_name-true}
use Rattle.pts_names.proofs.OnePart.{identifier_has_no_fault}
use Rattle.pts_tokens.specs.declared.token.Token.{Token}
use Rattle.pts_tokens.specs.declared.token.Token.TheVariants.{Lambda, At, Let, In, Colon, Assign, Dot, Arrow, Open, Close, Sort, Name as Word}
use Rattle.pts_tokens.specs.Tokens.{Spot, token, no_token, first, begins_with, sort_text, with_spot, from_first, tokens_behind}
use Rattle.pts_grammar.specs.Syntax.{Syntax, sort, name, app, lam, pi, let_in}
use Rattle.pts_printed.specs.Text.{is_binding, is_compound, between_parens, tokens_before}
use Rattle.pts_printed.specs.Laws.{IsName, IsSpelling}
use Rattle.pts_printed.proofs.Written.{Holds, nothing, also}
use Rattle.pts_printed.proofs.Words.{stops, ends_name, ends_stop, word_before, name_starts, name_first, no_sign}

-- The characters have these tokens, wherever they stand.
abbrev pub Lexes : List ℕ → List Token → Type 0
Lexes cs ws = (place : ℕ) → (ts : List Spot) × (tokens_behind 0 place cs ≡ Ok ts) × Holds ts ws

nothing_lexed : Lexes [] []
nothing_lexed place = ([], refl, nothing)

passed : (w v : List ℕ) (place : ℕ) → tokens_behind (length w) place (w ++ v) ≡ tokens_behind 0 (place + width w) v
passed [] v place = ap (λ p. tokens_behind 0 p v) (let m : place ≡ place + 0 = omega arith in m)
passed (c ∷ w) v place = passed w v (place + len_utf8 c) ∙ ap (λ p. tokens_behind 0 p v) (let m : place + len_utf8 c + width w ≡ place + (len_utf8 c + width w) = omega arith in m)

one_token : (c : ℕ) (w rest : List ℕ) (t : Token) (ws : List Token) → first c (w ++ rest) ≡ token t (c ∷ w) → Lexes rest ws → Lexes (c ∷ (w ++ rest)) (t ∷ ws)
one_token c w rest t ws e h place =
    let (ts, f, g) = h (place + len_utf8 c + width w) in
    ((place, t) ∷ ts, ap (λ b. from_first place b (λ n. tokens_behind n (place + len_utf8 c) (w ++ rest))) e ∙ ap (with_spot (place, t)) (passed w rest (place + len_utf8 c) ∙ f), also g)

one_blank : (rest : List ℕ) (ws : List Token) → Lexes rest ws → Lexes (32 ∷ rest) ws
unfolding first
one_blank rest ws h place = h (place + len_utf8 32)

-- The signs.
lambda_first : (cs : List ℕ) → first 92 cs ≡ token Lambda (92 ∷ [])
unfolding first unicode_ident
lambda_first cs = refl

at_first : (cs : List ℕ) → first 64 cs ≡ token At (64 ∷ [])
unfolding first unicode_ident
at_first cs = refl

dot_first : (cs : List ℕ) → first 46 cs ≡ token Dot (46 ∷ [])
unfolding first unicode_ident
dot_first cs = refl

open_first : (cs : List ℕ) → first 40 cs ≡ token Open (40 ∷ [])
unfolding first unicode_ident
open_first cs = refl

close_first : (cs : List ℕ) → first 41 cs ≡ token Close (41 ∷ [])
unfolding first unicode_ident
close_first cs = refl

arrow_first : (cs : List ℕ) → first 45 (62 ∷ cs) ≡ token Arrow (45 ∷ 62 ∷ [])
unfolding first unicode_ident
arrow_first cs = refl

assign_first : (cs : List ℕ) → first 58 (61 ∷ cs) ≡ token Assign (58 ∷ 61 ∷ [])
unfolding first unicode_ident
assign_first cs = refl

colon_first : (cs : List ℕ) → begins_with 61 cs ≡ false → first 58 cs ≡ token Colon (58 ∷ [])
unfolding first unicode_ident
colon_first cs e = ap (λ b. cond b (token Assign (58 ∷ 61 ∷ [])) (token Colon (58 ∷ []))) e

let_first : (cs : List ℕ) → first 108 (101 ∷ 116 ∷ 32 ∷ cs) ≡ token Let (108 ∷ 101 ∷ 116 ∷ [])
unfolding first unicode_ident
let_first cs = refl

in_first : (cs : List ℕ) → first 105 (110 ∷ 32 ∷ cs) ≡ token In (105 ∷ 110 ∷ [])
unfolding first unicode_ident
in_first cs = refl

-- Where names end.
close_ends : (cs : List ℕ) → ends_name (41 ∷ cs) ≡ true
unfolding unicode_ident
close_ends cs = refl

blank_ends : (cs : List ℕ) → ends_name (32 ∷ cs) ≡ true
unfolding unicode_ident
blank_ends cs = refl

colon_ends : (cs : List ℕ) → ends_name (58 ∷ cs) ≡ true
unfolding unicode_ident
colon_ends cs = refl

dot_ends : (cs : List ℕ) → ends_name (46 ∷ 32 ∷ cs) ≡ true
unfolding unicode_ident
dot_ends cs = refl

-- Names and sorts.
name_lexed : (x : Name) (rest : List ℕ) (ws : List Token) → IsName x → ends_name rest ≡ true → Lexes rest ws → Lexes (chars x ++ rest) (Word x ∷ ws)
name_lexed x rest ws n e h =
    let (c, w, f, s) = name_starts x n in
    subst (λ cs. Lexes cs (Word x ∷ ws)) (sym (ap (λ cs. cs ++ rest) f)) (one_token c w rest (Word x) ws (name_first x c w rest n f s e) h)

star_first : (cs : List ℕ) → first 42 cs ≡ token (Sort (42 ∷ [])) (42 ∷ [])
unfolding first unicode_ident is_sort_spelling encode
star_first cs = refl

square_first : (cs : List ℕ) → first 35 cs ≡ token (Sort (35 ∷ [])) (35 ∷ [])
unfolding first unicode_ident is_sort_spelling encode
square_first cs = refl

quote_text : (bs : Name) (rest : List ℕ) → is_identifier bs ≡ true → stops rest ≡ true → sort_text 39 (chars bs ++ rest) ≡ 39 ∷ chars bs
quote_text bs rest i s = ap (λ w. 39 ∷ w) (word_before (chars bs) rest (identifier_has_no_fault bs i) s)

quote_first : (bs : Name) (rest : List ℕ) → IsUtf8 (39 ∷ bs) → chars (39 ∷ bs) ≡ 39 ∷ chars bs → is_sort_spelling (39 ∷ bs) ≡ true → is_identifier bs ≡ true → stops rest ≡ true → first 39 (chars bs ++ rest) ≡ token (Sort (39 ∷ bs)) (39 ∷ chars bs)
unfolding first unicode_ident
quote_first bs rest utf8 e s i h =
    let t = quote_text bs rest i h in
    let b : encodes (39 ∷ chars bs) ≡ 39 ∷ bs = ap encodes (sym e) ∙ encodes-chars (39 ∷ bs) utf8 in
    ap (λ w. cond (is_sort_spelling (encodes w)) (token (Sort (encodes w)) w) no_token) t
    ∙ (ap (λ y. cond (is_sort_spelling y) (token (Sort y) (39 ∷ chars bs)) no_token) b
    ∙ ap (λ a. cond a (token (Sort (39 ∷ bs)) (39 ∷ chars bs)) no_token) s)

quote_chars : (bs : Name) → IsUtf8 (39 ∷ bs) → chars (39 ∷ bs) ≡ 39 ∷ chars bs
quote_chars bs utf8 = chars_past_char (39 ∷ bs) bs 39 utf8 (ap (λ l. l ++ bs) (sym (encode_ascii 39 (lit< tt))))

quote_lexed : (bs : Name) (rest : List ℕ) (ws : List Token) → IsUtf8 (39 ∷ bs) → is_sort_spelling (39 ∷ bs) ≡ true → is_identifier bs ≡ true → ends_name rest ≡ true → Lexes rest ws → Lexes (chars (39 ∷ bs) ++ rest) (Sort (39 ∷ bs) ∷ ws)
quote_lexed bs rest ws utf8 s i e h =
    let f = quote_chars bs utf8 in
    subst (λ cs. Lexes (cs ++ rest) (Sort (39 ∷ bs) ∷ ws)) (sym f) (one_token 39 (chars bs) rest (Sort (39 ∷ bs)) ws (quote_first bs rest utf8 f s i (ends_stop rest e)) h)

star_lexed : (rest : List ℕ) (ws : List Token) → Lexes rest ws → Lexes (chars (codes "*") ++ rest) (Sort (codes "*") ∷ ws)
unfolding str.chars
star_lexed rest ws h = one_token 42 [] rest (Sort (codes "*")) ws (star_first rest) h

square_lexed : (rest : List ℕ) (ws : List Token) → Lexes rest ws → Lexes (chars (codes "#") ++ rest) (Sort (codes "#") ∷ ws)
unfolding str.chars
square_lexed rest ws h = one_token 35 [] rest (Sort (codes "#")) ws (square_first rest) h

-- The three kinds of spellings.
data Spelling : Name → Type 0 where
  star : Spelling (codes "*")
  square : Spelling (codes "#")
  quoted : {bs : Name} → is_identifier bs ≡ true → Spelling (39 ∷ bs)

spelling_is : (s : Name) → is_sort_spelling s ≡ true → Spelling s
unfolding is_sort_spelling
spelling_is s e = by (same_name s (codes "*")) (same_name s (codes "#")) refl refl e
  where
    quote : (s : Name) → is_quoted s ≡ true → Spelling s
    quote [] e = absurd (cc e)
    quote (b ∷ bs) e = at_quote (b == 39) refl e
      where
        at_quote : (p : Bool) → (b == 39) ≡ p → (p && is_identifier bs) ≡ true → Spelling (b ∷ bs)
        at_quote true d i = subst (λ c. Spelling (c ∷ bs)) (sym (eqb-true b 39 d)) (quoted i)
        at_quote false d i = absurd (cc i)

    by : (a b : Bool) → same_name s (codes "*") ≡ a → same_name s (codes "#") ≡ b → ((a || b) || is_quoted s) ≡ true → Spelling s
    by true b p q e = subst Spelling (sym (same_name-true s (codes "*") p)) star
    by false true p q e = subst Spelling (sym (same_name-true s (codes "#") q)) square
    by false false p q e = quote s e

spelling_lexed : {s : Name} → Spelling s → (rest : List ℕ) (ws : List Token) → IsSpelling s → ends_name rest ≡ true → Lexes rest ws → Lexes (chars s ++ rest) (Sort s ∷ ws)
spelling_lexed star rest ws s e h = star_lexed rest ws h
spelling_lexed square rest ws s e h = square_lexed rest ws h
spelling_lexed (quoted {bs = bs} i) rest ws s e h = quote_lexed bs rest ws s.0 s.1 i e h

-- The characters of a syntax, and `rest` behind them.
abbrev pub chars_in : Bool → (List ℕ → List ℕ) → List ℕ → List ℕ
chars_in true text rest = 40 ∷ text (41 ∷ rest)
chars_in false text rest = text rest

abbrev pub chars_before : Syntax → List ℕ → List ℕ
chars_before (sort p s) rest = chars s ++ rest
chars_before (name p x) rest = chars x ++ rest
chars_before (app f a) rest = chars_in (is_binding f) (chars_before f) (32 ∷ chars_in (is_compound a) (chars_before a) rest)
chars_before (lam x A b) rest = 92 ∷ (chars x ++ (58 ∷ chars_before A (46 ∷ 32 ∷ chars_before b rest)))
chars_before (pi x A b) rest =
    cond (same_name x underscore) (chars_in (is_binding A) (chars_before A) (32 ∷ 45 ∷ 62 ∷ 32 ∷ chars_before b rest))
    (64 ∷ (chars x ++ (58 ∷ chars_before A (46 ∷ 32 ∷ chars_before b rest))))
chars_before (let_in x d A b) rest = 108 ∷ 101 ∷ 116 ∷ 32 ∷ (chars x ++ (32 ∷ 58 ∷ 61 ∷ 32 ∷ chars_before d (32 ∷ 58 ∷ 32 ∷ chars_before A (32 ∷ 105 ∷ 110 ∷ 32 ∷ chars_before b rest))))

-- The words of a syntax are spellings and names.
abbrev pub HasWords : Syntax → Type 0
HasWords (sort p s) = IsSpelling s
HasWords (name p x) = IsName x
HasWords (app f a) = HasWords f × HasWords a
HasWords (lam x A b) = IsName x × HasWords A × HasWords b
HasWords (pi x A b) = IsName x × HasWords A × HasWords b
HasWords (let_in x d A b) = IsName x × HasWords d × HasWords A × HasWords b

-- No text of a syntax begins with `=`.
name_head : (x : Name) (rest : List ℕ) → IsName x → begins_with 61 (chars x ++ rest) ≡ false
unfolding unicode_ident
name_head x rest n =
    let (c, w, f, s) = name_starts x n in
    ap (λ cs. begins_with 61 (cs ++ rest)) f ∙ no_sign c 61 s refl

spelling_head : {s : Name} → Spelling s → (rest : List ℕ) → IsUtf8 s → begins_with 61 (chars s ++ rest) ≡ false
unfolding str.chars
spelling_head star rest u = refl
spelling_head square rest u = refl
spelling_head (quoted {bs = bs} i) rest u = ap (λ cs. begins_with 61 (cs ++ rest)) (quote_chars bs u)

in_head : (b : Bool) (text : List ℕ → List ℕ) (rest : List ℕ) → ((r : List ℕ) → begins_with 61 (text r) ≡ false) → begins_with 61 (chars_in b text rest) ≡ false
in_head true text rest h = refl
in_head false text rest h = h rest

head_of : (T : Syntax) → HasWords T → (rest : List ℕ) → begins_with 61 (chars_before T rest) ≡ false
head_of (sort p s) w rest = spelling_head (spelling_is s w.1) rest w.0
head_of (name p x) w rest = name_head x rest w
head_of (app f a) w rest = in_head (is_binding f) (chars_before f) _ (head_of f w.0)
head_of (lam x A b) w rest = refl
head_of (pi x A b) w rest = by (same_name x underscore) (in_head (is_binding A) (chars_before A) (32 ∷ 45 ∷ 62 ∷ 32 ∷ chars_before b rest) (head_of A w.1))
  where
    by : (k : Bool) → begins_with 61 (chars_in (is_binding A) (chars_before A) (32 ∷ 45 ∷ 62 ∷ 32 ∷ chars_before b rest)) ≡ false → begins_with 61 (cond k (chars_in (is_binding A) (chars_before A) (32 ∷ 45 ∷ 62 ∷ 32 ∷ chars_before b rest)) (64 ∷ (chars x ++ (58 ∷ chars_before A (46 ∷ 32 ∷ chars_before b rest))))) ≡ false
    by true h = h
    by false h = refl
head_of (let_in x d A b) w rest = refl

-- What is written of a syntax is cut into what is written of it in tokens.
abbrev pub TextLexes : (List ℕ → List ℕ) → (List Token → List Token) → Type 0
TextLexes text tokens = (rest : List ℕ) (ws : List Token) → ends_name rest ≡ true → Lexes rest ws → Lexes (text rest) (tokens ws)

in_lexed : (b : Bool) (text : List ℕ → List ℕ) (tokens : List Token → List Token) → TextLexes text tokens → TextLexes (chars_in b text) (between_parens b tokens)
in_lexed true text tokens h rest ws e l = one_token 40 [] (text (41 ∷ rest)) Open (tokens (Close ∷ ws)) (open_first _) (h (41 ∷ rest) (Close ∷ ws) (close_ends rest) (one_token 41 [] rest Close ws (close_first rest) l))
in_lexed false text tokens h rest ws e l = h rest ws e l

either_lexed : (b : Bool) (r q : List ℕ) (ws vs : List Token) → Lexes r ws → Lexes q vs → Lexes (cond b r q) (cond b ws vs)
either_lexed true r q ws vs h g = h
either_lexed false r q ws vs h g = g

before_blank : (text : List ℕ → List ℕ) (tokens : List Token → List Token) (cs : List ℕ) (ws : List Token) → TextLexes text tokens → Lexes (32 ∷ cs) ws → Lexes (text (32 ∷ cs)) (tokens ws)
before_blank text tokens cs ws h l = h (32 ∷ cs) ws (blank_ends cs) l

-- A binder behind its sign: `x:A. b`.
binder_lexed : (x : Name) (A b : Syntax) → IsName x → HasWords A → TextLexes (chars_before A) (tokens_before A) → TextLexes (chars_before b) (tokens_before b) → TextLexes (λ rest. chars x ++ (58 ∷ chars_before A (46 ∷ 32 ∷ chars_before b rest))) (λ ws. Word x ∷ Colon ∷ tokens_before A (Dot ∷ tokens_before b ws))
binder_lexed x A b n w hA hb rest ws e l =
    let body = one_token 46 [] (32 ∷ chars_before b rest) Dot (tokens_before b ws) (dot_first _) (one_blank (chars_before b rest) (tokens_before b ws) (hb rest ws e l)) in
    let type = hA (46 ∷ 32 ∷ chars_before b rest) (Dot ∷ tokens_before b ws) (dot_ends (chars_before b rest)) body in
    name_lexed x (58 ∷ chars_before A (46 ∷ 32 ∷ chars_before b rest)) _ n (colon_ends (chars_before A (46 ∷ 32 ∷ chars_before b rest))) (one_token 58 [] (chars_before A (46 ∷ 32 ∷ chars_before b rest)) Colon _ (colon_first _ (head_of A w _)) type)

-- An arrow with what is behind it.
arrow_lexed : (b : Syntax) → TextLexes (chars_before b) (tokens_before b) → TextLexes (λ rest. 32 ∷ 45 ∷ 62 ∷ 32 ∷ chars_before b rest) (λ ws. Arrow ∷ tokens_before b ws)
arrow_lexed b hb rest ws e l =
    one_blank _ _ (one_token 45 (62 ∷ []) (32 ∷ chars_before b rest) Arrow (tokens_before b ws) (arrow_first _) (one_blank _ _ (hb rest ws e l)))

-- A type and a body of a local definition.
typed_lexed : (A b : Syntax) → TextLexes (chars_before A) (tokens_before A) → TextLexes (chars_before b) (tokens_before b) → TextLexes (λ rest. 32 ∷ 58 ∷ 32 ∷ chars_before A (32 ∷ 105 ∷ 110 ∷ 32 ∷ chars_before b rest)) (λ ws. Colon ∷ tokens_before A (In ∷ tokens_before b ws))
typed_lexed A b hA hb rest ws e l =
    let body = one_blank _ _ (one_token 105 (110 ∷ []) (32 ∷ chars_before b rest) In (tokens_before b ws) (in_first _) (one_blank _ _ (hb rest ws e l))) in
    let type = before_blank (chars_before A) (tokens_before A) (105 ∷ 110 ∷ 32 ∷ chars_before b rest) (In ∷ tokens_before b ws) hA body in
    one_blank _ _ (one_token 58 [] (32 ∷ chars_before A (32 ∷ 105 ∷ 110 ∷ 32 ∷ chars_before b rest)) Colon _ (colon_first _ refl) (one_blank _ _ type))

let_lexed : (x : Name) (d A b : Syntax) → IsName x → TextLexes (chars_before d) (tokens_before d) → TextLexes (chars_before A) (tokens_before A) → TextLexes (chars_before b) (tokens_before b) → TextLexes (chars_before (let_in x d A b)) (tokens_before (let_in x d A b))
let_lexed x d A b n hd hA hb rest ws e l =
    let typed = chars_before d (32 ∷ 58 ∷ 32 ∷ chars_before A (32 ∷ 105 ∷ 110 ∷ 32 ∷ chars_before b rest)) in
    let value = before_blank (chars_before d) (tokens_before d) (58 ∷ 32 ∷ chars_before A (32 ∷ 105 ∷ 110 ∷ 32 ∷ chars_before b rest)) _ hd (typed_lexed A b hA hb rest ws e l) in
    let assigned = one_blank (58 ∷ 61 ∷ 32 ∷ typed) _ (one_token 58 (61 ∷ []) (32 ∷ typed) Assign _ (assign_first _) (one_blank typed _ value)) in
    let named = name_lexed x (32 ∷ 58 ∷ 61 ∷ 32 ∷ typed) _ n (blank_ends (58 ∷ 61 ∷ 32 ∷ typed)) assigned in
    one_token 108 (101 ∷ 116 ∷ []) (32 ∷ (chars x ++ (32 ∷ 58 ∷ 61 ∷ 32 ∷ typed))) Let _ (let_first _) (one_blank _ _ named)

text_lexed : (T : Syntax) → HasWords T → TextLexes (chars_before T) (tokens_before T)
text_lexed (sort p s) w rest ws e l = spelling_lexed (spelling_is s w.1) rest ws w e l
text_lexed (name p x) w rest ws e l = name_lexed x rest ws w e l
text_lexed (app f a) w rest ws e l =
    before_blank (chars_in (is_binding f) (chars_before f)) (between_parens (is_binding f) (tokens_before f)) (chars_in (is_compound a) (chars_before a) rest) _
    (in_lexed (is_binding f) (chars_before f) (tokens_before f) (text_lexed f w.0))
    (one_blank _ _ (in_lexed (is_compound a) (chars_before a) (tokens_before a) (text_lexed a w.1) rest ws e l))
text_lexed (lam x A b) w rest ws e l =
    one_token 92 [] (chars x ++ (58 ∷ chars_before A (46 ∷ 32 ∷ chars_before b rest))) Lambda _ (lambda_first _) (binder_lexed x A b w.0 w.1 (text_lexed A w.1) (text_lexed b w.2) rest ws e l)
text_lexed (pi x A b) w rest ws e l =
    either_lexed (same_name x underscore) _ _ _ _
    (before_blank (chars_in (is_binding A) (chars_before A)) (between_parens (is_binding A) (tokens_before A)) (45 ∷ 62 ∷ 32 ∷ chars_before b rest) _
    (in_lexed (is_binding A) (chars_before A) (tokens_before A) (text_lexed A w.1))
    (arrow_lexed b (text_lexed b w.2) rest ws e l))
    (one_token 64 [] (chars x ++ (58 ∷ chars_before A (46 ∷ 32 ∷ chars_before b rest))) At _ (at_first _) (binder_lexed x A b w.0 w.1 (text_lexed A w.1) (text_lexed b w.2) rest ws e l))
text_lexed (let_in x d A b) w rest ws e l = let_lexed x d A b w.0 (text_lexed d w.1) (text_lexed A w.2) (text_lexed b w.3) rest ws e l

pub all_lexed : (T : Syntax) → HasWords T → (ts : List Spot) × (tokens_behind 0 0 (chars_before T []) ≡ Ok ts) × Holds ts (tokens_before T [])
all_lexed T w = text_lexed T w [] [] refl nothing_lexed 0
