-- The characters of a written text.
use Rattle.std.proofs.Common.{ℕ, ◌≡◌, refl, sym, ◌∙◌, ap, List, [], ◌∷◌, ◌++◌, Bool, true, false, cond, append_assoc}
use Rattle.std.specs.Prelude.{IsUtf8, chars, codes}
use Rattle.std.proofs.lemmas.List.{append-nil}
use Rattle.std.proofs.lemmas.Str.{chars-append, chars-encodes, chars-nil}
use lib.Utf8.{encode, encodes, scalars}
use Rattle.pts_names.specs.Name.{Name, same_name, underscore}
use Rattle.pts_grammar.specs.Syntax.{Syntax, sort, name, app, lam, pi, let_in}
use Rattle.pts_printed.specs.Text.{is_binding, is_compound, in_parens, binder_text, text_of}
use Rattle.pts_printed.proofs.Lexed.{HasWords, chars_in, chars_before}

-- The bytes before others have these characters before theirs.
abbrev pub Spells : List ℕ → (List ℕ → List ℕ) → Type 0
Spells text f = (rest : List ℕ) → chars (text ++ rest) ≡ f (chars rest)

both : (t u : List ℕ) (f g : List ℕ → List ℕ) → Spells t f → Spells u g → Spells (t ++ u) (λ cs. f (g cs))
both t u f g h k rest = ap chars (append_assoc t u rest) ∙ (h (u ++ rest) ∙ ap f (k rest))

plain : (s : List ℕ) → scalars s ≡ true → encodes s ≡ s → Spells s (λ cs. s ++ cs)
plain s e f rest = chars-append s rest (s, (e, f)) ∙ ap (λ w. w ++ chars rest) (ap chars (sym f) ∙ chars-encodes s e)

word_spells : (x : Name) → IsUtf8 x → Spells x (λ cs. chars x ++ cs)
word_spells x utf8 rest = chars-append x rest utf8

parens_spell : (b : Bool) (t : List ℕ) (f : List ℕ → List ℕ) → Spells t f → Spells (in_parens b t) (chars_in b f)
unfolding encode
parens_spell true t f h = both (codes "(") (t ++ codes ")") (λ cs. 40 ∷ cs) (λ cs. f (41 ∷ cs)) (plain (codes "(") refl refl) (both t (codes ")") f (λ cs. 41 ∷ cs) h (plain (codes ")") refl refl))
parens_spell false t f h = h

either_spells : (b : Bool) (t u : List ℕ) (f g : List ℕ → List ℕ) → Spells t f → Spells u g → Spells (cond b t u) (λ cs. cond b (f cs) (g cs))
either_spells true t u f g h k = h
either_spells false t u f g h k = k

binder_spells : (x : Name) (t u : List ℕ) (f g : List ℕ → List ℕ) → IsUtf8 x → Spells t f → Spells u g → Spells (binder_text x t u) (λ cs. chars x ++ (58 ∷ f (46 ∷ 32 ∷ g cs)))
unfolding encode
binder_spells x t u f g utf8 h k =
    both x (codes ":" ++ (t ++ (codes ". " ++ u))) (λ cs. chars x ++ cs) (λ cs. 58 ∷ f (46 ∷ 32 ∷ g cs)) (word_spells x utf8)
    (both (codes ":") (t ++ (codes ". " ++ u)) (λ cs. 58 ∷ cs) (λ cs. f (46 ∷ 32 ∷ g cs)) (plain (codes ":") refl refl)
    (both t (codes ". " ++ u) f (λ cs. 46 ∷ 32 ∷ g cs) h
    (both (codes ". ") u (λ cs. 46 ∷ 32 ∷ cs) g (plain (codes ". ") refl refl) k)))

spells : (T : Syntax) → HasWords T → Spells (text_of T) (chars_before T)
unfolding encode
spells (sort p s) w = word_spells s w.0
spells (name p x) w = word_spells x w.0
spells (app f a) w =
    both (in_parens (is_binding f) (text_of f)) (codes " " ++ in_parens (is_compound a) (text_of a)) (chars_in (is_binding f) (chars_before f)) (λ cs. 32 ∷ chars_in (is_compound a) (chars_before a) cs)
    (parens_spell (is_binding f) (text_of f) (chars_before f) (spells f w.0))
    (both (codes " ") (in_parens (is_compound a) (text_of a)) (λ cs. 32 ∷ cs) (chars_in (is_compound a) (chars_before a)) (plain (codes " ") refl refl)
    (parens_spell (is_compound a) (text_of a) (chars_before a) (spells a w.1)))
spells (lam x A b) w =
    both (codes "\\") (binder_text x (text_of A) (text_of b)) (λ cs. 92 ∷ cs) (λ cs. chars x ++ (58 ∷ chars_before A (46 ∷ 32 ∷ chars_before b cs))) (plain (codes "\\") refl refl)
    (binder_spells x (text_of A) (text_of b) (chars_before A) (chars_before b) w.0.0 (spells A w.1) (spells b w.2))
spells (pi x A b) w =
    either_spells (same_name x underscore) (in_parens (is_binding A) (text_of A) ++ (codes " -> " ++ text_of b)) (codes "@" ++ binder_text x (text_of A) (text_of b)) (λ cs. chars_in (is_binding A) (chars_before A) (32 ∷ 45 ∷ 62 ∷ 32 ∷ chars_before b cs)) (λ cs. 64 ∷ (chars x ++ (58 ∷ chars_before A (46 ∷ 32 ∷ chars_before b cs))))
    (both (in_parens (is_binding A) (text_of A)) (codes " -> " ++ text_of b) (chars_in (is_binding A) (chars_before A)) (λ cs. 32 ∷ 45 ∷ 62 ∷ 32 ∷ chars_before b cs)
    (parens_spell (is_binding A) (text_of A) (chars_before A) (spells A w.1))
    (both (codes " -> ") (text_of b) (λ cs. 32 ∷ 45 ∷ 62 ∷ 32 ∷ cs) (chars_before b) (plain (codes " -> ") refl refl) (spells b w.2)))
    (both (codes "@") (binder_text x (text_of A) (text_of b)) (λ cs. 64 ∷ cs) (λ cs. chars x ++ (58 ∷ chars_before A (46 ∷ 32 ∷ chars_before b cs))) (plain (codes "@") refl refl)
    (binder_spells x (text_of A) (text_of b) (chars_before A) (chars_before b) w.0.0 (spells A w.1) (spells b w.2)))
spells (let_in x d A b) w =
    let body = both (codes " in ") (text_of b) (λ cs. 32 ∷ 105 ∷ 110 ∷ 32 ∷ cs) (chars_before b) (plain (codes " in ") refl refl) (spells b w.3) in
    let type = both (codes " : ") (text_of A ++ (codes " in " ++ text_of b)) (λ cs. 32 ∷ 58 ∷ 32 ∷ cs) (λ cs. chars_before A (32 ∷ 105 ∷ 110 ∷ 32 ∷ chars_before b cs)) (plain (codes " : ") refl refl) (both (text_of A) (codes " in " ++ text_of b) (chars_before A) (λ cs. 32 ∷ 105 ∷ 110 ∷ 32 ∷ chars_before b cs) (spells A w.2) body) in
    let value = both (codes " := ") (text_of d ++ (codes " : " ++ (text_of A ++ (codes " in " ++ text_of b)))) (λ cs. 32 ∷ 58 ∷ 61 ∷ 32 ∷ cs) (λ cs. chars_before d (32 ∷ 58 ∷ 32 ∷ chars_before A (32 ∷ 105 ∷ 110 ∷ 32 ∷ chars_before b cs))) (plain (codes " := ") refl refl) (both (text_of d) (codes " : " ++ (text_of A ++ (codes " in " ++ text_of b))) (chars_before d) (λ cs. 32 ∷ 58 ∷ 32 ∷ chars_before A (32 ∷ 105 ∷ 110 ∷ 32 ∷ chars_before b cs)) (spells d w.1) type) in
    both (codes "let ") (x ++ (codes " := " ++ (text_of d ++ (codes " : " ++ (text_of A ++ (codes " in " ++ text_of b)))))) (λ cs. 108 ∷ 101 ∷ 116 ∷ 32 ∷ cs) (λ cs. chars x ++ (32 ∷ 58 ∷ 61 ∷ 32 ∷ chars_before d (32 ∷ 58 ∷ 32 ∷ chars_before A (32 ∷ 105 ∷ 110 ∷ 32 ∷ chars_before b cs)))) (plain (codes "let ") refl refl)
    (both x (codes " := " ++ (text_of d ++ (codes " : " ++ (text_of A ++ (codes " in " ++ text_of b))))) (λ cs. chars x ++ cs) (λ cs. 32 ∷ 58 ∷ 61 ∷ 32 ∷ chars_before d (32 ∷ 58 ∷ 32 ∷ chars_before A (32 ∷ 105 ∷ 110 ∷ 32 ∷ chars_before b cs))) (word_spells x w.0.0) value)

pub text_characters : (T : Syntax) → HasWords T → chars (text_of T) ≡ chars_before T []
text_characters T w = ap chars (sym (append-nil (text_of T))) ∙ (spells T w [] ∙ ap (chars_before T) chars-nil)
