-- How a syntax is written: its tokens, and its text.
use Rattle.std.specs.Prelude.{ℕ, List, ◌∷◌, ◌++◌, Bool, true, false, if◌then◌else◌, codes}
use Rattle.pts_names.specs.Name.{same_name, underscore}
use Rattle.pts_tokens.specs.declared.token.Token.{Token}
use Rattle.pts_tokens.specs.declared.token.Token.TheVariants.{Lambda, At, Let, In, Colon, Assign, Dot, Arrow, Open, Close, Sort, Name as Word}
use Rattle.pts_grammar.specs.Syntax.{Syntax, sort, name, app, lam, pi, let_in}

-- What gets parentheses to the left of an arrow and as a function: abstractions, products and local definitions.
abbrev pub is_binding : Syntax → Bool
is_binding (sort p s) = false
is_binding (name p x) = false
is_binding (app f a) = false
is_binding (lam x A b) = true
is_binding (pi x A B) = true
is_binding (let_in x d A b) = true

-- What gets parentheses as an argument: these, and applications.
abbrev pub is_compound : Syntax → Bool
is_compound (sort p s) = false
is_compound (name p x) = false
is_compound (app f a) = true
is_compound (lam x A b) = true
is_compound (pi x A B) = true
is_compound (let_in x d A b) = true

-- A text, in parentheses or as it is.
abbrev pub in_parens : Bool → List ℕ → List ℕ
in_parens true text = codes "(" ++ (text ++ codes ")")
in_parens false text = text

-- A binder with its type and what is after them, as `x:A. b`.
abbrev pub binder_text : List ℕ → List ℕ → List ℕ → List ℕ
binder_text x type body = x ++ (codes ":" ++ (type ++ (codes ". " ++ body)))

-- The text of a syntax, in bytes: `\x:A. b`, `@x:A. B`, `A -> B`, `f a`, `let x := a : A in b`. A product whose variable
-- is called `_` is written with an arrow.
abbrev pub text_of : Syntax → List ℕ
text_of (sort p s) = s
text_of (name p x) = x
text_of (app f a) = in_parens (is_binding f) (text_of f) ++ (codes " " ++ in_parens (is_compound a) (text_of a))
text_of (lam x A b) = codes "\\" ++ binder_text x (text_of A) (text_of b)
text_of (pi x A B) =
    if same_name x underscore then in_parens (is_binding A) (text_of A) ++ (codes " -> " ++ text_of B)
    else (codes "@" ++ binder_text x (text_of A) (text_of B))
text_of (let_in x d A b) = codes "let " ++ (x ++ (codes " := " ++ (text_of d ++ (codes " : " ++ (text_of A ++ (codes " in " ++ text_of b))))))

-- Tokens with `rest` after them, in parentheses or as they are.
abbrev pub between_parens : Bool → (List Token → List Token) → List Token → List Token
between_parens true tokens rest = Open ∷ tokens (Close ∷ rest)
between_parens false tokens rest = tokens rest

-- The tokens of a syntax, and `rest` after them.
abbrev pub tokens_before : Syntax → List Token → List Token
tokens_before (sort p s) rest = Sort s ∷ rest
tokens_before (name p x) rest = Word x ∷ rest
tokens_before (app f a) rest = between_parens (is_binding f) (tokens_before f) (between_parens (is_compound a) (tokens_before a) rest)
tokens_before (lam x A b) rest = Lambda ∷ Word x ∷ Colon ∷ tokens_before A (Dot ∷ tokens_before b rest)
tokens_before (pi x A B) rest =
    if same_name x underscore then between_parens (is_binding A) (tokens_before A) (Arrow ∷ tokens_before B rest)
    else (At ∷ Word x ∷ Colon ∷ tokens_before A (Dot ∷ tokens_before B rest))
tokens_before (let_in x d A b) rest = Let ∷ Word x ∷ Assign ∷ tokens_before d (Colon ∷ tokens_before A (In ∷ tokens_before b rest))
