-- The grammar of terms, with one rule for each alternative:
--
--   term = "\" ident ":" term "." term
--        | "@" ident ":" term "." term
--        | "let" ident ":=" term ":" term "in" term
--        | app [ "->" term ]
--   app  = atom { atom }
--   atom = sort | name | "(" term ")"
--
-- An ident is a name of one part. `Reads ts T us` says that the tokens ts begin with a text of T, and that us is after
-- it; so ts is a text of T if `Reads ts T []`. The same for an app and an atom.
use Rattle.std.specs.Prelude.{◌≡◌, ℕ, List, ◌∷◌, true}
use Rattle.pts_names.specs.Name.{Name, is_identifier, underscore}
use Rattle.pts_tokens.specs.declared.token.Token.TheVariants.{Lambda, At, Let, In, Colon, Assign, Dot, Arrow, Open, Close, Sort, Name as Word}
use Rattle.pts_tokens.specs.Tokens.{Spot}
use Rattle.pts_grammar.specs.Syntax.{Syntax, sort, name, app, lam, pi, let_in}

mutual
  pub data Reads : List Spot → Syntax → List Spot → Type 0 where
    abstraction : {ts us vs : List Spot} {A b : Syntax} {p q r o : ℕ} {x : Name} → is_identifier x ≡ true → Reads ts A ((o, Dot) ∷ us) → Reads us b vs → Reads ((p, Lambda) ∷ (q, Word x) ∷ (r, Colon) ∷ ts) (lam x A b) vs
    product : {ts us vs : List Spot} {A B : Syntax} {p q r o : ℕ} {x : Name} → is_identifier x ≡ true → Reads ts A ((o, Dot) ∷ us) → Reads us B vs → Reads ((p, At) ∷ (q, Word x) ∷ (r, Colon) ∷ ts) (pi x A B) vs
    definition : {ts us vs ws : List Spot} {d A b : Syntax} {p q r o n : ℕ} {x : Name} → is_identifier x ≡ true → Reads ts d ((o, Colon) ∷ us) → Reads us A ((n, In) ∷ vs) → Reads vs b ws → Reads ((p, Let) ∷ (q, Word x) ∷ (r, Assign) ∷ ts) (let_in x d A b) ws
    application : {ts us : List Spot} {f : Syntax} → App ts f us → Reads ts f us
    arrow : {ts us vs : List Spot} {A B : Syntax} {o : ℕ} → App ts A ((o, Arrow) ∷ us) → Reads us B vs → Reads ts (pi underscore A B) vs

  pub data App : List Spot → Syntax → List Spot → Type 0 where
    atoms : {ts us vs : List Spot} {a f : Syntax} → Atom ts a us → Args a us f vs → App ts f vs

  -- `Args f us g vs`: us begins with arguments, and vs is after them; f applied to them in their order is g.
  pub data Args : Syntax → List Spot → Syntax → List Spot → Type 0 where
    no_more : {f : Syntax} {us : List Spot} → Args f us f us
    one_more : {us vs ws : List Spot} {a f g : Syntax} → Atom us a vs → Args (app f a) vs g ws → Args f us g ws

  pub data Atom : List Spot → Syntax → List Spot → Type 0 where
    a_sort : {us : List Spot} {p : ℕ} {s : Name} → Atom ((p, Sort s) ∷ us) (sort p s) us
    a_name : {us : List Spot} {p : ℕ} {x : Name} → Atom ((p, Word x) ∷ us) (name p x) us
    parentheses : {ts us : List Spot} {T : Syntax} {p o : ℕ} → Reads ts T ((o, Close) ∷ us) → Atom ((p, Open) ∷ ts) T us
