-- The tokens that are written of a syntax are a text of it, at whatever places they stand.
use Rattle.std.proofs.Common.{ℕ, ◌≡◌, refl, sym, List, [], ◌∷◌, Bool, true, false, cond, subst}
use mathlib.Core.Path.{ap₂}
use Rattle.pts_names.specs.Name.{Name, same_name, is_identifier, underscore}
use Rattle.pts_names.proofs.Same.{same_name-true}
use Rattle.pts_tokens.specs.declared.token.Token.{Token}
use Rattle.pts_tokens.specs.declared.token.Token.TheVariants.{Lambda, At, Let, In, Colon, Assign, Dot, Arrow, Open, Close, Sort, Name as Word}
use Rattle.pts_tokens.specs.Tokens.{Spot}
use Rattle.pts_grammar.specs.Syntax.{Syntax, sort, name, app, lam, pi, let_in}
use Rattle.pts_grammar.specs.Grammar.{Reads, abstraction, product, definition, application, arrow, App, atoms, Args, no_more, one_more, Atom, a_sort, a_name, parentheses}
use Rattle.pts_printed.specs.Text.{is_binding, is_compound, between_parens, tokens_before}

-- The tokens ts, without their places, are ws.
pub data Holds : List Spot → List Token → Type 0 where
  nothing : Holds [] []
  also : {ts : List Spot} {ws : List Token} {p : ℕ} {t : Token} → Holds ts ws → Holds ((p, t) ∷ ts) (t ∷ ws)

-- A syntax without its places.
abbrev pub unplaced : Syntax → Syntax
unplaced (sort p s) = sort 0 s
unplaced (name p x) = name 0 x
unplaced (app f a) = app (unplaced f) (unplaced a)
unplaced (lam x A b) = lam x (unplaced A) (unplaced b)
unplaced (pi x A B) = pi x (unplaced A) (unplaced B)
unplaced (let_in x d A b) = let_in x (unplaced d) (unplaced A) (unplaced b)

-- Each binder's name is an identifier.
abbrev pub BindsIdentifiers : Syntax → Type 0
BindsIdentifiers (sort p s) = Unit {0}
BindsIdentifiers (name p x) = Unit {0}
BindsIdentifiers (app f a) = BindsIdentifiers f × BindsIdentifiers a
BindsIdentifiers (lam x A b) = (is_identifier x ≡ true) × BindsIdentifiers A × BindsIdentifiers b
BindsIdentifiers (pi x A B) = (is_identifier x ≡ true) × BindsIdentifiers A × BindsIdentifiers B
BindsIdentifiers (let_in x d A b) = (is_identifier x ≡ true) × BindsIdentifiers d × BindsIdentifiers A × BindsIdentifiers b

-- The tokens ts begin with a reading of T, up to places, and hold ws behind it.
pub data Gives (R : List Spot → Syntax → List Spot → Type 0) (T : Syntax) (ts : List Spot) (ws : List Token) : Type 0 where
  gives : {us : List Spot} {M : Syntax} → R ts M us → Holds us ws → unplaced M ≡ unplaced T → Gives R T ts ws

-- What is written of T is read as T: as a term, to the left of an arrow or as a function, and as an argument.
record Rereads (T : Syntax) : Type 0 where
  as_term : (ts : List Spot) (ws : List Token) → Holds ts (tokens_before T ws) → Gives Reads T ts ws
  as_function : (ts : List Spot) (ws : List Token) → Holds ts (between_parens (is_binding T) (tokens_before T) ws) → Gives App T ts ws
  as_argument : (ts : List Spot) (ws : List Token) → Holds ts (between_parens (is_compound T) (tokens_before T) ws) → Gives Atom T ts ws

AsTerm : Syntax → Type 0
AsTerm T = (ts : List Spot) (ws : List Token) → Holds ts (tokens_before T ws) → Gives Reads T ts ws

alone : {T : Syntax} {ts : List Spot} {ws : List Token} → Gives Atom T ts ws → Gives App T ts ws
alone (gives d h e) = gives (atoms d no_more) h e

whole : {T : Syntax} {ts : List Spot} {ws : List Token} → Gives App T ts ws → Gives Reads T ts ws
whole (gives d h e) = gives (application d) h e

closed : {T : Syntax} {ts : List Spot} {ws : List Token} {p : ℕ} → Gives Reads T ts (Close ∷ ws) → Gives Atom T ((p, Open) ∷ ts) ws
closed (gives d (also h) e) = gives (parentheses d) h e

in_parens : (T : Syntax) → AsTerm T → (ts : List Spot) (ws : List Token) → Holds ts (Open ∷ tokens_before T (Close ∷ ws)) → Gives Atom T ts ws
unfolding AsTerm
in_parens T term _ ws (also h) = closed (term _ _ h)

-- A syntax that is an atom as it stands.
leaf : (T : Syntax) → is_binding T ≡ false → is_compound T ≡ false → ((ts : List Spot) (ws : List Token) → Holds ts (tokens_before T ws) → Gives Atom T ts ws) → Rereads T
leaf T b c atom = record {
  as_term = λ ts ws h. whole (alone (atom ts ws h));
  as_function = λ ts ws h. alone (atom ts ws (subst (λ k. Holds ts (between_parens k (tokens_before T) ws)) b h));
  as_argument = λ ts ws h. atom ts ws (subst (λ k. Holds ts (between_parens k (tokens_before T) ws)) c h);
}

-- A syntax that has parentheses wherever it is a part.
binding : (T : Syntax) → is_binding T ≡ true → is_compound T ≡ true → AsTerm T → Rereads T
unfolding AsTerm
binding T b c term = record {
  as_term = term;
  as_function = λ ts ws h. alone (in_parens T term ts ws (subst (λ k. Holds ts (between_parens k (tokens_before T) ws)) b h));
  as_argument = λ ts ws h. in_parens T term ts ws (subst (λ k. Holds ts (between_parens k (tokens_before T) ws)) c h);
}

sort_atom : (p : ℕ) (s : Name) (ts : List Spot) (ws : List Token) → Holds ts (Sort s ∷ ws) → Gives Atom (sort p s) ts ws
sort_atom p s _ ws (also h) = gives a_sort h refl

name_atom : (p : ℕ) (x : Name) (ts : List Spot) (ws : List Token) → Holds ts (Word x ∷ ws) → Gives Atom (name p x) ts ws
name_atom p x _ ws (also h) = gives a_name h refl

-- Applications. An argument more is read behind the others.
one_argument : {us vs ws : List Spot} {f g a : Syntax} → Args f us g vs → Atom vs a ws → Args f us (app g a) ws
one_argument no_more d = one_more d no_more
one_argument (one_more d ds) e = one_more d (one_argument ds e)

applied : {ts us vs : List Spot} {f a : Syntax} → App ts f us → Atom us a vs → App ts (app f a) vs
applied (atoms d ds) e = atoms d (one_argument ds e)

behind_function : (f a : Syntax) (ts : List Spot) (ws : List Token) {us : List Spot} {M : Syntax} → App ts M us → unplaced M ≡ unplaced f → Gives Atom a us ws → Gives App (app f a) ts ws
behind_function f a ts ws d e (gives d2 h e2) = gives (applied d d2) h (ap₂ app e e2)

then_argument : (f a : Syntax) (ts : List Spot) (ws : List Token) → Rereads a → Gives App f ts (between_parens (is_compound a) (tokens_before a) ws) → Gives App (app f a) ts ws
then_argument f a ts ws r (gives d h e) = behind_function f a ts ws d e (r.as_argument _ ws h)

application_rereads : (f a : Syntax) → Rereads f → Rereads a → Rereads (app f a)
unfolding AsTerm
application_rereads f a rf ra =
    let function : ((ts : List Spot) (ws : List Token) → Holds ts (tokens_before (app f a) ws) → Gives App (app f a) ts ws) = λ ts ws h. then_argument f a ts ws ra (rf.as_function ts _ h) in
    let term : AsTerm (app f a) = λ ts ws h. whole (function ts ws h) in
    record { as_term = term; as_function = function; as_argument = in_parens (app f a) term }

-- A binder with its type and its body, read by a rule of the grammar.
module _ (make : Syntax → Syntax → Syntax) (A b : Syntax) (front ts : List Spot) (ws : List Token)
    (rule : (us vs : List Spot) (M N : Syntax) (o : ℕ) → Reads ts M ((o, Dot) ∷ us) → Reads us N vs → Reads front (make M N) vs)
    (same : (M N : Syntax) → unplaced M ≡ unplaced A → unplaced N ≡ unplaced b → unplaced (make M N) ≡ unplaced (make A b)) where
  behind_type : {us : List Spot} {M : Syntax} {o : ℕ} → Reads ts M ((o, Dot) ∷ us) → unplaced M ≡ unplaced A → Gives Reads b us ws → Gives Reads (make A b) front ws
  behind_type d e (gives d2 h e2) = gives (rule _ _ _ _ _ d d2) h (same _ _ e e2)

  then_body : Rereads b → Gives Reads A ts (Dot ∷ tokens_before b ws) → Gives Reads (make A b) front ws
  then_body r (gives d (also h) e) = behind_type d e (r.as_term _ ws h)

lam_term : (x : Name) (A b : Syntax) → is_identifier x ≡ true → Rereads A → Rereads b → AsTerm (lam x A b)
unfolding AsTerm
lam_term x A b i rA rb _ ws (also {p = p} (also {p = q} (also {ts = ts} {p = r} h))) =
    then_body (lam x) A b ((p, Lambda) ∷ (q, Word x) ∷ (r, Colon) ∷ ts) ts ws (λ us vs M N o d d2. abstraction i d d2) (λ M N e e2. ap₂ (lam x) e e2) rb (rA.as_term _ _ h)

pi_term : (x : Name) (A b : Syntax) (ts : List Spot) (ws : List Token) → is_identifier x ≡ true → Rereads A → Rereads b → Holds ts (At ∷ Word x ∷ Colon ∷ tokens_before A (Dot ∷ tokens_before b ws)) → Gives Reads (pi x A b) ts ws
pi_term x A b _ ws i rA rb (also {p = p} (also {p = q} (also {ts = ts} {p = r} h))) =
    then_body (pi x) A b ((p, At) ∷ (q, Word x) ∷ (r, Colon) ∷ ts) ts ws (λ us vs M N o d d2. product i d d2) (λ M N e e2. ap₂ (pi x) e e2) rb (rA.as_term _ _ h)

-- A product with an arrow.
behind_arrow : (A b : Syntax) (ts : List Spot) (ws : List Token) {us : List Spot} {M : Syntax} {o : ℕ} → App ts M ((o, Arrow) ∷ us) → unplaced M ≡ unplaced A → Gives Reads b us ws → Gives Reads (pi underscore A b) ts ws
behind_arrow A b ts ws d e (gives d2 h e2) = gives (arrow d d2) h (ap₂ (pi underscore) e e2)

then_arrow : (A b : Syntax) (ts : List Spot) (ws : List Token) → Rereads b → Gives App A ts (Arrow ∷ tokens_before b ws) → Gives Reads (pi underscore A b) ts ws
then_arrow A b ts ws r (gives d (also h) e) = behind_arrow A b ts ws d e (r.as_term _ ws h)

product_term : (x : Name) (A b : Syntax) → is_identifier x ≡ true → Rereads A → Rereads b → AsTerm (pi x A b)
unfolding AsTerm
product_term x A b i rA rb ts ws h = by (same_name x underscore) refl h
  where
    by : (k : Bool) → same_name x underscore ≡ k → Holds ts (cond k (between_parens (is_binding A) (tokens_before A) (Arrow ∷ tokens_before b ws)) (At ∷ Word x ∷ Colon ∷ tokens_before A (Dot ∷ tokens_before b ws))) → Gives Reads (pi x A b) ts ws
    by true e h = subst (λ y. Gives Reads (pi y A b) ts ws) (sym (same_name-true x underscore e)) (then_arrow A b ts ws rb (rA.as_function ts _ h))
    by false e h = pi_term x A b ts ws i rA rb h

-- A local definition.
module _ (x : Name) (d A b : Syntax) (i : is_identifier x ≡ true) {p q r : ℕ} (ts : List Spot) (ws : List Token) where
  let_body : {us vs : List Spot} {D M : Syntax} {o n : ℕ} → Reads ts D ((o, Colon) ∷ us) → unplaced D ≡ unplaced d → Reads us M ((n, In) ∷ vs) → unplaced M ≡ unplaced A → Gives Reads b vs ws → Gives Reads (let_in x d A b) ((p, Let) ∷ (q, Word x) ∷ (r, Assign) ∷ ts) ws
  let_body f e f2 e2 (gives f3 h e3) = gives (definition i f f2 f3) h (λ j. let_in x (e j) (e2 j) (e3 j))

  let_type : {us : List Spot} {D : Syntax} {o : ℕ} → Rereads b → Reads ts D ((o, Colon) ∷ us) → unplaced D ≡ unplaced d → Gives Reads A us (In ∷ tokens_before b ws) → Gives Reads (let_in x d A b) ((p, Let) ∷ (q, Word x) ∷ (r, Assign) ∷ ts) ws
  let_type rb f e (gives f2 (also h) e2) = let_body f e f2 e2 (rb.as_term _ ws h)

  let_value : Rereads A → Rereads b → Gives Reads d ts (Colon ∷ tokens_before A (In ∷ tokens_before b ws)) → Gives Reads (let_in x d A b) ((p, Let) ∷ (q, Word x) ∷ (r, Assign) ∷ ts) ws
  let_value rA rb (gives f (also h) e) = let_type rb f e (rA.as_term _ _ h)

let_term : (x : Name) (d A b : Syntax) → is_identifier x ≡ true → Rereads d → Rereads A → Rereads b → AsTerm (let_in x d A b)
unfolding AsTerm
let_term x d A b i rd rA rb _ ws (also (also (also {ts = ts} h))) = let_value x d A b i ts ws rA rb (rd.as_term _ _ h)

rereads : (T : Syntax) → BindsIdentifiers T → Rereads T
rereads (sort p s) i = leaf (sort p s) refl refl (sort_atom p s)
rereads (name p x) i = leaf (name p x) refl refl (name_atom p x)
rereads (app f a) i = application_rereads f a (rereads f i.0) (rereads a i.1)
rereads (lam x A b) i = binding (lam x A b) refl refl (lam_term x A b i.0 (rereads A i.1) (rereads b i.2))
rereads (pi x A B) i = binding (pi x A B) refl refl (product_term x A B i.0 (rereads A i.1) (rereads B i.2))
rereads (let_in x d A b) i = binding (let_in x d A b) refl refl (let_term x d A b i.0 (rereads d i.1) (rereads A i.2) (rereads b i.3))

all_read : {T : Syntax} {ts : List Spot} → Gives Reads T ts [] → (M : Syntax) × Reads ts M [] × (unplaced M ≡ unplaced T)
all_read (gives {M = M} d nothing e) = (M, d, e)

-- What is written is read as the same syntax, up to places.
pub reads_what_is_written : (T : Syntax) (ts : List Spot) → BindsIdentifiers T → Holds ts (tokens_before T []) → (M : Syntax) × Reads ts M [] × (unplaced M ≡ unplaced T)
reads_what_is_written T ts i h = all_read ((rereads T i).as_term ts [] h)
